-- What is recovered after a crash.
use Rattle.std.proofs.Common.{◌≡◌, ℕ, zero, suc, ◌+◌, ◌-◌, ◌≤◌, ◌⊎◌, inl, inr, List, [], ◌∷◌, ◌++◌, length, map, take, drop, refl, sym, ap, ◌∙◌, subst, arith, take-append-drop}
use Rattle.std.proofs.Math.Seq.{take-length}
use Rattle.std.proofs.lemmas.List.{take-map, drop-map, length-drop, length-map, length-take-le}
use Rattle.values.specs.Shape.{Columns}
use Rattle.values.specs.declared.row.Row.{Row}
use Rattle.model.specs.declared.entry.Entry.{Entry}
use Rattle.model.specs.Effects.{Effects, table_with}
use Rattle.model.specs.Laws.{AreCommits, MergesToTable, trees_of}
use Rattle.model.specs.Merging.{merged_rows}
use Rattle.model.specs.Table.{Table, is_keyed_table, rows_of, table_of}
use Rattle.model.proofs.CallerLemmas.{table_of-rows_of}
use Rattle.model.specs.History.{table_with_all}
use Rattle.journal.specs.Frame.{Logged}
use Rattle.journal.specs.declared.frame.Frame.{Frame}
use Rattle.journal.specs.Laws.{ACrashLeavesWholeFrames}
use Rattle.journal.specs.Reading.{Read, logged_in, read_of}
use Rattle.journal.specs.declared.frame.Ending.{Ending}
use Rattle.journal.specs.declared.frame.Ending.TheVariants.{End, Torn}
use Rattle.std.specs.Bool.{passes}
use Rattle.codec.specs.Reading.{decoded}
use Rattle.manager.specs.Managed.{Managed, newest_number, newest_table}
use Rattle.replay.specs.Recovered.{HasPrefix, IsBlameless, IsCrashed, IsImage, IsLate, MayEnd, RecoveryIsAPrefix, logged_since, table_at}
use Rattle.replay.specs.Replayed.{AreSaid, IsMisfit, rows_after}
use Rattle.replay.specs.declared.fault.RecoverFault.{RecoverFault}
use Rattle.replay.specs.declared.fault.RecoverFault.TheVariants as fault

-- the rows after the first commits are those after their trees
pub rows_are : ((schema : Columns) → MergesToTable schema) → (schema : Columns) (t : Table) (commits : List Effects) (k : ℕ)
    → AreCommits schema t commits
    → rows_of (table_with_all t (take k commits)) ≡ rows_after (rows_of t) (take k (trees_of schema t commits))
rows_are merges schema t [] zero h = refl
rows_are merges schema t [] (suc k) h = refl
rows_are merges schema t (x ∷ commits) zero h = refl
rows_are merges schema t (x ∷ commits) (suc k) h =
    rows_are merges schema (table_with t x) commits k h.1
    ∙ ap (λ (rows : List Row). rows_after rows (take k (trees_of schema (table_with t x) commits))) (sym (merges schema t x h.0))

pub length-trees_of : (schema : Columns) (t : Table) (commits : List Effects) → length (trees_of schema t commits) ≡ length commits
length-trees_of schema t [] = refl
length-trees_of schema t (x ∷ commits) = ap suc (length-trees_of schema (table_with t x) commits)

pub rows_after-append : (rows : List Row) (logged more : List (List Entry))
    → rows_after rows (logged ++ more) ≡ rows_after (rows_after rows logged) more
rows_after-append rows [] more = refl
rows_after-append rows (x ∷ logged) more = rows_after-append (merged_rows rows x) logged more

take-fewer : {A : Type 0} (j k : ℕ) (xs : List A) → j ≤ k → take j (take k xs) ≡ take j xs
take-fewer zero k xs le = refl
take-fewer (suc j) zero xs le = absurd (omega (arith, le))
take-fewer (suc j) (suc k) [] le = refl
take-fewer (suc j) (suc k) (x ∷ xs) le = ap (λ (ys : List _). x ∷ ys) (take-fewer j k xs (omega (arith, le)))

pub recovery_is_a_prefix : ACrashLeavesWholeFrames → ((schema : Columns) → MergesToTable schema) → RecoveryIsAPrefix
recovery_is_a_prefix crash merges decode schema seed base t commits safe number bytes c from upto =
    let read = crash seed (base + 1) c.logged safe bytes c.small c.few c.logs.numbered c.left in
    let whole = read.0 in
    let trees = trees_of schema t commits in
    let said : Logged → List Entry = λ l. decode l.payload in
    let j = number - base in
    let enough = read.1 in
    let inside = read.2 in
    let j_le : j ≤ whole = omega (arith, enough, upto) in
    let as_many : length c.logged ≡ length commits =
    sym (length-map _ _) ∙ ap (λ (es : List (List Entry)). length es) c.logs.entries ∙ length-trees_of schema t commits in
    let trees_many = length-trees_of schema t commits in
    let are_whole : length (take whole trees) ≡ whole = length-take-le whole trees (omega (arith, inside, as_many, trees_many)) in
    let since : logged_since decode seed base number bytes ≡ drop j (take whole trees) =
    ap (λ (r : Read). map said (drop j r.logged)) read.5
    ∙ sym (drop-map said j (take whole c.logged))
    ∙ ap (drop j) (sym (take-map said whole c.logged))
    ∙ ap (λ (es : List (List Entry)). drop j (take whole es)) c.logs.entries in
    let count : length (logged_since decode seed base number bytes) ≡ length (take whole trees) - j =
    ap (λ (es : List (List Entry)). length es) since ∙ length-drop j (take whole trees) in (
      whole,
      enough,
      omega (arith, inside, as_many),
      omega (arith, count, are_whole, j_le, from),
      ap (λ (rows : List Row). rows_after rows (logged_since decode seed base number bytes)) (rows_are merges schema t commits j c.logs.commits_fit)
          ∙ ap (rows_after (rows_after (rows_of t) (take j trees))) since
          ∙ ap (λ (es : List (List Entry)). rows_after (rows_after (rows_of t) es) (drop j (take whole trees)))
          (sym (take-fewer j whole trees j_le))
          ∙ sym (rows_after-append (rows_of t) (take j (take whole trees)) (drop j (take whole trees)))
          ∙ ap (rows_after (rows_of t)) (take-append-drop j (take whole trees))
          ∙ sym (rows_are merges schema t commits whole c.logs.commits_fit),
    )

-- what is recovered over an image, by its rows and its number
pub has_prefix : RecoveryIsAPrefix → (decode : List ℕ → List Entry) (schema : Columns) (seed base : ℕ) (t : Table) (commits : List Effects)
    (safe number : ℕ) (bytes : List ℕ) (rows : List Row) (m : Managed) → IsCrashed decode schema seed base t commits safe bytes
    → IsImage base t commits safe number rows
    → rows_of (newest_table m) ≡ rows_after rows (logged_since decode seed base number bytes)
    → newest_number m ≡ number + length (logged_since decode seed base number bytes) → HasPrefix base t commits safe m
has_prefix law decode schema seed base t commits safe number bytes rows m c image rows_are number_is =
    let told = law decode schema seed base t commits safe number bytes c image.from image.upto in
    record {
      whole = told.0;
      enough = told.1;
      inside = told.2;
      number = number_is ∙ told.3;
      rows_are =
          rows_are ∙ ap (λ (rs : List Row). rows_after rs (logged_since decode seed base number bytes)) image.rows_are ∙ told.4;
    }

take-all : {A : Type 0} (xs : List A) (n : ℕ) → n ≡ length xs → take n xs ≡ xs
take-all xs n e = ap (λ m. take m xs) e ∙ take-length xs

pub said_by_frames : {A : Type 0} (d : List ℕ → A) (frames : List Frame)
    → map (λ l. d l.payload) (map logged_in frames) ≡ map (λ f. d f.payload.now) frames
said_by_frames d [] = refl
said_by_frames d (f ∷ frames) = ap (λ (es : List _). d f.payload.now ∷ es) (said_by_frames d frames)

-- what the frames after an image say is what the bytes say since then
pub frames_since : {A : Type 0} (d : List ℕ → A) (frames : List Frame) (skipped : ℕ) (read : Read) → map logged_in frames ≡ read.logged
    → map (λ f. d f.payload.now) (take (length frames - skipped) (drop skipped frames)) ≡ map (λ l. d l.payload) (drop skipped read.logged)
frames_since d frames skipped read is =
    ap (map (λ f. d f.payload.now)) (take-all (drop skipped frames) (length frames - skipped) (sym (length-drop skipped frames)))
    ∙ sym (said_by_frames d (drop skipped frames))
    ∙ ap (map (λ l. d l.payload)) (sym (drop-map logged_in skipped frames) ∙ ap (drop skipped) is)

-- and those that are left
pub frames_left : (frames : List Frame) (skipped : ℕ) (read : Read) → map logged_in frames ≡ read.logged
    → map logged_in (take (length frames - skipped) (drop skipped frames)) ≡ drop skipped read.logged
frames_left frames skipped read is =
    ap (map logged_in) (take-all (drop skipped frames) (length frames - skipped) (sym (length-drop skipped frames)))
    ∙ sym (drop-map logged_in skipped frames)
    ∙ ap (drop skipped) is

-- ---- the commits that a sound crash leaves behind an image

-- of commits, the first ones are commits
commits_first : (schema : Columns) (t : Table) (commits : List Effects) (k : ℕ) → AreCommits schema t commits
    → AreCommits schema t (take k commits)
commits_first schema t [] zero h = tt
commits_first schema t [] (suc k) h = tt
commits_first schema t (x ∷ commits) zero h = tt
commits_first schema t (x ∷ commits) (suc k) h = (h.0, commits_first schema (table_with t x) commits k h.1)

-- and so are those after them, over the table that these leave
commits_rest : (schema : Columns) (t : Table) (commits : List Effects) (k : ℕ) → AreCommits schema t commits
    → AreCommits schema (table_at t commits k) (drop k commits)
commits_rest schema t [] zero h = tt
commits_rest schema t [] (suc k) h = tt
commits_rest schema t (x ∷ commits) zero h = h
commits_rest schema t (x ∷ commits) (suc k) h = commits_rest schema (table_with t x) commits k h.1

-- what the first payloads say are the first commits
said_first : (schema : Columns) (table : ℕ) (t : Table) (commits : List Effects) (payloads : List (List ℕ)) (k : ℕ)
    → AreSaid schema table t commits payloads → AreSaid schema table t (take k commits) (take k payloads)
said_first schema table t [] [] zero s = tt
said_first schema table t [] [] (suc k) s = tt
said_first schema table t [] (p ∷ payloads) k s = absurd s
said_first schema table t (x ∷ commits) [] k s = absurd s
said_first schema table t (x ∷ commits) (p ∷ payloads) zero s = tt
said_first schema table t (x ∷ commits) (p ∷ payloads) (suc k) s = (s.0, said_first schema table (table_with t x) commits payloads k s.1)

-- and those after them say the commits since then
said_rest : (schema : Columns) (table : ℕ) (t : Table) (commits : List Effects) (payloads : List (List ℕ)) (k : ℕ)
    → AreSaid schema table t commits payloads → AreSaid schema table (table_at t commits k) (drop k commits) (drop k payloads)
said_rest schema table t [] [] zero s = tt
said_rest schema table t [] [] (suc k) s = tt
said_rest schema table t [] (p ∷ payloads) k s = absurd s
said_rest schema table t (x ∷ commits) [] k s = absurd s
said_rest schema table t (x ∷ commits) (p ∷ payloads) zero s = s
said_rest schema table t (x ∷ commits) (p ∷ payloads) (suc k) s = said_rest schema table (table_with t x) commits payloads k s.1

-- payloads that say commits over a table say them over the table of its rows
said_over : (schema : Columns) (table : ℕ) (t u : Table) (commits : List Effects) (payloads : List (List ℕ))
    → u ≡ table_of schema.key_cols (rows_of t) → AreCommits schema t commits → AreSaid schema table t commits payloads
    → AreCommits schema u commits × AreSaid schema table u commits payloads
said_over schema table t u [] [] is h s = (tt, tt)
said_over schema table t u [] (p ∷ payloads) is h s = absurd s
said_over schema table t u (x ∷ commits) payloads is h s =
    let keys = schema.key_cols in
    let same : t ≡ u = sym (is ∙ table_of-rows_of keys t (passes (is_keyed_table keys t) h.0.table.keyed)) in
    subst (λ v. AreCommits schema v (x ∷ commits) × AreSaid schema table v (x ∷ commits) payloads) same (h, s)

may_end : (ending : Ending) → (ending ≡ End) ⊎ (ending ≡ Torn) → MayEnd ending
may_end ending (inl is) = subst MayEnd (sym is) tt
may_end ending (inr is) = subst MayEnd (sym is) tt

-- a sound crash leaves an ending that is no fault
pub ends_well : ACrashLeavesWholeFrames → (decode : List ℕ → List Entry) (schema : Columns) (seed base : ℕ) (t : Table)
    (commits : List Effects) (safe : ℕ) (bytes : List ℕ) → IsCrashed decode schema seed base t commits safe bytes
    → MayEnd (read_of seed (base + 1) bytes).ending
ends_well crash decode schema seed base t commits safe bytes c =
    let read = crash seed (base + 1) c.logged safe bytes c.small c.few c.logs.numbered c.left in
    subst MayEnd (sym (ap (λ (r : Read). r.ending) read.5)) (may_end read.4 read.6)

-- and frames that go on from each image of a commit that was safe
pub reaches_image : ACrashLeavesWholeFrames → (decode : List ℕ → List Entry) (schema : Columns) (seed base : ℕ) (t : Table)
    (commits : List Effects) (safe number : ℕ) (bytes : List ℕ) (rows : List Row) → IsCrashed decode schema seed base t commits safe bytes
    → IsImage base t commits safe number rows → number ≤ base + length (read_of seed (base + 1) bytes).logged
reaches_image crash decode schema seed base t commits safe number bytes rows c image =
    let read = crash seed (base + 1) c.logged safe bytes c.small c.few c.logs.numbered c.left in
    let enough = read.1 in
    let upto = image.upto in
    let count : length (read_of seed (base + 1) bytes).logged ≡ read.0 =
    ap (λ (r : Read). length r.logged) read.5 ∙ length-take-le read.0 c.logged read.2 in
    omega (arith, enough, upto, count)

-- what is read behind an image says commits over its table
pub says_commits : ACrashLeavesWholeFrames → (schema : Columns) (table seed base : ℕ) (t : Table) (commits : List Effects)
    (safe number : ℕ) (bytes : List ℕ) (rows : List Row) (c : IsCrashed (decoded schema table) schema seed base t commits safe bytes)
    → AreSaid schema table t commits (map (λ l. l.payload) c.logged) → IsImage base t commits safe number rows
    → (since : List Effects) × AreCommits schema (table_of schema.key_cols rows) since
    × AreSaid schema table (table_of schema.key_cols rows) since
    (map (λ l. l.payload) (drop (number - base) (read_of seed (base + 1) bytes).logged))
says_commits crash schema table seed base t commits safe number bytes rows c said image =
    let read = crash seed (base + 1) c.logged safe bytes c.small c.few c.logs.numbered c.left in
    let whole = read.0 in
    let j = number - base in
    let enough = read.1 in
    let upto = image.upto in
    let j_le : j ≤ whole = omega (arith, enough, upto) in
    let first = take whole commits in
    let payloads = map (λ (l : Logged). l.payload) c.logged in
    let found = said_over schema table (table_at t first j) (table_of schema.key_cols rows) (drop j first) (drop j (take whole payloads))
    (ap (table_of schema.key_cols) image.rows_are
    ∙ ap (λ (xs : List Effects). table_of schema.key_cols (rows_of (table_with_all t xs))) (sym (take-fewer j whole commits j_le)))
    (commits_rest schema t first j (commits_first schema t commits whole c.logs.commits_fit))
    (said_rest schema table t first (take whole payloads) j (said_first schema table t commits payloads whole said)) in
    let same : drop j (take whole payloads) ≡ map (λ (l : Logged). l.payload) (drop j (read_of seed (base + 1) bytes).logged) =
    ap (drop j) (take-map (λ (l : Logged). l.payload) whole c.logged)
    ∙ drop-map (λ (l : Logged). l.payload) j (take whole c.logged)
    ∙ ap (λ (r : Read). map (λ (l : Logged). l.payload) (drop j r.logged)) (sym read.5) in (
      drop j first,
      found.0,
      subst (AreSaid schema table (table_of schema.key_cols rows) (drop j first)) same found.1,
    )

-- a late fault that is no misfit is none of the journal
pub late_blameless : (f : RecoverFault) → IsLate f → (IsMisfit f → ⊥) → IsBlameless f
late_blameless (fault.Rot n) late fits = late
late_blameless (fault.Gap n) late fits = late
late_blameless fault.NumbersSpent late fits = tt
late_blameless (fault.BadPayload n p) late fits = fits tt
late_blameless (fault.Misfit n) late fits = fits tt
late_blameless fault.BadLimit late fits = tt
late_blameless fault.TooManyRows late fits = tt
late_blameless fault.NoMemory late fits = tt
