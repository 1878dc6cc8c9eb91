-- The file that is written, and the next one.
use Rattle.std.proofs.Common.{◌≡◌, ◌≢◌, ◌≤◌, ◌<◌, ℕ, ◌+◌, ◌-◌, Bool, true, false, cond, eqb, max, min, Option, Some, None, List, [], ◌∷◌, ◌++◌, length, take, refl, sym, ap, subst, ◌∙◌, append_assoc, inl, inr, arith}
use Rattle.std.proofs.lemmas.Bool.{cases_lt}
use Rattle.std.proofs.lemmas.Bool.Decides.{eqb_tells}
use Rattle.std.proofs.lemmas.List.{length-take, take-append-le, take-take, take_all}
use Rattle.disk.specs.Disk.{Disk, File, MayName, synced, with_file}
use Rattle.disk.proofs.StepLemmas.{at_here, at_other, names_of_file}
use Rattle.journal.specs.Frame.{Logged, journal_bytes}
use Rattle.journal.specs.Header.{HeaderFields, header_bytes, seed_of}
use Rattle.journal_steps.specs.Batch.{header_part}
use Rattle.journal_steps.specs.Progress.{header_from}
use Rattle.journal_steps.specs.World.{Segment, frames_in, journal_name}
use Rattle.journal_steps.specs.Sound.{AreNumbered, Core, IsComing, IsNext, IsNoneOrEmpty, file_bytes, frames_end}
use Rattle.journal_steps.specs.declared.step.Ahead.{Ahead}
use Rattle.journal_steps.specs.declared.step.Ahead.TheVariants.{NotWanted, Wanted, Making, Made, Keeping, Kept}
use Rattle.journal_steps.proofs.ChainLemmas.{closed_step, journal-append}

pub length-header : (h : HeaderFields) → length (header_bytes h) ≡ 36
length-header h = refl

-- ---- bytes

-- a beginning of a beginning
pub front_of_front : {A : Type 0} (t part : ℕ) (xs : List A) → (n : ℕ) × (take t (take part xs) ≡ take n xs)
front_of_front t part xs =
    elim (cases_lt t part) [
      | inl lt ↦ (t, take-take t part xs (omega (arith, lt)))
      | inr past ↦ (part, take_all t (take part xs) (omega (arith, past, length-take part xs)))
    ]

-- the first commits of a file come behind its header
first_header : (h : HeaderFields) (taken base : ℕ) → taken ≡ base → cond (eqb taken base) (Some h) None ≡ Some h
first_header h taken base e =
    elim (eqb_tells taken base) [
      | inl same ↦ ap (λ b. cond b (Some h) None) same.0
      | inr other ↦ absurd (other.1 e)
    ]

later_header : (h : HeaderFields) (taken base : ℕ) → base < taken → cond (eqb taken base) (Some h) None ≡ None
later_header h taken base lt =
    elim (eqb_tells taken base) [
      | inl same ↦ absurd (omega (arith, lt, same.1))
      | inr other ↦ ap (λ b. cond b (Some h) None) other.0
    ]

-- what a batch appends makes of a file's bytes those of its frames and the batch's
pub more_bytes : (salt store base taken : ℕ) (logged frames : List Logged) → taken ≡ base + length logged → 0 < length frames
    → file_bytes salt store base logged
    ++ (header_part (cond (eqb taken base) (Some (header_from salt store base)) None) ++ journal_bytes (seed_of salt) frames)
    ≡ file_bytes salt store base (logged ++ frames)
more_bytes salt store base taken logged [] e some = absurd (omega (arith, some))
more_bytes salt store base taken [] (f ∷ fs) e some =
    ap (λ (h : Option HeaderFields). header_part h ++ journal_bytes (seed_of salt) (f ∷ fs))
    (first_header (header_from salt store base) taken base (omega (arith, e)))
more_bytes salt store base taken (l ∷ ls) (f ∷ fs) e some =
    let seed = seed_of salt in
    let header = header_from salt store base in
    ap (λ (h : Option HeaderFields). (header_bytes header ++ journal_bytes seed (l ∷ ls)) ++ (header_part h ++ journal_bytes seed (f ∷ fs)))
    (later_header header taken base (omega (arith, e)))
    ∙ append_assoc (header_bytes header) (journal_bytes seed (l ∷ ls)) (journal_bytes seed (f ∷ fs))
    ∙ ap (λ (b : List ℕ). header_bytes header ++ b) (sym (journal-append seed (l ∷ ls) (f ∷ fs)))

-- frames that are appended don't move the earlier ones
pub frames_end-more : (salt base upto : ℕ) (logged frames : List Logged) → upto ≤ base + length logged
    → frames_end salt base upto (logged ++ frames) ≡ frames_end salt base upto logged
frames_end-more salt base upto logged frames le =
    ap (λ (ls : List Logged). length (journal_bytes (seed_of salt) ls)) (take-append-le (upto - base) logged frames (omega (arith, le)))

-- ---- a sync of a file

no_less_by : (b : Bool) (upto : ℕ) (f : File)
    → f.durable ≤ (cond b (record f { durable = max f.durable (min upto (length f.bytes)) }) f).durable
no_less_by true upto f = omega arith
no_less_by false upto f = omega arith

pub synced_no_less : (upto : ℕ) (f : File) → f.durable ≤ (synced upto f).durable
synced_no_less upto f = no_less_by f.sound upto f

within_by : (b : Bool) (upto : ℕ) (f : File) → f.durable ≤ length f.bytes
    → (cond b (record f { durable = max f.durable (min upto (length f.bytes)) }) f).durable ≤ length f.bytes
within_by true upto f le = omega (arith, le)
within_by false upto f le = le

pub synced_within : (upto : ℕ) (f : File) → f.durable ≤ length f.bytes → (synced upto f).durable ≤ length f.bytes
synced_within upto f le = within_by f.sound upto f le

-- ---- the next file, where only the file that is written changes

next_file : (d : Disk) (file next : ℕ) (g : File) → IsNext d file next → IsNext (with_file file g d) file next
next_file d file next g h =
    record {
      order = h.order;
      below = h.below;
      empty = at_other next file g (d.files next) (λ e. absurd (omega (arith, h.order, e))) ∙ h.empty;
    }

empty_file : (d : Disk) (file : ℕ) (g : File) (x : Option ℕ) → IsNoneOrEmpty d file x → IsNoneOrEmpty (with_file file g d) file x
empty_file d file g x (inl none) = inl none
empty_file d file g x (inr some) = inr (some.0, some.1, next_file d file some.0 g some.2)

pub coming_file : (a : Ahead) (d : Disk) (g : File) (seq file next at : ℕ) → IsComing a d seq file next at
    → IsComing a (with_file file g d) seq file next at
coming_file NotWanted d g seq file next at h = tt
coming_file Wanted d g seq file next at h = tt
coming_file Making d g seq file next at h = (h.0, next_file d file next g h.1)
coming_file Made d g seq file next at h = (h.0, next_file d file next g h.1)
coming_file Keeping d g seq file next at h = ((h.0.0, next_file d file next g h.0.1), h.1)
coming_file Kept d g seq file next at h =
    ((h.0.0, next_file d file next g h.0.1), λ x m. h.1 x (names_of_file d file g (journal_name (seq + 1)) x m))

-- the file that is written becomes another, with these frames
pub core_file : (d : Disk) (salt store before first : ℕ) (closed : List Segment) (file : ℕ) (logged : List Logged)
    (seq base taken durable : ℕ)
    (g : File) (ls : List Logged) (all now part : ℕ)
    → Core d salt store before first closed file logged seq base taken durable
    → AreNumbered (before + 1) now (frames_in closed ++ ls) → all ≡ before + length (frames_in closed ++ ls) → durable ≤ now → now ≤ all
    → g.bytes ≡ take part (file_bytes salt store base ls) → frames_end salt base now ls ≤ g.durable - 36 → g.durable ≤ length g.bytes
    → Core (with_file file g d) salt store before first closed file ls seq base all now
core_file d salt store before first closed file logged seq base taken durable g ls all now part c numbered all_is low high bytes kept few =
    let others : (i : ℕ) → i ≢ file → cond (eqb i file) g (d.files i) ≡ d.files i = λ i differ. at_other i file g (d.files i) differ in
    let here : cond (eqb file file) g (d.files file) ≡ g = at_here file g (d.files file) in
    record {
      numbered = numbered;
      taken_is = all_is;
      base_is = c.base_is;
      base_durable = omega (arith, c.base_durable, low);
      durable_taken = high;
      seq_is = c.seq_is;
      are_closed =
          closed_step d (with_file file g d) salt store file file first before closed (omega arith)
          (λ i lt. others i (λ e. absurd (omega (arith, lt, e))))
          (λ m x floor lt y. names_of_file d file g (journal_name m) x y) c.are_closed;
      part = part;
      bytes = ap (λ (f : File). f.bytes) here ∙ bytes;
      kept = subst (λ (f : File). frames_end salt base now ls ≤ f.durable - 36) (sym here) kept;
      no_more = subst (λ (f : File). f.durable ≤ length f.bytes) (sym here) few;
      name = (λ x y. c.name x (names_of_file d file g (journal_name seq) x y));
      next = (λ x y. empty_file d file g x (c.next x (names_of_file d file g (journal_name (seq + 1)) x y)));
      beyond = (λ n x lt y. c.beyond n x lt (names_of_file d file g (journal_name n) x y));
      below = c.below;
      fresh = (λ i le. others i (λ e. absurd (omega (arith, c.below, le, e))) ∙ c.fresh i le);
    }

-- ---- where names change alone

-- no file of the one disk is another one of the other, and there are no fewer
pub empty_names : (d e : Disk) (file : ℕ) (x : Option ℕ) → ((i : ℕ) → e.files i ≡ d.files i) → d.count ≤ e.count
    → IsNoneOrEmpty d file x → IsNoneOrEmpty e file x
empty_names d e file x same more (inl none) = inl none
empty_names d e file x same more (inr some) =
    inr (
      some.0,
      some.1,
      record { order = some.2.order; below = omega (arith, some.2.below, more); empty = same some.0 ∙ some.2.empty },
    )

-- the names of the journal's files are what they may have been before, but for the next file's
pub core_names : (d e : Disk) (salt store before first : ℕ) (closed : List Segment) (file : ℕ) (logged : List Logged)
    (seq base taken durable : ℕ)
    → ((i : ℕ) → e.files i ≡ d.files i) → d.count ≤ e.count
    → ((m : ℕ) (x : Option ℕ) → first ≤ m → m ≢ seq + 1 → MayName e (journal_name m) x → MayName d (journal_name m) x)
    → ((x : Option ℕ) → MayName e (journal_name (seq + 1)) x → IsNoneOrEmpty e file x)
    → Core d salt store before first closed file logged seq base taken durable
    → Core e salt store before first closed file logged seq base taken durable
core_names d e salt store before first closed file logged seq base taken durable same more names next c =
    record {
      numbered = c.numbered;
      taken_is = c.taken_is;
      base_is = c.base_is;
      base_durable = c.base_durable;
      durable_taken = c.durable_taken;
      seq_is = c.seq_is;
      are_closed =
          closed_step d e salt store file file first before closed (omega arith) (λ i lt. same i)
          (λ m x low lt y. names m x low (λ e. absurd (omega (arith, lt, c.seq_is, e))) y) c.are_closed;
      part = c.part;
      bytes = ap (λ (f : File). f.bytes) (same file) ∙ c.bytes;
      kept = subst (λ (f : File). frames_end salt base durable logged ≤ f.durable - 36) (sym (same file)) c.kept;
      no_more = subst (λ (f : File). f.durable ≤ length f.bytes) (sym (same file)) c.no_more;
      name = (λ x y. c.name x (names seq x (omega (arith, c.seq_is)) (λ e. absurd (omega (arith, e))) y));
      next = next;
      beyond = (λ n x lt y. c.beyond n x lt (names n x (omega (arith, lt, c.seq_is)) (λ e. absurd (omega (arith, lt, e))) y));
      below = omega (arith, c.below, more);
      fresh = (λ i le. same i ∙ c.fresh i (omega (arith, le, more)));
    }
