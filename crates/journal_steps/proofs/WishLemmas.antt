-- A commit that is added, a new file that is wanted, and an old one that is removed keep what holds of a journal on a disk.
use Rattle.std.proofs.Common.{◌≡◌, ◌≢◌, ◌≤◌, ◌<◌, ◌^◌, ℕ, zero, suc, ◌+◌, ◌-◌, Bool, true, false, cond, eqb, ltb, Option, Some, None, List, [], ◌∷◌, ◌++◌, length, take, refl, sym, ap, subst, ◌∙◌, append_assoc, arith}
use Rattle.std.proofs.lemmas.Bool.{ltb-true}
use Rattle.std.proofs.lemmas.List.{length-append, length-take}
use Rattle.disk.specs.Disk.{Disk, linked, named}
use Rattle.disk.proofs.StepLemmas.{at_other, linked_other}
use Rattle.journal_steps.specs.Batch.{HaveSizes}
use Rattle.journal_steps.specs.Progress.{added, oldest, stopped, wanted, wanted_by, withdrawn}
use Rattle.journal_steps.specs.World.{Segment, World, frames_in, journal_name, removes}
use Rattle.journal_steps.specs.Sound.{AreNumbered, Core, Holds, IsAsked, IsComing, IsMade, IsNext}
use Rattle.journal_steps.specs.declared.step.Ahead.{Ahead}
use Rattle.journal_steps.specs.declared.step.Ahead.TheVariants.{NotWanted, Wanted, Making, Made, Keeping, Kept}
use Rattle.journal_steps.proofs.ChainLemmas.{closed_step, numbered_behind}
use Rattle.journal_steps.proofs.FileLemmas.{empty_names}

-- ---- a commit

pub sizes_more : (ps : List (List ℕ)) (p : List ℕ) → HaveSizes ps → length p < 2 ^ 32 → HaveSizes (ps ++ p ∷ [])
sizes_more [] p all lt = (lt, tt)
sizes_more (q ∷ ps) p all lt = (all.0, sizes_more ps p all.1 lt)

-- the numbers of a value with other waiting payloads
with_waiting : (w : World) (ps : List (List ℕ)) → w.progress.taken + length ps < 2 ^ 63 → HaveSizes ps → Holds w
    → Holds (record w { progress = record w.progress { waiting = ps } })
with_waiting w ps numbers sizes h =
    record {
      ready = record { header = h.ready.header; numbers = numbers; sizes = sizes; files = h.ready.files };
      core = h.core;
      durable_written = h.durable_written;
      written_taken = h.written_taken;
      whole = h.whole;
      appending = h.appending;
      syncing = h.syncing;
      coming = h.coming;
    }

add_number : (b : Bool) (w : World) (payload : List ℕ) → ltb ((w.progress.taken + length w.progress.waiting) + 1) (2 ^ 63) ≡ b
    → length payload < 2 ^ 32 → Holds w
    → Holds (record w { progress = cond b (record w.progress { waiting = w.progress.waiting ++ payload ∷ [] }) w.progress })
add_number false w payload e lt h = h
add_number true w payload e lt h =
    let p = w.progress in
    let few : (p.taken + length p.waiting) + 1 < 2 ^ 63 = ltb-true ((p.taken + length p.waiting) + 1) (2 ^ 63) e in
    with_waiting w (p.waiting ++ payload ∷ []) (omega (arith, few, length-append p.waiting (payload ∷ [])))
    (sizes_more p.waiting payload h.ready.sizes lt) h

add_size : (b : Bool) (w : World) (payload : List ℕ) → ltb (length payload) (2 ^ 32) ≡ b → Holds w
    → Holds (record w {
      progress = cond (cond b (ltb ((w.progress.taken + length w.progress.waiting) + 1) (2 ^ 63)) false)
          (record w.progress { waiting = w.progress.waiting ++ payload ∷ [] }) w.progress;
    })
add_size false w payload e h = h
add_size true w payload e h =
    add_number (ltb ((w.progress.taken + length w.progress.waiting) + 1) (2 ^ 63)) w payload refl (ltb-true (length payload) (2 ^ 32) e) h

pub holds_add : (w : World) (payload : List ℕ) → Holds w → Holds (record w { progress = added payload w.progress })
holds_add w payload h = add_size (ltb (length payload) (2 ^ 32)) w payload refl h

pub sizes_fewer : (n : ℕ) (ps : List (List ℕ)) → HaveSizes ps → HaveSizes (take n ps)
sizes_fewer zero ps all = tt
sizes_fewer (suc n) [] all = tt
sizes_fewer (suc n) (p ∷ ps) all = (all.0, sizes_fewer n ps all.1)

pub holds_withdraw : (w : World) → Holds w → Holds (record w { progress = withdrawn w.progress })
holds_withdraw w h =
    let ps = w.progress.waiting in
    with_waiting w (take (length ps - 1) ps) (omega (arith, h.ready.numbers, length-take (length ps - 1) ps))
    (sizes_fewer (length ps - 1) ps h.ready.sizes) h

-- ---- no step any more

pub holds_stop : (w : World) → Holds w → Holds (record w { progress = stopped w.progress })
holds_stop w h =
    record {
      ready = record { header = h.ready.header; numbers = h.ready.numbers; sizes = h.ready.sizes; files = h.ready.files };
      core = h.core;
      durable_written = h.durable_written;
      written_taken = h.written_taken;
      whole = tt;
      appending = h.appending;
      syncing = h.syncing;
      coming = h.coming;
    }

-- ---- a new file

want : (w : World) → w.progress.ahead ≡ NotWanted → w.progress.seq < 2 ^ 63 → Holds w
    → Holds (record w { progress = record w.progress { ahead = Wanted } })
want w e lt h =
    record {
      ready = record {
        header = h.ready.header;
        numbers = h.ready.numbers;
        sizes = h.ready.sizes;
        files = (let le : w.progress.seq + 1 ≤ 2 ^ 63 = omega (arith, lt) in le);
      };
      core = h.core;
      durable_written = h.durable_written;
      written_taken = h.written_taken;
      whole = h.whole;
      appending = h.appending;
      syncing = h.syncing;
      coming = tt;
    }

want_room : (b : Bool) (w : World) → ltb w.progress.seq (2 ^ 63) ≡ b → w.progress.ahead ≡ NotWanted → Holds w
    → Holds (record w { progress = cond b (record w.progress { ahead = Wanted }) w.progress })
want_room true w e a h = want w a (ltb-true w.progress.seq (2 ^ 63) e) h
want_room false w e a h = h

want_some : (b : Bool) (w : World) → w.progress.ahead ≡ NotWanted → Holds w
    → Holds (record w {
      progress = cond b w.progress (cond (ltb w.progress.seq (2 ^ 63)) (record w.progress { ahead = Wanted }) w.progress);
    })
want_some true w a h = h
want_some false w a h = want_room (ltb w.progress.seq (2 ^ 63)) w refl a h

want_by : (a : Ahead) (w : World) → w.progress.ahead ≡ a → Holds w → Holds (record w { progress = wanted_by a w.progress })
want_by NotWanted w e h = want_some (eqb w.progress.base w.progress.taken) w e h
want_by Wanted w e h = h
want_by Making w e h = h
want_by Made w e h = h
want_by Keeping w e h = h
want_by Kept w e h = h

pub holds_want : (w : World) → Holds w → Holds (record w { progress = wanted w.progress })
holds_want w h = want_by w.progress.ahead w refl h

-- ---- an old file

next_linked : (d : Disk) (name file next : ℕ) → IsNext d file next → IsNext (linked name None d) file next
next_linked d name file next h = record { order = h.order; below = h.below; empty = h.empty }

made_linked : (d : Disk) (name seq file next : ℕ) → name ≢ journal_name (seq + 1) → IsMade d seq file next
    → IsMade (linked name None d) seq file next
made_linked d name seq file next differ h =
    (at_other name (journal_name (seq + 1)) None (named (journal_name (seq + 1)) d.links) differ ∙ h.0, next_linked d name file next h.1)

asked_linked : (d : Disk) (name seq next at : ℕ) → name ≢ journal_name (seq + 1) → IsAsked d seq next at
    → IsAsked (linked name None d) seq next at
asked_linked d name seq next at differ h zero le =
    at_other name (journal_name (seq + 1)) None (named (journal_name (seq + 1)) d.links) differ ∙ h 0 (omega arith)
asked_linked d name seq next at differ h (suc k) le = h k (omega (arith, le))

coming_linked : (a : Ahead) (d : Disk) (name seq file next at : ℕ) → name ≢ journal_name (seq + 1) → IsComing a d seq file next at
    → IsComing a (linked name None d) seq file next at
coming_linked NotWanted d name seq file next at differ h = tt
coming_linked Wanted d name seq file next at differ h = tt
coming_linked Making d name seq file next at differ h = made_linked d name seq file next differ h
coming_linked Made d name seq file next at differ h = made_linked d name seq file next differ h
coming_linked Keeping d name seq file next at differ h =
    (made_linked d name seq file next differ h.0, asked_linked d name seq next at differ h.1)
coming_linked Kept d name seq file next at differ h =
    (made_linked d name seq file next differ h.0, λ x m. h.1 x (linked_other d name (journal_name (seq + 1)) None x differ m))

remove_first : (w : World) (s : Segment) (ss : List Segment) → w.closed ≡ s ∷ ss → Holds w
    → Holds (removes (Some w.progress.first) (s ∷ ss) w)
remove_first w s ss is h =
    let p = w.progress in
    let d = w.disk in
    let name = journal_name p.first in
    let e = linked name None d in
    let c : Core d p.salt p.store w.before p.first (s ∷ ss) w.file w.logged p.seq p.base p.taken p.durable =
    subst (λ (cl : List Segment). Core d p.salt p.store w.before p.first cl w.file w.logged p.seq p.base p.taken p.durable) is h.core in
    let assoc = append_assoc s.logged (frames_in ss) w.logged in
    let later : (m : ℕ) → p.first < m → name ≢ journal_name m = λ m lt same. absurd (omega (arith, lt, same)) in
    record {
      ready = record { header = h.ready.header; numbers = h.ready.numbers; sizes = h.ready.sizes; files = h.ready.files };
      core = record {
        numbered =
            subst (λ n. AreNumbered n p.durable (frames_in ss ++ w.logged))
            (let same : (w.before + 1) + length s.logged ≡ (w.before + length s.logged) + 1 = omega arith in same)
            (numbered_behind (w.before + 1) p.durable s.logged (frames_in ss ++ w.logged)
            (subst (AreNumbered (w.before + 1) p.durable) assoc c.numbered));
        taken_is = omega (arith, c.taken_is, ap length assoc, length-append s.logged (frames_in ss ++ w.logged));
        base_is = omega (arith, c.base_is, length-append s.logged (frames_in ss));
        base_durable = c.base_durable;
        durable_taken = c.durable_taken;
        seq_is = (let same : p.seq ≡ (p.first + 1) + length ss = omega (arith, c.seq_is) in same);
        are_closed =
            closed_step d e p.salt p.store w.file w.file (p.first + 1) (w.before + length s.logged) ss (omega arith) (λ i lt. refl)
            (λ m x low lt y. linked_other d name (journal_name m) None x (later m (omega (arith, low))) y) c.are_closed.4;
        part = c.part;
        bytes = c.bytes;
        kept = c.kept;
        no_more = c.no_more;
        name = (λ x y. c.name x (linked_other d name (journal_name p.seq) None x (later p.seq (omega (arith, c.seq_is))) y));
        next =
            (λ x y. empty_names d e w.file x (λ i. refl) (omega arith)
            (c.next x (linked_other d name (journal_name (p.seq + 1)) None x (later (p.seq + 1) (omega (arith, c.seq_is))) y)));
        beyond =
            (λ n x lt y. c.beyond n x lt (linked_other d name (journal_name n) None x (later n (omega (arith, lt, c.seq_is))) y));
        below = c.below;
        fresh = c.fresh;
      };
      durable_written = h.durable_written;
      written_taken = h.written_taken;
      whole = h.whole;
      appending = h.appending;
      syncing = h.syncing;
      coming = coming_linked p.ahead d name p.seq w.file w.next_file w.names_at (later (p.seq + 1) (omega (arith, c.seq_is))) h.coming;
    }

abbrev IsFirst : Option ℕ → ℕ → Type 0
IsFirst None first = Unit {0}
IsFirst (Some seq) first = seq ≡ first

first_by : (b : Bool) (first : ℕ) → IsFirst (cond b (Some first) None) first
first_by true first = refl
first_by false first = tt

remove_by : (o : Option ℕ) (ss : List Segment) (w : World) → IsFirst o w.progress.first → w.closed ≡ ss → Holds w → Holds (removes o ss w)
remove_by None ss w first e h = h
remove_by (Some seq) [] w first e h = h
remove_by (Some seq) (s ∷ ss) w first e h = subst (λ n. Holds (removes (Some n) (s ∷ ss) w)) (sym first) (remove_first w s ss e h)

pub holds_remove : (w : World) → Holds w → Holds (removes (oldest w.progress) w.closed w)
holds_remove w h = remove_by (oldest w.progress) w.closed w (first_by (ltb w.progress.first w.progress.seq) w.progress.first) refl h
