-- A step that is done keeps what holds of a journal on a disk.
use Rattle.std.proofs.Common.{◌≡◌, ◌≤◌, ◌<◌, ◌^◌, ℕ, ◌+◌, ◌-◌, Bool, true, false, cond, eqb, Option, Some, None, List, [], ◌∷◌, ◌++◌, length, take, refl, sym, ap, subst, ◌∙◌, inl, arith}
use Rattle.std.proofs.lemmas.List.{append-nil, length-append}
use Rattle.std.proofs.Math.Seq.{take-length}
use Rattle.disk.specs.Disk.{File, MayName, Sync, SyncNames, done, synced}
use Rattle.disk.proofs.StepLemmas.{asked_name, at_here, names_kept, synced_bytes, synced_durable, synced_sound}
use Rattle.journal.specs.Frame.{Logged, journal_bytes}
use Rattle.journal.specs.Header.{header_bytes, seed_of}
use Rattle.journal_steps.specs.Progress.{Progress, coming, finished, header_from, is_kept, prepared_by, synced_by, turns}
use Rattle.journal_steps.specs.World.{Segment, World, closes, done_disk, frames_in, journal_name, moved, prepared_disk, synced_disk}
use Rattle.journal_steps.specs.Sound.{AreNumbered, Holds, IsComing, IsSyncing, IsWhole, file_bytes, frames_end}
use Rattle.journal_steps.specs.declared.step.Ahead.{Ahead}
use Rattle.journal_steps.specs.declared.step.Ahead.TheVariants.{NotWanted, Wanted, Making, Made, Keeping, Kept}
use Rattle.journal_steps.specs.declared.step.Lane.{Lane}
use Rattle.journal_steps.specs.declared.step.Lane.TheVariants as lane
use Rattle.journal_steps.proofs.BeginLemmas.{in_file, whole_when}
use Rattle.journal_steps.proofs.ChainLemmas.{closed_more, closed_step, frames_end-whole, frames_more, length-journal-take, numbered_later}
use Rattle.journal_steps.proofs.DueLemmas.{equal_of}
use Rattle.journal_steps.proofs.FileLemmas.{coming_file, core_file, core_names, empty_names, length-header, synced_no_less, synced_within}

-- ---- the journal goes on in the next file

no_sync : (s : Option ℕ) (salt base other durable written at : ℕ) (logged ls : List Logged) → written ≤ durable
    → IsSyncing s salt base durable written at logged → IsSyncing s salt other durable written at ls
no_sync None salt base other durable written at logged ls le h = tt
no_sync (Some upto) salt base other durable written at logged ls le h = absurd (omega (arith, le, h.0, h.1))

-- a frame has bytes
some_bytes : (seed : ℕ) (l : Logged) (ls : List Logged) → 0 < length (journal_bytes seed (l ∷ ls))
some_bytes seed l ls = omega arith

-- a file whose frames are all durable is durable
all_durable : (salt store base durable : ℕ) (logged : List Logged) (f : File) → durable ≡ base + length logged
    → f.bytes ≡ file_bytes salt store base logged → frames_end salt base durable logged ≤ f.durable - 36 → f.durable ≤ length f.bytes
    → f.durable ≡ length f.bytes
all_durable salt store base durable [] f all bytes kept few = omega (arith, few, ap length bytes)
all_durable salt store base durable (l ∷ ls) f all bytes kept few =
    let seed = seed_of salt in
    let here : durable - base ≡ length (l ∷ ls) = omega (arith, all) in
    let whole : take (durable - base) (l ∷ ls) ≡ l ∷ ls = ap (λ k. take k (l ∷ ls)) here ∙ take-length (l ∷ ls) in
    let long : length (journal_bytes seed (l ∷ ls)) ≤ f.durable - 36 =
    subst (λ (x : List Logged). length (journal_bytes seed x) ≤ f.durable - 36) whole kept in
    omega (
      arith,
      long,
      few,
      ap length bytes,
      some_bytes seed l ls,
      length-append (header_bytes (header_from salt store base)) (journal_bytes seed (l ∷ ls)),
      length-header (header_from salt store base),
    )

abbrev moved_to : World → World
moved_to w =
    record w {
      progress = record w.progress { seq = w.progress.seq + 1; base = w.progress.taken; ahead = NotWanted };
      closed = w.closed ++ record { file = w.file; logged = w.logged } ∷ [];
      file = w.next_file;
      logged = [];
    }

holds_moved : (w : World) → w.progress.ahead ≡ Kept → w.progress.broken ≡ false → w.progress.durable ≡ w.progress.taken → Holds w
    → Holds (moved_to w)
holds_moved w ahead sound all h =
    let p = w.progress in
    let c = h.core in
    let d = w.disk in
    let f = d.files w.file in
    let last : Segment = record { file = w.file; logged = w.logged } in
    let kept = subst (λ (a : Ahead). IsComing a d p.seq w.file w.next_file w.names_at) ahead h.coming in
    let next = kept.0.1 in
    let whole = whole_when p.broken f (file_bytes p.salt p.store p.base w.logged) sound h.whole in
    let file_is = in_file d p.salt p.store w.before p.first w.closed w.file w.logged p.seq p.base p.taken p.durable c in
    let frames : frames_in w.closed ++ w.logged ≡ frames_in (w.closed ++ last ∷ []) ++ [] =
    sym (append-nil (frames_in (w.closed ++ last ∷ [])) ∙ frames_more w.closed last) in
    let lens : length (frames_in w.closed ++ w.logged) ≡ length (frames_in (w.closed ++ last ∷ [])) =
    sym (ap length (frames_more w.closed last)) in
    let later : (x : Option ℕ) → MayName d (journal_name ((p.seq + 1) + 1)) x → x ≡ None =
    λ x y. c.beyond ((p.seq + 1) + 1) x (omega arith) y in
    record {
      ready = record {
        header = record {
          salt = h.ready.header.salt;
          store = h.ready.header.store;
          base = omega (arith, h.ready.numbers);
          seed = h.ready.header.seed;
        };
        numbers = h.ready.numbers;
        sizes = h.ready.sizes;
        files = (let le : p.seq + 1 ≤ 2 ^ 63 = subst (λ (a : Ahead). p.seq + coming a ≤ 2 ^ 63) ahead h.ready.files in omega (arith, le));
      };
      core = record {
        numbered = subst (AreNumbered (w.before + 1) p.durable) frames c.numbered;
        taken_is = c.taken_is ∙ ap (λ (ls : List Logged). w.before + length ls) frames;
        base_is = omega (arith, c.taken_is, lens);
        base_durable = omega (arith, all);
        durable_taken = c.durable_taken;
        seq_is = omega (arith, c.seq_is, length-append w.closed (last ∷ []));
        are_closed =
            closed_more d p.salt p.store w.next_file p.first w.before w.closed last
            (closed_step d d p.salt p.store w.file w.next_file p.first w.before w.closed (omega (arith, next.order)) (λ i lt. refl)
            (λ m x low lt y. y) c.are_closed)
            next.order
            (subst (λ n. f.bytes ≡ file_bytes p.salt p.store n w.logged) c.base_is whole.0)
            (all_durable p.salt p.store p.base p.durable w.logged f (omega (arith, all, file_is)) whole.0 c.kept c.no_more)
            (λ x y. c.name x (subst (λ n. MayName d (journal_name n) x) (sym c.seq_is) y));
        part = 0;
        bytes = ap (λ (g : File). g.bytes) next.empty;
        kept = omega (arith, length-journal-take (seed_of p.salt) (p.durable - p.taken) []);
        no_more = subst (λ (g : File). g.durable ≤ length g.bytes) (sym next.empty) (omega arith);
        name = kept.1;
        next = (λ x y. inl (later x y));
        beyond = (λ n x lt y. c.beyond n x (omega (arith, lt)) y);
        below = next.below;
        fresh = c.fresh;
      };
      durable_written = h.durable_written;
      written_taken = h.written_taken;
      whole =
          subst (λ b. IsWhole b (d.files w.next_file) []) (sym sound)
          (ap (λ (g : File). g.bytes) next.empty, ap (λ (g : File). g.sound) next.empty);
      appending = (λ lt. absurd (omega (arith, lt, h.durable_written, all)));
      syncing =
          no_sync p.syncing p.salt p.base p.taken p.durable p.written w.sync_at w.logged []
          (omega (arith, h.written_taken, all)) h.syncing;
      coming = tt;
    }

-- whether it turns over, in three steps
turn_all : (b : Bool) (w : World) → eqb w.progress.durable w.progress.taken ≡ b → w.progress.ahead ≡ Kept → w.progress.broken ≡ false
    → Holds w → Holds (cond b (moved_to w) w)
turn_all true w e ahead sound h = holds_moved w ahead sound (equal_of w.progress.durable w.progress.taken e) h
turn_all false w e ahead sound h = h

turn_sound : (b : Bool) (w : World) → w.progress.broken ≡ b → w.progress.ahead ≡ Kept → Holds w
    → Holds (cond (cond b false (eqb w.progress.durable w.progress.taken)) (moved_to w) w)
turn_sound true w e ahead h = h
turn_sound false w e ahead h = turn_all (eqb w.progress.durable w.progress.taken) w refl ahead e h

turn_kept : (a : Ahead) (w : World) → w.progress.ahead ≡ a → Holds w
    → Holds (cond (cond (is_kept a) (cond w.progress.broken false (eqb w.progress.durable w.progress.taken)) false) (moved_to w) w)
turn_kept NotWanted w e h = h
turn_kept Wanted w e h = h
turn_kept Making w e h = h
turn_kept Made w e h = h
turn_kept Keeping w e h = h
turn_kept Kept w e h = turn_sound w.progress.broken w refl e h

-- what the journal becomes where it turns over
moved_is : (b : Bool) (w : World) → turns w.progress ≡ b → cond b (moved_to w) w ≡ cond b (moved w) w
moved_is true w e =
    ap (λ (q : Progress). record w {
      progress = q;
      closed = w.closed ++ record { file = w.file; logged = w.logged } ∷ [];
      file = w.next_file;
      logged = [];
    }) (sym (ap (λ b. cond b (record w.progress { seq = w.progress.seq + 1; base = w.progress.taken; ahead = NotWanted }) w.progress) e))
moved_is false w e = refl

pub holds_closes : (w : World) → Holds w → Holds (closes w)
holds_closes w h = subst Holds (moved_is (turns w.progress) w refl) (turn_kept w.progress.ahead w refl h)

-- ---- an append

syncing_written : (s : Option ℕ) (salt base durable written now at : ℕ) (logged : List Logged) → written ≤ now
    → IsSyncing s salt base durable written at logged → IsSyncing s salt base durable now at logged
syncing_written None salt base durable written now at logged le h = tt
syncing_written (Some upto) salt base durable written now at logged le h = (h.0, omega (arith, le, h.1), h.2)

done_append : (b : Bool) (w : World) → w.progress.broken ≡ b → Holds w
    → Holds (record w { progress = record w.progress { written = cond b w.progress.written w.progress.taken } })
done_append true w e h = h
done_append false w e h =
    let p = w.progress in
    record {
      ready = record { header = h.ready.header; numbers = h.ready.numbers; sizes = h.ready.sizes; files = h.ready.files };
      core = h.core;
      durable_written = h.core.durable_taken;
      written_taken = omega arith;
      whole = h.whole;
      appending = (λ lt. absurd (omega (arith, lt)));
      syncing = syncing_written p.syncing p.salt p.base p.durable p.written p.taken w.sync_at w.logged h.written_taken h.syncing;
      coming = h.coming;
    }

-- ---- a sync

whole_synced : (b : Bool) (upto : ℕ) (f : File) (bytes : List ℕ) → IsWhole b f bytes → IsWhole b (synced upto f) bytes
whole_synced true upto f bytes h = tt
whole_synced false upto f bytes h = (synced_bytes upto f ∙ h.0, synced_sound upto f ∙ h.1)

-- a file is synced, and the commits up to another one may be durable in it
synced_to : (w : World) (now : ℕ) → w.progress.durable ≤ now → now ≤ w.progress.written
    → frames_end w.progress.salt w.progress.base now w.logged ≤ (synced w.sync_at (w.disk.files w.file)).durable - 36 → Holds w
    → Holds (record w {
      disk = done (Sync w.file w.sync_at) w.disk;
      progress = record w.progress { syncing = None; durable = now };
    })
synced_to w now low high end h =
    let p = w.progress in
    let c = h.core in
    let d = w.disk in
    let f = d.files w.file in
    let g = synced w.sync_at f in
    let here : cond (eqb w.file w.file) g (d.files w.file) ≡ g = at_here w.file g (d.files w.file) in
    let bytes = synced_bytes w.sync_at f in
    record {
      ready = record { header = h.ready.header; numbers = h.ready.numbers; sizes = h.ready.sizes; files = h.ready.files };
      core =
          core_file d p.salt p.store w.before p.first w.closed w.file w.logged p.seq p.base p.taken p.durable g w.logged
          p.taken now c.part c
          (numbered_later (w.before + 1) p.durable now (frames_in w.closed ++ w.logged) low c.numbered)
          c.taken_is low (omega (arith, high, h.written_taken)) (bytes ∙ c.bytes) end
          (omega (arith, synced_within w.sync_at f c.no_more, ap length bytes));
      durable_written = high;
      written_taken = h.written_taken;
      whole =
          subst (λ (x : File). IsWhole p.broken x (file_bytes p.salt p.store p.base w.logged)) (sym here)
          (whole_synced p.broken w.sync_at f (file_bytes p.salt p.store p.base w.logged) h.whole);
      appending = h.appending;
      syncing = tt;
      coming = coming_file p.ahead d g p.seq w.file w.next_file w.names_at h.coming;
    }

done_sync : (b : Bool) (upto : ℕ) (w : World) → w.progress.broken ≡ b → w.progress.syncing ≡ Some upto → Holds w
    → Holds (record w {
      disk = done (Sync w.file w.sync_at) w.disk;
      progress = record w.progress { syncing = None; durable = cond b w.progress.durable upto };
    })
done_sync true upto w e es h =
    synced_to w w.progress.durable (omega arith) h.durable_written
    (omega (arith, h.core.kept, synced_no_less w.sync_at (w.disk.files w.file))) h
done_sync false upto w e es h =
    let p = w.progress in
    let f = w.disk.files w.file in
    let asked = subst (λ (s : Option ℕ). IsSyncing s p.salt p.base p.durable p.written w.sync_at w.logged) es h.syncing in
    let whole = whole_when p.broken f (file_bytes p.salt p.store p.base w.logged) e h.whole in
    let end = frames_end-whole p.salt p.store p.base upto w.logged (length-header (header_from p.salt p.store p.base)) in
    synced_to w upto (omega (arith, asked.0)) asked.1
    (omega (arith, asked.2, end, ap length whole.0, synced_durable w.sync_at f whole.1)) h

sync_by : (s : Option ℕ) (w : World) → w.progress.syncing ≡ s → Holds w
    → Holds (record w { disk = synced_disk s w; progress = synced_by s w.progress })
sync_by None w e h = h
sync_by (Some upto) w e h = done_sync w.progress.broken upto w refl e h

-- ---- the next file

next_made : (w : World) → w.progress.ahead ≡ Making → Holds w → Holds (record w { progress = record w.progress { ahead = Made } })
next_made w e h =
    let p = w.progress in
    record {
      ready = record {
        header = h.ready.header;
        numbers = h.ready.numbers;
        sizes = h.ready.sizes;
        files = (let le : p.seq + 1 ≤ 2 ^ 63 = subst (λ (a : Ahead). p.seq + coming a ≤ 2 ^ 63) e h.ready.files in le);
      };
      core = h.core;
      durable_written = h.durable_written;
      written_taken = h.written_taken;
      whole = h.whole;
      appending = h.appending;
      syncing = h.syncing;
      coming = subst (λ (a : Ahead). IsComing a w.disk p.seq w.file w.next_file w.names_at) e h.coming;
    }

next_kept : (w : World) → w.progress.ahead ≡ Keeping → Holds w
    → Holds (record w { disk = done (SyncNames w.names_at) w.disk; progress = record w.progress { ahead = Kept } })
next_kept w e h =
    let p = w.progress in
    let d = w.disk in
    let asked = subst (λ (a : Ahead). IsComing a d p.seq w.file w.next_file w.names_at) e h.coming in
    record {
      ready = record {
        header = h.ready.header;
        numbers = h.ready.numbers;
        sizes = h.ready.sizes;
        files = (let le : p.seq + 1 ≤ 2 ^ 63 = subst (λ (a : Ahead). p.seq + coming a ≤ 2 ^ 63) e h.ready.files in le);
      };
      core =
          core_names d (done (SyncNames w.names_at) d) p.salt p.store w.before p.first w.closed w.file w.logged p.seq p.base
          p.taken p.durable
          (λ i. refl) (omega arith) (λ m x low differ y. names_kept d w.names_at (journal_name m) x y)
          (λ x y. empty_names d (done (SyncNames w.names_at) d) w.file x (λ i. refl) (omega arith)
          (h.core.next x (names_kept d w.names_at (journal_name (p.seq + 1)) x y))) h.core;
      durable_written = h.durable_written;
      written_taken = h.written_taken;
      whole = h.whole;
      appending = h.appending;
      syncing = h.syncing;
      coming = (
        (asked.0.0, record { order = asked.0.1.order; below = asked.0.1.below; empty = asked.0.1.empty }),
        λ x m. asked_name d w.names_at (journal_name (p.seq + 1)) (Some w.next_file) x asked.1 m,
      );
    }

next_by : (a : Ahead) (w : World) → w.progress.ahead ≡ a → Holds w
    → Holds (record w { disk = prepared_disk a w; progress = prepared_by a w.progress })
next_by NotWanted w e h = h
next_by Wanted w e h = h
next_by Making w e h = next_made w e h
next_by Made w e h = h
next_by Keeping w e h = next_kept w e h
next_by Kept w e h = h

finish : (l : Lane) (w : World) → Holds w → Holds (record w { disk = done_disk l w; progress = finished l w.progress })
finish lane.Append w h = done_append w.progress.broken w refl h
finish lane.Sync w h = sync_by w.progress.syncing w refl h
finish lane.Next w h = next_by w.progress.ahead w refl h

pub holds_done : (l : Lane) (w : World) → Holds w → Holds (closes (record w { disk = done_disk l w; progress = finished l w.progress }))
holds_done l w h = holds_closes (record w { disk = done_disk l w; progress = finished l w.progress }) (finish l w h)
