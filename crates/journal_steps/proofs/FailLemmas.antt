-- A step that fails keeps what holds of a journal on a disk.
use Rattle.std.proofs.Common.{◌≡◌, ◌≤◌, ◌<◌, ◌⊎◌, ◌^◌, ℕ, ◌+◌, ◌-◌, Bool, true, false, cond, eqb, min, Option, Some, None, length, take, drop, refl, ap, ◌∙◌, length-drop, inl, inr, arith}
use Rattle.std.proofs.lemmas.List.{length-take}
use Rattle.disk.specs.Disk.{Disk, File, MayName, Append, failed, linked}
use Rattle.disk.proofs.StepLemmas.{linked_here, linked_other}
use Rattle.journal_steps.specs.Progress.{broken_by, unprepared_by, unsynced_by}
use Rattle.journal_steps.specs.World.{World, failed_disk, journal_name, unprepared_disk, unsynced_disk}
use Rattle.journal_steps.specs.Sound.{Holds, IsNoneOrEmpty, file_bytes, frames_end}
use Rattle.journal_steps.specs.declared.step.Ahead.{Ahead}
use Rattle.journal_steps.specs.declared.step.Ahead.TheVariants.{NotWanted, Wanted, Making, Made, Keeping, Kept}
use Rattle.journal_steps.specs.declared.step.Lane.{Lane}
use Rattle.journal_steps.specs.declared.step.Lane.TheVariants as lane
use Rattle.journal_steps.proofs.ChainLemmas.{frames_end-le}
use Rattle.journal_steps.proofs.DueLemmas.{below_of, differ_of}
use Rattle.journal_steps.proofs.FileLemmas.{coming_file, core_file, core_names, empty_names, front_of_front}

-- ---- an append

-- a beginning of the file is left, with what was durable
fail_append : (w : World) (taken : ℕ) → w.progress.written < w.progress.taken → Holds w
    → Holds (record w {
      disk = failed (Append w.file (drop w.append_at (w.disk.files w.file).bytes)) taken w.disk;
      progress = record w.progress { broken = true };
    })
fail_append w taken under_way h =
    let p = w.progress in
    let c = h.core in
    let d = w.disk in
    let f = d.files w.file in
    let t = (length f.bytes - length (drop w.append_at f.bytes)) + taken in
    let rest : length (drop w.append_at f.bytes) ≡ length f.bytes - w.append_at = length-drop w.append_at f.bytes in
    let g : File = record { bytes = take t f.bytes; durable = min f.durable t; sound = false } in
    let front = front_of_front t c.part (file_bytes p.salt p.store p.base w.logged) in
    let asked : frames_end p.salt p.base p.written w.logged ≤ w.append_at - 36 = h.appending under_way in
    let end : frames_end p.salt p.base p.durable w.logged ≤ frames_end p.salt p.base p.written w.logged =
    frames_end-le p.salt p.base p.durable p.written w.logged h.durable_written in
    record {
      ready = record { header = h.ready.header; numbers = h.ready.numbers; sizes = h.ready.sizes; files = h.ready.files };
      core =
          core_file d p.salt p.store w.before p.first w.closed w.file w.logged p.seq p.base p.taken p.durable g w.logged p.taken p.durable
          front.0 c c.numbered c.taken_is (omega arith) c.durable_taken (ap (take t) c.bytes ∙ front.1)
          (omega (arith, c.kept, asked, end, rest, c.no_more))
          (omega (arith, length-take t f.bytes, c.no_more));
      durable_written = h.durable_written;
      written_taken = h.written_taken;
      whole = tt;
      appending = h.appending;
      syncing = h.syncing;
      coming = coming_file p.ahead d g p.seq w.file w.next_file w.names_at h.coming;
    }

append_by : (b : Bool) (w : World) (taken : ℕ) → eqb w.progress.written w.progress.taken ≡ b → Holds w
    → Holds (record w {
      disk = cond b w.disk (failed (Append w.file (drop w.append_at (w.disk.files w.file).bytes)) taken w.disk);
      progress = cond b w.progress (record w.progress { broken = true });
    })
append_by true w taken e h = h
append_by false w taken e h =
    let p = w.progress in
    fail_append w taken (below_of p.written p.taken h.written_taken (differ_of p.written p.taken e)) h

-- ---- a sync

sync_by : (s : Option ℕ) (w : World) → Holds w → Holds (record w { disk = unsynced_disk s w; progress = unsynced_by s w.progress })
sync_by None w h = h
sync_by (Some upto) w h =
    let p = w.progress in
    let c = h.core in
    let d = w.disk in
    let g : File = record (d.files w.file) { sound = false } in
    record {
      ready = record { header = h.ready.header; numbers = h.ready.numbers; sizes = h.ready.sizes; files = h.ready.files };
      core =
          core_file d p.salt p.store w.before p.first w.closed w.file w.logged p.seq p.base p.taken p.durable g w.logged p.taken p.durable
          c.part c c.numbered c.taken_is (omega arith) c.durable_taken c.bytes c.kept c.no_more;
      durable_written = h.durable_written;
      written_taken = h.written_taken;
      whole = tt;
      appending = h.appending;
      syncing = tt;
      coming = coming_file p.ahead d g p.seq w.file w.next_file w.names_at h.coming;
    }

-- ---- the next file

unlinked_next : (d : Disk) (name file : ℕ) (x : Option ℕ) → ((y : Option ℕ) → MayName d name y → IsNoneOrEmpty d file y)
    → (x ≡ None) ⊎ MayName d name x → IsNoneOrEmpty (linked name None d) file x
unlinked_next d name file x next (inl none) = inl none
unlinked_next d name file x next (inr before) = empty_names d (linked name None d) file x (λ i. refl) (omega arith) (next x before)

-- there is no next file yet
not_wanted : (w : World) → Holds w → Holds (record w { progress = record w.progress { ahead = NotWanted } })
not_wanted w h =
    record {
      ready = record {
        header = h.ready.header;
        numbers = h.ready.numbers;
        sizes = h.ready.sizes;
        files = (let le : w.progress.seq + 0 ≤ 2 ^ 63 = omega (arith, h.ready.files) in le);
      };
      core = h.core;
      durable_written = h.durable_written;
      written_taken = h.written_taken;
      whole = h.whole;
      appending = h.appending;
      syncing = h.syncing;
      coming = tt;
    }

not_made : (b : Bool) (w : World) → Holds w
    → Holds (record w {
      disk = cond b (linked (journal_name (w.progress.seq + 1)) None w.disk) w.disk;
      progress = record w.progress { ahead = NotWanted };
    })
not_made false w h = not_wanted w h
not_made true w h =
    let p = w.progress in
    let d = w.disk in
    let name = journal_name (p.seq + 1) in
    let n = not_wanted w h in
    record {
      ready = n.ready;
      core =
          core_names d (linked name None d) p.salt p.store w.before p.first w.closed w.file w.logged p.seq p.base p.taken p.durable
          (λ i. refl) (omega arith)
          (λ m x low differ y. linked_other d name (journal_name m) None x (λ same. absurd (differ (omega (arith, same)))) y)
          (λ x y. unlinked_next d name w.file x h.core.next (linked_here d name None x y)) h.core;
      durable_written = h.durable_written;
      written_taken = h.written_taken;
      whole = h.whole;
      appending = h.appending;
      syncing = h.syncing;
      coming = tt;
    }

next_by : (a : Ahead) (taken : ℕ) (w : World) → Holds w
    → Holds (record w { disk = unprepared_disk a taken w; progress = unprepared_by a w.progress })
next_by NotWanted taken w h = h
next_by Wanted taken w h = h
next_by Making taken w h = not_made (eqb taken 0) w h
next_by Made taken w h = h
next_by Keeping taken w h = not_wanted w h
next_by Kept taken w h = h

pub holds_fail : (l : Lane) (taken : ℕ) (w : World) → Holds w
    → Holds (record w { disk = failed_disk l taken w; progress = broken_by l w.progress })
holds_fail lane.Append taken w h = append_by (eqb w.progress.written w.progress.taken) w taken refl h
holds_fail lane.Sync taken w h = sync_by w.progress.syncing w h
holds_fail lane.Next taken w h = next_by w.progress.ahead taken w h
