-- A step that begins keeps what holds of a journal on a disk.
use Rattle.std.proofs.Common.{◌≡◌, ◌≤◌, ◌<◌, ◌⊎◌, ◌^◌, ℕ, ◌+◌, ◌-◌, Bool, true, false, cond, eqb, Option, Some, None, List, ◌++◌, length, refl, sym, ap, subst, ◌∙◌, append_assoc, inl, inr, arith}
use Rattle.std.proofs.lemmas.List.{length-append}
use Rattle.std.proofs.Math.Seq.{take-length}
use Rattle.disk.specs.Disk.{Disk, File, MayName, Create, begun, named, with_bytes}
use Rattle.disk.proofs.StepLemmas.{asked_now, at_here, create_here, create_other}
use Rattle.journal.specs.Frame.{Logged}
use Rattle.journal_steps.specs.Batch.{BatchFields, batch_bytes, framed}
use Rattle.journal_steps.specs.Progress.{batch_of, coming, due, header_from}
use Rattle.journal_steps.specs.World.{Segment, World, begins, frames_in, journal_name}
use Rattle.journal_steps.specs.Sound.{AreNumbered, Core, Holds, IsComing, IsMade, IsNext, IsNoneOrEmpty, IsSyncing, IsWhole, file_bytes, frames_end}
use Rattle.journal_steps.specs.declared.step.Ahead.{Ahead}
use Rattle.journal_steps.specs.declared.step.Ahead.TheVariants.{Wanted, Made}
use Rattle.journal_steps.specs.declared.step.Lane.{Lane}
use Rattle.journal_steps.specs.declared.step.Step.{Step}
use Rattle.journal_steps.specs.declared.step.Step.TheVariants as step
use Rattle.journal_steps.proofs.ChainLemmas.{framed_numbered, frames_end-whole, length-framed, numbered_more}
use Rattle.journal_steps.proofs.DueLemmas.{IsDue, below_of, differ_of, due_is}
use Rattle.journal_steps.proofs.FileLemmas.{coming_file, core_file, core_names, empty_names, frames_end-more, length-header, more_bytes}

-- the commits in the file that is written
pub in_file : (d : Disk) (salt store before first : ℕ) (closed : List Segment) (file : ℕ) (logged : List Logged)
    (seq base taken durable : ℕ)
    → Core d salt store before first closed file logged seq base taken durable → taken ≡ base + length logged
in_file d salt store before first closed file logged seq base taken durable c =
    omega (arith, c.taken_is, c.base_is, length-append (frames_in closed) logged)

syncing_more : (s : Option ℕ) (salt base durable written at taken : ℕ) (logged frames : List Logged) → written ≤ taken
    → taken ≡ base + length logged → IsSyncing s salt base durable written at logged
    → IsSyncing s salt base durable written at (logged ++ frames)
syncing_more None salt base durable written at taken logged frames le e h = tt
syncing_more (Some upto) salt base durable written at taken logged frames le e h = (
  h.0,
  h.1,
  subst (λ n. n ≤ at - 36) (sym (frames_end-more salt base upto logged frames (omega (arith, h.1, le, e)))) h.2,
)

-- what has all of its bytes
pub whole_when : (b : Bool) (f : File) (bytes : List ℕ) → b ≡ false → IsWhole b f bytes → (f.bytes ≡ bytes) × (f.sound ≡ true)
whole_when b f bytes e h = subst (λ x. IsWhole x f bytes) e h

-- ---- an append

begin_append : (w : World) → w.progress.broken ≡ false → w.progress.written ≡ w.progress.taken → 0 < length w.progress.waiting
    → Holds w → Holds (begins (Some (step.Append (batch_of w.progress.waiting w.progress))) w)
begin_append w sound idle some h =
    let p = w.progress in
    let c = h.core in
    let d = w.disk in
    let f = d.files w.file in
    let ps = p.waiting in
    let frames = framed (p.taken + 1) p.durable ps in
    let more = batch_bytes (batch_of ps p) in
    let g = with_bytes (f.bytes ++ more) f in
    let here : cond (eqb w.file w.file) g (d.files w.file) ≡ g = at_here w.file g (d.files w.file) in
    let file_is = in_file d p.salt p.store w.before p.first w.closed w.file w.logged p.seq p.base p.taken p.durable c in
    let whole = whole_when p.broken f (file_bytes p.salt p.store p.base w.logged) sound h.whole in
    let some_frames : 0 < length frames = omega (arith, some, length-framed (p.taken + 1) p.durable ps) in
    let bytes : f.bytes ++ more ≡ file_bytes p.salt p.store p.base (w.logged ++ frames) =
    ap (λ (b : List ℕ). b ++ more) whole.0 ∙ more_bytes p.salt p.store p.base p.taken w.logged frames file_is some_frames in
    let assoc = append_assoc (frames_in w.closed) w.logged frames in
    let lens : length (frames_in w.closed ++ (w.logged ++ frames)) ≡ length (frames_in w.closed ++ w.logged) + length ps =
    ap length (sym assoc) ∙ length-append (frames_in w.closed ++ w.logged) frames
    ∙ ap (λ n. length (frames_in w.closed ++ w.logged) + n) (length-framed (p.taken + 1) p.durable ps) in
    let numbered : AreNumbered (w.before + 1) p.durable (frames_in w.closed ++ (w.logged ++ frames)) =
    subst (AreNumbered (w.before + 1) p.durable) assoc
    (numbered_more (w.before + 1) p.durable p.durable (frames_in w.closed ++ w.logged) frames (omega arith) c.numbered
    (subst (λ n. AreNumbered n p.durable frames)
    (let e : p.taken + 1 ≡ (w.before + 1) + length (frames_in w.closed ++ w.logged) = omega (arith, c.taken_is) in e)
    (framed_numbered (p.taken + 1) p.durable ps (omega (arith, c.durable_taken)) h.ready.sizes))) in
    let durable_end = frames_end-more p.salt p.base p.durable w.logged frames (omega (arith, c.durable_taken, file_is)) in
    let written_end = frames_end-more p.salt p.base p.written w.logged frames (omega (arith, h.written_taken, file_is)) in
    let before_end = frames_end-whole p.salt p.store p.base p.written w.logged (length-header (header_from p.salt p.store p.base)) in
    record {
      ready = record {
        header = h.ready.header;
        numbers = (let lt : (p.taken + length ps) + 0 < 2 ^ 63 = omega (arith, h.ready.numbers) in lt);
        sizes = tt;
        files = h.ready.files;
      };
      core =
          core_file d p.salt p.store w.before p.first w.closed w.file w.logged p.seq p.base p.taken p.durable g (w.logged ++ frames)
          (p.taken + length ps) p.durable (length (file_bytes p.salt p.store p.base (w.logged ++ frames))) c numbered
          (omega (arith, c.taken_is, lens)) (omega arith) (omega (arith, c.durable_taken))
          (bytes ∙ sym (take-length (file_bytes p.salt p.store p.base (w.logged ++ frames))))
          (subst (λ n. n ≤ f.durable - 36) (sym durable_end) c.kept)
          (omega (arith, c.no_more, length-append f.bytes more));
      durable_written = h.durable_written;
      written_taken = omega (arith, h.written_taken);
      whole =
          subst (λ (x : File). IsWhole p.broken x (file_bytes p.salt p.store p.base (w.logged ++ frames))) (sym here)
          (subst (λ b. IsWhole b g (file_bytes p.salt p.store p.base (w.logged ++ frames))) (sym sound) (bytes, whole.1));
      appending = (λ lt. omega (arith, written_end, before_end, ap length whole.0));
      syncing =
          syncing_more p.syncing p.salt p.base p.durable p.written w.sync_at p.taken w.logged frames h.written_taken file_is h.syncing;
      coming = coming_file p.ahead d g p.seq w.file w.next_file w.names_at h.coming;
    }

-- ---- a sync

-- what is written is there
written_there : (b : Bool) (w : World) → eqb w.progress.written w.progress.taken ≡ b → w.progress.broken ≡ false → Holds w
    → frames_end w.progress.salt w.progress.base w.progress.written w.logged
    ≤ (cond b (length (w.disk.files w.file).bytes) w.append_at) - 36
written_there true w e sound h =
    let p = w.progress in
    let whole = whole_when p.broken (w.disk.files w.file) (file_bytes p.salt p.store p.base w.logged) sound h.whole in
    omega (
      arith,
      frames_end-whole p.salt p.store p.base p.written w.logged (length-header (header_from p.salt p.store p.base)),
      ap length whole.0,
    )
written_there false w e sound h =
    let p = w.progress in h.appending (below_of p.written p.taken h.written_taken (differ_of p.written p.taken e))

begin_sync : (w : World) (seq : ℕ) → w.progress.broken ≡ false → w.progress.durable < w.progress.written
    → Holds w → Holds (begins (Some (step.Sync seq)) w)
begin_sync w seq sound behind h =
    let p = w.progress in
    record {
      ready = record { header = h.ready.header; numbers = h.ready.numbers; sizes = h.ready.sizes; files = h.ready.files };
      core = h.core;
      durable_written = h.durable_written;
      written_taken = h.written_taken;
      whole = h.whole;
      appending = h.appending;
      syncing = (behind, (let e : p.written ≤ p.written = omega arith in e), written_there (eqb p.written p.taken) w refl sound h);
      coming = h.coming;
    }

-- ---- the next file

made_next : (d : Disk) (file name : ℕ) (x : Option ℕ) → IsNext (begun (Create name) d) file d.count
    → ((y : Option ℕ) → MayName d name y → IsNoneOrEmpty d file y)
    → (x ≡ Some d.count) ⊎ MayName d name x → IsNoneOrEmpty (begun (Create name) d) file x
made_next d file name x is next (inl made) = inr (d.count, made, is)
made_next d file name x is next (inr before) = empty_names d (begun (Create name) d) file x (λ i. refl) (omega arith) (next x before)

begin_create : (w : World) → w.progress.ahead ≡ Wanted → Holds w → Holds (begins (Some (step.Create (w.progress.seq + 1))) w)
begin_create w ahead h =
    let p = w.progress in
    let c = h.core in
    let d = w.disk in
    let name = journal_name (p.seq + 1) in
    let e = begun (Create name) d in
    let is_next : IsNext e w.file d.count = record { order = c.below; below = omega arith; empty = c.fresh d.count (omega arith) } in
    record {
      ready = record {
        header = h.ready.header;
        numbers = h.ready.numbers;
        sizes = h.ready.sizes;
        files = (let le : p.seq + 1 ≤ 2 ^ 63 = subst (λ (a : Ahead). p.seq + coming a ≤ 2 ^ 63) ahead h.ready.files in le);
      };
      core =
          core_names d e p.salt p.store w.before p.first w.closed w.file w.logged p.seq p.base p.taken p.durable (λ i. refl) (omega arith)
          (λ m x low differ y. create_other d name (journal_name m) x (λ same. absurd (differ (omega (arith, same)))) y)
          (λ x y. made_next d w.file name x is_next c.next (create_here d name x y)) c;
      durable_written = h.durable_written;
      written_taken = h.written_taken;
      whole = h.whole;
      appending = h.appending;
      syncing = h.syncing;
      coming = (at_here name (Some d.count) (named name d.links), is_next);
    }

begin_names : (w : World) → w.progress.ahead ≡ Made → Holds w → Holds (begins (Some step.SyncNames) w)
begin_names w ahead h =
    let p = w.progress in
    let made : IsMade w.disk p.seq w.file w.next_file =
    subst (λ (a : Ahead). IsComing a w.disk p.seq w.file w.next_file w.names_at) ahead h.coming in
    record {
      ready = record {
        header = h.ready.header;
        numbers = h.ready.numbers;
        sizes = h.ready.sizes;
        files = (let le : p.seq + 1 ≤ 2 ^ 63 = subst (λ (a : Ahead). p.seq + coming a ≤ 2 ^ 63) ahead h.ready.files in le);
      };
      core = h.core;
      durable_written = h.durable_written;
      written_taken = h.written_taken;
      whole = h.whole;
      appending = h.appending;
      syncing = h.syncing;
      coming = (made, asked_now w.disk (journal_name (p.seq + 1)) (Some w.next_file) made.0);
    }

begin_step : (s : Option Step) (w : World) → IsDue s w.progress → Holds w → Holds (begins s w)
begin_step None w due h = h
begin_step (Some (step.Append b)) w due h =
    subst (λ (x : BatchFields). Holds (begins (Some (step.Append x)) w)) (sym due.is) (begin_append w due.sound due.idle due.some h)
begin_step (Some (step.Sync seq)) w due h = begin_sync w seq due.0 due.2 h
begin_step (Some (step.Create seq)) w due h =
    subst (λ n. Holds (begins (Some (step.Create n)) w)) (sym due.1) (begin_create w due.0 h)
begin_step (Some step.SyncNames) w due h = begin_names w due h

pub holds_begin : (l : Lane) (w : World) → Holds w → Holds (begins (due l w.progress) w)
holds_begin l w h = begin_step (due l w.progress) w (due_is l w.progress) h
