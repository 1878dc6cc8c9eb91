-- Where a journal on a disk begins, and how the world does what the calls tell.
use Rattle.std.proofs.Common.{◌≡◌, ◌≤◌, ◌<◌, ◌^◌, ℕ, zero, suc, ◌+◌, ◌-◌, Bool, true, false, cond, ltb, Option, Some, None, List, [], ◌∷◌, ◌++◌, length, take, drop, refl, sym, ap, subst, ◌∙◌, inl, arith}
use Rattle.std.proofs.lemmas.Bool.{ltb-true}
use Rattle.std.proofs.lemmas.List.{length-append, length-take}
use Rattle.std.proofs.Math.Seq.{take-length}
use Rattle.disk.specs.Disk.{Disk, File, MayName, named}
use Rattle.disk.proofs.StepLemmas.{at_here, at_other}
use Rattle.journal.specs.Frame.{Logged}
use Rattle.journal.specs.Header.{seed_of}
use Rattle.journal_steps.specs.Laws.{AreFiles, ANewJournalHolds, TheJournalGoesOn, TheWorldDoesWhatIsTold}
use Rattle.journal_steps.specs.Progress.{began, due, finished, header_from, removed, turned, turns}
use Rattle.journal_steps.specs.World.{Segment, World, all_logged, begins, closes, disk_by, done_disk, frames_in, journal_name, moved, new_world, removes}
use Rattle.journal_steps.specs.Sound.{AreClosed, AreNumbered, file_bytes, frames_end}
use Rattle.journal_steps.specs.declared.step.Ahead.TheVariants.{NotWanted}
use Rattle.journal_steps.specs.declared.step.Step.{Step}
use Rattle.journal_steps.specs.declared.step.Step.TheVariants as step
use Rattle.journal_steps.proofs.ChainLemmas.{frames_end-whole, length-journal-take}
use Rattle.journal_steps.proofs.FileLemmas.{length-header}

-- ---- names at rest

now_named : (d : Disk) (n undone : ℕ) (x : Option ℕ) → undone ≤ d.pending → d.pending ≡ 0 → named n (drop undone d.links) ≡ x
    → x ≡ named n d.links
now_named d n zero x few rest was = sym was
now_named d n (suc k) x few rest was = absurd (omega (arith, few, rest))

name_now : (d : Disk) (n : ℕ) (x : Option ℕ) → d.pending ≡ 0 → MayName d n x → x ≡ named n d.links
name_now d n x rest m = now_named d n m.undone x m.few rest m.was

-- ---- a new journal

pub a_new_journal_holds : ANewJournalHolds
a_new_journal_holds header seq is le =
    let w = new_world header seq in
    let d = w.disk in
    let here : named (journal_name seq) d.links ≡ Some 0 = at_here (journal_name seq) (Some 0) None in
    let there : (n : ℕ) → seq < n → named (journal_name n) d.links ≡ None =
    λ n lt. at_other (journal_name seq) (journal_name n) (Some 0) None (λ e. absurd (omega (arith, lt, e))) in
    record {
      ready = record {
        header = record { salt = is.salt; store = is.store; base = is.base; seed = is.seed };
        numbers = (let lt : header.base + 0 < 2 ^ 63 = omega (arith, is.base) in lt);
        sizes = tt;
        files = (let few : seq + 0 ≤ 2 ^ 63 = omega (arith, le) in few);
      };
      core = record {
        numbered = tt;
        taken_is = (let e : header.base ≡ header.base + 0 = omega arith in e);
        base_is = (let e : header.base ≡ header.base + 0 = omega arith in e);
        base_durable = omega arith;
        durable_taken = omega arith;
        seq_is = (let e : seq ≡ seq + 0 = omega arith in e);
        are_closed = tt;
        part = 0;
        bytes = refl;
        kept = omega (arith, length-journal-take (seed_of header.salt) (header.base - header.base) []);
        no_more = omega arith;
        name = (λ x m. name_now d (journal_name seq) x refl m ∙ here);
        next = (λ x m. inl (name_now d (journal_name (seq + 1)) x refl m ∙ there (seq + 1) (omega arith)));
        beyond = (λ n x lt m. name_now d (journal_name n) x refl m ∙ there n (omega (arith, lt)));
        below = omega arith;
        fresh = (λ i low. refl);
      };
      durable_written = omega arith;
      written_taken = omega arith;
      whole = (refl, refl);
      appending = (λ lt. absurd (omega (arith, lt)));
      syncing = tt;
      coming = tt;
    }

-- ---- a journal that is opened again

files_closed : (d : Disk) (salt store bound seq base : ℕ) (ss : List Segment) → d.pending ≡ 0
    → ((i : ℕ) → (d.files i).durable ≡ length (d.files i).bytes) → AreFiles d salt store bound seq base ss
    → AreClosed d salt store bound seq base ss
files_closed d salt store bound seq base [] rest all h = tt
files_closed d salt store bound seq base (s ∷ ss) rest all h = (
  h.0,
  h.1,
  all s.file,
  (λ x m. name_now d (journal_name seq) x rest m ∙ h.2),
  files_closed d salt store bound (seq + 1) (base + length s.logged) ss rest all h.3,
)

numbered_take : (next old durable k : ℕ) (ls : List Logged) → old ≤ durable → AreNumbered next old ls → AreNumbered next durable (take k ls)
numbered_take next old durable zero ls le h = tt
numbered_take next old durable (suc k) [] le h = tt
numbered_take next old durable (suc k) (l ∷ ls) le h =
    (h.0, h.1, (let e : l.synced ≤ durable = omega (arith, le, h.2) in e), h.3, numbered_take (next + 1) old durable k ls le h.4)

-- the frames that a file has end where its bytes do
reopened_end : (salt store base : ℕ) (logged : List Logged) (f : File) → f.bytes ≡ file_bytes salt store base logged
    → f.durable ≡ length f.bytes → frames_end salt base (base + length logged) logged ≤ f.durable - 36
reopened_end salt store base logged f bytes all =
    omega (
      arith,
      frames_end-whole salt store base (base + length logged) logged (length-header (header_from salt store base)),
      ap length bytes,
      all,
    )

pub the_journal_goes_on : TheJournalGoesOn
the_journal_goes_on w k d closed file logged h low few front room is =
    let p = w.progress in
    let base = w.before + length (frames_in closed) in
    let seq = p.first + length closed in
    let newest = base + length logged in
    let lens : length (frames_in closed ++ logged) ≡ k = omega (arith, ap length front, length-take k (all_logged w), few) in
    let both = length-append (frames_in closed) logged in
    let first : base + length logged ≤ p.taken = omega (arith, lens, both, few, h.core.taken_is) in
    let f = d.files file in
    record {
      ready = record {
        header = record {
          salt = h.ready.header.salt;
          store = h.ready.header.store;
          base = omega (arith, first, h.ready.numbers);
          seed = h.ready.header.seed;
        };
        numbers = (let lt : newest + 0 < 2 ^ 63 = omega (arith, first, h.ready.numbers) in lt);
        sizes = tt;
        files = (let le : seq + 0 ≤ 2 ^ 63 = omega (arith, room) in le);
      };
      core = record {
        numbered =
            subst (AreNumbered (w.before + 1) newest) (sym front)
            (numbered_take (w.before + 1) p.durable newest k (all_logged w) (omega (arith, low, lens, both)) h.core.numbered);
        taken_is = omega (arith, both);
        base_is = refl;
        base_durable = omega arith;
        durable_taken = omega arith;
        seq_is = refl;
        are_closed = files_closed d p.salt p.store file p.first w.before closed is.rest.names is.rest.files is.files;
        part = length (file_bytes p.salt p.store base logged);
        bytes = is.bytes ∙ sym (take-length (file_bytes p.salt p.store base logged));
        kept = reopened_end p.salt p.store base logged f is.bytes (is.rest.files file);
        no_more = omega (arith, is.rest.files file);
        name = (λ x m. name_now d (journal_name seq) x is.rest.names m ∙ is.name);
        next = (λ x m. inl (name_now d (journal_name (seq + 1)) x is.rest.names m ∙ is.last (seq + 1) (omega arith)));
        beyond = (λ n x lt m. name_now d (journal_name n) x is.rest.names m ∙ is.last n (omega (arith, lt)));
        below = is.below;
        fresh = is.fresh;
      };
      durable_written = omega arith;
      written_taken = omega arith;
      whole = (is.bytes, is.rest.sound file);
      appending = (λ lt. absurd (omega (arith, lt)));
      syncing = tt;
      coming = tt;
    }

-- ---- the world and the calls

begin_progress : (s : Option Step) (w : World) → (begins s w).progress ≡ began s w.progress
begin_progress None w = refl
begin_progress (Some (step.Append batch)) w = refl
begin_progress (Some (step.Sync seq)) w = refl
begin_progress (Some (step.Create seq)) w = refl
begin_progress (Some step.SyncNames) w = refl

begin_disk : (s : Option Step) (w : World) → (begins s w).disk ≡ disk_by s w.file w.disk
begin_disk None w = refl
begin_disk (Some (step.Append batch)) w = refl
begin_disk (Some (step.Sync seq)) w = refl
begin_disk (Some (step.Create seq)) w = refl
begin_disk (Some step.SyncNames) w = refl

closes_by : (b : Bool) (w : World) → turns w.progress ≡ b → (cond b (moved w) w).progress ≡ turned w.progress
closes_by true w e = refl
closes_by false w e =
    let p = w.progress in ap (λ b. cond b (record p { seq = p.seq + 1; base = p.taken; ahead = NotWanted }) p) (sym e)

pub closes_progress : (w : World) → (closes w).progress ≡ turned w.progress
closes_progress w = closes_by (turns w.progress) w refl

removes_closed : (b : Bool) (ss : List Segment) (w : World) → ltb w.progress.first w.progress.seq ≡ b
    → w.progress.seq ≡ w.progress.first + length ss
    → (removes (cond b (Some w.progress.first) None) ss w).progress ≡ removed (cond b (Some w.progress.first) None) w.progress
removes_closed false ss w e is = refl
removes_closed true [] w e is = absurd (omega (arith, ltb-true w.progress.first w.progress.seq e, is))
removes_closed true (s ∷ ss) w e is = refl

pub the_world_does_what_is_told : TheWorldDoesWhatIsTold
the_world_does_what_is_told w l taken payload h = (
  refl,
  refl,
  refl,
  refl,
  begin_progress (due l w.progress) w,
  begin_disk (due l w.progress) w,
  closes_progress (record w { disk = done_disk l w; progress = finished l w.progress }),
  refl,
  removes_closed (ltb w.progress.first w.progress.seq) w.closed w refl h.core.seq_is,
)
