-- What is durable stays so, and is read after a crash.
use Rattle.std.proofs.Common.{◌≡◌, ◌≤◌, ◌<◌, ◌^◌, ℕ, ◌+◌, Bool, true, false, cond, eqb, ltb, Option, Some, None, List, [], ◌∷◌, ◌++◌, refl, ap, arith}
use Rattle.journal_steps.specs.Progress.{Progress, broken_by, due, finished, may_add, oldest, prepared_by, synced_by, turned, turns, unprepared_by, unsynced_by, wanted_by}
use Rattle.journal_steps.specs.World.{Withdraw, AllBeside, Beside, Event, Add, Want, Begin, Done, Fail, Remove, Stop, Segment, World, begins, done_disk, happens, removes, run}
use Rattle.journal_steps.specs.Sound.{Holds, IsSyncing}
use Rattle.journal_steps.specs.declared.step.Ahead.{Ahead}
use Rattle.journal_steps.specs.declared.step.Ahead.TheVariants.{NotWanted, Wanted, Making, Made, Keeping, Kept}
use Rattle.journal_steps.specs.declared.step.Lane.{Lane}
use Rattle.journal_steps.specs.declared.step.Lane.TheVariants as lane
use Rattle.journal_steps.specs.declared.step.Step.{Step}
use Rattle.journal_steps.specs.declared.step.Step.TheVariants as step
use Rattle.journal.specs.Laws.{AHeaderReadsBack, AJournalSurvives}
use Rattle.journal_steps.specs.Laws.{TheJournalSurvives}
use Rattle.journal_steps.proofs.CrashLemmas.{holds_happens, holds_run, reads_after}
use Rattle.journal_steps.proofs.StartLemmas.{closes_progress}

either : (b : Bool) (p q : Progress) (n : ℕ) → p.durable ≡ n → q.durable ≡ n → (cond b p q).durable ≡ n
either true p q n e f = e
either false p q n e f = f

begin_durable : (s : Option Step) (w : World) → (begins s w).progress.durable ≡ w.progress.durable
begin_durable None w = refl
begin_durable (Some (step.Append batch)) w = refl
begin_durable (Some (step.Sync seq)) w = refl
begin_durable (Some (step.Create seq)) w = refl
begin_durable (Some step.SyncNames) w = refl

turned_durable : (p : Progress) → (turned p).durable ≡ p.durable
turned_durable p = either (turns p) (record p { seq = p.seq + 1; base = p.taken; ahead = NotWanted }) p p.durable refl refl

later_by : (b : Bool) (durable upto : ℕ) → durable < upto → durable ≤ cond b durable upto
later_by true durable upto lt = omega arith
later_by false durable upto lt = omega (arith, lt)

synced_later : (s : Option ℕ) (p : Progress) (at : ℕ) (w : World) → IsSyncing s p.salt p.base p.durable p.written at w.logged
    → p.durable ≤ (synced_by s p).durable
synced_later None p at w h = omega arith
synced_later (Some upto) p at w h = later_by p.broken p.durable upto h.0

prepared_durable : (a : Ahead) (p : Progress) → (prepared_by a p).durable ≡ p.durable
prepared_durable NotWanted p = refl
prepared_durable Wanted p = refl
prepared_durable Making p = refl
prepared_durable Made p = refl
prepared_durable Keeping p = refl
prepared_durable Kept p = refl

finished_later : (l : Lane) (w : World) → Holds w → w.progress.durable ≤ (finished l w.progress).durable
finished_later lane.Append w h = omega arith
finished_later lane.Sync w h = synced_later w.progress.syncing w.progress w.sync_at w h.syncing
finished_later lane.Next w h = omega (arith, prepared_durable w.progress.ahead w.progress)

unsynced_durable : (s : Option ℕ) (p : Progress) → (unsynced_by s p).durable ≡ p.durable
unsynced_durable None p = refl
unsynced_durable (Some upto) p = refl

unprepared_durable : (a : Ahead) (p : Progress) → (unprepared_by a p).durable ≡ p.durable
unprepared_durable NotWanted p = refl
unprepared_durable Wanted p = refl
unprepared_durable Making p = refl
unprepared_durable Made p = refl
unprepared_durable Keeping p = refl
unprepared_durable Kept p = refl

broken_durable : (l : Lane) (p : Progress) → (broken_by l p).durable ≡ p.durable
broken_durable lane.Append p = either (eqb p.written p.taken) p (record p { broken = true }) p.durable refl refl
broken_durable lane.Sync p = unsynced_durable p.syncing p
broken_durable lane.Next p = unprepared_durable p.ahead p

added_durable : (b : Bool) (payload : List ℕ) (p : Progress)
    → (cond b (record p { waiting = p.waiting ++ payload ∷ [] }) p).durable ≡ p.durable
added_durable true payload p = refl
added_durable false payload p = refl

wanted_durable : (a : Ahead) (p : Progress) → (wanted_by a p).durable ≡ p.durable
wanted_durable NotWanted p =
    either (eqb p.base p.taken) p (cond (ltb p.seq (2 ^ 63)) (record p { ahead = Wanted }) p) p.durable refl
    (either (ltb p.seq (2 ^ 63)) (record p { ahead = Wanted }) p p.durable refl refl)
wanted_durable Wanted p = refl
wanted_durable Making p = refl
wanted_durable Made p = refl
wanted_durable Keeping p = refl
wanted_durable Kept p = refl

removed_durable : (o : Option ℕ) (ss : List Segment) (w : World) → (removes o ss w).progress.durable ≡ w.progress.durable
removed_durable None ss w = refl
removed_durable (Some seq) [] w = refl
removed_durable (Some seq) (s ∷ ss) w = refl

happens_later : (w : World) (e : Event) → Holds w → w.progress.durable ≤ (happens w e).progress.durable
happens_later w (Add payload) h = omega (arith, added_durable (may_add payload w.progress) payload w.progress)
happens_later w Withdraw h = omega arith
happens_later w Stop h = omega arith
happens_later w Want h = omega (arith, wanted_durable w.progress.ahead w.progress)
happens_later w (Begin l) h = omega (arith, begin_durable (due l w.progress) w)
happens_later w (Done l) h =
    let v = record w { disk = done_disk l w; progress = finished l w.progress } in
    omega (
      arith,
      finished_later l w h,
      ap (λ (p : Progress). p.durable) (closes_progress v),
      turned_durable (finished l w.progress),
    )
happens_later w (Fail l taken) h = omega (arith, broken_durable l w.progress)
happens_later w Remove h = omega (arith, removed_durable (oldest w.progress) w.closed w)
happens_later w (Beside disk) h = omega arith

pub run_later : (es : List Event) (w : World) → AllBeside es w → Holds w → w.progress.durable ≤ (run es w).progress.durable
run_later [] w b h = omega arith
run_later (e ∷ es) w b h = omega (arith, happens_later w e h, run_later es (happens w e) b.1 (holds_happens w e b.0 h))

pub the_journal_survives : AJournalSurvives → AHeaderReadsBack → TheJournalSurvives
the_journal_survives frames header w events h beside =
    let v = run events w in
    let now = holds_run events w beside h in (
      now,
      run_later events w beside h,
      λ left more may chance. reads_after v left more frames header now may chance,
    )
