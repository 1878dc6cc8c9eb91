use Rattle.std.proofs.Common.{◌≡◌, ℕ, suc, ◌+◌, ◌<◌, Ok, List, [], length, get_or, map, take, sym, ap, ◌∙◌, subst, arith}
use Rattle.std.proofs.lemmas.List.{get_or-map, length-map}
use Rattle.values.specs.Shape.{Columns}
use Rattle.codec.specs.Reading.{decoded, entries_in}
use Rattle.journal.specs.Frame.{Logged}
use Rattle.journal.specs.Reading.{logged_in}
use Rattle.journal.specs.declared.frame.Frame.{Frame}
use Rattle.model.specs.Effects.{AreOver, Effects, table_with}
use Rattle.model.specs.Entries.{canonical_entries}
use Rattle.model.specs.History.{table_with_all}
use Rattle.model.specs.Laws.{AreCommits}
use Rattle.model.specs.Table.{Table, rows_of}
use Rattle.manager.specs.Managed.{Managed, newest_table}
use Rattle.manager.proofs.CallerLemmas.{table_with_all-one}
use Rattle.std.specs.Prelude.{IsOk}
use Rattle.values.specs.declared.row.Row.{Row}
use Rattle.replay.specs.Replayed.{AreRead, AreSaid, IsNamedAt, IsStopped, rows_after}
use Rattle.replay.proofs.ReplayLemmas.{are_read-append, first_more, named_at, past_at, replayed_more, said_at, stopped_caused}
use Rattle.replay.proofs.replaying.replay.Goals as goal

-- what stands where there is no frame
abbrev nothing : Frame
nothing = record { number = 0; synced = 0; payload = record { ref_ptr = (0, 0); now = [] } }

-- the commit that a frame says, over the table that is reached
module _ (schema : Columns) (table : ℕ) (t : Table) (frames : List Frame) (i : ℕ) (lt : i < length frames) (middle : Managed)
    (schema_is : middle.schema ≡ schema) (reached : (commits : List Effects) → AreCommits schema t commits
    → AreSaid schema table t commits (map (λ f. f.payload.now) frames) → newest_table middle ≡ table_with_all t (take i commits))
    (commits : List Effects) (h : AreCommits schema t commits) (s : AreSaid schema table t commits (map (λ f. f.payload.now) frames)) where
  next : (x : Effects) × AreOver middle.schema (newest_table middle) x
      × (entries_in middle.schema table (get_or frames i nothing).payload.now ≡ Ok (canonical_entries (newest_table middle) x))
      × (table_with (newest_table middle) x ≡ table_with_all t (take (i + 1) commits))
  next =
      let inside : i < length (map (λ f. f.payload.now) frames) = subst (λ n. i < n) (sym (length-map _ _)) lt in
      let found = said_at schema table t commits (map (λ f. f.payload.now) frames) i h s inside in
      let at = reached commits h s in
      let one : suc i ≡ i + 1 = omega arith in
      let payload : get_or (map (λ f. f.payload.now) frames) i [] ≡ (get_or frames i nothing).payload.now =
      get_or-map (λ f. f.payload.now) frames i nothing [] lt in (
        found.0,
        subst (λ (e : Columns × Table). AreOver e.0 e.1 found.0) (sym (λ j. (schema_is j, at j))) found.1,
        (λ j. entries_in (schema_is j) table (sym payload j)) ∙ found.2 ∙ ap (λ (u : Table). Ok (canonical_entries u found.0)) (sym at),
        ap (λ (u : Table). table_with u found.0) at
            ∙ sym (table_with_all-one t (take i commits) found.0)
            ∙ ap (table_with_all t) (sym found.3 ∙ ap (λ n. take n commits) one),
      )

pub loop-frame-preserved : goal.loop-frame-preserved
loop-frame-preserved c =
    let m = c.args.manager.now in
    let before = c.loop-frame.invariant in
    let i = c.loop-frame.frame-index in (
      replayed_more (λ f. decoded m.schema c.args.table f.payload.now) m c.loop-frame.manager c.replay_frame.new.manager
          c.fold_where_large.new.manager (rows_of (newest_table m)) c.args.frames.now i nothing
          (decoded c.loop-frame.manager.schema c.args.table (get_or c.args.frames.now i nothing).payload.now) c.loop-frame-test.true
          (ap (λ (s : Columns). decoded s c.args.table (get_or c.args.frames.now i nothing).payload.now) before.0.schema) before.0
          c.in-Ok.ensures.ok c.in_ok-fold_where_large-in-Ok.ensures.ok,
      λ commits h s.
          let found = next m.schema c.args.table (newest_table m) c.args.frames.now i c.loop-frame-test.true c.loop-frame.manager
          before.0.schema before.1 commits h s in
          c.in_ok-fold_where_large-in-Ok.ensures.table ∙ c.in-Ok.ensures.table found.0 found.1 found.2 ∙ found.3,
      (
          let one : suc i ≡ i + 1 = omega arith in
          let payload = (get_or c.args.frames.now i nothing).payload.now in
          let is = subst (λ (s : Columns). IsOk (entries_in s c.args.table payload)) before.0.schema c.in-Ok.ensures.read in
          subst (AreRead m.schema c.args.table)
          (sym (first_more (λ (f : Frame). f.payload.now) c.args.frames.now i nothing c.loop-frame-test.true)
          ∙ ap (λ n. map (λ (f : Frame). f.payload.now) (take n c.args.frames.now)) one)
          (are_read-append m.schema c.args.table (map (λ (f : Frame). f.payload.now) (take i c.args.frames.now)) payload before.2 is)),
    )

pub returns-in-Err-clause-caused : goal.returns-in-Err-clause-caused
returns-in-Err-clause-caused c = λ recent.
    let m = c.args.manager.now in
    let before = c.loop-frame.invariant in
    let i = c.loop-frame.frame-index in
    let payload = (get_or c.args.frames.now i nothing).payload.now in
    let rows = rows_of (newest_table m) in
    let said = λ (f : Frame). decoded m.schema c.args.table f.payload.now in
    let here = rows_after rows (map said (take i c.args.frames.now)) in
    let is : IsStopped m.start.limit here (decoded m.schema c.args.table payload) c.in-Err.fault =
    subst (λ (e : ℕ × (List Row × Columns)). IsStopped e.0 e.1.0 (decoded e.1.1 c.args.table payload) c.in-Err.fault)
    (λ j. (before.0.limit j, (before.0.rows_are j, before.0.schema j))) c.in-Err.ensures.stopped in
    stopped_caused recent m.start.limit rows here (decoded m.schema c.args.table payload) (map said c.args.frames.now) c.in-Err.fault is
    (past_at said m.start.limit rows c.args.frames.now i nothing c.loop-frame-test.true)

pub returns-in-Err-clause-named : goal.returns-in-Err-clause-named
returns-in-Err-clause-named c = λ misfit.
    let frames = c.args.frames.now in
    let i = c.loop-frame.frame-index in
    let lt = c.loop-frame-test.true in
    let inside : i < length (map logged_in frames) = subst (λ n. i < n) (sym (length-map frames logged_in)) lt in
    let here = subst (λ (s : Columns). IsNamedAt s c.args.table (logged_in (get_or frames i nothing)) c.in-Err.fault)
    c.loop-frame.invariant.0.schema (c.in-Err.ensures.named misfit) in
    named_at c.args.manager.now.schema c.args.table (map logged_in frames) i (logged_in nothing) c.in-Err.fault inside
    (subst (λ (l : Logged). IsNamedAt c.args.manager.now.schema c.args.table l c.in-Err.fault)
    (sym (get_or-map logged_in frames i nothing (logged_in nothing) lt)) here)

pub returns-in-Err-clause-fits : goal.returns-in-Err-clause-fits
returns-in-Err-clause-fits c = λ misfit commits h s.
    let m = c.args.manager.now in
    let before = c.loop-frame.invariant in
    let found = next m.schema c.args.table (newest_table m) c.args.frames.now c.loop-frame.frame-index c.loop-frame-test.true
    c.loop-frame.manager before.0.schema before.1 commits h s in
    c.in-Err.ensures.fits misfit found.0 found.1 found.2
