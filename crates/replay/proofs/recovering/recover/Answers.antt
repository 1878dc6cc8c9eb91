use Rattle.std.proofs.Common.{◌≡◌, ℕ, ◌+◌, ◌-◌, Result, Ok, Err, List, length, map, take, drop, sym, ap, ◌∙◌, subst, arith}
use Rattle.std.specs.Prelude.{IfErr, IsErrAnd}
use Rattle.values.specs.Shape.{Columns}
use Rattle.std.proofs.lemmas.List.{length-drop, length-map}
use Rattle.codec.specs.Reading.{decoded}
use Rattle.journal.specs.declared.frame.Frame.{Frame}
use Rattle.journal.specs.Reading.{Read, logged_in, read_of}
use Rattle.model.specs.declared.entry.Entry.{Entry}
use Rattle.model.specs.Laws.{AreCommits}
use Rattle.model.specs.Table.{Table, rows_of, table_of}
use Rattle.model.proofs.CallerLemmas.{rows_of-table_of}
use Rattle.manager.specs.Managed.{Managed, newest_number, newest_table}
use Rattle.replay.specs.Recovered.{MayEnd, frames_since as frames_behind, logged_since}
use Rattle.values.specs.declared.row.Row.{Row}
use Rattle.replay.specs.Replayed.{AreRead, AreSaid, IsCaused, IsMisfit, IsNamed, rows_after}
use Rattle.replay.specs.declared.fault.RecoverFault.{RecoverFault}
use Rattle.journal.specs.Frame.{Logged}
use Rattle.replay.proofs.RecoveryLemmas.{ends_well, frames_left, frames_since, has_prefix, late_blameless, reaches_image, says_commits}
use Rattle.replay.proofs.recovering.recover.Goals.{After-replay}
use Rattle.replay.proofs.recovering.recover.Goals as goal

-- what the frames have that are replayed
module _ {A : Type 0} (d : List ℕ → A) (c : After-replay) where
  those_since : map (λ f. d f.payload.now)
      (take (length c.deref.result.now - c.in-Ok.skipped) (drop c.in-Ok.skipped c.deref.result.now))
      ≡ map (λ l. d l.payload)
      (drop (c.args.image.number - c.args.frames.base) (read_of c.args.frames.seed (c.args.frames.base + 1) c.args.frames.bytes.now).logged)
  those_since =
      let read : Read = read_of c.args.frames.seed (c.args.frames.base + 1) c.args.frames.bytes.now in
      let items = c.in_ok-reading.reading.frames.items in
      ap (λ (fs : List Frame). map (λ f. d f.payload.now) (take (length fs - c.in-Ok.skipped) (drop c.in-Ok.skipped fs)))
      c.deref.ensures.value
      ∙ frames_since d items c.in-Ok.skipped read (ap (λ (r : Read). r.logged) c.in_ok-reading.ensures)
      ∙ ap (λ n. map (λ l. d l.payload) (drop n read.logged)) c.in-Ok.ensures.ok.2

-- what they say
since : (c : After-replay) → map (λ f. decoded c.args.image.table.schema c.args.table f.payload.now)
    (take (length c.deref.result.now - c.in-Ok.skipped) (drop c.in-Ok.skipped c.deref.result.now))
    ≡ logged_since (decoded c.args.image.table.schema c.args.table) c.args.frames.seed c.args.frames.base c.args.image.number
    c.args.frames.bytes.now
since c = those_since (decoded c.args.image.table.schema c.args.table) c

-- the manager is opened over the image
opened_rows : (c : After-replay) → rows_of (newest_table c.in_ok-manager.manager) ≡ c.args.image.table.rows
opened_rows c =
    ap (λ (m : Managed). rows_of (newest_table m)) c.in_ok-manager.ensures.ok
    ∙ rows_of-table_of c.args.image.table.schema.key_cols c.args.image.table.rows

opened_table : (c : After-replay)
    → newest_table c.in_ok-manager.manager ≡ table_of c.args.image.table.schema.key_cols c.args.image.table.rows
opened_table c = ap newest_table c.in_ok-manager.ensures.ok

opened_schema : (c : After-replay) → c.in_ok-manager.manager.schema ≡ c.args.image.table.schema
opened_schema c = ap (λ (m : Managed). m.schema) c.in_ok-manager.ensures.ok

opened_number : (c : After-replay) → newest_number c.in_ok-manager.manager ≡ c.args.image.number
opened_number c =
    let none : c.args.image.number + 0 ≡ c.args.image.number = omega arith in ap newest_number c.in_ok-manager.ensures.ok ∙ none

pub returns-clause-limits : goal.returns-clause-limits
returns-clause-limits c =
    let before = (goal.at.returns-clause-limits c).After-replay in
    let opened = before.in_ok-manager.ensures.ok in
    let replayed = c.in_ok-replay.ensures.ok in (
      replayed.limit ∙ ap (λ (m : Managed). m.start.limit) opened,
      replayed.recent ∙ ap (λ (m : Managed). m.start.recent) opened,
      replayed.rule ∙ ap (λ (m : Managed). m.start.rule) opened,
    )

pub returns-clause-rows : goal.returns-clause-rows
returns-clause-rows c =
    let before = (goal.at.returns-clause-rows c).After-replay in
    c.in_ok-replay.ensures.ok.rows_are
    ∙ (λ i. rows_after (opened_rows before i) (map (λ f. decoded (opened_schema before i) c.args.table f.payload.now)
    (take (length c.deref.result.now - c.in-Ok.skipped) (drop c.in-Ok.skipped c.deref.result.now))))
    ∙ ap (rows_after c.args.image.table.rows) (since before)

pub returns-clause-number : goal.returns-clause-number
returns-clause-number c =
    let before = (goal.at.returns-clause-number c).After-replay in
    let count : length (take (length c.deref.result.now - c.in-Ok.skipped) (drop c.in-Ok.skipped c.deref.result.now))
    ≡ length (logged_since (decoded c.args.image.table.schema c.args.table) c.args.frames.seed c.args.frames.base c.args.image.number
    c.args.frames.bytes.now) =
    sym (length-map _ _) ∙ ap (λ (es : List (List Entry)). length es) (since before) in
    c.in_ok-replay.ensures.ok.number ∙ (λ i. opened_number before i + count i)

pub returns-clause-reached : goal.returns-clause-reached
returns-clause-reached c =
    let read : Read = read_of c.args.frames.seed (c.args.frames.base + 1) c.args.frames.bytes.now in
    let count : length read.logged ≡ length c.in_ok-reading.reading.frames.items =
    ap (λ (r : Read). length r.logged) (sym c.in_ok-reading.ensures) ∙ length-map c.in_ok-reading.reading.frames.items logged_in in
    let found = c.in-Ok.ensures.ok in
    record { from = found.0; upto = omega (arith, found.1, count, c.len.ensures) }

pub returns-clause-newest : goal.returns-clause-newest
returns-clause-newest c =
    let before = (goal.at.returns-clause-newest c).After-replay in
    let frames = c.args.frames in
    let read : Read = read_of frames.seed (frames.base + 1) frames.bytes.now in
    let j = c.args.image.number - frames.base in
    let slice = take (length c.deref.result.now - c.in-Ok.skipped) (drop c.in-Ok.skipped c.deref.result.now) in
    let payloads : length slice ≡ length (drop j read.logged) =
    sym (length-map slice (λ (f : Frame). f.payload.now))
    ∙ ap (λ (ps : List (List ℕ)). length ps) (those_since (λ (bytes : List ℕ). bytes) before)
    ∙ length-map (drop j read.logged) (λ l. l.payload) in
    let left = length-drop j read.logged in
    let count : length read.logged ≡ length c.in_ok-reading.reading.frames.items =
    ap (λ (r : Read). length r.logged) (sym c.in_ok-reading.ensures) ∙ length-map c.in_ok-reading.reading.frames.items logged_in in
    let found = c.in-Ok.ensures.ok in
    let opened = opened_number before in
    let replayed = c.in_ok-replay.ensures.ok.number in
    omega (arith, found.0, found.1, count, c.len.ensures, opened, replayed, payloads, left)

pub returns-clause-read : goal.returns-clause-read
returns-clause-read c =
    let before = (goal.at.returns-clause-read c).After-replay in
    let slice = take (length c.deref.result.now - c.in-Ok.skipped) (drop c.in-Ok.skipped c.deref.result.now) in
    subst (λ (e : Columns × List (List ℕ)). AreRead e.0 c.args.table e.1)
    (λ i. (opened_schema before i, those_since (λ (bytes : List ℕ). bytes) before i)) c.in_ok-replay.ensures.read

-- what is passed on as an error is that error
passed_on : {A E : Type 0} (r : Result A E) (x : E) (P : E → Type 0) → IsErrAnd r (λ y. y ≡ x) → P x → IfErr r P
passed_on (Ok a) x P h p = tt
passed_on (Err y) x P h p = subst P (sym h) p

pub returns-in_err-manager-clause-caused : goal.returns-in_err-manager-clause-caused
returns-in_err-manager-clause-caused c =
    let image = c.args.image in
    let logged = logged_since (decoded image.table.schema c.args.table) c.args.frames.seed c.args.frames.base image.number c.args.frames.bytes.now in
    passed_on c.from_residual-in_err-manager.result c.in_err-manager.field-0.0
    (IsCaused c.args.limits.recent c.args.limits.row_limit image.table.rows logged) c.from_residual-in_err-manager.ensures.1
    (c.in_err-manager.ensures.caused logged)

pub returns-in_err-replay-clause-caused : goal.returns-in_err-replay-clause-caused
returns-in_err-replay-clause-caused c =
    let before = (goal.at.returns-in_err-replay-clause-caused c).After-replay in
    let image = c.args.image in
    let logged = logged_since (decoded image.table.schema c.args.table) c.args.frames.seed c.args.frames.base image.number c.args.frames.bytes.now in
    let slice = take (length c.deref.result.now - c.in-Ok.skipped) (drop c.in-Ok.skipped c.deref.result.now) in
    let limit : c.in_ok-manager.manager.start.limit ≡ c.args.limits.row_limit = ap (λ (m : Managed). m.start.limit) c.in_ok-manager.ensures.ok in
    let said : map (λ f. decoded c.in_ok-manager.manager.schema c.args.table f.payload.now) slice ≡ logged =
    (λ i. map (λ f. decoded (opened_schema before i) c.args.table f.payload.now) slice) ∙ since before in
    passed_on c.from_residual-in_err-replay.result c.in_err-replay.field-0.0
    (IsCaused c.args.limits.recent c.args.limits.row_limit image.table.rows logged) c.from_residual-in_err-replay.ensures.1
    (subst (λ (e : ℕ × (List Row × List (List Entry))). IsCaused c.args.limits.recent e.0 e.1.0 e.1.1 c.in_err-replay.field-0.0)
    (λ i. (limit i, (opened_rows before i, said i))) (c.in_err-replay.ensures.caused c.args.limits.recent))

-- the frames that are replayed are those since the image
logged_slice : (c : After-replay) → map logged_in (take (length c.deref.result.now - c.in-Ok.skipped) (drop c.in-Ok.skipped c.deref.result.now))
    ≡ frames_behind c.args.frames.seed c.args.frames.base c.args.image.number c.args.frames.bytes.now
logged_slice c =
    let read : Read = read_of c.args.frames.seed (c.args.frames.base + 1) c.args.frames.bytes.now in
    let items = c.in_ok-reading.reading.frames.items in
    ap (λ (fs : List Frame). map logged_in (take (length fs - c.in-Ok.skipped) (drop c.in-Ok.skipped fs))) c.deref.ensures.value
    ∙ frames_left items c.in-Ok.skipped read (ap (λ (r : Read). r.logged) c.in_ok-reading.ensures)
    ∙ ap (λ n. drop n read.logged) c.in-Ok.ensures.ok.2

pub returns-in_err-replay-clause-named : goal.returns-in_err-replay-clause-named
returns-in_err-replay-clause-named c =
    let before = (goal.at.returns-in_err-replay-clause-named c).After-replay in
    let image = c.args.image in
    let since = frames_behind c.args.frames.seed c.args.frames.base image.number c.args.frames.bytes.now in
    passed_on c.from_residual-in_err-replay.result c.in_err-replay.field-0.0
    (λ (f : RecoverFault). IsMisfit f → IsNamed image.table.schema c.args.table since f) c.from_residual-in_err-replay.ensures.1
    (λ misfit. subst (λ (e : Columns × List Logged). IsNamed e.0 c.args.table e.1 c.in_err-replay.field-0.0)
    (λ i. (opened_schema before i, logged_slice before i)) (c.in_err-replay.ensures.named misfit))

pub returns-clause-prefix : goal.returns-clause-prefix
returns-clause-prefix c = λ t commits safe crashed image.
    let before = (goal.at.returns-clause-prefix c).After-replay in
    let slice = take (length c.deref.result.now - c.in-Ok.skipped) (drop c.in-Ok.skipped c.deref.result.now) in
    let count : length slice
    ≡ length (logged_since (decoded c.args.image.table.schema c.args.table) c.args.frames.seed c.args.frames.base c.args.image.number
    c.args.frames.bytes.now) =
    sym (length-map _ _) ∙ ap (λ (es : List (List Entry)). length es) (since before) in
    has_prefix c.recovery_is_a_prefix.ensures (decoded c.args.image.table.schema c.args.table) c.args.image.table.schema c.args.frames.seed
    c.args.frames.base t commits safe c.args.image.number c.args.frames.bytes.now c.args.image.table.rows c.replay.new.manager crashed image
    (c.in_ok-replay.ensures.ok.rows_are
    ∙ (λ i. rows_after (opened_rows before i) (map (λ f. decoded (opened_schema before i) c.args.table f.payload.now) slice))
    ∙ ap (rows_after c.args.image.table.rows) (since before))
    (c.in_ok-replay.ensures.ok.number ∙ (λ i. opened_number before i + count i))

-- ---- a sound crash

-- what is read after it ends in no fault
pub returns-in-Rot-clause-sound : goal.returns-in-Rot-clause-sound
returns-in-Rot-clause-sound c = λ t commits safe crash said image.
    subst MayEnd (sym (ap (λ (r : Read). r.ending) c.in_ok-reading.ensures) ∙ c.in-Rot.is)
    (ends_well c.a_crash_leaves_whole_frames.ensures (decoded c.args.image.table.schema c.args.table) c.args.image.table.schema
    c.args.frames.seed c.args.frames.base t commits safe c.args.frames.bytes.now crash)

pub returns-in-Gap-clause-sound : goal.returns-in-Gap-clause-sound
returns-in-Gap-clause-sound c = λ t commits safe crash said image.
    subst MayEnd (sym (ap (λ (r : Read). r.ending) c.in_ok-reading.ensures) ∙ c.in-Gap.is)
    (ends_well c.a_crash_leaves_whole_frames.ensures (decoded c.args.image.table.schema c.args.table) c.args.image.table.schema
    c.args.frames.seed c.args.frames.base t commits safe c.args.frames.bytes.now crash)

-- it goes on from the image
pub returns-in-Err-clause-sound : goal.returns-in-Err-clause-sound
returns-in-Err-clause-sound c = λ t commits safe crash said image.
    let reach = reaches_image c.a_crash_leaves_whole_frames.ensures (decoded c.args.image.table.schema c.args.table)
    c.args.image.table.schema c.args.frames.seed c.args.frames.base t commits safe c.args.image.number c.args.frames.bytes.now
    c.args.image.table.rows crash image in
    let short = (c.in-Err.ensures.missing.1 image.from).0 in
    let count : length (read_of c.args.frames.seed (c.args.frames.base + 1) c.args.frames.bytes.now).logged
    ≡ length c.in_ok-reading.reading.frames.items =
    ap (λ (r : Read). length r.logged) (sym c.in_ok-reading.ensures) ∙ length-map c.in_ok-reading.reading.frames.items logged_in in
    absurd (omega (arith, reach, short, count, c.len.ensures))

-- and says commits over its table
pub returns-in_err-replay-clause-sound : goal.returns-in_err-replay-clause-sound
returns-in_err-replay-clause-sound c =
    let before = (goal.at.returns-in_err-replay-clause-sound c).After-replay in
    let m = c.in_ok-manager.manager in
    let columns = c.args.image.table.schema in
    let over : (m.schema, newest_table m) ≡ (columns, table_of columns.key_cols c.args.image.table.rows) =
    (λ i. (opened_schema before i, opened_table before i)) in
    passed_on c.from_residual-in_err-replay.result c.in_err-replay.field-0.0 _ c.from_residual-in_err-replay.ensures.1
    (λ t commits safe crash said image.
    let found = says_commits c.a_crash_leaves_whole_frames.ensures columns c.args.table c.args.frames.seed c.args.frames.base t commits safe
    c.args.image.number c.args.frames.bytes.now c.args.image.table.rows crash said image in
    late_blameless c.in_err-replay.field-0.0 c.in_err-replay.ensures.late
    (λ misfit. c.in_err-replay.ensures.fits misfit found.0
    (subst (λ (e : Columns × Table). AreCommits e.0 e.1 found.0) (sym over) found.1)
    (subst (λ (e : Columns × Table). AreSaid e.0 c.args.table e.1 found.0
    (map (λ f. f.payload.now) (take (length c.deref.result.now - c.in-Ok.skipped) (drop c.in-Ok.skipped c.deref.result.now)))) (sym over)
    (subst (AreSaid columns c.args.table (table_of columns.key_cols c.args.image.table.rows) found.0)
    (sym (those_since (λ (bytes : List ℕ). bytes) before)) found.2))))
