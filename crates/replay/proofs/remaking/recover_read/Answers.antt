use Rattle.std.proofs.Common.{◌≡◌, ℕ, ◌+◌, ◌-◌, ◌≤◌, List, length, map, sym, ap, ◌∙◌, subst, arith}
use Rattle.std.specs.Prelude.{IfErr, IfSome}
use Rattle.std.proofs.lemmas.List.{length-drop, length-map}
use Rattle.codec.specs.Reading.{decoded}
use Rattle.journal.specs.Frame.{Logged}
use Rattle.journal.specs.Reading.{logged_in, read_of}
use Rattle.model.specs.Effects.{Effects}
use Rattle.model.specs.Table.{Table}
use Rattle.replay.specs.Own.{Given, own_frames}
use Rattle.replay.specs.Recovered.{IsBlameless, IsCrashed, IsImage, frames_since, logged_since}
use Rattle.replay.specs.Replayed.{AreSaid}
use Rattle.replay.proofs.OwnLemmas.{length-own_frames, passed_on}
use Rattle.replay.proofs.RecoveryLemmas.{has_prefix, late_blameless, says_commits}
use Rattle.replay.proofs.remaking.recover_read.Goals.{After-as_slice}
use Rattle.replay.proofs.remaking.recover_read.Goals as goal

module _ (c : After-as_slice) where
  abbrev given : Given
  given = c.args.frames.now

  abbrev since : List Logged
  since = frames_since given.seed given.base c.args.image.number given.bytes

  -- the frames that are made again are the table's own since the image
  own_since : map logged_in c.as_slice.result.now ≡ own_frames c.args.table since
  own_since =
      ap (map logged_in) c.as_slice.ensures.value
      ∙ subst (λ o. IfSome o (λ own. map logged_in own.items ≡ own_frames c.args.table since)) c.in-Some.is c.in_ok-own.ensures

  own_few : length c.as_slice.result.now ≤ c.in_ok-newest.newest
  own_few =
      let count : length c.as_slice.result.now ≡ length (own_frames c.args.table since) =
      sym (length-map c.as_slice.result.now logged_in) ∙ ap (λ (ls : List Logged). length ls) own_since in
      let logged = (read_of given.seed (given.base + 1) given.bytes).logged in
      let few = length-own_frames c.args.table since in
      let left = length-drop (c.args.image.number - given.base) logged in
      let newest = c.in_ok-newest.ensures.newest in
      omega (arith, count, few, left, newest)

pub made_again-requires-clause-many : goal.made_again-requires-clause-many
made_again-requires-clause-many c = own_few ((goal.at.made_again-requires-clause-many c).After-as_slice)

pub returns-in_err-newest-clause-caused : goal.returns-in_err-newest-clause-caused
returns-in_err-newest-clause-caused c =
    let given = c.args.frames.now in
    passed_on c.from_residual.result c.in_err-newest.field-0.0 _ c.from_residual.ensures.1
    (c.in_err-newest.ensures.caused c.args.limits.recent c.args.limits.row_limit c.args.image.table.rows
    (logged_since (decoded c.args.image.table.schema c.args.table) given.seed given.base c.args.image.number given.bytes))

pub returns-in_err-newest-clause-sound : goal.returns-in_err-newest-clause-sound
returns-in_err-newest-clause-sound c =
    passed_on c.from_residual.result c.in_err-newest.field-0.0 _ c.from_residual.ensures.1
    (λ t commits safe crash said image.
    c.in_err-newest.ensures.sound (decoded c.args.image.table.schema c.args.table) c.args.image.table.schema t commits safe
    c.args.image.table.rows crash image)

pub returns-in_default-clause-sound : goal.returns-in_default-clause-sound
returns-in_default-clause-sound c =
    let image = c.args.image in
    let inside = c.frames.inside in
    let is : ◌≡◌ {A = Given} (record { seed = inside.seed; base = inside.base; bytes = c.args.bytes.now }) c.args.frames.now =
    (λ i. record { seed = (c.frames.view_is i).seed; base = (c.frames.view_is i).base; bytes = c.requires.same i }) in
    subst
    (λ (g : Given). IfErr c.recover.result (λ fault. (t : Table) (commits : List Effects) (safe : ℕ)
    → (crash : IsCrashed (decoded image.table.schema c.args.table) image.table.schema g.seed g.base t commits safe g.bytes)
    → AreSaid image.table.schema c.args.table t commits (map (λ (l : Logged). l.payload) crash.logged)
    → IsImage g.base t commits safe image.number image.table.rows → IsBlameless fault)) is c.recover.ensures.sound

pub returns-in_err-manager-clause-sound : goal.returns-in_err-manager-clause-sound
returns-in_err-manager-clause-sound c =
    let before = (goal.at.returns-in_err-manager-clause-sound c).After-as_slice in
    let given = c.args.frames.now in
    passed_on c.from_residual-in_err-manager.result c.in_err-manager.field-0.0 _ c.from_residual-in_err-manager.ensures.1
    (λ t commits safe crash said image.
    let found = says_commits c.a_crash_leaves_whole_frames.ensures c.args.image.table.schema c.args.table given.seed given.base t commits safe
    c.args.image.number given.bytes c.args.image.table.rows crash said image in
    late_blameless c.in_err-manager.field-0.0 c.in_err-manager.ensures.late
    (λ misfit. c.in_err-manager.ensures.fits misfit (since before) (own_since before) found.0 found.1 found.2))

pub returns-clause-prefix : goal.returns-clause-prefix
returns-clause-prefix c = λ t commits safe crashed image.
    let before = (goal.at.returns-clause-prefix c).After-as_slice in
    let given = c.args.frames.now in
    let said = decoded c.args.image.table.schema c.args.table in
    let logged = (read_of given.seed (given.base + 1) given.bytes).logged in
    let count : length (logged_since said given.seed given.base c.args.image.number given.bytes) ≡ length (since before) = length-map _ _ in
    let left = length-drop (c.args.image.number - given.base) logged in
    let newest = c.in_ok-newest.ensures.newest in
    let from = c.in_ok-newest.ensures.reached.from in
    let upto = c.in_ok-newest.ensures.reached.upto in
    let number = c.in_ok-manager.ensures.number in
    has_prefix c.recovery_is_a_prefix.ensures said c.args.image.table.schema given.seed given.base t commits safe c.args.image.number
    given.bytes c.args.image.table.rows c.in_ok-manager.manager crashed image (c.in_ok-manager.ensures.rows (since before) (own_since before))
    (omega (arith, count, left, newest, from, upto, number))
