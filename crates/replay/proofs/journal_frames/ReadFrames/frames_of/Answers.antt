use Rattle.std.proofs.Common.{◌≡◌, ◌∙◌, ◌+◌, ℕ, List, [], Some, length, map, sym, ap, subst}
use Rattle.std.specs.Prelude.{IfSome}
use Rattle.std.specs.Option.{option_copied}
use Rattle.journal.specs.Reading.{logged_in, read_of}
use Rattle.replay.specs.Own.{AreWithin, Given, frames_after, own_frames, spots_at, spots_in}
use Rattle.replay.specs.Recovered.{frames_since}
use Rattle.replay.specs.declared.spots.Spot.{Spot}
use Rattle.replay.proofs.PlaceLemmas.{kept_frames, kept_none, kept_over, kept_some}
use Rattle.replay.proofs.journal_frames.ReadFrames.frames_of.Goals.{After-get}
use Rattle.replay.proofs.journal_frames.ReadFrames.frames_of.Goals as goal

module _ (c : After-get) where
  abbrev given : Given
  given = c.args.self.now

  -- the places that are kept of the table
  there : spots_at (λ v. v.items) c.in-Some.spots c.args.table
      ≡ spots_in c.args.table 0 (read_of given.seed (given.base + 1) given.bytes).logged
  there =
      let kept = kept_over (λ v. v.items) _ given _ _ _ _ c.self.view_is c.self.invariant in
      subst (λ o. IfSome o (λ s. (table : ℕ) → spots_at (λ v. v.items) s table
      ≡ spots_in table 0 (read_of given.seed (given.base + 1) given.bytes).logged)) c.in-Some.is kept.spots_are c.args.table

  -- those that were found
  found : (own : _) → c.get.result ≡ Some own → own.now.items ≡ spots_in c.args.table 0 (read_of given.seed (given.base + 1) given.bytes).logged
  found own is =
      kept_some (λ v. v.items) _ own.now (spots_in c.args.table 0 (read_of given.seed (given.base + 1) given.bytes).logged)
      (sym c.get.ensures.value ∙ ap option_copied is) there

  own_is : (number : ℕ) (spots : List Spot)
      → spots ≡ spots_in c.args.table 0 (read_of given.seed (given.base + 1) given.bytes).logged
      → AreWithin (length c.args.bytes.now) spots
      × (frames_after c.args.bytes.now number spots
      ≡ own_frames c.args.table (frames_since given.seed given.base number given.bytes))
  own_is number spots is =
      subst (λ bytes. AreWithin (length bytes) spots
      × (frames_after bytes number spots ≡ own_frames c.args.table (frames_since given.seed given.base number given.bytes)))
      (sym c.requires.same) (kept_frames given.seed given.base given.bytes c.args.table number spots is)

pub frames_after-requires : goal.frames_after-requires
frames_after-requires c =
    let before = (goal.at.frames_after-requires c).After-get in
    (own_is before c.args.number c.as_slice.result.now (c.as_slice.ensures.value ∙ found before c.in-Some-get.own c.in-Some-get.is)).0

pub returns-in_ok-frames_after-in-Some-get : goal.returns-in_ok-frames_after-in-Some-get
returns-in_ok-frames_after-in-Some-get c =
    let before = (goal.at.returns-in_ok-frames_after-in-Some-get c).After-get in
    c.in_ok-frames_after-in-Some-get.ensures
    ∙ (own_is before c.args.number c.as_slice.result.now (c.as_slice.ensures.value ∙ found before c.in-Some-get.own c.in-Some-get.is)).1

pub returns-in-None : goal.returns-in-None
returns-in-None c =
    let before = (goal.at.returns-in-None c).After-get in
    let none : [] ≡ spots_in c.args.table 0 (read_of (given before).seed ((given before).base + 1) (given before).bytes).logged =
    kept_none (λ v. v.items) _ (spots_in c.args.table 0 (read_of (given before).seed ((given before).base + 1) (given before).bytes).logged)
    (sym c.get.ensures.value ∙ ap option_copied c.in-None.is) (there before) in
    ap (map logged_in) c.new.ensures.items ∙ (own_is before c.args.number [] none).1
