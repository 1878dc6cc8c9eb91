use Rattle.std.proofs.Common.{◌≡◌, ℕ, ◌-◌, ◌≤◌, List, ◌++◌, length, take, drop, ap, sym, ◌∙◌, subst, arith}
use Rattle.std.specs.Prelude.{min}
use Rattle.circular_buffer.specs.Buffer.{Buffer}
use Rattle.delta.specs.Tree.{Tree}
use Rattle.txn.specs.Version.{TableVersion}
use Rattle.manager.specs.History.{Recorded}
use Rattle.manager.specs.Managed.{Managed, managed_of, newest_number}
use Rattle.manager.specs.Kept.{HoldsNewest, kept_trees}
use Rattle.manager.proofs.CutLemmas.{cut_off, cut_to_holds}
use Rattle.manager.proofs.manager.Manager.cut_to.Goals.{After-raise}
use Rattle.manager.proofs.manager.Manager.cut_to.Goals as goal

-- the number up to which trees go is above the floor, and no more than the newest; so many go
module _ (c : After-raise) where
  abbrev m : Managed
  m = managed_of c.self.inside.history c.self.inside.made c.self.inside.newest.layers

  abbrev count : ℕ
  count = c.len-count.result - c.min-left.result

  newest : c.number-newest.result ≡ newest_number m
  newest = c.number-newest.ensures ∙ ap (λ (v : TableVersion). v.number) c.self.invariant.0.newest_is

  above : m.floor ≤ c.min-floor.result
  above = omega (arith, newest, c.self.invariant.0.lawful.reached, c.floor.ensures, c.if-number-floor.false, c.min-floor.ensures)

  reached : c.min-floor.result ≤ newest_number m
  reached = omega (arith, newest, c.min-floor.ensures)

  count_is : count ≡ length c.self.inside.kept.items - min (length c.self.inside.kept.items) (newest_number m - c.min-floor.result)
  count_is = omega (arith, newest, c.len-count.ensures.len, c.min-left.ensures)

pub invariant_of-self : goal.invariant_of-self
invariant_of-self c =
    let i = c.self.inside in
    let l = i.newest.layers in
    let before = (goal.at.invariant_of-self c).After-raise in
    let holds = cut_to_holds (m before) l i.newest i.kept.items c.self.invariant.0 c.min-floor.result (count before) (above before)
    (reached before) (count_is before) in
    let history : c.raise.new.self ≡ record i.history { floor = c.min-floor.result } = c.raise.ensures in
    let kept : c.move_front.new.from.items ≡ drop (count before) i.kept.items = ap (λ (b : Buffer Tree). b.items) c.move_front.ensures.left in
    let P = λ (e : Recorded × List Tree). HoldsNewest (managed_of e.0 i.made l) l i.newest e.1 in (
      subst P (sym (λ j. (history j, kept j))) holds,
      ap (λ (b : Buffer Tree). b.capacity) c.move_front.ensures.left
          ∙ c.self.invariant.1
          ∙ sym (ap (λ (r : Recorded). r.start.recent) history),
    )

pub returns-clause-trees : goal.returns-clause-trees
returns-clause-trees c =
    let i = c.self.inside in
    let l = i.newest.layers in
    let before = (goal.at.returns-clause-trees c).After-raise in
    let cut = cut_off (m before) l i.newest i.kept.items c.self.invariant.0 c.min-floor.result (count before) (above before)
    (reached before) (count_is before) in
    let history : c.raise.new.self ≡ record i.history { floor = c.min-floor.result } = c.raise.ensures in
    let gone : c.move_front.new.to.items ≡ take (count before) i.kept.items = ap (λ (b : Buffer Tree). b.items) c.move_front.ensures.moved in
    (λ j. gone j ++ kept_trees (managed_of (history j) i.made l)) ∙ cut ∙ ap kept_trees c.self.view_is
