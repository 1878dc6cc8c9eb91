use Rattle.std.proofs.Common.{◌≡◌, Bor, ℕ, ◌-◌, ◌<◌, ◌≤◌, Option, Some, None, length, ap, sym, ◌∙◌, arith}
use Rattle.std.specs.Prelude.{IfSome, slice_get}
use Rattle.std.specs.Option.{option_copied}
use Rattle.model.specs.Merging.{merged_rows}
use Rattle.delta.specs.Tree.{Tree}
use Rattle.txn.specs.Version.{TableVersion}
use Rattle.manager.specs.Managed.{newest_number}
use Rattle.manager.specs.Kept.{kept_tree, rows_at}
use Rattle.manager.proofs.ChangesLemmas.{kept_there, kept_none_past, kept_none_old, kept_merges}
use Rattle.manager.proofs.KeptLemmas.{holds}
use Rattle.manager.proofs.manager.Manager.changes.Goals.{After-len-count, then-number-newest-via-then-number-newest, then-number-newest-via-else-number-newest+then-newest-number}
use Rattle.manager.proofs.manager.Manager.changes.Goals as goal

pub returns-then-number-newest-clause-kept : goal.returns-then-number-newest-clause-kept
returns-then-number-newest-clause-kept c =
    let i = c.self.inside in
    let h = holds c.self.view_is c.self.invariant.0 in
    let number = c.number-newest.ensures ∙ ap (λ (v : TableVersion). v.number) h.newest_is in
    let count = c.len-count.ensures.len in
    elim c.then-number-newest.branch [
      | then-number-newest-via-then-number-newest w ↦
          let past = w.if-number-newest.true in
          kept_none_past c.args.self.now i.newest.layers i.newest i.kept.items h c.args.number (omega (arith, number, past))
      | then-number-newest-via-else-number-newest+then-newest-number w ↦
          let within = w.if-number-newest.false in
          let far = w.if-newest-number.true in
          kept_none_old c.args.self.now i.newest.layers i.newest i.kept.items h c.args.number (omega (arith, number, within))
          (omega (arith, number, within, far, count))
    ]

-- the tree that is found is the one that is kept of the number
module _ (c : After-len-count) where
  abbrev place : ℕ
  place = (c.len-count.result - 1) - (c.number-newest.result - c.args.number)

  -- the places of both
  same_place : place ≡ (length c.self.inside.kept.items - 1) - (newest_number c.args.self.now - c.args.number)
  same_place =
      let h = holds c.self.view_is c.self.invariant.0 in
      let number = c.number-newest.ensures ∙ ap (λ (v : TableVersion). v.number) h.newest_is in
      (λ j. (c.len-count.ensures.len j - 1) - (number j - c.args.number))

  module _ (within : c.args.number ≤ c.number-newest.result)
      (near : c.number-newest.result - c.args.number < c.len-count.result) where
    in_reach : (c.args.number ≤ newest_number c.args.self.now)
        × (newest_number c.args.self.now - c.args.number < length c.self.inside.kept.items)
    in_reach =
        let h = holds c.self.view_is c.self.invariant.0 in
        let number = c.number-newest.ensures ∙ ap (λ (v : TableVersion). v.number) h.newest_is in
        let count = c.len-count.ensures.len in
        (omega (arith, number, within), omega (arith, number, near, count))

    found : slice_get c.self.inside.kept.items place ≡ kept_tree c.args.self.now c.args.number
    found =
        let i = c.self.inside in
        let h = holds c.self.view_is c.self.invariant.0 in
        ap (slice_get i.kept.items) same_place
        ∙ kept_there c.args.self.now i.newest.layers i.newest i.kept.items h c.args.number in_reach.0 in_reach.1

    merges_so : (o : Option (Bor Tree)) → option_copied o ≡ kept_tree c.args.self.now c.args.number → IfSome o
        (λ tree. merged_rows (rows_at c.args.self.now (c.args.number - 1)) tree.now.entries ≡ rows_at c.args.self.now c.args.number)
    merges_so None is = tt
    merges_so (Some tree) is =
        let i = c.self.inside in
        let h = holds c.self.view_is c.self.invariant.0 in
        kept_merges c.args.self.now i.newest.layers i.newest i.kept.items h c.args.number tree.now in_reach.0 in_reach.1 (sym is)

pub returns-clause-kept : goal.returns-clause-kept
returns-clause-kept c =
    c.get.ensures
    ∙ found (goal.at.returns-clause-kept c).After-len-count (omega (arith, c.if-number-newest.false))
    (omega (arith, c.if-newest-number.false))

pub returns-clause-merged : goal.returns-clause-merged
returns-clause-merged c =
    let before = (goal.at.returns-clause-merged c).After-len-count in
    let within : c.args.number ≤ c.number-newest.result = omega (arith, c.if-number-newest.false) in
    let near : c.number-newest.result - c.args.number < c.len-count.result = omega (arith, c.if-newest-number.false) in
    merges_so before within near c.get.result (c.get.ensures ∙ found before within near)
