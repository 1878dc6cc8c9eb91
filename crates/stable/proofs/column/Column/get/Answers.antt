use Rattle.std.proofs.Common.{◌<◌, length, slice_get, sym, ap, ◌∙◌, arith}
use Rattle.blocks.specs.Column.{Column}
use Rattle.values.specs.Lent.{value_of}
use Rattle.stable.proofs.ColumnLemmas.{has_block, has_place, finds}
use Rattle.stable.proofs.column.Column.get.Goals as goal
use Rattle.std.proofs.lemmas.Grind.{common_steps}

pub index-requires : goal.index-requires
index-requires c = grind (arith, common_steps, c.requires, c.self.invariant.blocked.counted, c.self.invariant.blocked, has_block)

pub get-requires : goal.get-requires
get-requires c =
    grind (arith, common_steps, c.requires, c.self.invariant.blocked.counted, c.self.invariant.blocked, c.index.ensures, has_place)

pub returns : goal.returns
returns c =
    let blocks = c.self.inside.blocks.items in
    let within : c.args.i < c.self.inside.count =
    omega (arith, c.requires, c.self.invariant.blocked.counted, ap (λ (s : Column). length s.values) c.self.view_is) in
    ap (λ (s : Column). slice_get s.values c.args.i) (sym c.self.view_is)
    ∙ finds c.self.inside.ty c.self.inside.count blocks c.self.invariant.blocked c.args.i within c.index.result.now
    c.index.ensures (value_of c.get.result) c.get.ensures
