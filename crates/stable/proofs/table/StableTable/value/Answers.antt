use Rattle.std.proofs.Common.{◌<◌, length, sym, ap, ◌∙◌, arith}
use Rattle.values.specs.Lent.{value_of}
use Rattle.stable.specs.Stable.{Stable}
use Rattle.stable.specs.Rows.{cell_of}
use Rattle.stable.proofs.RowsLemmas.{length_rows, has_value, finds_cell}
use Rattle.stable.proofs.table.StableTable.value.Goals as goal
use Rattle.std.proofs.lemmas.Grind.{common_steps}

pub get-requires : goal.get-requires
get-requires c = grind (arith, common_steps, c.requires.row, c.requires.column, c.self.invariant, c.index.ensures, length_rows, has_value)

pub returns : goal.returns
returns c =
    let inside = c.self.inside in
    let within : c.args.sid < inside.count =
    omega
    (arith, c.requires.row, ap (λ (s : Stable). length s.rows) c.self.view_is, length_rows inside.count inside.columns.items)
    in
    let lt : c.args.col < length inside.schema.types =
    omega (arith, c.requires.column, ap (λ (s : Stable). length s.schema.types) c.self.view_is) in
    ap (λ (s : Stable). cell_of s c.args.sid c.args.col) (sym c.self.view_is)
    ∙ finds_cell inside.schema inside.count inside.columns.items c.self.invariant c.args.sid c.args.col c.index.result.now
    c.index.ensures lt within (value_of c.get.result) c.get.ensures
