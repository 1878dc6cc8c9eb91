use Rattle.std.proofs.Common.{◌<◌, length, ap, ◌∙◌, arith}
use Rattle.stable.specs.Rows.{column_at}
use Rattle.stable.specs.Stable.{Stable}
use Rattle.stable.proofs.RowsLemmas.{width, finds_column}
use Rattle.stable.proofs.table.StableTable.column.Goals as goal
use Rattle.std.proofs.lemmas.Grind.{common_steps}

pub index-requires : goal.index-requires
index-requires c = grind (arith, common_steps, c.requires, c.self.invariant, width)

pub returns : goal.returns
returns c =
    let inside = c.self.inside in
    let lt : c.args.col < length inside.schema.types =
    omega (arith, c.requires, ap (λ (s : Stable). length s.schema.types) c.self.view_is) in
    finds_column inside.schema inside.count inside.columns.items c.self.invariant c.args.col c.index.result.now c.index.ensures lt
    ∙ ap (λ (s : Stable). column_at s.schema.types s.rows c.args.col) c.self.view_is
