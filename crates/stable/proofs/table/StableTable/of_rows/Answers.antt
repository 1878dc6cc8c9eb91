use Rattle.std.proofs.Common.{List, ap, ◌∙◌, arith, rules}
use Rattle.values.specs.declared.row.Row.{Row}
use Rattle.stable.proofs.FaultLemmas.{no_build_fault}
use Rattle.stable.proofs.StableLemmas.{all_shaped}
use Rattle.stable.proofs.WholeLemmas.{AreWhole, all_typed, all_even, all_rows, all_stable}
use Rattle.stable.proofs.table.StableTable.of_rows.Goals.{In_ok-columns}
use Rattle.stable.proofs.table.StableTable.of_rows.Goals as goal
use Rattle.std.proofs.lemmas.Grind.{common_steps}

pub columns_of-requires : goal.columns_of-requires
columns_of-requires c = grind (arith, common_steps, c.types.ensures, c.requires, all_shaped, no_build_fault)

-- the columns that were filled are those of the rows
whole : (c : In_ok-columns) → AreWhole c.args.schema c.args.rows.now c.in_ok-columns.columns.items
whole c = search rules

pub of_columns-requires-clause-typed : goal.of_columns-requires-clause-typed
of_columns-requires-clause-typed c = grind (arith, common_steps, all_typed, whole)

pub of_columns-requires-clause-even : goal.of_columns-requires-clause-even
of_columns-requires-clause-even c = grind (arith, common_steps, all_even, whole)

pub of_columns-requires-clause-table : goal.of_columns-requires-clause-table
of_columns-requires-clause-table c =
    all_stable c.args.schema c.args.rows.now c.in_ok-columns.columns.items
    (whole (goal.at.of_columns-requires-clause-table c).In_ok-columns)

pub returns : goal.returns
returns c =
    c.of_columns.ensures
    ∙ ap (λ (rs : List Row). record { schema = c.args.schema; rows = rs })
    (all_rows c.args.schema c.args.rows.now c.in_ok-columns.columns.items (whole (goal.at.returns c).In_ok-columns))
