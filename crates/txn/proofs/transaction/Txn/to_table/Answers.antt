use Rattle.std.proofs.Common.{◌≡◌, List, length, ap, ◌∙◌, arith}
use Rattle.std.proofs.lemmas.List.{length-map}
use Rattle.std.proofs.lemmas.Result.{IfOk-weaker}
use Rattle.values.specs.declared.row.Row.{Row}
use Rattle.stable.specs.Stable.{Stable}
use Rattle.model.specs.Table.{rows_of}
use Rattle.merge.specs.Image.{image_rows}
use Rattle.txn.specs.Txn.{image_of}
use Rattle.txn.proofs.TxnLemmas.{image_within}
use Rattle.txn.proofs.transaction.Txn.to_table.Goals as goal
use Rattle.std.proofs.lemmas.Grind.{common_steps}

pub to_table-requires : goal.to_table-requires
to_table-requires c =
    grind (arith, common_steps, c.layers.ensures.rows, c.layers.ensures.lawful, c.layers.ensures.lawful.limited, length-map, image_within)

pub returns : goal.returns
returns c = grind (arith, common_steps, c.layers.ensures.schema, c.layers.ensures.rows, c.to_table.ensures)
