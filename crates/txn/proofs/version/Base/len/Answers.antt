use Rattle.std.proofs.Common.{◌≡◌, ap, ◌∙◌, sym, length, arith}
use Rattle.std.proofs.lemmas.List.{length-map}
use Rattle.model.specs.Table.{Table}
use Rattle.merge.specs.Image.{image_rows, image_table}
use Rattle.txn.proofs.version.Base.len.Goals as goal
use Rattle.std.proofs.lemmas.Grind.{common_steps}

pub returns : goal.returns
returns c = grind (arith, common_steps, c.len.ensures.count, c.image.ensures.table, length-map)
