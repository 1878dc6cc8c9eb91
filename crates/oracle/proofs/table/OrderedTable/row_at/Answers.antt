use Rattle.std.proofs.Common.{◌∙◌, ap}
use Rattle.values.specs.Orders.{key_cmp}
use Rattle.model.specs.Maps.{find}
use Rattle.oracle.proofs.table.OrderedTable.row_at.Goals as goal

pub returns : goal.returns
returns c = c.get.ensures.value ∙ ap (find key_cmp c.args.key.now) c.self.view_is
