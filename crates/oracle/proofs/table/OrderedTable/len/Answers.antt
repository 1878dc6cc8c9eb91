use Rattle.std.proofs.Common.{ap, ◌∙◌, sym}
use Rattle.values.specs.Orders.{key_cmp}
use Rattle.model.specs.Maps.{is_sorted}
use Rattle.oracle.proofs.OrderedMapLemmas.{is_true, is_sorted-ordered}
use Rattle.oracle.proofs.table.OrderedTable.len.Goals as goal

pub returns-clause-ascending : goal.returns-clause-ascending
returns-clause-ascending c =
    ap (is_sorted key_cmp) (sym c.self.view_is)
    ∙ is_true _ (is_sorted-ordered key_cmp c.self.inside.rows.entries c.len.ensures.ordered)
