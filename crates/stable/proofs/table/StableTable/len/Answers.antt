use Rattle.std.proofs.Common.{length, sym, ap, ◌∙◌}
use Rattle.stable.specs.Stable.{Stable}
use Rattle.stable.proofs.RowsLemmas.{length_rows}
use Rattle.stable.proofs.table.StableTable.len.Goals as goal

pub returns-clause-count : goal.returns-clause-count
returns-clause-count c =
    sym (length_rows c.self.inside.count c.self.inside.columns.items) ∙ ap (λ (s : Stable). length s.rows) c.self.view_is
