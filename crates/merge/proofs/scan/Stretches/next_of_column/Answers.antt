use Rattle.std.proofs.Common.{◌-◌, List, take, sym, subst}
use Rattle.values.specs.declared.row.Row.{Row as Cells}
use Rattle.merge.specs.Left.{image_left}
use Rattle.merge.specs.ColumnStretches.{PassesColumn, value_count}
use Rattle.merge.proofs.ColumnStretchLemmas.{passes-taken}
use Rattle.merge.proofs.scan.Stretches.next_of_column.Goals as goal

pub returns : goal.returns
returns c =
    let wanted = c.self.inside.left in
    let values = c.next_of_column-values.result in
    let left = image_left c.next_of_column-values.new.self in
    let passed =
    passes-taken c.args.col wanted (image_left c.self.inside.rows) left values c.next_of_column-values.ensures.values
    c.next_of_column-values.ensures.most in
    subst (λ n. PassesColumn c.args.col c.args.self.now values (take (wanted - n) left)) (sym c.count.ensures)
    (subst (λ (rows : List Cells). PassesColumn c.args.col rows values (take (wanted - value_count values) left)) c.self.view_is passed)
