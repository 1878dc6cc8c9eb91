use Rattle.std.proofs.Common.{◌≡◌, ◌∙◌, Option, Some, None, sym, ap, subst, arith}
use Rattle.std.specs.Option.{option_copied}
use Rattle.delta.specs.Tree.{Tree}
use Rattle.model.specs.Table.{row_at}
use Rattle.model.specs.Effects.{table_with}
use Rattle.merge.specs.Image.{AreBothStacked, AreStacked, stack_of, tree_over, read_rows, write_rows, image_table}
use Rattle.stable.specs.Stable.{table_in}
use Rattle.merge.proofs.StackLemmas.{read_rows_is, write_rows_is, image_table_is, image_table-none, rank-few}
use Rattle.merge.proofs.layers.Layers.get.Goals as goal

pub find_in-in_stable-requires : goal.find_in-in_stable-requires
find_in-in_stable-requires c = c.self.invariant.stacked.lower.over.table

pub find_over-in_write-requires-clause-few : goal.find_over-in_write-requires-clause-few
find_over-in_write-requires-clause-few c =
    let l = c.self.inside in
    let h = c.self.invariant.stacked in
    let top = tree_over l.stable.now.schema.key_cols (option_copied l.trans) in
    let t = table_in l.stable.now in
    let t1 = table_with t h.lower.effects in
    let key = c.cells-cells.result.now in
    let in_read = c.find_over-in_read.ensures.rank l.stable.now.schema t h.lower c.find_in-in_stable.ensures.rank in
    omega (
      arith,
      in_read,
      rank-few key t1 (read_rows (stack_of l.stable.now l.read.now l.write.now top))
          (read_rows_is l.stable.now l.read.now l.write.now top h),
      c.self.invariant.read_few,
    )

pub find_over-requires-clause-few : goal.find_over-requires-clause-few
find_over-requires-clause-few c =
    let l = c.self.inside in
    let h = c.self.invariant.stacked in
    let top = tree_over l.stable.now.schema.key_cols (option_copied l.trans) in
    let t = table_in l.stable.now in
    let t1 = table_with t h.lower.effects in
    let t2 = table_with t1 h.middle.effects in
    let key = c.cells-cells.result.now in
    let in_read = c.find_over-in_read.ensures.rank l.stable.now.schema t h.lower c.find_in-in_stable.ensures.rank in
    let in_write = c.find_over-in_write.ensures.rank l.stable.now.schema t1 h.middle in_read in
    omega (
      arith,
      in_write,
      rank-few key t2 (write_rows (stack_of l.stable.now l.read.now l.write.now top))
          (write_rows_is l.stable.now l.read.now l.write.now top h),
      c.self.invariant.write_few,
    )

pub returns-in-None : goal.returns-in-None
returns-in-None c =
    let l = c.self.inside in
    let both : AreBothStacked l.stable.now l.read.now l.write.now =
    record { lower = c.self.invariant.stacked.lower; middle = c.self.invariant.stacked.middle } in
    let t = table_in l.stable.now in
    let t1 = table_with t both.lower.effects in
    let schema = l.stable.now.schema in
    let stable = c.find_in-in_stable.ensures in
    let read = c.find_over-in_read.ensures in
    let write = c.find_over-in_write.ensures in
    let in_read = read.rank schema t both.lower stable.rank in
    let row_read = read.row schema t both.lower stable.rank stable.row in
    let none : option_copied l.trans ≡ option_copied None = ap option_copied c.in-None.is in
    let view =
    ap (λ (o : Option Tree). stack_of l.stable.now l.read.now l.write.now (tree_over schema.key_cols o)) (sym none)
    ∙ c.self.view_is in
    write.row schema t1 both.middle in_read row_read
    ∙ (λ i. row_at ((sym (image_table-none l.stable.now l.read.now l.write.now both) ∙ ap image_table view) i) (c.cells-cells.ensures i))

pub returns-in-Some : goal.returns-in-Some
returns-in-Some c =
    let l = c.self.inside in
    let schema = l.stable.now.schema in
    let trans = c.in-Some.trans.now in
    let some : option_copied l.trans ≡ Some trans = ap option_copied c.in-Some.is in
    let h =
    subst (λ (o : Option Tree). AreStacked l.stable.now l.read.now l.write.now (tree_over schema.key_cols o)) some
    c.self.invariant.stacked in
    let view =
    ap (λ (o : Option Tree). stack_of l.stable.now l.read.now l.write.now (tree_over schema.key_cols o)) (sym some)
    ∙ c.self.view_is in
    let t = table_in l.stable.now in
    let t1 = table_with t h.lower.effects in
    let t2 = table_with t1 h.middle.effects in
    let stable = c.find_in-in_stable.ensures in
    let read = c.find_over-in_read.ensures in
    let write = c.find_over-in_write.ensures in
    let in_read = read.rank schema t h.lower stable.rank in
    let in_write = write.rank schema t1 h.middle in_read in
    let row_read = read.row schema t h.lower stable.rank stable.row in
    let row_write = write.row schema t1 h.middle in_read row_read in
    c.find_over.ensures.row schema t2 h.upper in_write row_write
    ∙ (λ i. row_at ((sym (image_table_is l.stable.now l.read.now l.write.now trans h) ∙ ap image_table view) i) (c.cells-cells.ensures i))
