use Rattle.std.proofs.Common.{◌≡◌, ◌∙◌, is_some, Option, Some, None, sym, ap, subst, arith}
use Rattle.std.specs.Option.{option_copied}
use Rattle.delta.specs.Tree.{Tree}
use Rattle.model.specs.Table.{Table, rank, row_at}
use Rattle.model.specs.Effects.{table_with}
use Rattle.merge.specs.Image.{AreBothStacked, AreStacked, stack_of, tree_over, read_rows, write_rows, image_table}
use Rattle.stable.specs.Stable.{table_in}
use Rattle.merge.proofs.StackLemmas.{read_rows_is, write_rows_is, image_table_is, image_table-none, rank-few}
use Rattle.merge.proofs.layers.Layers.locate.Goals as goal

pub locate_over-in_write-requires : goal.locate_over-in_write-requires
locate_over-in_write-requires c =
    let l = c.self.inside in
    let h = c.self.invariant.stacked in
    let top = tree_over l.stable.now.schema.key_cols (option_copied l.trans) in
    let t = table_in l.stable.now in
    let t1 = table_with t h.lower.effects in
    let key = c.args.key.now in
    let in_read = c.locate_over-in_read.ensures.rank l.stable.now.schema t h.lower c.locate-in_stable.ensures.rank in
    omega (
      arith,
      in_read,
      rank-few key t1 (read_rows (stack_of l.stable.now l.read.now l.write.now top))
          (read_rows_is l.stable.now l.read.now l.write.now top h),
      c.self.invariant.read_few,
    )

pub locate_over-requires : goal.locate_over-requires
locate_over-requires c =
    let l = c.self.inside in
    let h = c.self.invariant.stacked in
    let top = tree_over l.stable.now.schema.key_cols (option_copied l.trans) in
    let t = table_in l.stable.now in
    let t1 = table_with t h.lower.effects in
    let t2 = table_with t1 h.middle.effects in
    let key = c.args.key.now in
    let in_read = c.locate_over-in_read.ensures.rank l.stable.now.schema t h.lower c.locate-in_stable.ensures.rank in
    let in_write = c.locate_over-in_write.ensures.rank l.stable.now.schema t1 h.middle in_read in
    omega (
      arith,
      in_write,
      rank-few key t2 (write_rows (stack_of l.stable.now l.read.now l.write.now top))
          (write_rows_is l.stable.now l.read.now l.write.now top h),
      c.self.invariant.write_few,
    )

pub returns-in-None-clause-rank : goal.returns-in-None-clause-rank
returns-in-None-clause-rank c =
    let l = c.self.inside in
    let schema = l.stable.now.schema in
    let both : AreBothStacked l.stable.now l.read.now l.write.now =
    record { lower = c.self.invariant.stacked.lower; middle = c.self.invariant.stacked.middle } in
    let none : option_copied l.trans ≡ option_copied None = ap option_copied c.in-None.is in
    let view =
    ap (λ (o : Option Tree). stack_of l.stable.now l.read.now l.write.now (tree_over schema.key_cols o)) (sym none)
    ∙ c.self.view_is in
    let t = table_in l.stable.now in
    let t1 = table_with t both.lower.effects in
    let in_read = c.locate_over-in_read.ensures.rank schema t both.lower c.locate-in_stable.ensures.rank in
    c.locate_over-in_write.ensures.rank schema t1 both.middle in_read
    ∙ ap (rank c.args.key.now) (sym (image_table-none l.stable.now l.read.now l.write.now both) ∙ ap image_table view)

pub returns-in-None-clause-there : goal.returns-in-None-clause-there
returns-in-None-clause-there c =
    let l = c.self.inside in
    let schema = l.stable.now.schema in
    let both : AreBothStacked l.stable.now l.read.now l.write.now =
    record { lower = c.self.invariant.stacked.lower; middle = c.self.invariant.stacked.middle } in
    let none : option_copied l.trans ≡ option_copied None = ap option_copied c.in-None.is in
    let view =
    ap (λ (o : Option Tree). stack_of l.stable.now l.read.now l.write.now (tree_over schema.key_cols o)) (sym none)
    ∙ c.self.view_is in
    let t = table_in l.stable.now in
    let t1 = table_with t both.lower.effects in
    let in_read = c.locate_over-in_read.ensures.rank schema t both.lower c.locate-in_stable.ensures.rank in
    let there_read =
    c.locate_over-in_read.ensures.there schema t both.lower c.locate-in_stable.ensures.rank c.locate-in_stable.ensures.there
    in
    c.locate_over-in_write.ensures.there schema t1 both.middle in_read there_read
    ∙ ap (λ (table : Table). is_some (row_at table c.args.key.now))
    (sym (image_table-none l.stable.now l.read.now l.write.now both) ∙ ap image_table view)

pub returns-in-Some-clause-rank : goal.returns-in-Some-clause-rank
returns-in-Some-clause-rank c =
    let l = c.self.inside in
    let schema = l.stable.now.schema in
    let trans = c.in-Some.trans.now in
    let some : option_copied l.trans ≡ Some trans = ap option_copied c.in-Some.is in
    let h =
    subst (λ (o : Option Tree). AreStacked l.stable.now l.read.now l.write.now (tree_over schema.key_cols o)) some
    c.self.invariant.stacked in
    let view =
    ap (λ (o : Option Tree). stack_of l.stable.now l.read.now l.write.now (tree_over schema.key_cols o)) (sym some)
    ∙ c.self.view_is in
    let t = table_in l.stable.now in
    let t1 = table_with t h.lower.effects in
    let t2 = table_with t1 h.middle.effects in
    let in_read = c.locate_over-in_read.ensures.rank schema t h.lower c.locate-in_stable.ensures.rank in
    let in_write = c.locate_over-in_write.ensures.rank schema t1 h.middle in_read in
    c.locate_over.ensures.rank schema t2 h.upper in_write
    ∙ ap (rank c.args.key.now) (sym (image_table_is l.stable.now l.read.now l.write.now trans h) ∙ ap image_table view)

pub returns-in-Some-clause-there : goal.returns-in-Some-clause-there
returns-in-Some-clause-there c =
    let l = c.self.inside in
    let schema = l.stable.now.schema in
    let trans = c.in-Some.trans.now in
    let some : option_copied l.trans ≡ Some trans = ap option_copied c.in-Some.is in
    let h =
    subst (λ (o : Option Tree). AreStacked l.stable.now l.read.now l.write.now (tree_over schema.key_cols o)) some
    c.self.invariant.stacked in
    let view =
    ap (λ (o : Option Tree). stack_of l.stable.now l.read.now l.write.now (tree_over schema.key_cols o)) (sym some)
    ∙ c.self.view_is in
    let t = table_in l.stable.now in
    let t1 = table_with t h.lower.effects in
    let t2 = table_with t1 h.middle.effects in
    let in_read = c.locate_over-in_read.ensures.rank schema t h.lower c.locate-in_stable.ensures.rank in
    let in_write = c.locate_over-in_write.ensures.rank schema t1 h.middle in_read in
    let there_read =
    c.locate_over-in_read.ensures.there schema t h.lower c.locate-in_stable.ensures.rank c.locate-in_stable.ensures.there in
    let there_write = c.locate_over-in_write.ensures.there schema t1 h.middle in_read there_read in
    c.locate_over.ensures.there schema t2 h.upper in_write there_write
    ∙ ap (λ (table : Table). is_some (row_at table c.args.key.now))
    (sym (image_table_is l.stable.now l.read.now l.write.now trans h) ∙ ap image_table view)
