use Rattle.std.proofs.Common.{◌∙◌, sym, true, false, arith}
use Rattle.values.proofs.SchemaLemmas.{find-stands_before}
use Rattle.values.proofs.schema.first_repeated.Goals as goal

pub returns-then-has_name : goal.returns-then-has_name
returns-then-has_name c =
    sym (c.loop-col.invariant
    ∙ find-stands_before c.args.cols.now c.loop-col.col _ c.index-cols-col.result true (omega arith) c.as_str.ensures.value
    (sym c.if-has_name.true ∙ c.has_name.ensures))

pub loop-col-preserved : goal.loop-col-preserved
loop-col-preserved c =
    c.loop-col.invariant
    ∙ find-stands_before c.args.cols.now c.loop-col.col _ c.index-cols-col.result false (omega arith) c.as_str.ensures.value
    (sym c.if-has_name.false ∙ c.has_name.ensures)
