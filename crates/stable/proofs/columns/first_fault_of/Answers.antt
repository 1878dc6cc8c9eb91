use Rattle.std.proofs.Common.{sym, ◌∙◌, arith}
use Rattle.stable.proofs.ColumnsLemmas.{is_above, faults_from, next_faults, first_faults, ended, counted_few, counted_many}
use Rattle.stable.proofs.columns.first_fault_of.Goals as goal
use Rattle.std.proofs.lemmas.Grind.{common_steps}

pub returns-then-count-gt-MAX_ROWS : goal.returns-then-count-gt-MAX_ROWS
returns-then-count-gt-MAX_ROWS c =
    sym (counted_many c.args.schema.now c.args.count c.args.columns.now c.requires c.if-count-gt-MAX_ROWS.true)

pub loop-sid-init : goal.loop-sid-init
loop-sid-init c = first_faults c.args.schema.now c.args.count c.args.columns.now c.requires

pub returns-then-not-is_lt : goal.returns-then-not-is_lt
returns-then-not-is_lt c = grind (arith, common_steps, c.key_cols-key_cols.ensures.count, c.compare_rows.ensures, c.is_lt.ensures, c.if-not-is_lt.true, c.requires, c.if-count-gt-MAX_ROWS.false, c.loop-sid.invariant, c.loop-sid-test.true, is_above, counted_few, next_faults, faults_from)

pub loop-sid-preserved : goal.loop-sid-preserved
loop-sid-preserved c = grind (arith, common_steps, c.key_cols-key_cols.ensures.count, c.compare_rows.ensures, c.is_lt.ensures, c.if-not-is_lt.false, c.loop-sid.invariant, c.requires, c.loop-sid-test.true, is_above, next_faults, faults_from)

pub returns : goal.returns
returns c =
    let schema = c.args.schema.now in
    let count = c.args.count in
    let columns = c.args.columns.now in
    sym (counted_few schema count columns c.requires c.if-count-gt-MAX_ROWS.false
    ∙ c.loop-sid.invariant
    ∙ ended schema count columns c.requires c.loop-sid.sid c.loop-sid-test.false)
