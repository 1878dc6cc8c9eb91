use Rattle.std.proofs.Common.{subst, ◌∙◌}
use Rattle.std.proofs.lemmas.List.Elements.{All-more}
use Rattle.blocks.specs.Column.{Column}
use Rattle.stable.specs.Column.{all_may_stand}
use Rattle.stable.proofs.ColumnsLemmas.{count_more}
use Rattle.stable.proofs.columns.row_count.Goals as goal

pub loop-column-preserved : goal.loop-column-preserved
loop-column-preserved c =
    let columns = c.args.columns.now in
    let n = c.loop-column.column-index in
    let column = c.column-item.result in
    record {
      counted = c.len-count.ensures.count ∙ count_more columns n column c.requires.even c.loop-column-test.true c.column-item.is;
      fit =
          All-more (λ (x : Column). all_may_stand x.ty x.values) columns n column c.loop-column-test.true
          c.loop-column.invariant.fit
          (subst (λ (x : Column). all_may_stand x.ty x.values) c.column-item.is c.len-count.ensures.fit);
    }
