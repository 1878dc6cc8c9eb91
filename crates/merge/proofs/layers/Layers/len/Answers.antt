use Rattle.std.proofs.Common.{subst}
use Rattle.std.specs.Option.{option_copied}
use Rattle.model.specs.Table.{IsTable}
use Rattle.merge.specs.Image.{Stack, image_table, tree_over}
use Rattle.merge.proofs.StackLemmas.{image_is_table}
use Rattle.merge.proofs.layers.Layers.len.Goals as goal

pub returns-clause-table : goal.returns-clause-table
returns-clause-table c =
    let l = c.self.inside in
    subst (λ (s : Stack). IsTable s.schema (image_table s)) c.self.view_is
    (image_is_table l.stable.now l.read.now l.write.now (tree_over l.stable.now.schema.key_cols (option_copied l.trans))
    c.self.invariant.stacked)
