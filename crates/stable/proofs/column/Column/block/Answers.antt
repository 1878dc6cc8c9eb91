use Rattle.std.proofs.Common.{◌<◌, length, ap, ◌∙◌, arith}
use Rattle.blocks.specs.Column.{Column}
use Rattle.stable.specs.Column.{block_at, block_count}
use Rattle.stable.proofs.ColumnLemmas.{length_blocks, block_here}
use Rattle.stable.proofs.column.Column.block.Goals as goal
use Rattle.std.proofs.lemmas.Grind.{common_steps}

pub index-requires : goal.index-requires
index-requires c = grind (arith, common_steps, c.self.invariant.blocked, c.requires, length_blocks)

pub returns : goal.returns
returns c =
    let inside = c.self.inside in
    let blocked = c.self.invariant.blocked in
    let counted : c.args.i < block_count inside.count =
    omega (arith, c.requires, blocked.counted, ap (λ (s : Column). length s.values) c.self.view_is) in
    block_here inside.ty inside.count inside.blocks.items blocked c.args.i c.index.result.now c.index.ensures counted
    ∙ ap (λ (s : Column). block_at s.ty s.values c.args.i) c.self.view_is
