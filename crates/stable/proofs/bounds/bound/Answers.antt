use Rattle.std.proofs.Common.{◌-◌, ◌*◌, ap, arith}
use Rattle.blocks.specs.Column.{Column}
use Rattle.stable.proofs.BoundsLemmas.{block_bracket, block_parted, within_block}
use Rattle.stable.proofs.bounds.bound.Goals as goal

pub bound_in-requires-clause-within : goal.bound_in-requires-clause-within
bound_in-requires-clause-within c =
    within_block c.args.column.now.values c.block_of-number.result c.block.result.now.values
    (ap (λ (b : Column). b.values) c.block.ensures) c.args.stop c.min-high.result c.requires.within
    (omega (arith, c.min-high.ensures)) (omega (arith, c.min-high.ensures, c.block_of-number.ensures.there))

pub bound_in-requires-clause-parted : goal.bound_in-requires-clause-parted
bound_in-requires-clause-parted c =
    block_parted c.args.column.now.values c.block_of-number.result c.block.result.now.values
    (ap (λ (b : Column). b.values) c.block.ensures) c.args.cell.now c.args.start c.args.stop
    (c.max.result - 1024 * c.block_of-number.result) c.min-high.result (omega (arith, c.max.ensures))
    (omega (arith, c.min-high.ensures, c.block_of-number.ensures.there)) (omega (arith, c.min-high.ensures)) c.requires.parted

pub returns : goal.returns
returns c =
    block_bracket c.args.column.now.values c.block_of-number.result c.block.result.now.values
    (ap (λ (b : Column). b.values) c.block.ensures) c.args.cell.now c.args.start c.args.stop
    (c.max.result - 1024 * c.block_of-number.result) c.min-high.result (omega (arith, c.max.ensures))
    (omega (arith, c.min-high.ensures, c.block_of-number.ensures.there)) (omega (arith, c.min-high.ensures))
    (omega (arith, c.max.ensures)) (omega (arith, c.min-high.ensures)) c.block_of-number.ensures.before
    c.block_of-number.ensures.past c.bound_in.result c.bound_in.ensures
