use Rattle.manifest.proofs.types.read_types.Goals as goal
use Rattle.manifest.specs.Types.{formats_now}
use Rattle.manifest.proofs.TypesLemmas.{types_read, types_spelt}

pub returns-clause-spelt : goal.returns-clause-spelt
returns-clause-spelt c = types_spelt (λ fs. formats_now fs.items) c.args.width c.args.bytes.now c.types_of.result c.types_of.ensures

pub returns-clause-only : goal.returns-clause-only
returns-clause-only c =
    types_read (λ fs. formats_now fs.items) c.args.width c.args.bytes.now c.types_of.result c.types_of.ensures c.ranges.width.fits
