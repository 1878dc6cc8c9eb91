use Rattle.manifest.proofs.ManifestLemmas.{is_read, is_spelt}
use Rattle.manifest.proofs.reading.read_manifest.Goals as goal

pub returns-clause-spelt : goal.returns-clause-spelt
returns-clause-spelt c = is_spelt c.args.bytes.now c.manifest_of.result c.manifest_of.ensures

pub returns-clause-only : goal.returns-clause-only
returns-clause-only c = is_read c.args.bytes.now c.manifest_of.result c.manifest_of.ensures
