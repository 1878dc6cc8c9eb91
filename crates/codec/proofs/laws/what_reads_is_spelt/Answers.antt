use Rattle.codec.proofs.PartSpeltLemmas.{parts_are_spelt, entries_are_spelt}
use Rattle.codec.proofs.laws.what_reads_is_spelt.Goals as goal

pub returns-clause-parts : goal.returns-clause-parts
returns-clause-parts c = parts_are_spelt

pub returns-clause-entries : goal.returns-clause-entries
returns-clause-entries c = entries_are_spelt
