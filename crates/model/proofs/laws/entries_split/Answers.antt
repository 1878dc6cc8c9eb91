use Rattle.model.proofs.SplitLemmas.{canonical_entries-at_key}
use Rattle.model.proofs.laws.entries_split.Goals as goal

pub returns : goal.returns
returns c = canonical_entries-at_key
