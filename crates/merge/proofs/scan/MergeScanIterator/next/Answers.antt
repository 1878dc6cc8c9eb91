use Rattle.std.proofs.Common.{rules}
use Rattle.merge.proofs.scan.MergeScanIterator.next.Goals as goal

pub returns-in-Stable-clause-steps : goal.returns-in-Stable-clause-steps
returns-in-Stable-clause-steps c = search rules
