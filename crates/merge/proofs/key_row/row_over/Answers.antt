use Rattle.std.proofs.Common.{rules}
use Rattle.merge.proofs.key_row.row_over.Goals as goal

pub returns-in-Some-clause-row : goal.returns-in-Some-clause-row
returns-in-Some-clause-row c = search rules
