use Rattle.std.proofs.Common.{ap, ◌∙◌, arith}
use Rattle.model.specs.Table.{rows_of}
use Rattle.model.specs.Merging.{merged_rows}
use Rattle.merge.specs.Image.{image_rows, stack_of}
use Rattle.txn.specs.Version.{Lower, LayeredVersion, lower_table}
use Rattle.txn.proofs.VersionLemmas.{layered_rows}
use Rattle.txn.proofs.version.Version.layers.Goals as goal
use Rattle.std.proofs.lemmas.Grind.{common_steps}

pub returns-clause-rows : goal.returns-clause-rows
returns-clause-rows c = grind (arith, common_steps, c.layers.ensures, c.deref.ensures, layered_rows)
