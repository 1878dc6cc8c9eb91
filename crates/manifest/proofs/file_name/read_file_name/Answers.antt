use Rattle.std.proofs.Common.{ap, ◌∙◌}
use Rattle.manifest.specs.FileName.{file_named}
use Rattle.manifest.proofs.FileNameLemmas.{file_again, file_takes}
use Rattle.manifest.proofs.file_name.read_file_name.Goals as goal

pub returns-clause-named : goal.returns-clause-named
returns-clause-named c = rw c.file_named.ensures (file_takes c.args.name.now)

pub returns-clause-only : goal.returns-clause-only
returns-clause-only c = λ file fits is. c.file_named.ensures ∙ ap file_named is ∙ file_again file fits
