use Rattle.std.proofs.Common.{ap, ◌∙◌}
use Rattle.std.specs.Option.{is_some}
use Rattle.manifest.proofs.VersionLemmas.{later_iff}
use Rattle.manifest.proofs.version.is_later_manifest.Goals as goal

pub returns : goal.returns
returns c = later_iff c.args.bytes.now c.is_some.result (c.is_some.ensures ∙ ap is_some c.later_version.ensures)
