use Rattle.std.proofs.Common.{◌≡◌, IfOk, ap, sym, ◌∙◌, subst, arith}
use Rattle.values.specs.Shape.{Columns}
use Rattle.delta.specs.Tree.{Tree}
use Rattle.stable.specs.Stable.{Stable, IsStable}
use Rattle.txn.specs.Version.{Lower, AreLower, alone, empty_tree, numbered}
use Rattle.txn.proofs.VersionLemmas.{are_alone}
use Rattle.txn.proofs.version.Version.new.Goals as goal
use Rattle.std.proofs.lemmas.Grind.{common_steps}

pub stacked-requires : goal.stacked-requires
stacked-requires c = grind (arith, common_steps, c.deref.ensures, c.schema.ensures.lawful, c.key_cols-key_cols.ensures.count, c.schema.ensures.columns, c.in_ok-read.ensures.ok, c.new.ensures, c.new-under.ensures, c.in_ok-write.ensures.ok, c.new-over.ensures, are_alone)

pub returns-clause-lawful : goal.returns-clause-lawful
returns-clause-lawful c = subst IsStable c.deref.ensures c.schema.ensures.lawful
