-- What becomes of a tree that passes another one.
use Rattle.std.specs.Prelude.{◌≡◌, false, Result, Ok, Err}
use Rattle.model.specs.declared.clash.Clash.{Clash}
use Rattle.model.specs.declared.clash.ConflictRule.{ConflictRule}
use Rattle.model.specs.Clashes.{conflicts, Conflicts}
use Rattle.model.specs.Rebasing.{IsLeastClash}
use Rattle.delta.specs.Tree.{Tree}
use Rattle.layers.specs.declared.passage.Passed.{Passed}
use Rattle.layers.specs.declared.passage.Passed.TheVariants.{On, Conflict}
use Rattle.layers.specs.Over.{AreAligned}
use Rattle.layers.specs.Serialization.{rebased_tree}

module _ (rule : ConflictRule) (first second : Tree) (w : AreAligned first second) where
  -- past the other tree where the effects don't conflict
  abbrev pub IsPast : Tree → Type 0
  IsPast tree = (conflicts rule w.x w.y ≡ false) × (tree ≡ rebased_tree first second w)

  -- two entries that clash, the first
  abbrev pub IsStopped : Clash → Type 0
  IsStopped clash = Conflicts rule w.x w.y × IsLeastClash rule w.schema.key_cols first.entries second.entries clash

  abbrev pub IsPassed : Passed → Type 0
  IsPassed (On passage) = IsPast passage
  IsPassed (Conflict clash) = IsStopped clash

  abbrev pub IsListPassed : Result Tree Clash → Type 0
  IsListPassed (Ok list) = IsPast list
  IsListPassed (Err clash) = IsStopped clash
