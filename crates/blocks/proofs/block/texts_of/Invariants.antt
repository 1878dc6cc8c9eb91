use Rattle.std.proofs.Common.{◌≡◌, map, take}
use Rattle.std.specs.List.{AllByRecursion}
use Rattle.values.specs.declared.value.Value.TheVariants.{Text}
use Rattle.blocks.specs.Cuts.{IsText}
use Rattle.blocks.proofs.block.texts_of.Given as goal

abbrev pub invariant-loop-value : goal.invariant-loop-value
invariant-loop-value l = record {
  same : map Text l.texts ≡ take l.value-index l.values;
  fit : AllByRecursion IsText l.texts;
}
