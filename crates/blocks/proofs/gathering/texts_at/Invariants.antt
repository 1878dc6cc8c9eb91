use Rattle.std.proofs.Common.{◌≡◌, map, take}
use Rattle.std.specs.List.{AllByRecursion}
use Rattle.values.specs.declared.value.Value.TheVariants.{Text}
use Rattle.blocks.specs.Cuts.{IsText}
use Rattle.blocks.specs.Places.{value_at}
use Rattle.blocks.proofs.gathering.texts_at.Given as goal

abbrev pub invariant-loop-place : goal.invariant-loop-place
invariant-loop-place l = record {
  same : map Text l.texts ≡ map (value_at l.blocks) (take l.place-index l.places);
  fit : AllByRecursion IsText l.texts;
}
