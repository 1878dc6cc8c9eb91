use Rattle.std.proofs.Common.{◌≡◌, ◌++◌, map, take}
use Rattle.std.specs.List.{flat_map}
use Rattle.values.specs.declared.value.Value.TheVariants.{Text}
use Rattle.blocks.specs.Payload.{spelling}
use Rattle.blocks.proofs.payload.append_texts.Given as goal

abbrev pub invariant-loop-i : goal.invariant-loop-i
invariant-loop-i l = l.out.items ≡ l.fn.out.items ++ flat_map spelling (map Text (take l.i l.texts))
