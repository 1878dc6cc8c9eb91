use Rattle.std.proofs.Common.{◌≡◌, ◌*◌, length, map, take}
use Rattle.std.specs.List.{flat_map}
use Rattle.values.specs.declared.value.Value.TheVariants.{Int}
use Rattle.blocks.specs.Payload.{spelling}
use Rattle.blocks.proofs.payload.spell_ints.Given as goal

abbrev pub invariant-loop-i : goal.invariant-loop-i
invariant-loop-i l = record {
  room : length l.room ≡ 8 * length l.ints;
  spelt : take (8 * l.i) l.room ≡ flat_map spelling (map Int (take l.i l.ints));
}
