use Rattle.std.proofs.Common.{List, Vec, Global, map, sym, subst, arith}
use Rattle.std.proofs.lemmas.List.{length-map}
use Rattle.frames.specs.declared.frame.Part.{Part}
use Rattle.devices.specs.Turns.{AreEachInTurn}
use Rattle.devices.proofs.ImageLemmas.{types-columns_in, each_in_turn}
use Rattle.devices.proofs.reading.read_store.Goals as goal
use Rattle.std.proofs.lemmas.Grind.{common_steps}

pub image_of-requires : goal.image_of-requires
image_of-requires c = grind (arith, common_steps, c.types-2.ensures, c.in_ok-parts.ensures.even, c.types.ensures, c.in_ok-columns.ensures, length-map, types-columns_in)

pub newest_whole-requires : goal.newest_whole-requires
newest_whole-requires c =
    subst (λ (vs : List (Vec Part Global)). AreEachInTurn (map (λ p. p.items) vs)) (sym c.as_slice.ensures.value)
    (each_in_turn c.types.result.now (map (λ p. p.items) c.in_ok-parts.parts.items) c.in_ok-parts.ensures.turn)
