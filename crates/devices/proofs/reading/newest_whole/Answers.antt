use Rattle.std.proofs.Common.{◌≡◌, ◌-◌, List, Vec, Global, length, take, drop, map, sym, subst, arith, length-drop}
use Rattle.std.proofs.lemmas.List.{take_all}
use Rattle.frames.specs.declared.frame.Part.{Part}
use Rattle.devices.specs.Turns.{AreEachInTurn}
use Rattle.devices.proofs.ImageLemmas.{others_in_turn}
use Rattle.devices.proofs.reading.newest_whole.Goals as goal

abbrev blocks_in : Vec Part Global → List Part
blocks_in p = p.items

pub newest_among-requires : goal.newest_among-requires
newest_among-requires c =
    let columns = c.args.columns.now in
    let others : take (length columns - 1) (drop 1 columns) ≡ drop 1 columns =
    take_all (length columns - 1) (drop 1 columns) (omega (arith, length-drop 1 columns)) in
    subst (λ (vs : List (Vec Part Global)). AreEachInTurn (map blocks_in vs)) (sym others) (others_in_turn blocks_in columns c.requires)
