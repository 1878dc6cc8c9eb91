use Rattle.std.proofs.Common.{◌≡◌, List, [], Vec, Global, map, get_or, sym, ap, subst, ◌∙◌, arith}
use Rattle.std.proofs.lemmas.List.{get_or-map, length-map}
use Rattle.frames.specs.declared.frame.Part.{Part}
use Rattle.devices.specs.Turns.{IsInTurn}
use Rattle.devices.proofs.reading.is_whole_in_all.Goals as goal

abbrev blocks_in : Vec Part Global → List Part
blocks_in p = p.items

pub is_whole-requires : goal.is_whole-requires
is_whole-requires c =
    let columns = c.args.columns.now in
    let col = c.loop-parts.parts-index in
    let here : get_or (map blocks_in columns) col [] ≡ c.as_slice.result.now =
    get_or-map blocks_in columns col c.parts-item.result [] c.loop-parts-test.true ∙ ap blocks_in (sym c.parts-item.is)
    ∙ sym c.as_slice.ensures.value in
    subst IsInTurn here (c.requires col (omega (arith, c.loop-parts-test.true, length-map columns blocks_in)))
