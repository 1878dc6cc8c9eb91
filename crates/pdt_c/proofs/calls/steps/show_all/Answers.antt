use Rattle.std.proofs.Common.{◌≡◌, ◌∙◌, ◌<◌, ◌+◌, ℕ, suc, List, [], Vec, Global, add-one, ap, arith, get_or, length, map, set, subst, sym}
use Rattle.std.proofs.lemmas.List.{get_or-map, length-map}
use Rattle.pdt_c.specs.Steps.{ArePieces, IsPiece}
use Rattle.pdt_c.proofs.StepLemmas.{pieces_more}
use Rattle.pdt_c.proofs.calls.steps.show_all.Goals as goal

pub loop-i-preserved : goal.loop-i-preserved
loop-i-preserved c =
    let i = c.loop-i.i in
    let frames = c.args.frames.now in
    let items = λ (v : Vec ℕ Global). v.items in
    let in_pieces : i < length c.loop-i.pieces = omega (arith, c.loop-i-test.true, c.loop-i.auto.pieces, c.min-count.ensures) in
    let in_frames : i < length frames = omega (arith, c.loop-i-test.true, c.min-count.ensures) in
    subst (λ n. ArePieces n (set c.loop-i.pieces i c.piece_of.result) (map items frames)) (sym (add-one i))
    (pieces_more i c.loop-i.pieces (map items frames) c.piece_of.result in_pieces (omega (arith, in_frames, length-map frames items))
    (subst (IsPiece c.piece_of.result)
    (c.as_slice.ensures.value ∙ ap items c.index-frames-i.is ∙ sym (get_or-map items frames i c.index-frames-i.result [] in_frames))
    c.piece_of.ensures)
    c.loop-i.invariant)
