use Rattle.std.proofs.Common.{◌≡◌, map, sym, ap, ◌∙◌, ◌++◌, ◌∷◌, []}
use Rattle.std.specs.Option.{option_map}
use Rattle.std.proofs.lemmas.List.{map_push}
use Rattle.segments.specs.Pieces.{piece_now}
use Rattle.segments.proofs.SegmentLemmas.{piece_fails, piece_more, pieces_done}
use Rattle.segments.proofs.pieces.pieces_of.Goals as goal

pub returns-in_default-clause-err : goal.returns-in_default-clause-err
returns-in_default-clause-err c =
    piece_fails c.args.head.now c.args.files.now c.loop-file.file-index (map piece_now c.loop-file.pieces.items) c.loop-file.invariant _
    c.loop-file-test.true (sym c.piece_of.ensures ∙ ap (option_map piece_now) c.in_default.is)

pub loop-file-preserved : goal.loop-file-preserved
loop-file-preserved c =
    let p = c.in-Some.piece in
    let e : map piece_now c.push.new.self.items ≡ map piece_now c.loop-file.pieces.items ++ piece_now p ∷ [] =
    rw c.in_ok-push.ensures.items (map_push _ c.loop-file.pieces.items p) in
    rw e
    (piece_more c.args.head.now c.args.files.now c.loop-file.file-index (map piece_now c.loop-file.pieces.items) c.loop-file.invariant _
    (piece_now p) c.loop-file-test.true (sym c.piece_of.ensures ∙ ap (option_map piece_now) c.in-Some.is))

pub returns-clause-ok : goal.returns-clause-ok
returns-clause-ok c =
    pieces_done c.args.head.now c.args.files.now c.loop-file.file-index (map piece_now c.loop-file.pieces.items) c.loop-file.invariant
    c.loop-file-test.false
