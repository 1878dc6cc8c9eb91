use Rattle.std.proofs.Common.{◌≡◌, ℕ, List, [], ◌∷◌, ◌++◌, map, sym, ap, ◌∙◌, Vec, Global}
use Rattle.std.proofs.lemmas.List.{map_push}
use Rattle.blocks.specs.Column.{Column}
use Rattle.frames.specs.Column.{column_bytes}
use Rattle.devices.specs.Image.{image_frames, piece_at, first_pieces}
use Rattle.devices.proofs.PiecesLemmas.{columns_more, pieces_more}
use Rattle.devices.proofs.pieces.pieces_of.Goals as goal

abbrev items : Vec ℕ Global → List ℕ
items p = p.items

pub loop-col-preserved : goal.loop-col-preserved
loop-col-preserved c =
    let generation = c.args.generation in
    let table = c.args.table.now in
    let made = c.write_column.new.out in
    let piece : made.items ≡ piece_at generation table c.loop-col.col =
    c.in_ok-write_column.ensures.bytes
    ∙ ap (λ (x : List ℕ). x ++ column_bytes (image_frames generation c.column.result.now)) c.new-piece.ensures.items
    ∙ ap (λ (d : Column). column_bytes (image_frames generation d)) c.column.ensures in
    record {
      pieces = ap (map items) c.in_ok-push.ensures.items ∙ map_push items c.loop-col.pieces.items made
          ∙ ap (λ (ps : List (List ℕ)). ps ++ made.items ∷ []) c.loop-col.invariant.pieces
          ∙ ap (λ (p : List ℕ). first_pieces generation table c.loop-col.col ++ p ∷ []) piece
          ∙ sym (pieces_more generation table c.loop-col.col);
      blocks =
          columns_more table c.loop-col.col c.column.result.now c.loop-col.invariant.blocks c.in_ok-write_column.ensures.blocks
          c.column.ensures;
    }
