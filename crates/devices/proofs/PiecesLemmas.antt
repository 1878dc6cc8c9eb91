-- A column's frames, written one after the other.
use Rattle.std.proofs.Common.{◌≡◌, ℕ, ◌+◌, ◌<◌, List, [], ◌∷◌, ◌++◌, sym, ap, subst, ◌∙◌, append_assoc, inl, inr, arith, rules}
use Rattle.std.proofs.lemmas.List.{append-nil}
use Rattle.std.proofs.lemmas.Grind.{flat_map-append}
use Rattle.std.proofs.lemmas.List.FromFn.{map-range_with_len_more}
use Rattle.std.proofs.lemmas.Bool.{cases_lt}
use Rattle.values.specs.declared.value.ColumnType.{ColumnType}
use Rattle.values.specs.declared.value.Value.{Value}
use Rattle.blocks.specs.Column.{Column, IsBlock}
use Rattle.stable.specs.Column.{block_at}
use Rattle.stable.specs.Rows.{column_at}
use Rattle.stable.specs.Stable.{Stable}
use Rattle.frames.specs.declared.frame.Frame.{Frame}
use Rattle.frames.specs.Column.{frame_bytes, column_bytes}
use Rattle.devices.specs.Image.{AreBlocks, image_frame, first_frames, piece_at, first_pieces}

column_bytes_push : (frames : List Frame) (frame : Frame) → column_bytes (frames ++ frame ∷ []) ≡ column_bytes frames ++ frame_bytes frame
column_bytes_push frames frame =
    flat_map-append frame_bytes frames (frame ∷ []) ∙ ap (λ x. column_bytes frames ++ x) (append-nil (frame_bytes frame))

module _ (generation : ℕ) (ty : ColumnType) (values : List Value) (n k : ℕ) where
  frames_more :
      first_frames generation ty values n (k + 1)
      ≡ first_frames generation ty values n k ++ image_frame generation ty values n k ∷ []
  frames_more = map-range_with_len_more (image_frame generation ty values n) 0 k k (omega arith)

  -- one block more
  pub written_more : (old now next : List ℕ) → now ≡ old ++ column_bytes (first_frames generation ty values n k)
      → next ≡ now ++ frame_bytes (image_frame generation ty values n k)
      → next ≡ old ++ column_bytes (first_frames generation ty values n (k + 1))
  written_more old now next so_far more =
      let done = first_frames generation ty values n k in
      let frame = image_frame generation ty values n k in
      more ∙ ap (λ x. x ++ frame_bytes frame) so_far ∙ append_assoc old (column_bytes done) (frame_bytes frame)
      ∙ ap (λ x. old ++ x) (sym (ap column_bytes frames_more ∙ column_bytes_push done frame))

-- one piece more
pub pieces_more : (generation : ℕ) (table : Stable) (col : ℕ)
    → first_pieces generation table (col + 1) ≡ first_pieces generation table col ++ piece_at generation table col ∷ []
pieces_more generation table col = map-range_with_len_more (piece_at generation table) 0 col col (omega arith)

-- ---- the blocks of a column

pub blocks_more : (ty : ColumnType) (values : List Value) (k : ℕ) (block : Column) → ((j : ℕ) → j < k → IsBlock (block_at ty values j))
    → IsBlock block → block ≡ block_at ty values k
    → (j : ℕ) → j < k + 1 → IsBlock (block_at ty values j)
blocks_more ty values k block so_far held is j lt = search rules

pub columns_more : (table : Stable) (k : ℕ) (c : Column) → ((col : ℕ) → col < k → AreBlocks (column_at table.schema.types table.rows col))
    → AreBlocks c → c ≡ column_at table.schema.types table.rows k
    → (col : ℕ) → col < k + 1 → AreBlocks (column_at table.schema.types table.rows col)
columns_more table k c so_far here is col lt =
    elim (cases_lt col k) [
      | inl before ↦ so_far col before
      | inr last ↦ subst (λ n. AreBlocks (column_at table.schema.types table.rows n))
          (let same : k ≡ col = omega (arith, lt, last) in same) (subst AreBlocks is here)
    ]
