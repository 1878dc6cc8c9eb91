-- The frames of format 2 that a table's columns are written as.
use Rattle.std.specs.Prelude.{ℕ, ◌<◌, ◌+◌, ◌==◌, cond, List, map, length}
use Rattle.std.specs.List.{range_with_len}
use Rattle.values.specs.declared.value.ColumnType.{ColumnType}
use Rattle.values.specs.declared.value.Value.{Value}
use Rattle.blocks.specs.Column.{Column, IsBlock}
use Rattle.stable.specs.Column.{block_at, block_count}
use Rattle.stable.specs.Rows.{column_at}
use Rattle.stable.specs.Stable.{Stable}
use Rattle.frames.specs.declared.frame.Format.TheVariants.{Second}
use Rattle.frames.specs.declared.frame.Frame.{Frame}
use Rattle.frames.specs.declared.frame.Frame.TheVariants.{Header, Block}
use Rattle.frames.specs.Column.{frame_bytes, column_bytes}

-- in how many blocks so many values are written: no value still takes one
abbrev pub part_count : ℕ → ℕ
part_count count = cond (count == 0) 1 (block_count count)

-- each block that a column's values are written in holds them as a block does
abbrev pub AreBlocks : Column → Type 0
AreBlocks c = (k : ℕ) → k < part_count (length c.values) → IsBlock (block_at c.ty c.values k)

-- in each of a table's columns
abbrev pub AllBlocks : Stable → Type 0
AllBlocks table = (col : ℕ) → col < length table.schema.types → AreBlocks (column_at table.schema.types table.rows col)

-- the block number k of so many, under its generation
abbrev pub image_frame : ℕ → ColumnType → List Value → ℕ → ℕ → Frame
image_frame generation ty values count k =
    Block (record { format = Second; generation = generation; number = k; last = k + 1 == count; block = block_at ty values k })

-- the first blocks
abbrev pub first_frames : ℕ → ColumnType → List Value → ℕ → ℕ → List Frame
first_frames generation ty values count k = map (image_frame generation ty values count) (range_with_len 0 k)

-- the frames of a column's values
abbrev pub image_frames : ℕ → Column → List Frame
image_frames generation c = first_frames generation c.ty c.values (part_count (length c.values)) (part_count (length c.values))

-- the piece of a table's column
abbrev pub piece_at : ℕ → Stable → ℕ → List ℕ
piece_at generation table col = column_bytes (image_frames generation (column_at table.schema.types table.rows col))

-- the pieces of its first columns
abbrev pub first_pieces : ℕ → Stable → ℕ → List (List ℕ)
first_pieces generation table n = map (piece_at generation table) (range_with_len 0 n)

-- the pieces of all of them
abbrev pub pieces_of : ℕ → Stable → List (List ℕ)
pieces_of generation table = first_pieces generation table (length table.schema.types)

-- the headers of columns of these types
abbrev pub headers_of : List ColumnType → List (List ℕ)
headers_of types = map (λ ty. frame_bytes (Header (record { format = Second; ty = ty }))) types
