-- The named stores of one column of numbers, read and refused.
use Rattle.std.proofs.Common.{◌≡◌, pos, [], ◌∷◌, ◌++◌, take, Ok, Err, refl}
use Rattle.values.specs.Shape.{Columns}
use Rattle.values.specs.declared.value.ColumnType.TheVariants as column
use Rattle.values.specs.declared.value.Value.TheVariants.{Int}
use Rattle.blocks.specs.Reading.{ints_at}
use Rattle.frames.specs.declared.fault.ReadFault.TheVariants.{WrongCount, BadFrame, NoImage}
use Rattle.frames.specs.Reading.{header_at, part_at, frame_at, frames_at}
use Rattle.frames.specs.Vectors.{INT_HEADER_2, TEN_BLOCK_2, ONE_ROW_COLUMN, ONE_ROW_COLUMN_2}
use Rattle.devices.specs.Stored.{Image, stored_image}

abbrev one_int : Columns
one_int = record { names = (105 ∷ 100 ∷ []) ∷ []; types = column.Int ∷ []; key_cols = 1 }

-- the row of the number ten, under generation 1
abbrev row_ten : Image
row_ten = record { generation = 1; table = record { schema = one_int; rows = (Int (pos 10) ∷ []) ∷ [] } }

one_row : stored_image one_int (ONE_ROW_COLUMN ∷ []) ≡ Ok row_ten
unfolding frames_at frame_at header_at part_at ints_at
one_row = refl

torn_frame : stored_image one_int ((ONE_ROW_COLUMN ++ 0x42 ∷ []) ∷ []) ≡ Ok row_ten
unfolding frames_at frame_at header_at part_at ints_at
torn_frame = refl

end_cut : stored_image one_int (take 27 ONE_ROW_COLUMN ∷ []) ≡ Ok row_ten
unfolding frames_at frame_at header_at part_at ints_at
end_cut = refl

block_cut : stored_image one_int (take 26 ONE_ROW_COLUMN ∷ []) ≡ Err NoImage
unfolding frames_at frame_at header_at part_at ints_at
block_cut = refl

end_alone : stored_image one_int ((0x45 ∷ []) ∷ []) ≡ Err NoImage
unfolding frames_at frame_at
end_alone = refl

no_column : stored_image one_int [] ≡ Err WrongCount
no_column = refl

generation_twice : stored_image one_int ((ONE_ROW_COLUMN ++ ONE_ROW_COLUMN) ∷ []) ≡ Err (BadFrame 0 31)
unfolding frames_at frame_at header_at part_at ints_at
generation_twice = refl

-- ---- format 2

one_row_2 : stored_image one_int (ONE_ROW_COLUMN_2 ∷ []) ≡ Ok row_ten
unfolding frames_at frame_at header_at part_at ints_at
one_row_2 = refl

-- 28 of its 29 bytes are whole, and 27 have lost one of the payload's
end_cut_2 : stored_image one_int (take 28 ONE_ROW_COLUMN_2 ∷ []) ≡ Ok row_ten
unfolding frames_at frame_at header_at part_at ints_at
end_cut_2 = refl

block_cut_2 : stored_image one_int (take 27 ONE_ROW_COLUMN_2 ∷ []) ≡ Err NoImage
unfolding frames_at frame_at header_at part_at ints_at
block_cut_2 = refl

-- a store of format 1, and one of format 2 over it
both_formats :
    stored_image one_int ((ONE_ROW_COLUMN ++ INT_HEADER_2 ++ TEN_BLOCK_2 2 ++ 0x45 ∷ []) ∷ [])
    ≡ Ok (record { generation = 2; table = row_ten.table })
unfolding frames_at frame_at header_at part_at ints_at
both_formats = refl
