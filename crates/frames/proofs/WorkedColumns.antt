-- The named columns, read and refused.
use Rattle.std.proofs.Common.{◌≡◌, ℕ, pos, true, Some, List, [], ◌∷◌, ◌++◌, drop, Ok, Err, refl}
use Rattle.values.specs.declared.value.ColumnType.{ColumnType}
use Rattle.values.specs.declared.value.ColumnType.TheVariants as column
use Rattle.values.specs.declared.value.Value.{Value}
use Rattle.values.specs.declared.value.Value.TheVariants.{Int, Text, Bool as Truth}
use Rattle.blocks.specs.declared.fault.BlockFault.TheVariants.{Short, BadEncoding}
use Rattle.blocks.specs.Reading.{ints_at, truths_of}
use Rattle.frames.specs.declared.fault.ReadFault.TheVariants.{BadFrame, TypesDiffer, BadBlock}
use Rattle.frames.specs.declared.frame.Frame.{Frame}
use Rattle.frames.specs.declared.frame.Frame.TheVariants.{Header, Block, End}
use Rattle.frames.specs.declared.frame.Format.TheVariants.{First, Second}
use Rattle.frames.specs.declared.frame.Kind.{Kind}
use Rattle.frames.specs.declared.frame.Part.{Part}
use Rattle.frames.specs.Column.{column_bytes}
use Rattle.frames.specs.Reading.{header_at, part_at, frame_at, frames_at, frames_of}
use Rattle.frames.specs.Vectors.{ID_COLUMN, NAME_COLUMN, EMPTY_COLUMN, INT_HEADER, TEN_BLOCK, ONE_ROW_COLUMN, INT_HEADER_2, TEN_BLOCK_2, ONE_ROW_COLUMN_2, SEVENS_COLUMN_2, TRUTHS_COLUMN_2}

-- a header of format 1
abbrev first : ColumnType → Kind
first ty = record { format = First; ty = ty }

-- the one block of generation 1
abbrev one_part : ColumnType → List Value → Part
one_part ty values = record { format = First; generation = 1; number = 0; last = true; block = record { ty = ty; values = values } }

abbrev ids : List Frame
ids = Header (first column.Int) ∷ Block (one_part column.Int (Int (pos 10) ∷ Int (pos 20) ∷ Int (pos 30) ∷ [])) ∷ End ∷ []

abbrev names : List Frame
names =
    Header (first column.Text)
    ∷ Block (one_part column.Text (Text (65 ∷ 110 ∷ 110 ∷ []) ∷ Text (66 ∷ 111 ∷ 98 ∷ []) ∷ Text (67 ∷ 105 ∷ 100 ∷ []) ∷ []))
    ∷ End ∷ []

abbrev none : List Frame
none = Header (first column.Int) ∷ Block (one_part column.Int []) ∷ End ∷ []

abbrev ten : List Frame
ten = Header (first column.Int) ∷ Block (one_part column.Int (Int (pos 10) ∷ [])) ∷ End ∷ []

-- ---- written

ids_spelt : column_bytes ids ≡ ID_COLUMN
ids_spelt = refl

names_spelt : column_bytes names ≡ NAME_COLUMN
names_spelt = refl

none_spelt : column_bytes none ≡ EMPTY_COLUMN
none_spelt = refl

ten_spelt : column_bytes ten ≡ ONE_ROW_COLUMN
ten_spelt = refl

-- ---- read

ids_read : frames_of 0 (Some column.Int) ID_COLUMN ≡ Ok ids
unfolding frames_at frame_at header_at part_at ints_at
ids_read = refl

none_read : frames_of 0 (Some column.Int) EMPTY_COLUMN ≡ Ok none
unfolding frames_at frame_at header_at part_at ints_at
none_read = refl

ten_read : frames_of 0 (Some column.Int) ONE_ROW_COLUMN ≡ Ok ten
unfolding frames_at frame_at header_at part_at ints_at
ten_read = refl

end_alone : frames_of 0 (Some column.Int) (0x45 ∷ []) ≡ Ok (End ∷ [])
unfolding frames_at frame_at
end_alone = refl

no_header : frames_of 0 (Some column.Int) (TEN_BLOCK ++ 0x45 ∷ []) ≡ Err (BadFrame 0 0)
unfolding frames_at frame_at part_at
no_header = refl

unknown_version : frames_of 0 (Some column.Int) (0x48 ∷ 0x03 ∷ 0x01 ∷ TEN_BLOCK ++ 0x45 ∷ []) ≡ Err (BadFrame 0 0)
unfolding frames_at frame_at header_at
unknown_version = refl

short_block_not_last :
    frames_of 0 (Some column.Int) (INT_HEADER ++ (0x42 ∷ 0 ∷ 0 ∷ 0 ∷ 1 ∷ 0 ∷ 0 ∷ 0 ∷ 0 ∷ 0x00 ∷ drop 10 TEN_BLOCK) ++ 0x45 ∷ [])
    ≡ Err (BadFrame 0 3)
unfolding frames_at frame_at header_at part_at
short_block_not_last = refl

payload_a_byte_short :
    frames_of 0 (Some column.Int)
    (INT_HEADER ++ (0x42 ∷ 0 ∷ 0 ∷ 0 ∷ 1 ∷ 0 ∷ 0 ∷ 0 ∷ 0 ∷ 0x01 ∷ 0 ∷ 1 ∷ 0 ∷ 0 ∷ 0 ∷ 7 ∷ drop 16 TEN_BLOCK) ++ 0x45 ∷ [])
    ≡ Err (BadBlock 0 3 (Short 0))
unfolding frames_at frame_at header_at part_at ints_at
payload_a_byte_short = refl

generation_twice : frames_of 0 (Some column.Int) (ONE_ROW_COLUMN ++ ONE_ROW_COLUMN) ≡ Err (BadFrame 0 31)
unfolding frames_at frame_at header_at part_at ints_at
generation_twice = refl

unknown_frame : frames_of 0 (Some column.Int) (ONE_ROW_COLUMN ++ 0x00 ∷ []) ≡ Err (BadFrame 0 28)
unfolding frames_at frame_at header_at part_at ints_at
unknown_frame = refl

torn_frame : frames_of 0 (Some column.Int) (ONE_ROW_COLUMN ++ 0x42 ∷ []) ≡ Ok ten
unfolding frames_at frame_at header_at part_at ints_at
torn_frame = refl

other_type : frames_of 0 (Some column.Text) ONE_ROW_COLUMN ≡ Err (TypesDiffer 0)
unfolding frames_at frame_at header_at
other_type = refl

-- a payload length that points past the end is a torn frame; more values than a block has are none
length_past_the_end :
    frames_of 0 (Some column.Int)
    (INT_HEADER ++ (0x42 ∷ 0 ∷ 0 ∷ 0 ∷ 1 ∷ 0 ∷ 0 ∷ 0 ∷ 0 ∷ 0x01 ∷ 0 ∷ 1 ∷ 255 ∷ 255 ∷ 255 ∷ 255 ∷ drop 16 TEN_BLOCK) ++ 0x45
    ∷ [])
    ≡ Ok (Header (first column.Int) ∷ [])
unfolding frames_at frame_at header_at part_at
length_past_the_end = refl

too_many_values :
    frames_of 0 (Some column.Int)
    (INT_HEADER ++ (0x42 ∷ 0 ∷ 0 ∷ 0 ∷ 1 ∷ 0 ∷ 0 ∷ 0 ∷ 0 ∷ 0x01 ∷ 4 ∷ 1 ∷ 0 ∷ 0 ∷ 0 ∷ 8 ∷ drop 16 TEN_BLOCK) ++ 0x45 ∷ [])
    ≡ Err (BadFrame 0 3)
unfolding frames_at frame_at header_at part_at
too_many_values = refl

-- ---- format 2

abbrev second : ColumnType → Kind
second ty = record { format = Second; ty = ty }

-- the one block of a generation
abbrev second_part : ℕ → ColumnType → List Value → Part
second_part generation ty values =
    record { format = Second; generation = generation; number = 0; last = true; block = record { ty = ty; values = values } }

abbrev ten_2 : List Frame
ten_2 = Header (second column.Int) ∷ Block (second_part 1 column.Int (Int (pos 10) ∷ [])) ∷ End ∷ []

abbrev sevens_2 : List Frame
sevens_2 = Header (second column.Int) ∷ Block (second_part 1 column.Int (Int (pos 7) ∷ Int (pos 7) ∷ Int (pos 7) ∷ [])) ∷ End ∷ []

abbrev truths_2 : List Frame
truths_2 = Header (second column.Bool) ∷ Block (second_part 1 column.Bool (Truth true ∷ Truth true ∷ Truth true ∷ [])) ∷ End ∷ []

ten_2_spelt : column_bytes ten_2 ≡ ONE_ROW_COLUMN_2
ten_2_spelt = refl

sevens_2_spelt : column_bytes sevens_2 ≡ SEVENS_COLUMN_2
sevens_2_spelt = refl

truths_2_spelt : column_bytes truths_2 ≡ TRUTHS_COLUMN_2
truths_2_spelt = refl

ten_2_read : frames_of 0 (Some column.Int) ONE_ROW_COLUMN_2 ≡ Ok ten_2
unfolding frames_at frame_at header_at part_at ints_at
ten_2_read = refl

sevens_2_read : frames_of 0 (Some column.Int) SEVENS_COLUMN_2 ≡ Ok sevens_2
unfolding frames_at frame_at header_at part_at ints_at
sevens_2_read = refl

truths_2_read : frames_of 0 (Some column.Bool) TRUTHS_COLUMN_2 ≡ Ok truths_2
unfolding frames_at frame_at header_at part_at truths_of
truths_2_read = refl

-- a payload of format 1 under a header of format 2 lacks a byte
no_encoding : frames_of 0 (Some column.Int) (INT_HEADER_2 ++ TEN_BLOCK ++ 0x45 ∷ []) ≡ Err (BadBlock 0 3 (Short 1))
unfolding frames_at frame_at header_at part_at ints_at
no_encoding = refl

-- equal values that stand plain
plain_sevens :
    frames_of 0 (Some column.Int)
    (INT_HEADER_2 ++ (0x42 ∷ 0 ∷ 0 ∷ 0 ∷ 1 ∷ 0 ∷ 0 ∷ 0 ∷ 0 ∷ 0x01 ∷ 0 ∷ 2 ∷ 0 ∷ 0 ∷ 0 ∷ 17 ∷ 0x00 ∷ [])
    ++ (0 ∷ 0 ∷ 0 ∷ 0 ∷ 0 ∷ 0 ∷ 0 ∷ 7 ∷ 0 ∷ 0 ∷ 0 ∷ 0 ∷ 0 ∷ 0 ∷ 0 ∷ 7 ∷ []))
    ≡ Err (BadBlock 0 3 BadEncoding)
unfolding frames_at frame_at header_at part_at ints_at
plain_sevens = refl

-- a part of format 1 before one of format 2
both_formats : frames_of 0 (Some column.Int) (ONE_ROW_COLUMN ++ INT_HEADER_2 ++ TEN_BLOCK_2 2 ++ 0x45 ∷ [])
    ≡ Ok (ten ++ (Header (second column.Int) ∷ Block (second_part 2 column.Int (Int (pos 10) ∷ [])) ∷ End ∷ []))
unfolding frames_at frame_at header_at part_at ints_at
both_formats = refl
