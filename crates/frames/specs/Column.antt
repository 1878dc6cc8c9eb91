-- What a column of a store is: frames, one after the other, and a rest that was cut short.
use Rattle.std.specs.Prelude.{◌≡◌, ◌<◌, ℕ, ◌+◌, ◌==◌, nat_lt, nat_le, Bool, true, false, cond, ◌&&◌, ◌||◌, Option, Some, None, is_some, List, [], ◌∷◌, ◌++◌, length, drop, get_or}
use Rattle.std.specs.List.{flat_map}
use Rattle.std.specs.Int.{w16, w32, to_be_bytes, from_be_bytes}
use Rattle.values.specs.declared.limits.TheConstants.{MAX_BLOCK_VALUES}
use Rattle.blocks.specs.Column.{IsBlock}
use Rattle.values.specs.declared.value.ColumnType.{ColumnType}
use Rattle.values.specs.declared.value.Value.{Value}
use Rattle.blocks.specs.Encoding.{encoded_of}
use Rattle.blocks.specs.Payload.{payload_of}
use Rattle.frames.specs.Bytes.{type_byte, version_byte}
use Rattle.frames.specs.declared.frame.Format.{Format}
use Rattle.frames.specs.declared.frame.Format.TheVariants.{First, Second}
use Rattle.frames.specs.declared.frame.Frame.{Frame}
use Rattle.frames.specs.declared.frame.Frame.TheVariants.{Header, Block, End}
use Rattle.frames.specs.declared.frame.Head.{Head}
use Rattle.frames.specs.declared.frame.Kind.{Kind}
use Rattle.frames.specs.declared.frame.Part.{Part}
use Rattle.frames.specs.declared.seam.Seam.{Seam}
use Rattle.frames.specs.declared.seam.Unfinished.{Unfinished}

-- ---- the bytes of a frame

-- the byte that says whether a block is the last of its generation
abbrev pub flag_byte : Bool → ℕ
flag_byte last = cond last 1 0

-- the payload of values in a format
abbrev pub payload_in : Format → ColumnType → List Value → List ℕ
payload_in First ty values = payload_of ty values
payload_in Second ty values = encoded_of ty values

-- of a block
abbrev pub part_payload : Part → List ℕ
part_payload part = payload_in part.format part.block.ty part.block.values

-- the numbers in front of a block
abbrev pub head_of : Part → Head
head_of part = record {
  generation = part.generation;
  number = part.number;
  flag = flag_byte part.last;
  count = length part.block.values;
  size = length (part_payload part);
}

-- in sixteen bytes, the highest byte of each number first
abbrev pub head_bytes : Head → List ℕ
head_bytes h =
    66 ∷ (to_be_bytes w32 h.generation
    ++ (to_be_bytes w32 h.number ++ h.flag ∷ (to_be_bytes w16 h.count ++ to_be_bytes w32 h.size)))

abbrev pub frame_bytes : Frame → List ℕ
frame_bytes (Header kind) = 72 ∷ version_byte kind.format ∷ type_byte kind.ty ∷ []
frame_bytes (Block part) = head_bytes (head_of part) ++ part_payload part
frame_bytes End = 69 ∷ []

-- frames, one after the other
abbrev pub column_bytes : List Frame → List ℕ
column_bytes frames = flat_map frame_bytes frames

-- ---- which frame may stand where

-- the seam before the first frame
abbrev pub start : Seam
start = record { kind = None; newest = None; before = None }

-- whether a generation is above each before it
abbrev pub is_above : Option ℕ → ℕ → Bool
is_above None generation = true
is_above (Some newest) generation = nat_lt newest generation

-- whether a block goes on with the generation of the block directly before
abbrev pub goes_on : Option Unfinished → Head → Bool
goes_on None h = false
goes_on (Some before) h = (before.generation == h.generation) && (before.number + 1 == h.number)

-- whether it begins a new generation, or goes on with that one
abbrev pub is_in_turn : Seam → Head → Bool
is_in_turn seam h = cond (h.number == 0) (is_above seam.newest h.generation) (goes_on seam.before h)

-- whether it is full, or the last and not empty, or the one block of an empty table
abbrev pub has_due_count : Head → Bool
has_due_count h =
    cond (h.flag == 0) (h.count == MAX_BLOCK_VALUES)
    (cond (h.flag == 1) (nat_le h.count MAX_BLOCK_VALUES && (nat_lt 0 h.count || (h.number == 0))) false)

-- whether a block with these numbers may stand at the seam
abbrev pub may_stand : Seam → Head → Bool
may_stand seam h = is_some seam.kind && is_in_turn seam h && has_due_count h

-- the kind that a block is of
abbrev pub part_kind : Part → Kind
part_kind part = record { format = part.format; ty = part.block.ty }

-- a block that may stand at the seam
pub record IsPartAt (seam : Seam) (part : Part) : Type 0 where
  pub stands : may_stand seam (head_of part) ≡ true
  pub typed : seam.kind ≡ Some (part_kind part)
  pub block : IsBlock part.block
  pub generation : part.generation < 4294967296
  pub number : part.number < 4294967296

abbrev pub IsFrameAt : Seam → Frame → Type 0
IsFrameAt seam (Header kind) = Unit {0}
IsFrameAt seam (Block part) = IsPartAt seam part
IsFrameAt seam End = Unit {0}

-- the block that has to go on, after this one
abbrev pub unfinished : Part → Option Unfinished
unfinished part = cond part.last None (Some (record { generation = part.generation; number = part.number }))

-- the seam after a frame
abbrev pub seam_after : Seam → Frame → Seam
seam_after seam (Header kind) = record { kind = Some kind; newest = seam.newest; before = None }
seam_after seam (Block part) = record { kind = seam.kind; newest = Some part.generation; before = unfinished part }
seam_after seam End = record { kind = seam.kind; newest = seam.newest; before = None }

-- after frames
abbrev pub seam_after_all : Seam → List Frame → Seam
seam_after_all seam [] = seam
seam_after_all seam (frame ∷ frames) = seam_after_all (seam_after seam frame) frames

-- whether each of the frames may stand where it stands
abbrev pub AreFramesAt : Seam → List Frame → Type 0
AreFramesAt seam [] = Unit {0}
AreFramesAt seam (frame ∷ frames) = IsFrameAt seam frame × AreFramesAt (seam_after seam frame) frames

-- ---- the rest

-- the number that four bytes spell, and two
abbrev pub word_at : List ℕ → ℕ → ℕ
word_at bytes i = from_be_bytes w32 (get_or bytes i 0 ∷ get_or bytes (i + 1) 0 ∷ get_or bytes (i + 2) 0 ∷ get_or bytes (i + 3) 0 ∷ [])

abbrev pub half_at : List ℕ → ℕ → ℕ
half_at bytes i = from_be_bytes w16 (get_or bytes i 0 ∷ get_or bytes (i + 1) 0 ∷ [])

-- the numbers that the first sixteen bytes spell
abbrev pub head_at : List ℕ → Head
head_at bytes =
    record {
      generation = word_at bytes 1;
      number = word_at bytes 5;
      flag = get_or bytes 9 0;
      count = half_at bytes 10;
      size = word_at bytes 12;
    }

-- whether bytes that begin with a block's byte are the beginning of a block that may stand here, cut short
abbrev pub is_cut_block : Seam → List ℕ → Bool
is_cut_block seam bytes =
    nat_lt (length bytes) 16 || (may_stand seam (head_at bytes) && nat_lt (length (drop 16 bytes)) (head_at bytes).size)

-- whether bytes are the beginning of a header or a block that may stand here, cut short, or none
abbrev pub is_rest : Seam → List ℕ → Bool
is_rest seam [] = true
is_rest seam (first ∷ bytes) =
    cond (first == 72) (nat_lt (length bytes) 2) (cond (first == 66) (is_cut_block seam (first ∷ bytes)) false)

-- bytes are a column of these frames with this rest
pub record IsColumn (bytes : List ℕ) (frames : List Frame) (rest : List ℕ) : Type 0 where
  pub lawful : AreFramesAt start frames
  pub torn : is_rest (seam_after_all start frames) rest ≡ true
  pub spelt : bytes ≡ column_bytes frames ++ rest
