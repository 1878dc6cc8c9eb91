-- What bytes say as a column, read frame by frame from the left, or the first fault.
use Rattle.std.specs.Prelude.{◌≡◌, ℕ, zero, suc, ◌-◌, ◌==◌, nat_lt, Bool, true, cond, if◌then◌else◌, Option, Some, None, unwrap_or, List, [], ◌∷◌, ◌++◌, length, take, drop, get_or, Result, Ok, Err}
use Rattle.std.specs.Borrow.{Bor}
use Rattle.values.specs.declared.value.ColumnType.{ColumnType}
use Rattle.values.specs.declared.value.ColumnType.TheVariants as column
use Rattle.values.specs.declared.value.Value.{Value}
use Rattle.blocks.specs.declared.fault.BlockFault.{BlockFault}
use Rattle.frames.specs.declared.fault.ReadFault.{ReadFault}
use Rattle.frames.specs.declared.fault.ReadFault.TheVariants.{WrongCount, BadFrame, TypesDiffer, BadBlock, NoImage, CountsDiffer, TooManyRows, NotAscending, NoMemory}
use Rattle.frames.specs.declared.frame.Frame.{Frame}
use Rattle.frames.specs.declared.frame.Frame.TheVariants.{Header, Block, End}
use Rattle.frames.specs.declared.frame.Format.{Format}
use Rattle.frames.specs.declared.frame.Format.TheVariants.{First, Second}
use Rattle.frames.specs.declared.frame.Head.{Head}
use Rattle.frames.specs.declared.frame.Kind.{Kind}
use Rattle.frames.specs.declared.frame.Part.{Part}
use Rattle.frames.specs.declared.seam.Seam.{Seam}
use Rattle.frames.specs.Bytes.{type_byte}
use Rattle.frames.specs.Column.{start, head_at, may_stand, seam_after}
use Rattle.frames.specs.Stored.{reading_in}

-- a frame and the bytes after it, or none where the bytes are a rest
abbrev pub Found : Type 0
Found = Option (Frame × List ℕ)

-- the format that a version byte names
abbrev pub format_of : ℕ → Option Format
format_of byte = cond (byte == 1) (Some First) (cond (byte == 2) (Some Second) None)

-- the type that a byte names
abbrev pub type_of : ℕ → Option ColumnType
type_of byte = cond (byte == 1) (Some column.Int) (cond (byte == 2) (Some column.Text) (cond (byte == 3) (Some column.Bool) None))

-- whether the type is the one that is wanted, where one is
abbrev pub is_wanted : Option ColumnType → ColumnType → Bool
is_wanted None ty = true
is_wanted (Some wanted) ty = type_byte ty == type_byte wanted

-- whether each header is of the type that is wanted
abbrev pub AreWanted : Option ColumnType → List Frame → Type 0
AreWanted wanted [] = Unit {0}
AreWanted wanted (Header kind ∷ frames) = (is_wanted wanted kind.ty ≡ true) × AreWanted wanted frames
AreWanted wanted (Block part ∷ frames) = AreWanted wanted frames
AreWanted wanted (End ∷ frames) = AreWanted wanted frames

-- a header by the format and the type that its bytes name
abbrev pub header_of : ℕ → ℕ → Option ColumnType → Option Format → Option ColumnType → List ℕ → Result Found ReadFault
header_of col at wanted None ty rest = Err (BadFrame col at)
header_of col at wanted (Some format) None rest = Err (BadFrame col at)
header_of col at wanted (Some format) (Some ty) rest =
    if is_wanted wanted ty then Ok (Some (Header (record { format = format; ty = ty }), rest)) else Err (TypesDiffer col)

-- the header at the front of the bytes
unfoldable pub header_at : ℕ → ℕ → Option ColumnType → List ℕ → Result Found ReadFault
header_at col at wanted bytes =
    if nat_lt (length bytes) 3 then Ok None
    else header_of col at wanted (format_of (get_or bytes 1 0)) (type_of (get_or bytes 2 0)) (drop 3 bytes)

-- a block with these numbers, of this kind, and with these values
abbrev pub part_with : Head → Kind → List Value → Part
part_with h kind values =
    record {
      format = kind.format;
      generation = h.generation;
      number = h.number;
      last = h.flag == 1;
      block = record { ty = kind.ty; values = values };
    }

-- a block with these numbers and this payload, by the values that this says
abbrev pub part_of : ℕ → ℕ → Head → Kind → List ℕ → Result (List Value) BlockFault → Result Found ReadFault
part_of col at h kind rest (Ok values) =
    Ok (Some (Block (part_with h kind values), rest))
part_of col at h kind rest (Err fault) = Err (BadBlock col at fault)

-- a block with these numbers at the front of its payload and what follows
abbrev pub payload_at : ℕ → ℕ → Head → Kind → List ℕ → Result Found ReadFault
payload_at col at h kind bytes =
    if nat_lt (length bytes) h.size then Ok None
    else part_of col at h kind (drop h.size bytes) (reading_in kind.format kind.ty h.count (take h.size bytes))

-- the kind where there is no header, which no block meets
abbrev pub no_kind : Kind
no_kind = record { format = First; ty = column.Int }

-- the block at the front of the bytes
unfoldable pub part_at : ℕ → ℕ → Seam → List ℕ → Result Found ReadFault
part_at col at seam bytes =
    if nat_lt (length bytes) 16 then Ok None
    else if may_stand seam (head_at bytes) then payload_at col at (head_at bytes) (unwrap_or seam.kind no_kind) (drop 16 bytes)
    else Err (BadFrame col at)

-- the frame at the front of the bytes
unfoldable pub frame_at : ℕ → ℕ → Option ColumnType → Seam → List ℕ → Result Found ReadFault
frame_at col at wanted seam bytes =
    if get_or bytes 0 0 == 72 then header_at col at wanted bytes
    else if get_or bytes 0 0 == 66 then part_at col at seam bytes
    else if get_or bytes 0 0 == 69 then Ok (Some (End, drop 1 bytes))
    else Err (BadFrame col at)

-- ---- a column

-- what is read after a step, or the step's fault
infixl 10 ◌>>=◌
abbrev pub ◌>>=◌ : {A B : Type 0} → Result A ReadFault → (A → Result B ReadFault) → Result B ReadFault
(Ok x) >>= next = next x
(Err fault) >>= next = Err fault

-- a frame, and those that are read after it
abbrev pub and_then : Frame → Result (List Frame) ReadFault → Result (List Frame) ReadFault
and_then frame others = others >>= λ frames. Ok (frame ∷ frames)

-- what was found, and what is read after it
abbrev pub found_then : Found → (Frame → List ℕ → Result (List Frame) ReadFault) → Result (List Frame) ReadFault
found_then None next = Ok []
found_then (Some found) next = and_then found.0 (next found.0 found.1)

-- the frames of a column of so many bytes, the first of them at these; at most so many
unfoldable pub frames_at : ℕ → ℕ → Option ColumnType → ℕ → Seam → List ℕ → Result (List Frame) ReadFault
frames_at zero col wanted size seam bytes = Ok []
frames_at (suc most) col wanted size seam [] = Ok []
frames_at (suc most) col wanted size seam (byte ∷ bytes) =
    frame_at col (size - length (byte ∷ bytes)) wanted seam (byte ∷ bytes)
    >>= λ found. found_then found (λ frame rest. frames_at most col wanted size (seam_after seam frame) rest)

-- the frames of a column: each has a byte at least
abbrev pub frames_of : ℕ → Option ColumnType → List ℕ → Result (List Frame) ReadFault
frames_of col wanted bytes = frames_at (length bytes) col wanted (length bytes) start bytes

-- the blocks among frames, in order
abbrev pub parts_of : List Frame → List Part
parts_of [] = []
parts_of (Header ty ∷ frames) = parts_of frames
parts_of (Block part ∷ frames) = part ∷ parts_of frames
parts_of (End ∷ frames) = parts_of frames

-- blocks that were read before, and those that are read now
abbrev pub parts_after : List Part → Result (List Frame) ReadFault → Result (List Part) ReadFault
parts_after front reading = reading >>= λ frames. Ok (front ++ parts_of frames)

-- ---- what an answer says

-- what was found, the bytes after it no longer lent
abbrev pub found_now : Option (Frame × Bor (List ℕ)) → Found
found_now None = None
found_now (Some found) = Some (found.0, found.1.now)

-- a fault that was answered is that of the reading, unless memory ran out
abbrev pub Fails : {Y : Type 0} → ReadFault → Result Y ReadFault → Type 0
Fails NoMemory reading = Unit {0}
Fails WrongCount reading = reading ≡ Err WrongCount
Fails (BadFrame col at) reading = reading ≡ Err (BadFrame col at)
Fails (TypesDiffer col) reading = reading ≡ Err (TypesDiffer col)
Fails (BadBlock col at fault) reading = reading ≡ Err (BadBlock col at fault)
Fails NoImage reading = reading ≡ Err NoImage
Fails CountsDiffer reading = reading ≡ Err CountsDiffer
Fails TooManyRows reading = reading ≡ Err TooManyRows
Fails (NotAscending row) reading = reading ≡ Err (NotAscending row)

-- what was answered, seen by `view`, is the reading, unless memory ran out
abbrev pub Gives : {X Y : Type 0} → (X → Y) → Result X ReadFault → Result Y ReadFault → Type 0
Gives view (Ok x) reading = reading ≡ Ok (view x)
Gives view (Err fault) reading = Fails fault reading
