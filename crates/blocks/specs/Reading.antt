-- What bytes say as the payload of so many values, read from the left, or the first fault.
use Rattle.std.specs.Prelude.{◌≡◌, ℕ, zero, suc, ◌+◌, ℤ, nat_lt, if◌then◌else◌, List, [], ◌∷◌, length, take, drop, map, Result, Ok, Err}
use Rattle.std.specs.Int.{w16, w64, from_be_bytes, cast_signed}
use Rattle.std.specs.Str.{is_utf8}
use Rattle.values.specs.declared.value.ColumnType.{ColumnType}
use Rattle.values.specs.declared.value.ColumnType.TheVariants as column
use Rattle.values.specs.declared.value.Value.{Value}
use Rattle.values.specs.declared.value.Value.TheVariants.{Int, Text, Bool as Truth}
use Rattle.values.specs.declared.limits.TheConstants.{MAX_TEXT_BYTES}
use Rattle.blocks.specs.declared.fault.BlockFault.{BlockFault}
use Rattle.blocks.specs.declared.fault.BlockFault.TheVariants.{Short, Long, BadText, TextTooLong, BadPadding, BadEncoding, NoMemory}
use Rattle.blocks.specs.Payload.{byte_count, all_bits, has_set_padding}

-- what is read after a step, or the step's fault
infixl 10 ◌>>=◌
abbrev pub ◌>>=◌ : {A B : Type 0} → Result A BlockFault → (A → Result B BlockFault) → Result B BlockFault
(Ok x) >>= next = next x
(Err fault) >>= next = Err fault

-- a value, and the values that are read after it
abbrev pub and_then : Value → Result (List Value) BlockFault → Result (List Value) BlockFault
and_then value others = others >>= λ values. Ok (value ∷ values)

-- no more values: no byte may be left at this offset
abbrev pub end_at : ℕ → List ℕ → Result (List Value) BlockFault
end_at at [] = Ok []
end_at at (byte ∷ bytes) = Err (Long at)

-- the number that eight bytes spell, in two's complement with the highest byte first
abbrev pub number_of : List ℕ → ℤ
number_of bytes = cast_signed w64 (from_be_bytes w64 bytes)

-- as a value
abbrev pub int_of : List ℕ → Value
int_of bytes = Int (number_of bytes)

-- so many numbers, the first of them at this offset
unfoldable pub ints_at : ℕ → ℕ → List ℕ → Result (List Value) BlockFault
ints_at at zero bytes = end_at at bytes
ints_at at (suc count) bytes =
    if nat_lt (length bytes) 8 then Err (Short at)
    else and_then (int_of (take 8 bytes)) (ints_at (at + 8) count (drop 8 bytes))

-- the length that two bytes spell
abbrev pub length_of : List ℕ → ℕ
length_of bytes = from_be_bytes w16 (take 2 bytes)

-- the bytes of text number i, which begins at this offset, and the bytes after it
unfoldable pub text_at : ℕ → ℕ → List ℕ → Result (List ℕ × List ℕ) BlockFault
text_at i at bytes =
    if nat_lt (length bytes) 2 then Err (Short at)
    else if nat_lt MAX_TEXT_BYTES (length_of bytes) then Err (TextTooLong i)
    else if nat_lt (length (drop 2 bytes)) (length_of bytes) then Err (Short at)
    else if is_utf8 (take (length_of bytes) (drop 2 bytes)) then Ok
    (take (length_of bytes) (drop 2 bytes), drop (length_of bytes) (drop 2 bytes))
    else Err (BadText i)

-- so many texts, the first of them number i and at this offset
unfoldable pub texts_at : ℕ → ℕ → ℕ → List ℕ → Result (List Value) BlockFault
texts_at i at zero bytes = end_at at bytes
texts_at i at (suc count) bytes =
    text_at i at bytes >>= λ found. and_then (Text found.0) (texts_at (i + 1) (at + 2 + length found.0) count found.1)

-- so many truths
unfoldable pub truths_of : ℕ → List ℕ → Result (List Value) BlockFault
truths_of count bytes =
    if nat_lt (length bytes) (byte_count count) then Err (Short 0)
    else if nat_lt (byte_count count) (length bytes) then Err (Long (byte_count count))
    else if has_set_padding count bytes then Err BadPadding
    else Ok (map Truth (take count (all_bits bytes)))

-- so many values of the type
abbrev pub reading_of : ColumnType → ℕ → List ℕ → Result (List Value) BlockFault
reading_of column.Int count bytes = ints_at 0 count bytes
reading_of column.Text count bytes = texts_at 0 0 count bytes
reading_of column.Bool count bytes = truths_of count bytes

-- a fault that was answered is that of the reading, unless memory ran out
abbrev pub Fails : {Y : Type 0} → BlockFault → Result Y BlockFault → Type 0
Fails NoMemory reading = Unit {0}
Fails (Short at) reading = reading ≡ Err (Short at)
Fails (Long at) reading = reading ≡ Err (Long at)
Fails (BadText i) reading = reading ≡ Err (BadText i)
Fails (TextTooLong i) reading = reading ≡ Err (TextTooLong i)
Fails BadPadding reading = reading ≡ Err BadPadding
Fails BadEncoding reading = reading ≡ Err BadEncoding

-- what was answered, seen by `view`, is the reading, unless memory ran out
abbrev pub Gives : {X Y : Type 0} → (X → Y) → Result X BlockFault → Result Y BlockFault → Type 0
Gives view (Ok x) reading = reading ≡ Ok (view x)
Gives view (Err fault) reading = Fails fault reading
