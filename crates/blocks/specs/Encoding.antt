-- Payloads of format 2: a byte that names the encoding, and its rest.
use Rattle.std.specs.Prelude.{◌≡◌, ℕ, ◌+◌, ◌==◌, nat_lt, if◌then◌else◌, Bool, false, List, [], ◌∷◌, length, take, replicate, Result, Ok, Err}
use Rattle.std.specs.List.{list_all}
use Rattle.std.specs.Ordering.{eq_by_cmp}
use Rattle.values.specs.Orders.{value_cmp}
use Rattle.values.specs.declared.value.ColumnType.{ColumnType}
use Rattle.values.specs.declared.value.Value.{Value}
use Rattle.blocks.specs.declared.fault.BlockFault.{BlockFault}
use Rattle.blocks.specs.declared.fault.BlockFault.TheVariants.{Short, Long, BadText, TextTooLong, BadPadding, BadEncoding, NoMemory}
use Rattle.blocks.specs.declared.encoding.TheConstants.{PLAIN, CONSTANT}
use Rattle.blocks.specs.Column.{AllFit}
use Rattle.blocks.specs.Payload.{AreBytes, payload_of}
use Rattle.blocks.specs.Reading.{◌>>=◌, reading_of}

-- whether there are two values or more, all equal
abbrev pub is_constant : List Value → Bool
is_constant [] = false
is_constant (value ∷ []) = false
is_constant (value ∷ other ∷ values) = list_all (eq_by_cmp value_cmp value) (other ∷ values)

-- equal values as the payload of one of them, and others as their own
abbrev pub encoded_of : ColumnType → List Value → List ℕ
encoded_of ty values =
    if is_constant values then CONSTANT ∷ payload_of ty (take 1 values)
    else PLAIN ∷ payload_of ty values

-- ---- read

-- the place of a fault among the bytes, where it has one
abbrev pub offset_of : BlockFault → ℕ
offset_of (Short at) = at
offset_of (Long at) = at
offset_of fault = 0

-- a fault behind one more byte
abbrev pub one_later : BlockFault → BlockFault
one_later (Short at) = Short (at + 1)
one_later (Long at) = Long (at + 1)
one_later (BadText i) = BadText i
one_later (TextTooLong i) = TextTooLong i
one_later BadPadding = BadPadding
one_later BadEncoding = BadEncoding
one_later NoMemory = NoMemory

-- a reading behind the byte of the encoding
abbrev pub behind : Result (List Value) BlockFault → Result (List Value) BlockFault
behind (Ok values) = Ok values
behind (Err fault) = Err (one_later fault)

-- so many times the first value
abbrev pub copies_of : ℕ → List Value → List Value
copies_of count [] = []
copies_of count (value ∷ values) = replicate count value

-- the values themselves, which a shorter form must not stand for
abbrev pub unless_constant : List Value → Result (List Value) BlockFault
unless_constant values = if is_constant values then Err BadEncoding else Ok values

abbrev pub plain_of : ColumnType → ℕ → List ℕ → Result (List Value) BlockFault
plain_of ty count bytes = behind (reading_of ty count bytes) >>= unless_constant

abbrev pub constant_of : ColumnType → ℕ → List ℕ → Result (List Value) BlockFault
constant_of ty count bytes =
    if nat_lt count 2 then Err BadEncoding
    else behind (reading_of ty 1 bytes) >>= λ values. Ok (copies_of count values)

-- so many values of the type
abbrev pub decoding_of : ColumnType → ℕ → List ℕ → Result (List Value) BlockFault
decoding_of ty count [] = Err (Short 0)
decoding_of ty count (encoding ∷ bytes) =
    if encoding == PLAIN then plain_of ty count bytes
    else if encoding == CONSTANT then constant_of ty count bytes
    else Err BadEncoding

-- ---- laws

-- bytes are the payload of these values of the type, in format 2
pub record IsEncoded (ty : ColumnType) (count : ℕ) (bytes : List ℕ) (values : List Value) : Type 0 where
  pub counted : length values ≡ count
  pub fit : AllFit ty values
  pub spelt : bytes ≡ encoded_of ty values

-- the payload of values that fit the type reads as just these values
abbrev pub AnEncodingReadsBack : Type 0
AnEncodingReadsBack =
    (ty : ColumnType) (values : List Value) → AllFit ty values → decoding_of ty (length values) (encoded_of ty values) ≡ Ok values

-- bytes that read as values are their payload
abbrev pub WhatDecodesIsAnEncoding : Type 0
WhatDecodesIsAnEncoding =
    (ty : ColumnType) (count : ℕ) (bytes : List ℕ) (values : List Value) → AreBytes bytes → decoding_of ty count bytes ≡ Ok values
    → IsEncoded ty count bytes values

-- bytes are the payload of one list of so many values at most
abbrev pub AnEncodingIsOfOneList : Type 0
AnEncodingIsOfOneList =
    (ty : ColumnType) (count : ℕ) (bytes : List ℕ) (values others : List Value) → IsEncoded ty count bytes values
    → IsEncoded ty count bytes others → values ≡ others
