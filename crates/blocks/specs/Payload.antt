-- How the values of a column are spelt in bytes.
use Rattle.std.specs.Prelude.{◌≡◌, ◌<◌, ◌≤◌, ℕ, zero, suc, ◌+◌, ◌*◌, ◌/◌, ◌==◌, Bool, false, cond, List, [], ◌∷◌, ◌++◌, length, drop, map, get_or}
use Rattle.std.specs.List.{flat_map, list_any}
use Rattle.std.specs.Int.{w16, w64, to_be_bytes, cast_unsigned, bit_at}
use Rattle.values.specs.declared.limits.TheConstants.{MAX_BLOCK_VALUES}
use Rattle.values.specs.declared.value.ColumnType.{ColumnType}
use Rattle.values.specs.declared.value.ColumnType.TheVariants as column
use Rattle.values.specs.declared.value.Value.{Value}
use Rattle.values.specs.declared.value.Value.TheVariants.{Int, Text, Bool as Truth}

-- whether numbers are bytes
abbrev pub AreBytes : List ℕ → Type 0
AreBytes bytes = (i : ℕ) → get_or bytes i 0 < 256

-- ---- truths, eight a byte

-- how many bytes so many truths take
abbrev pub byte_count : ℕ → ℕ
byte_count count = (count + 7) / 8

-- a truth as a bit; past the last truth the bit is 0
abbrev pub bit_of : List Bool → ℕ → ℕ
bit_of bs i = cond (get_or bs i false) 1 0

-- the first eight truths as a byte, the first as its highest bit
abbrev pub byte_of : List Bool → ℕ
byte_of bs =
    128 * bit_of bs 0 + 64 * bit_of bs 1 + 32 * bit_of bs 2 + 16 * bit_of bs 3 + 8 * bit_of bs 4 + 4 * bit_of bs 5 + 2
    * bit_of bs 6 + bit_of bs 7

-- so many bytes of truths
abbrev pub packed : ℕ → List Bool → List ℕ
packed zero bs = []
packed (suc n) bs = byte_of bs ∷ packed n (drop 8 bs)

-- the lowest bits of a byte as truths, from the highest of them down
abbrev pub low_bits : ℕ → ℕ → List Bool
low_bits zero byte = []
low_bits (suc k) byte = (bit_at byte k == 1) ∷ low_bits k byte

-- all eight
abbrev pub bits_of : ℕ → List Bool
bits_of byte = low_bits 8 byte

-- the bits of bytes
abbrev pub all_bits : List ℕ → List Bool
all_bits bytes = flat_map bits_of bytes

-- whether a bit after so many truths is 1
abbrev pub has_set_padding : ℕ → List ℕ → Bool
has_set_padding count bytes = list_any (λ bit. bit) (drop count (all_bits bytes))

-- whether bytes are as many as so many truths take, with no bit set after them
pub record IsPacked (count : ℕ) (bytes : List ℕ) : Type 0 where
  pub whole : length bytes ≡ byte_count count
  pub unused : has_set_padding count bytes ≡ false
  pub few : count ≤ MAX_BLOCK_VALUES
  pub small : AreBytes bytes

-- whether bytes are so many truths
abbrev pub ArePacked : ℕ → List ℕ → Type 0
ArePacked count bytes = (bs : List Bool) × (length bs ≡ count) × (bytes ≡ packed (byte_count count) bs)

-- ---- values

-- a number in eight bytes of two's complement, or a text after its length in two bytes; the highest byte first
abbrev pub spelling : Value → List ℕ
spelling (Int x) = to_be_bytes w64 (cast_unsigned w64 x)
spelling (Text t) = to_be_bytes w16 (length t) ++ t
spelling (Truth b) = []

-- whether a value is true
abbrev pub is_true : Value → Bool
is_true (Truth b) = b
is_true (Int x) = false
is_true (Text t) = false

-- the payload of a column's values: numbers and texts one after the other, truths packed
abbrev pub payload_of : ColumnType → List Value → List ℕ
payload_of column.Int values = flat_map spelling values
payload_of column.Text values = flat_map spelling values
payload_of column.Bool values = packed (byte_count (length values)) (map is_true values)
