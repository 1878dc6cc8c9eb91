-- What the bytes of a cell say, lists that are read element by element, and where a name stands.
use Rattle.std.specs.Prelude.{ℕ, suc, ℤ, pos, neg_ℤ, ◌^◌, nat_lt, nat_le, Bool, true, false, cond, ◌&&◌, Option, Some, None, Result, Ok, Err, List, [], ◌∷◌, ◌++◌}
use Rattle.std.specs.Option.{option_map}
use Rattle.std.specs.Str.{is_utf8, bytes_eq, all_ascii_digits}
use Rattle.std.specs.Str.Parse.{true_text, false_text, digits_value, starts_with_minus, without_leading_sign}
use Rattle.values.specs.declared.value.ColumnType.{ColumnType}
use Rattle.values.specs.declared.value.ColumnType.TheVariants as column
use Rattle.values.specs.declared.value.Value.{Value}
use Rattle.values.specs.declared.value.Value.TheVariants.{Int, Text, Bool as Truth}

-- ---- cells

-- whether the bytes are one decimal digit or more
abbrev pub is_numeral : List ℕ → Bool
is_numeral [] = false
is_numeral (c ∷ digits) = all_ascii_digits (c ∷ digits)

-- the number that the digits write, below 0 after a minus, where it is one of 64 bits
abbrev pub signed_number : Bool → List ℕ → Option ℤ
signed_number true digits =
    cond (is_numeral digits && nat_le (digits_value 10 digits) (2 ^ 63)) (Some (neg_ℤ (pos (digits_value 10 digits)))) None
signed_number false digits =
    cond (is_numeral digits && nat_lt (digits_value 10 digits) (2 ^ 63)) (Some (pos (digits_value 10 digits))) None

-- the number that the bytes write: a plus, a minus or no sign, and digits
abbrev pub int_of : List ℕ → Option ℤ
int_of bytes = signed_number (starts_with_minus bytes) (without_leading_sign bytes)

-- the position that the bytes write: digits alone, of 64 bits
abbrev pub position_of : List ℕ → Option ℕ
position_of bytes = cond (is_numeral bytes && nat_lt (digits_value 10 bytes) (2 ^ 64)) (Some (digits_value 10 bytes)) None

-- the truth that the bytes name
abbrev pub truth_of : List ℕ → Option Bool
truth_of bytes = cond (bytes_eq bytes true_text) (Some true) (cond (bytes_eq bytes false_text) (Some false) None)

-- the value of this type that the bytes say, a text being any text
abbrev pub value_of : ColumnType → List ℕ → Option Value
value_of column.Int bytes = option_map Int (int_of bytes)
value_of column.Bool bytes = option_map Truth (truth_of bytes)
value_of column.Text bytes = cond (is_utf8 bytes) (Some (Text bytes)) None

-- ---- lists, the first fault from the left

module _ {A F : Type 0} where
  -- what is there, or else this fault
  abbrev pub or_else : F → Option A → Result A F
  or_else fault None = Err fault
  or_else fault (Some a) = Ok a

  -- the first, and then the rest
  abbrev pub then_cons : Result A F → Result (List A) F → Result (List A) F
  then_cons (Err fault) rest = Err fault
  then_cons (Ok a) (Err fault) = Err fault
  then_cons (Ok a) (Ok rest) = Ok (a ∷ rest)

  -- these, and then those
  abbrev pub prepend : List A → Result (List A) F → Result (List A) F
  prepend xs (Err fault) = Err fault
  prepend xs (Ok ys) = Ok (xs ++ ys)

-- ---- names

-- where the name first stands, the names being counted from `at`
abbrev pub place_from : ℕ → List ℕ → List (List ℕ) → Option ℕ
place_from at name [] = None
place_from at name (other ∷ names) = cond (bytes_eq other name) (Some at) (place_from (suc at) name names)
