-- A write whose counts and types are the schema's is refused only as a reply can tell.
use Rattle.std.proofs.Common.{◌≡◌, ℕ, suc, Bool, true, false, cond, T, Option, Some, None, Err, List, [], ◌∷◌, length, refl, ap, subst, arith}
use Rattle.std.proofs.lemmas.Bool.Decides.{nat_tests}
use Rattle.std.specs.Prelude.{IsTrue, ◌==◌, nat_lt, slice_get}
use Rattle.std.proofs.lemmas.Float.{T_from_true}
use Rattle.values.specs.Shape.{Columns, answer_of, has_type, is_too_long, value_fault, or_fault, values_fault, list_fault, key_fault, cell_fault_at, cell_fault}
use Rattle.values.specs.declared.fault.ShapeFault.{ShapeFault}
use Rattle.values.specs.declared.fault.ShapeFault.TheVariants.{WrongCount, WrongType, TextTooLong, NoSuchColumn, KeyColumn}
use Rattle.values.specs.declared.row.Key.{Key}
use Rattle.values.specs.declared.value.ColumnType.{ColumnType}
use Rattle.values.specs.declared.value.Value.{Value}
use Rattle.model.specs.declared.write.Write.{Write}
use Rattle.model.specs.declared.write.Write.TheVariants.{Insert, Delete, Set}
use Rattle.model.proofs.CallerLemmas.{first, second}
use Rattle.inputs.specs.Calls.{key_types}
use Rattle.inputs.specs.Typed.{are_of_types, is_of_column, is_typed_write}
use Rattle.pdtcli.specs.Run.{write_fault}

-- the faults of shape that a write of a script can have: its counts and types are those of the schema
abbrev pub IsToldShape : ShapeFault → Type 0
IsToldShape WrongCount = ⊥
IsToldShape (WrongType col) = ⊥
IsToldShape (TextTooLong cell) = Unit {0}
IsToldShape NoSuchColumn = ⊥
IsToldShape KeyColumn = Unit {0}

same_count : (n m : ℕ) → n ≡ m → (n == m) ≡ true
same_count n m h = grind (arith, nat_tests)

same_length : (types : List ColumnType) (values : List Value) → T (are_of_types types values) → length values ≡ length types
same_length [] [] h = refl
same_length [] (value ∷ values) h = absurd h
same_length (type ∷ types) [] h = absurd h
same_length (type ∷ types) (value ∷ values) h = ap suc (same_length types values (second (has_type type value) _ h))

-- what holds of a text that is too long holds of every fault of values of their types
module _ (Is : ShapeFault → Type 0) (long_is : (n : ℕ) → Is (TextTooLong n)) where
  told_some : (told fault : ShapeFault) → Is told → Some told ≡ Some fault → Is fault
  told_some told fault h is = subst Is (cc is) h

  -- a value of its column's type is refused for its length alone
  value_told : (typed long : Bool) (col : ℕ) (fault : ShapeFault) → T typed
      → cond typed (cond long (Some (TextTooLong col)) None) (Some (WrongType col)) ≡ Some fault → Is fault
  value_told true true col fault h is = told_some (TextTooLong col) fault (long_is col) is
  value_told true false col fault h is = cc is
  value_told false long col fault h is = absurd h

  -- the first of two faults
  either_told : (a b : Option ShapeFault) (fault : ShapeFault) → ((f : ShapeFault) → a ≡ Some f → Is f)
      → ((f : ShapeFault) → b ≡ Some f → Is f) → or_fault a b ≡ Some fault → Is fault
  either_told (Some a) b fault h k is = told_some a fault (h a refl) is
  either_told None b fault h k is = k fault is

  values_told : (col : ℕ) (types : List ColumnType) (values : List Value) (fault : ShapeFault) → T (are_of_types types values)
      → values_fault col types values ≡ Some fault → Is fault
  values_told col [] values fault h is = cc is
  values_told col (type ∷ types) [] fault h is = absurd h
  values_told col (type ∷ types) (value ∷ values) fault h is =
      either_told (value_fault type col value) (values_fault (suc col) types values) fault
      (λ f e. value_told (has_type type value) (is_too_long value) col f (first (has_type type value) _ h) e)
      (λ f e. values_told (suc col) types values f (second (has_type type value) _ h) e)
      is

  list_told : (types : List ColumnType) (values : List Value) (fault : ShapeFault) → T (are_of_types types values)
      → list_fault types values ≡ Some fault → Is fault
  list_told types values fault h is =
      by (length values == length types) (same_count (length values) (length types) (same_length types values h)) is
    where
      by : (same : Bool) → same ≡ true → cond same (values_fault 0 types values) (Some WrongCount) ≡ Some fault → Is fault
      by true s e = values_told 0 types values fault h e
      by false s e = cc s

told_long : (n : ℕ) → IsToldShape (TextTooLong n)
told_long n = tt

cell_told : (found : Option ColumnType) (key_cols col : ℕ) (value : Value) (fault : ShapeFault) → T (is_of_column found value)
    → cell_fault_at found key_cols col value ≡ Some fault → IsToldShape fault
cell_told None key_cols col value fault h is = absurd h
cell_told (Some type) key_cols col value fault h is = by (nat_lt col key_cols) is
  where
    by : (in_key : Bool) → cond in_key (Some KeyColumn) (value_fault type col value) ≡ Some fault → IsToldShape fault
    by true e = told_some IsToldShape told_long KeyColumn fault tt e
    by false e = value_told IsToldShape told_long (has_type type value) (is_too_long value) col fault h e

pub write_told : (schema : Columns) (write : Write) (fault : ShapeFault) → T (is_typed_write schema write)
    → write_fault schema write ≡ Some fault → IsToldShape fault
write_told schema (Insert row) fault h is = list_told IsToldShape told_long schema.types row fault h is
write_told schema (Delete key) fault h is = list_told IsToldShape told_long (key_types schema) key fault h is
write_told schema (Set key col value) fault h is =
    either_told IsToldShape told_long (key_fault schema key) (cell_fault schema col value) fault
    (λ f e. list_told IsToldShape told_long (key_types schema) key f (first (are_of_types (key_types schema) key) _ h) e)
    (λ f e. cell_told (slice_get schema.types col) schema.key_cols col value f (second (are_of_types (key_types schema) key) _ h) e)
    is

-- a key of its columns' types is refused for a text that is too long
pub key_long : (schema : Columns) (key : Key) (fault : ShapeFault) → IsTrue (are_of_types (key_types schema) key)
    → key_fault schema key ≡ Some fault → (cell : ℕ) × (fault ≡ TextTooLong cell)
key_long schema key fault h is =
    list_told (λ f. (cell : ℕ) × (f ≡ TextTooLong cell)) (λ n. (n, refl)) (key_types schema) key fault
    (T_from_true (are_of_types (key_types schema) key) h) is

-- a test's answer tells the first fault, and no other reply than those of texts and key columns
pub told_of : (schema : Columns) (write : Write) (fault : ShapeFault) → IsTrue (is_typed_write schema write)
    → answer_of (write_fault schema write) ≡ Err fault → IsToldShape fault
told_of schema write fault h is =
    write_told schema write fault (T_from_true (is_typed_write schema write) h) (found (write_fault schema write) is)
  where
    found : (o : Option ShapeFault) → answer_of o ≡ Err fault → o ≡ Some fault
    found None e = cc e
    found (Some f) e = ap Some (cc e)
