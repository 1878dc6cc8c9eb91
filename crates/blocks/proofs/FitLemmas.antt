-- Values of a type may stand in a column of it.
use Rattle.std.proofs.Common.{◌≡◌, ◌<◌, ℤ, List, ℕ, Bool, false, [], ◌∷◌, ◌++◌, length, get_or, map, refl, IsTrue, FitsSigned, arith}
use Rattle.std.specs.Int.{w64}
use Rattle.std.specs.List.{AllByRecursion, list_all}
use Rattle.values.specs.Shape.{has_type}
use Rattle.values.specs.declared.value.ColumnType.{ColumnType}
use Rattle.values.specs.declared.value.ColumnType.TheVariants as column
use Rattle.values.specs.declared.value.Value.{Value}
use Rattle.values.specs.declared.value.Value.TheVariants.{Int, Text, Bool as Truth}
use Rattle.blocks.specs.Cuts.{IsText}
use Rattle.blocks.specs.Column.{AllFit}
use Rattle.std.proofs.lemmas.Grind.{common_steps}

pub ints_fit_push : (xs : List ℤ) (x : ℤ) → AllFit column.Int (map Int xs) → FitsSigned w64 x → AllFit column.Int (map Int (xs ++ x ∷ []))
ints_fit_push [] x fit one = (one, tt)
ints_fit_push (y ∷ xs) x fit one = (fit.0, ints_fit_push xs x fit.1 one)

pub texts_fit : (ts : List (List ℕ)) → AllByRecursion IsText ts → AllFit column.Text (map Text ts)
texts_fit [] fit = tt
texts_fit (t ∷ ts) fit = (fit.0, texts_fit ts fit.1)

-- values of a type have it at each place
pub typed_at : (ty : ColumnType) (values : List Value) (i : ℕ) (value : Value) → IsTrue (list_all (has_type ty) values) → i < length values
    → value ≡ get_or values i value → IsTrue (has_type ty value)
typed_at ty values i value typed within read = grind (arith, common_steps)

refused : IsTrue false → ⊥
refused h = absurd cc

-- a value of the type of numbers is a number
pub is_int : (value : Value) → IsTrue (has_type column.Int value) → ((x : ℤ) → value ≡ Int x → ⊥) → ⊥
is_int (Int x) typed other = other x refl
is_int (Text t) typed other = refused typed
is_int (Truth b) typed other = refused typed

pub truths_fit : (values : List Value) → IsTrue (list_all (has_type column.Bool) values) → AllFit column.Bool values
truths_fit [] typed = tt
truths_fit (Truth b ∷ values) typed = (tt, truths_fit values typed)
truths_fit (Int x ∷ values) typed = absurd (refused typed)
truths_fit (Text t ∷ values) typed = absurd (refused typed)

-- truths fit, whichever they are
pub bits_fit : (bs : List Bool) → AllFit column.Bool (map Truth bs)
bits_fit [] = tt
bits_fit (b ∷ bs) = (tt, bits_fit bs)
