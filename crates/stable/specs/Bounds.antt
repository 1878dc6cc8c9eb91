-- The bound of a cell among ascending values: where those end that are below it.
use Rattle.std.specs.Prelude.{◌≡◌, ℕ, ◌≤◌, ◌<◌, Bool, true, false, List, get_or}
use Rattle.std.specs.Ordering.{is_lt}
use Rattle.values.specs.Orders.{value_cmp}
use Rattle.values.specs.declared.value.Value.{Value}
use Rattle.values.specs.declared.value.Value.TheVariants.{Bool as Truth}

-- whether a value is below a cell
abbrev pub is_before : Value → Value → Bool
is_before cell v = is_lt (value_cmp v cell)

-- the value number `i`; past the last there is none, and it says false
abbrev pub value_at : List Value → ℕ → Value
value_at values i = get_or values i (Truth false)

-- whether no value of a range that is below the cell follows one that isn't
abbrev pub IsParted : Value → List Value → ℕ → ℕ → Type 0
IsParted cell values start stop =
    (i j : ℕ) → start ≤ i → i ≤ j → j < stop → is_before cell (value_at values j) ≡ true
    → is_before cell (value_at values i) ≡ true

-- whether the bound in a range is not before `low` and not after `high`
pub record IsBracket (cell : Value) (values : List Value) (start stop low high : ℕ) : Type 0 where
  pub after : start ≤ low
  pub ordered : low ≤ high
  pub within : high ≤ stop
  pub before : (k : ℕ) → start ≤ k → k < low → is_before cell (value_at values k) ≡ true
  pub past : (k : ℕ) → high ≤ k → k < stop → is_before cell (value_at values k) ≡ false
