-- The rows among which a key's place is.
use Rattle.std.specs.Prelude.{◌≡◌, ℕ, ◌≤◌, ◌<◌, Bool, true, false, List, [], length, get_or}
use Rattle.std.specs.Ordering.{is_lt}
use Rattle.values.specs.Orders.{key_cmp}
use Rattle.values.specs.Shape.{key_of}
use Rattle.values.specs.declared.row.Row.{Row}
use Rattle.values.specs.declared.row.Key.{Key}
use Rattle.values.specs.declared.value.Value.TheVariants.{Bool as Truth}

-- whether the row number `k` is below the key
abbrev pub is_row_below : ℕ → Key → List Row → ℕ → Bool
is_row_below key_cols key rows k = is_lt (key_cmp (key_of key_cols (get_or rows k [])) key)

-- whether so many of a row's first cells are the key's
abbrev pub HasCells : ℕ → Key → Row → Type 0
HasCells n key row = (c : ℕ) → c < n → get_or row c (Truth false) ≡ get_or key c (Truth false)

-- whether the rows before `low` are below the key and those from `high` on are not, and those between have so many of the
-- key's cells
pub record IsSpan (key_cols : ℕ) (key : Key) (rows : List Row) (tied low high : ℕ) : Type 0 where
  pub ordered : low ≤ high
  pub within : high ≤ length rows
  pub below : (k : ℕ) → k < low → is_row_below key_cols key rows k ≡ true
  pub above : (k : ℕ) → high ≤ k → k < length rows → is_row_below key_cols key rows k ≡ false
  pub cells : (k : ℕ) → low ≤ k → k < high → HasCells tied key (get_or rows k [])
