-- Rows with the numbers of their records, in order, and which of them repeat a key.
use Rattle.std.specs.Prelude.{◌≡◌, ◌<◌, ◌≤◌, ◌+◌, ℕ, nat_le, Bool, true, false, cond, Option, Some, None, List, length, slice_index_or}
use Rattle.std.specs.List.Sorted.{IsSorted}
use Rattle.std.specs.Ordering.{nat_cmp, ordering_then}
use Rattle.std.specs.declared.cmp.Ordering.{Ordering}
use Rattle.values.specs.Orders.{key_cmp}
use Rattle.values.specs.Shape.{key_of}
use Rattle.inputs.specs.Input.{first_repeat, same_key}
use Rattle.inputs.specs.declared.fault.TableFault.{TableFault}
use Rattle.inputs.specs.declared.fault.TableFault.TheVariants.{RepeatedKey}
use Rattle.inputs.specs.Input.{Numbered}

-- each row is of a later record than those before it
abbrev pub AreNumbered : List Numbered → Type 0
AreNumbered rows =
    (i j : ℕ) (d : Numbered) → i < j → j < length rows → (slice_index_or rows i d).number < (slice_index_or rows j d).number

-- by key, and then by the number of the record
abbrev pub numbered_cmp : ℕ → Numbered → Numbered → Ordering
numbered_cmp key_cols a b = ordering_then (key_cmp (key_of key_cols a.row) (key_of key_cols b.row)) (nat_cmp a.number b.number)

abbrev pub IsInOrder : ℕ → List Numbered → Type 0
IsInOrder key_cols rows = IsSorted (numbered_cmp key_cols) rows

-- the least number of a row below `high` that has the key of the row before it
abbrev pub IsLeastRepeat : ℕ → List Numbered → ℕ → Option ℕ → Type 0
IsLeastRepeat key_cols rows high None =
    (k : ℕ) (d : Numbered) → k + 1 < high → same_key key_cols (slice_index_or rows k d) (slice_index_or rows (k + 1) d) ≡ false
IsLeastRepeat key_cols rows high (Some number) =
    ((k : ℕ) × (k + 1 < high)
    × ((d : Numbered) → (same_key key_cols (slice_index_or rows k d) (slice_index_or rows (k + 1) d) ≡ true)
    × ((slice_index_or rows (k + 1) d).number ≡ number)))
    × ((k : ℕ) (d : Numbered) → k + 1 < high → same_key key_cols (slice_index_or rows k d) (slice_index_or rows (k + 1) d) ≡ true
    → number ≤ (slice_index_or rows (k + 1) d).number)

-- the lower of the number, where it is of a repeat, and the least one so far
abbrev pub lower_repeat : Bool → ℕ → Option ℕ → Option ℕ
lower_repeat false number least = least
lower_repeat true number None = Some number
lower_repeat true number (Some lower) = cond (nat_le lower number) (Some lower) (Some number)

-- the fault names the first record whose key an earlier one has
abbrev pub IsRepeatFault : ℕ → List Numbered → TableFault → Type 0
IsRepeatFault key_cols rows fault = (row : Numbered) × (first_repeat key_cols rows ≡ Some row) × (fault ≡ RepeatedKey row.number)
