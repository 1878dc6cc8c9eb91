-- Canonical entries by key: they split at any key, and none stands past the last row.
use Rattle.std.proofs.Common.{◌≡◌, ℕ, ◌≤◌, true, false, not, T, [], ◌∷◌, ◌++◌, map, filter, length, Less, is_lt, refl, ap, arith, append_assoc, rules}
use Rattle.std.specs.Bool.{passes}
use Rattle.std.specs.List.{All}
use Rattle.std.specs.FinMap.Entries.{below_all}
use Rattle.std.proofs.lemmas.List.Elements.{All-nil, All-cons, All-append}
use Rattle.std.proofs.lemmas.List.Sums.{length-filter, count_by-le-length}
use Rattle.values.specs.Orders.{key_cmp, key_cmp_total}
use Rattle.values.specs.Shape.{Columns}
use Rattle.values.specs.declared.row.Key.{Key}
use Rattle.model.specs.declared.entry.Change.TheVariants.{Ins, Del, Mod}
use Rattle.model.specs.declared.effect.Effect.{Effect}
use Rattle.model.specs.declared.effect.Effect.TheVariants as effect
use Rattle.model.specs.Maps.{is_sorted}
use Rattle.model.specs.Table.{Table, rank}
use Rattle.model.specs.Effects.{Cells, Effects}
use Rattle.model.specs.Entries.{entry_at, entries_of, canonical_entries}
use Rattle.model.specs.Laws.{EntriesSplit}
use Rattle.model.proofs.MapsLemmas.{first, second, less}
use Rattle.std.proofs.lemmas.Grind.{common_steps}

-- ---- the entries below a key and the rest

module _ (key : Key) where
  -- a key above one that isn't below the key isn't below it
  still_above : (j k : Key) → is_lt (key_cmp j key) ≡ false → key_cmp j k ≡ Less → is_lt (key_cmp k key) ≡ false
  still_above j k above p =
      elim (is_lt (key_cmp k key)) as (λ b. is_lt (key_cmp k key) ≡ b → b ≡ false) [
        | true ↦ λ is. let low : is_lt (key_cmp j key) ≡ true = ap is_lt (key_cmp_total.trans j k key p (less _ (passes _ is))) in cc
        | false ↦ λ is. refl
      ] refl

  -- of the effects above such a key none is below the key
  filter-none_below : (j : Key) (x : Effects) → is_lt (key_cmp j key) ≡ false → T (below_all key_cmp j x)
      → filter (λ e. is_lt (key_cmp e.0 key)) x ≡ []
  filter-none_below j [] above h = refl
  filter-none_below j (e ∷ x) above h = grind (arith, common_steps, filter-none_below j x above (second (is_lt (key_cmp j e.0)) _ h), still_above, less, first, second)

  -- and all are kept among the rest
  filter-all_above : (j : Key) (x : Effects) → is_lt (key_cmp j key) ≡ false → T (below_all key_cmp j x)
      → filter (λ e. not (is_lt (key_cmp e.0 key))) x ≡ x
  filter-all_above j [] above h = refl
  filter-all_above j (e ∷ x) above h = grind (arith, common_steps, filter-all_above j x above (second (is_lt (key_cmp j e.0)) _ h), still_above, less, first, second)

  -- the entries of ascending effects are those of the keys below the key, followed by those of the rest
  canonical_entries-split : (t : Table) (x : Effects) → T (is_sorted key_cmp x)
      → canonical_entries t x ≡ canonical_entries t (filter (λ e. is_lt (key_cmp e.0 key)) x)
      ++ canonical_entries t (filter (λ e. not (is_lt (key_cmp e.0 key))) x)
  canonical_entries-split t [] h = refl
  canonical_entries-split t (e ∷ x) h = grind (arith, common_steps, canonical_entries-split t x (second (below_all key_cmp e.0 x) _ h), second, append_assoc, filter-none_below, first, filter-all_above)

-- the entries of effects split at any key
pub canonical_entries-at_key : (schema : Columns) → EntriesSplit schema
canonical_entries-at_key schema t x key h = grind (arith, common_steps, canonical_entries-split, first)

-- ---- the places of entries

-- no more keys are below a key than the table has
pub rank-le-length : (key : Key) (t : Table) → rank key t ≤ length t
rank-le-length key t = omega (arith, length-filter (λ e. is_lt (key_cmp e.0 key)) t, count_by-le-length (λ e. is_lt (key_cmp e.0 key)) t)

module _ (n m : ℕ) (le : n ≤ m) where
  -- the modifies of a row stand at its place
  cells_placed : (cells : Cells) → All (λ e. e.sid ≤ m) (map (λ c. entry_at n (Mod c.0 c.1)) cells)
  cells_placed [] = All-nil (λ e. e.sid ≤ m)
  cells_placed (c ∷ cells) =
      All-cons (λ e. e.sid ≤ m) (entry_at n (Mod c.0 c.1)) (map (λ c. entry_at n (Mod c.0 c.1)) cells) le (cells_placed cells)

  -- the entries of one effect stand at the place of its key
  entries_of-placed : (key : Key) (f : Effect) → All (λ e. e.sid ≤ m) (entries_of n key f)
  entries_of-placed key (effect.Ins row) = All-cons (λ e. e.sid ≤ m) (entry_at n (Ins row)) [] le (All-nil (λ e. e.sid ≤ m))
  entries_of-placed key effect.Del = All-cons (λ e. e.sid ≤ m) (entry_at n (Del key)) [] le (All-nil (λ e. e.sid ≤ m))
  entries_of-placed key (effect.Mod cells) = cells_placed cells
  entries_of-placed key (effect.Rep row) = search rules

-- no canonical entry stands past the last row
pub canonical_entries-placed : (t : Table) (x : Effects) → All (λ e. e.sid ≤ length t) (canonical_entries t x)
canonical_entries-placed t [] = All-nil (λ e. e.sid ≤ length t)
canonical_entries-placed t (e ∷ x) =
    All-append (λ e. e.sid ≤ length t) (entries_of (rank e.0 t) e.0 e.1) (canonical_entries t x)
    (entries_of-placed (rank e.0 t) (length t) (rank-le-length e.0 t) e.0 e.1) (canonical_entries-placed t x)
