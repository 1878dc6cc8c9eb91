-- Values gathered from their places, block by block.
use Rattle.std.proofs.Common.{◌≡◌, ◌∙◌, ℕ, ◌+◌, ◌-◌, ◌*◌, ◌/◌, ◌%◌, ◌<◌, ◌≤◌, false, List, [], ◌∷◌, ◌++◌, length, take, drop, map, get_or, slice_get, Some, refl, sym, ap, arith, inl, inr}
use Rattle.std.specs.List.{All}
use Rattle.std.proofs.Math.Seq.{take-add}
use Rattle.std.proofs.lemmas.Bool.{cases_lt}
use Rattle.std.proofs.lemmas.List.{get_or_default, take_all}
use Rattle.std.proofs.lemmas.List.Elements.{All-head, All-tail}
use Rattle.std.proofs.lemmas.Option.{slice_get-get_or, get_or_from_slice_get}
use Rattle.values.specs.declared.value.ColumnType.{ColumnType}
use Rattle.values.specs.declared.value.ColumnType.TheVariants as column
use Rattle.values.specs.declared.value.Value.TheVariants.{Bool as Truth}
use Rattle.blocks.specs.Column.{Column}
use Rattle.blocks.specs.Places.{IsPlaceOf, block_of, value_at}
use Rattle.stable.specs.Column.{joined, IsInBlocks, all_may_stand}
use Rattle.stable.proofs.ColumnLemmas.{has_block, has_place, finds}
use Rattle.stable.proofs.ExtendLemmas.{stands_at}
use Rattle.std.proofs.lemmas.Grind.{common_steps}

module _ (ty : ColumnType) (count : ℕ) (blocks : List Column) (h : IsInBlocks ty count blocks) where
  module _ (i : ℕ) (lt : i < count) where
    abbrev none : Column
    none = record { ty = column.Bool; values = [] }

    here : block_of blocks i ≡ get_or blocks (i / 1024) (block_of blocks i)
    here = get_or_default blocks (i / 1024) none (block_of blocks i) (has_block ty count blocks h i lt)

    within : i % 1024 < length (block_of blocks i).values
    within = has_place ty count blocks h i lt (block_of blocks i) here

    found : slice_get (joined blocks) i ≡ Some (value_at blocks i)
    found =
        finds ty count blocks h i lt (block_of blocks i) here (value_at blocks i)
        (slice_get-get_or (block_of blocks i).values (i % 1024) (Truth false) within)

    -- at a place the blocks have the column's value
    value-is : value_at blocks i ≡ get_or (joined blocks) i (Truth false)
    value-is = sym (get_or_from_slice_get (joined blocks) i (value_at blocks i) (Truth false) found)

    pub place-is : all_may_stand ty (joined blocks) → IsPlaceOf ty blocks i
    place-is fit = grind (arith, common_steps, stands_at, found, has_block, within)

  pub values-are : (places : List ℕ) → All (λ place. place < count) places
      → map (value_at blocks) places ≡ map (λ place. get_or (joined blocks) place (Truth false)) places
  values-are [] all = refl
  values-are (p ∷ places) all =
      let one = value-is p (All-head (λ place. place < count) p places all) in
      let rest = values-are places (All-tail (λ place. place < count) p places all) in
      (λ i. one i ∷ rest i)

-- one part more of a list that is taken in parts of 1,024
pub part-more : (places : List ℕ) (n to : ℕ) → 1024 * n ≤ to → to ≤ 1024 * n + 1024 → (to < 1024 * n + 1024 → length places ≤ to)
    → take (1024 * n) places ++ take (to - 1024 * n) (drop (1024 * n) places) ≡ take (1024 * (n + 1)) places
part-more places n to low high last =
    sym (take-add (1024 * n) (to - 1024 * n) places)
    ∙ elim (cases_lt to (1024 * n + 1024)) [
      | inl l ↦ take_all (1024 * n + (to - 1024 * n)) places (omega (arith, low, last l))
          ∙ sym (take_all (1024 * (n + 1)) places (omega (arith, l, last l)))
      | inr g ↦ ap (λ k. take k places) (omega (arith, low, high, g))
    ]
