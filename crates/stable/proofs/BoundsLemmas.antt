-- A range halved to the bound of a cell.
use Rattle.std.proofs.Common.{◌≡◌, ℕ, ◌+◌, ◌-◌, ◌*◌, ◌<◌, ◌≤◌, max, min, true, false, inl, inr, List, length, take, drop, sym, ap, ◌∙◌, arith, rules}
use Rattle.std.proofs.lemmas.Bool.{cases_lt}
use Rattle.std.proofs.lemmas.List.{get_or-drop, get_or-take, length-drop, length-take}
use Rattle.values.specs.declared.value.Value.{Value}
use Rattle.values.specs.declared.value.Value.TheVariants.{Bool as Truth}
use Rattle.stable.specs.Bounds.{IsBracket, IsParted, is_before, value_at}
use Rattle.std.proofs.lemmas.Grind.{common_steps}

module _ (cell : Value) (values : List Value) (start stop : ℕ) (parted : IsParted cell values start stop) (low high middle : ℕ)
    (h : IsBracket cell values start stop low high) (le : low ≤ middle) (lt : middle < high) where
  -- what is before a value that is below the cell is below it too
  pub raised : is_before cell (value_at values middle) ≡ true → IsBracket cell values start stop (middle + 1) high
  raised passes = search rules

  pub lowered : is_before cell (value_at values middle) ≡ false → IsBracket cell values start stop low middle
  lowered fails = search rules

-- ---- a block of the values

module _ (values : List Value) (number : ℕ) (block : List Value) (is : block ≡ take 1024 (drop (1024 * number) values)) where
  in_block : (k : ℕ) → k < 1024 → value_at block k ≡ value_at values (1024 * number + k)
  in_block k lt =
      ap (λ (vs : List Value). value_at vs k) is
      ∙ get_or-take 1024 (drop (1024 * number) values) k (Truth false) lt
      ∙ get_or-drop (1024 * number) values k (Truth false)

  -- as many of them as the range has there
  pub within_block : (stop high : ℕ) → stop ≤ length values → high ≤ 1024 → 1024 * number + high ≤ stop → high ≤ length block
  within_block stop high long few le =
      omega (
        arith,
        long,
        few,
        le,
        ap (λ (vs : List Value). length vs) is,
        length-take 1024 (drop (1024 * number) values),
        length-drop (1024 * number) values,
      )

  module _ (cell : Value) (start stop low high : ℕ) (from : start ≤ 1024 * number + low)
      (to : 1024 * number + high ≤ stop) (few : high ≤ 1024) where
    pub block_parted : IsParted cell values start stop → IsParted cell block low high
    block_parted parted i j a le lt passes =
        ap (is_before cell) (in_block i (omega (arith, le, lt, few)))
        ∙ parted (1024 * number + i) (1024 * number + j) (omega (arith, from, a)) (omega (arith, le)) (omega (arith, lt, to))
        (ap (is_before cell) (sym (in_block j (omega (arith, lt, few)))) ∙ passes)

    module _ (least : 1024 * number + low ≤ max start (1024 * number)) (most : min (stop - 1024 * number) 1024 ≤ high)
        (before : (k : ℕ) → start ≤ k → k < 1024 * number → is_before cell (value_at values k) ≡ true)
        (past : (k : ℕ) → 1024 * number + 1024 ≤ k → k < stop → is_before cell (value_at values k) ≡ false) (r : ℕ)
        (h : IsBracket cell block low high r r) where
      at_block : (k : ℕ) → 1024 * number ≤ k → k < 1024 * number + 1024 → value_at values k ≡ value_at block (k - 1024 * number)
      at_block k le lt =
          ap (value_at values) (omega (arith, le)) ∙ sym (in_block (k - 1024 * number) (omega (arith, le, lt)))

      is_before_all : (k : ℕ) → start ≤ k → k < 1024 * number + r → is_before cell (value_at values k) ≡ true
      is_before_all k a b = elim (cases_lt k (1024 * number)) [
        | inl early ↦ before k a early
        | inr le ↦
            ap (is_before cell) (at_block k le (omega (arith, b, h.within, few)))
            ∙ h.before (k - 1024 * number) (omega (arith, least, a, le)) (omega (arith, b, le))
      ]

      is_past_all : (k : ℕ) → 1024 * number + r ≤ k → k < stop → is_before cell (value_at values k) ≡ false
      is_past_all k a b = elim (cases_lt k (1024 * number + 1024)) [
        | inl near ↦
            ap (is_before cell) (at_block k (omega (arith, a)) near)
            ∙ h.past (k - 1024 * number) (omega (arith, a)) (omega (arith, most, near, b, a))
        | inr le ↦ past k le b
      ]

      -- the bound in the block that has it is that of the range
      pub block_bracket : IsBracket cell values start stop (1024 * number + r) (1024 * number + r)
      block_bracket = grind (arith, common_steps, is_before_all, is_past_all)
