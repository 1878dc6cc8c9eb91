-- A number's place among ascending ones, found by halving: the block first, then the place in it.
use Rattle.std.proofs.Common.{◌≡◌, ℕ, ℤ, ◌+◌, ◌-◌, ◌*◌, ◌<◌, ◌≤◌, Bool, true, false, int_lt, pos, inl, inr, Bor, List, [], ◌∷◌, length, map, drop, get_or, refl, sym, ap, ◌∙◌, arith}
use Rattle.std.specs.List.Sorted.{IsPartitionedBy, IsPartitionPoint}
use Rattle.std.proofs.lemmas.Bool.{cases_lt, false_from_ne_true}
use Rattle.std.proofs.lemmas.List.{length-map, get_or-take, get_or-drop, get_or_default, length-take, length-drop}
use Rattle.values.specs.declared.value.ColumnType.TheVariants as column
use Rattle.values.specs.declared.value.Value.{Value}
use Rattle.values.specs.declared.value.Value.TheVariants.{Int, Text, Bool as Truth}
use Rattle.blocks.specs.Cells.{column_of_values}
use Rattle.blocks.specs.Column.{Column}
use Rattle.blocks.specs.declared.block.BlockValues.{BlockValues}
use Rattle.blocks.specs.declared.block.BlockValues.TheVariants as block
use Rattle.stable.specs.Column.{joined, block_at, block_count, is_below, IsInBlocks}
use Rattle.stable.proofs.ColumnLemmas.{length_blocks, block_here}
use Rattle.std.proofs.lemmas.Grind.{common_steps}

-- whether a block's first value is below a number
abbrev pub begins : ℤ → Column → Bool
begins number b = is_below number (get_or b.values 0 (Truth false))

module _ (number : ℤ) (blocks : List Column) (h : IsInBlocks column.Int (length (joined blocks)) blocks)
    (parted : IsPartitionedBy (is_below number) (joined blocks)) where
  -- a value of a block is that of the column
  value_in : (k : ℕ) (b : Column) (i : ℕ) (d : Value) → b ≡ get_or blocks k b → k < length blocks → i < length b.values
      → get_or b.values i d ≡ get_or (joined blocks) (1024 * k + i) d
  value_in k b i d is lt within =
      let values = joined blocks in
      let same =
      block_here column.Int (length values) blocks h k b is
      (omega (arith, length_blocks column.Int (length values) blocks h, lt)) in
      let small : i < 1024 = omega (arith, within, ap (λ (c : Column). length c.values) same, length-take 1024 (drop (1024 * k) values)) in
      ap (λ (c : Column). get_or c.values i d) same
      ∙ get_or-take 1024 (drop (1024 * k) values) i d small
      ∙ get_or-drop (1024 * k) values i d

  pub long : (k : ℕ) (b : Column) → b ≡ get_or blocks k b → k < length blocks → 1024 * k + length b.values ≤ length (joined blocks)
  long k b is lt =
      let values = joined blocks in
      let counted : k < block_count (length values) = omega (arith, length_blocks column.Int (length values) blocks h, lt) in
      let same = block_here column.Int (length values) blocks h k b is counted in
      omega (
        arith,
        counted,
        ap (λ (c : Column). length c.values) same,
        length-take 1024 (drop (1024 * k) values),
        length-drop (1024 * k) values,
      )

  -- all but the last are full
  full : (k : ℕ) (b : Column) → b ≡ get_or blocks k b → k < length blocks → (n : ℕ) → n < length (joined blocks)
      → n < 1024 * k + 1024 → n < 1024 * k + length b.values
  full k b is lt n there near =
      let values = joined blocks in
      let counted : k < block_count (length values) = omega (arith, length_blocks column.Int (length values) blocks h, lt) in
      let same = block_here column.Int (length values) blocks h k b is counted in
      omega (
        arith,
        counted,
        there,
        near,
        ap (λ (c : Column). length c.values) same,
        length-take 1024 (drop (1024 * k) values),
        length-drop (1024 * k) values,
      )

  begins_at : (k : ℕ) (d : Column) → k < length blocks
      → begins number (get_or blocks k d) ≡ is_below number (get_or (joined blocks) (1024 * k) (Truth false))
  begins_at k d lt =
      let b = get_or blocks k d in
      let is : b ≡ get_or blocks k b = get_or_default blocks k d b lt in
      let there : 1024 * k < length (joined blocks) = omega (arith, length_blocks column.Int (length (joined blocks)) blocks h, lt) in
      let some : 0 < length b.values = omega (arith, full k b is lt (1024 * k) there (omega arith)) in
      ap (is_below number) (value_in k b 0 (Truth false) is lt some ∙ ap (λ n. get_or (joined blocks) n (Truth false)) (omega arith))

  pub blocks_parted : IsPartitionedBy (begins number) blocks
  blocks_parted i j d le lt passes =
      let there : 1024 * j < length (joined blocks) = omega (arith, length_blocks column.Int (length (joined blocks)) blocks h, lt) in
      begins_at i d (omega (arith, le, lt))
      ∙ parted (1024 * i) (1024 * j) (Truth false) (omega (arith, le)) there (sym (begins_at j d lt) ∙ passes)

  pub block_parted : (k : ℕ) (b : Column) → b ≡ get_or blocks k b → k < length blocks → IsPartitionedBy (is_below number) b.values
  block_parted k b is lt i j d le within passes =
      let there = long k b is lt in
      ap (is_below number) (value_in k b i d is lt (omega (arith, le, within)))
      ∙ parted (1024 * k + i) (1024 * k + j) d (omega (arith, le)) (omega (arith, there, within))
      (ap (is_below number) (sym (value_in k b j d is lt within)) ∙ passes)

  pub typed : (k : ℕ) (b : Column) → b ≡ get_or blocks k b → k < length blocks → b.ty ≡ column.Int
  typed k b is lt =
      ap (λ (c : Column). c.ty) (block_here column.Int (length (joined blocks)) blocks h k b is
      (omega (arith, length_blocks column.Int (length (joined blocks)) blocks h, lt)))

  module _ (after : ℕ) (cut : IsPartitionPoint (λ b. begins number b ≡ true) (λ b. begins number b ≡ false) blocks after) where
    -- nothing from the first block on that doesn't begin below the number is below it
    from_block : (k : ℕ) (d : Value) → 1024 * after ≤ k → k < length (joined blocks) → is_below number (get_or (joined blocks) k d) ≡ false
    from_block k d le lt =
        let counted : after < length blocks = omega (arith, length_blocks column.Int (length (joined blocks)) blocks h, le, lt) in
        let c : Column = block_at column.Int (joined blocks) 0 in
        let above = sym (begins_at after c counted) ∙ cut.1 after c (omega arith) counted in
        false_from_ne_true (is_below number (get_or (joined blocks) k d)) (λ passes.
        let there = parted (1024 * after) k d le lt passes in
        let swap = get_or_default (joined blocks) (1024 * after) d (Truth false) (omega (arith, le, lt)) in
        let clash : true ≡ false = sym there ∙ ap (is_below number) swap ∙ above in
        absurd (cc clash))

    pub none_below : after ≡ 0 → IsPartitionPoint (λ v. is_below number v ≡ true) (λ v. is_below number v ≡ false) (joined blocks) 0
    none_below e = ((λ k d low lt. absurd (omega (arith, lt))), (λ k d le lt. from_block k d (omega (arith, e)) lt))

    module _ (before : ℕ) (e : before + 1 ≡ after) (few : after ≤ length blocks) (b : Column) (is : b ≡ get_or blocks before b)
        (m : ℕ) (inside : IsPartitionPoint (λ v. is_below number v ≡ true) (λ v. is_below number v ≡ false) b.values m)
        (short : m ≤ length b.values) where
      here : before < length blocks
      here = omega (arith, e, few)

      at_block : (k : ℕ) (d : Value) → 1024 * before ≤ k → k < length (joined blocks) → k < 1024 * before + length b.values
          → get_or (joined blocks) k d ≡ get_or b.values (k - 1024 * before) d
      at_block k d le lt near =
          ap (λ n. get_or (joined blocks) n d) (omega (arith, le))
          ∙ sym (value_in before b (k - 1024 * before) d is here (omega (arith, le, near)))

      begun : (k : ℕ) (d : Value) → k < 1024 * before → is_below number (get_or (joined blocks) k d) ≡ true
      begun k d lt =
          let there : 1024 * before < length (joined blocks) =
          omega (arith, length_blocks column.Int (length (joined blocks)) blocks h, here) in
          let first = cut.0 before b (omega arith) (omega (arith, e)) in
          parted k (1024 * before) d (omega (arith, lt)) there
          (ap (is_below number) (get_or_default (joined blocks) (1024 * before) d (Truth false) there)
          ∙ sym (begins_at before b here)
          ∙ first)

      below : (k : ℕ) (d : Value) → k < 1024 * before + m → is_below number (get_or (joined blocks) k d) ≡ true
      below k d lt = elim (cases_lt k (1024 * before)) [
        | inl early ↦ begun k d early
        | inr le ↦
            let there : k < length (joined blocks) = omega (arith, lt, short, long before b is here) in
            let near : k < 1024 * before + length b.values = omega (arith, lt, short) in
            ap (is_below number) (at_block k d le there near) ∙ inside.0 (k - 1024 * before) d (omega arith) (omega (arith, le, lt))
      ]

      above : (k : ℕ) (d : Value) → 1024 * before + m ≤ k → k < length (joined blocks)
          → is_below number (get_or (joined blocks) k d) ≡ false
      above k d le lt = elim (cases_lt k (1024 * before + 1024)) [
        | inl early ↦
            let near : k < 1024 * before + length b.values = full before b is here k lt early in
            ap (is_below number) (at_block k d (omega (arith, le)) lt near)
            ∙ inside.1 (k - 1024 * before) d (omega (arith, le)) (omega (arith, le, near))
        | inr late ↦ from_block k d (omega (arith, late, e)) lt
      ]

      pub halved : IsPartitionPoint (λ v. is_below number v ≡ true) (λ v. is_below number v ≡ false) (joined blocks) (1024 * before + m)
      halved = ((λ k d low lt. below k d lt), (λ k d le lt. above k d le lt))

-- ---- numbers

module _ (number : ℤ) (xs : List ℤ) (b : Column) (lent : record { ty = column.Int; values = map Int xs } ≡ b) where
  number_at : (k : ℕ) (d : Value) (e : ℤ) → k < length xs → is_below number (get_or b.values k d) ≡ int_lt (get_or xs k e) number
  number_at k d e lt = grind (arith, common_steps)

  pub as_many : length xs ≡ length b.values
  as_many = sym (length-map xs Int) ∙ ap (λ (c : Column). length c.values) lent

  pub numbers_parted : IsPartitionedBy (is_below number) b.values → IsPartitionedBy (λ x. int_lt x number) xs
  numbers_parted h i j d le lt passes =
      sym (number_at i (Int d) d (omega (arith, le, lt)))
      ∙ h i j (Int d) le (omega (arith, lt, as_many)) (number_at j (Int d) d lt ∙ passes)

  pub values_parted : (m : ℕ) → m ≤ length xs → IsPartitionPoint (λ x. int_lt x number ≡ true) (λ x. int_lt x number ≡ false) xs m
      → IsPartitionPoint (λ v. is_below number v ≡ true) (λ v. is_below number v ≡ false) b.values m
  values_parted m le point = (
    (λ k d low lt. number_at k d (pos 0) (omega (arith, le, lt)) ∙ point.0 k (pos 0) low lt),
    (λ k d low lt.
        number_at k d (pos 0) (omega (arith, lt, as_many)) ∙ point.1 k (pos 0) low (omega (arith, lt, as_many))),
  )

-- ---- a block that begins with no number

no_text : (number : ℤ) (ts : List (List ℕ)) → is_below number (get_or (map Text ts) 0 (Truth false)) ≡ false
no_text number [] = refl
no_text number (t ∷ ts) = refl

no_truth : (number : ℤ) (bs : List Bool) → is_below number (get_or (map Truth bs) 0 (Truth false)) ≡ false
no_truth number [] = refl
no_truth number (b ∷ bs) = refl

pub no_numbers : (number : ℤ) (lent : BlockValues) (b : Column) → column_of_values lent ≡ b
    → ((xs : Bor (List ℤ)) → lent ≡ block.Ints xs → ⊥) → begins number b ≡ false
no_numbers number (block.Ints xs) b e other = absurd (other xs refl)
no_numbers number (block.Texts ts) b e other = ap (begins number) (sym e) ∙ no_text number ts.now
no_numbers number (block.Truths bs) b e other = ap (begins number) (sym e) ∙ no_truth number bs.now
