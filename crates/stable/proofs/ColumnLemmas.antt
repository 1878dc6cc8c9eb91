-- Values cut into blocks, and found again by their number.
use Rattle.std.proofs.Common.{◌≡◌, ℕ, zero, suc, ◌+◌, ◌*◌, ◌/◌, ◌%◌, ◌<◌, List, [], ◌∷◌, ◌++◌, length, take, drop, map, get_or, slice_get, Some, refl, sym, ap, ◌∙◌, arith, rules}
use Rattle.std.specs.List.{range_with_len}
use Rattle.std.proofs.lemmas.List.{take_all, drop-drop, length-take, length-drop, get_or-take, get_or-drop}
use Rattle.std.proofs.lemmas.List.FromFn.{length-map-range_with_len, get_or-map-range_with_len}
use Rattle.std.proofs.lemmas.Option.{slice_get-get_or, get_or_from_slice_get}
use Rattle.values.specs.declared.value.ColumnType.{ColumnType}
use Rattle.values.specs.declared.value.Value.{Value}
use Rattle.blocks.specs.Column.{Column}
use Rattle.stable.specs.Column.{joined, block_at, block_count, first_blocks, IsInBlocks}
use Rattle.std.proofs.lemmas.Grind.{common_steps}

-- ---- cutting

abbrev empty : List Value
empty = []

take_none : (n : ℕ) → take n empty ≡ empty
take_none zero = refl
take_none (suc n) = refl

take_split : (m n j : ℕ) (xs : List Value) → m + n ≡ j → take m xs ++ take n (drop m xs) ≡ take j xs
take_split zero n j xs e = ap (λ k. take k xs) (omega (arith, e))
take_split (suc m) n zero xs e = absurd (omega (arith, e))
take_split (suc m) n (suc j) [] e = take_none n
take_split (suc m) n (suc j) (x ∷ xs) e = ap (λ ys. x ∷ ys) (take_split m n j xs (omega (arith, e)))

joined_from : (ty : ColumnType) (values : List Value) (a k : ℕ)
    → joined (map (block_at ty values) (range_with_len a k)) ≡ take (1024 * k) (drop (1024 * a) values)
joined_from ty values a zero = search rules
joined_from ty values a (suc k) =
    let here = drop (1024 * a) values in
    let next : 1024 * a + 1024 ≡ 1024 * (a + 1) = omega arith in
    ap (λ rest. take 1024 here ++ rest) (joined_from ty values (a + 1) k
    ∙ ap (λ n. take (1024 * k) (drop n values)) (sym next)
    ∙ ap (take (1024 * k)) (sym (drop-drop 1024 (1024 * a) values)))
    ∙ take_split 1024 (1024 * k) (1024 * suc k) here (omega arith)

-- the blocks of the values hold just these
pub joined_all : (ty : ColumnType) (values : List Value) → joined (first_blocks ty values (block_count (length values))) ≡ values
joined_all ty values = grind (arith, common_steps, joined_from, take_all)

pub in_blocks : (ty : ColumnType) (values : List Value) (blocks : List Column)
    → blocks ≡ first_blocks ty values (block_count (length values)) → IsInBlocks ty (length values) blocks
in_blocks ty values blocks e = grind (arith, common_steps, joined_all)

-- ---- finding

module _ (ty : ColumnType) (count : ℕ) (blocks : List Column) (h : IsInBlocks ty count blocks) where
  pub length_blocks : length blocks ≡ block_count count
  length_blocks = ap length h.cut ∙ length-map-range_with_len (block_at ty (joined blocks)) 0 (block_count count)

  -- a block, by its number
  pub block_here : (k : ℕ) (b : Column) → b ≡ get_or blocks k b → k < block_count count → b ≡ block_at ty (joined blocks) k
  block_here k b is lt = grind (arith, common_steps, get_or-map-range_with_len)

  module _ (i : ℕ) (within : i < count) where
    pub has_block : i / 1024 < length blocks
    has_block = omega (arith, length_blocks, within)

    module _ (b : Column) (is : b ≡ get_or blocks (i / 1024) b) where
      block_is : b ≡ block_at ty (joined blocks) (i / 1024)
      block_is = block_here (i / 1024) b is (omega (arith, within))

      pub has_place : i % 1024 < length b.values
      has_place =
          let k = i / 1024 in
          omega (
            arith,
            ap (λ c. length c.values) block_is,
            length-take 1024 (drop (1024 * k) (joined blocks)),
            length-drop (1024 * k) (joined blocks),
            h.counted,
            within,
          )

      pub finds : (v : Value) → slice_get b.values (i % 1024) ≡ Some v → slice_get (joined blocks) i ≡ Some v
      finds v e =
          let k = i / 1024 in
          let m = i % 1024 in
          let values = joined blocks in
          let at : 1024 * k + m ≡ i = omega arith in
          let small : m < 1024 = omega arith in
          let here : get_or values i v ≡ v =
          ap (λ n. get_or values n v) (sym at)
          ∙ sym (get_or-drop (1024 * k) values m v)
          ∙ sym (get_or-take 1024 (drop (1024 * k) values) m v small)
          ∙ ap (λ c. get_or c.values m v) (sym block_is)
          ∙ get_or_from_slice_get b.values m v v e in
          slice_get-get_or values i v (omega (arith, h.counted, within)) ∙ ap Some here
