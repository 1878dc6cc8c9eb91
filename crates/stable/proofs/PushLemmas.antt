-- Blocks of values, and more values.
use Rattle.std.proofs.Common.{◌≡◌, ℕ, zero, suc, ◌+◌, ◌*◌, ◌/◌, ◌%◌, ◌<◌, ◌≤◌, List, [], ◌∷◌, ◌++◌, length, take, drop, get_or, slice_set, refl, sym, ap, subst, ◌∙◌, arith}
use Rattle.std.proofs.lemmas.List.{length-append, length-take, length-drop, take-append-le, drop-append-le, take_all}
use Rattle.std.proofs.lemmas.List.FromFn.{length-map-range_with_len, get_or-map-range_with_len, map-range_with_len_more}
use Rattle.std.proofs.Math.Seq.{drop-append_seam, set-append_seam}
use Rattle.values.specs.declared.value.ColumnType.{ColumnType}
use Rattle.values.specs.declared.value.Value.{Value}
use Rattle.blocks.specs.Column.{Column}
use Rattle.stable.specs.Column.{joined, block_at, block_count, first_blocks, all_blocks, IsInBlocks}
use Rattle.stable.proofs.ColumnLemmas.{in_blocks, joined_all, length_blocks}
use Rattle.std.proofs.lemmas.Grind.{common_steps}

module _ (ty : ColumnType) (values more : List Value) where
  -- a full block of the values stays when there are more
  block_kept : (k : ℕ) → 1024 * (k + 1) ≤ length values → block_at ty (values ++ more) k ≡ block_at ty values k
  block_kept k le =
      let at = 1024 * k in
      ap (λ vs. record { ty = ty; values = vs })
      (ap (take 1024) (drop-append-le at values more (omega (arith, le)))
      ∙ take-append-le 1024 (drop at values) more (omega (arith, le, length-drop at values)))

  blocks_kept : (q : ℕ) → 1024 * q ≤ length values → first_blocks ty (values ++ more) q ≡ first_blocks ty values q
  blocks_kept zero le = refl
  blocks_kept (suc q) le =
      let next : q + 1 ≡ suc q = omega arith in
      let one_more =
      λ (vs : List Value). ap (first_blocks ty vs) (sym next) ∙ map-range_with_len_more (block_at ty vs) 0 q q (omega arith) in
      one_more (values ++ more)
      ∙ (λ i. blocks_kept q (omega (arith, le)) i ++ block_kept q (omega (arith, le)) i ∷ [])
      ∙ sym (one_more values)

  -- the blocks of the values and of a part of a block more
  blocks_more : (q : ℕ) → 1024 * q ≤ length values → length values + length more ≤ 1024 * (q + 1)
      → 1024 * q < length values + length more
      → all_blocks ty (values ++ more) ≡ first_blocks ty values q ++ block_at ty (values ++ more) q ∷ []
  blocks_more q low high some =
      let count : block_count (length (values ++ more)) ≡ q + 1 = omega (arith, length-append values more, low, high, some) in
      ap (first_blocks ty (values ++ more)) count
      ∙ map-range_with_len_more (block_at ty (values ++ more)) 0 q q (omega arith)
      ∙ ap (λ bs. bs ++ block_at ty (values ++ more) q ∷ []) (blocks_kept q low)

-- ---- a column in blocks

module _ (ty : ColumnType) (count : ℕ) (blocks : List Column) (h : IsInBlocks ty count blocks) (more : List Value) where
  abbrev values : List Value
  values = joined blocks

  -- what is after the others stands in blocks
  pub shown : (longer : List Column) → longer ≡ all_blocks ty (values ++ more) → joined longer ≡ values ++ more
  shown longer is = ap joined is ∙ joined_all ty (values ++ more)

  pub kept : (longer : List Column) → longer ≡ all_blocks ty (values ++ more) → (n : ℕ) → n ≡ count + length more → IsInBlocks ty n longer
  kept longer is n e =
      let whole : length (values ++ more) ≡ n = length-append values more ∙ ap (λ k. k + length more) h.counted ∙ sym e in
      subst (λ k. IsInBlocks ty k longer) whole (in_blocks ty (values ++ more) longer is)

  -- in a block of their own where the last is full
  pub in_new : count % 1024 ≡ 0 → length more ≤ 1024 → 0 < length more
      → blocks ++ (record { ty = ty; values = more }) ∷ [] ≡ all_blocks ty (values ++ more)
  in_new full few some =
      let q = count / 1024 in
      let all : 1024 * q ≡ length values = omega (arith, full, h.counted) in
      let counts : block_count count ≡ q = omega (arith, full) in
      let last : take 1024 (drop (1024 * q) (values ++ more)) ≡ more =
      ap (λ n. take 1024 (drop n (values ++ more))) all ∙ ap (take 1024) (drop-append_seam values more) ∙ take_all 1024 more few in
      sym
      (blocks_more ty values more q (omega (arith, all)) (omega (arith, all, few)) (omega (arith, all, some))
      ∙ (λ i. (ap (first_blocks ty values) (sym counts) ∙ sym h.cut) i ++ (record { ty = ty; values = last i }) ∷ []))

  -- and in the last block where that isn't full and has room for them
  module _ (part : count % 1024 ≡ 0 → ⊥) where
    pub last_there : count / 1024 < length blocks
    last_there = omega (arith, length_blocks ty count blocks h, part)

    module _ (b : Column) (is : b ≡ get_or blocks (count / 1024) b) where
      abbrev place : ℕ
      place = count / 1024

      counts : block_count count ≡ place + 1
      counts = omega (arith, part)

      split : blocks ≡ first_blocks ty values place ++ block_at ty values place ∷ []
      split = h.cut ∙ ap (first_blocks ty values) counts ∙ map-range_with_len_more (block_at ty values) 0 place place (omega arith)

      front : length (first_blocks ty values place) ≡ place
      front = length-map-range_with_len (block_at ty values) 0 place

      pub last_is : b ≡ block_at ty values place
      last_is = grind (arith, common_steps, get_or-map-range_with_len, counts)

      rest : drop (1024 * place) values ≡ take 1024 (drop (1024 * place) values)
      rest = sym (take_all 1024 (drop (1024 * place) values) (omega (arith, length-drop (1024 * place) values, h.counted)))

      pub last_filled : length b.values ≡ count % 1024
      last_filled =
          omega (
            arith,
            ap (λ (c : Column). length c.values) last_is,
            length-take 1024 (drop (1024 * place) values),
            length-drop (1024 * place) values,
            h.counted,
            part,
          )

      pub in_last : 0 < length more → count % 1024 + length more ≤ 1024
          → slice_set blocks place (record b { values = b.values ++ more }) ≡ all_blocks ty (values ++ more)
      in_last some fits =
          let low : 1024 * place ≤ length values = omega (arith, h.counted) in
          let filled : block_at ty (values ++ more) place ≡ record b { values = b.values ++ more } =
          ap (λ vs. record { ty = ty; values = vs })
          (ap (take 1024) (drop-append-le (1024 * place) values more low)
          ∙ take_all 1024 (drop (1024 * place) values ++ more) (omega
          (arith, length-append (drop (1024 * place) values) more, length-drop (1024 * place) values, h.counted, fits, part))
          ∙ ap (λ vs. vs ++ more) rest)
          ∙ ap (λ (c : Column). record c { values = c.values ++ more }) (sym last_is) in
          ap (λ bs. slice_set bs place (record b { values = b.values ++ more })) split
          ∙ ap (λ n. slice_set (first_blocks ty values place ++ block_at ty values place ∷ []) n
          (record b { values = b.values ++ more })) (sym front)
          ∙ set-append_seam (first_blocks ty values place) (block_at ty values place) [] (record b { values = b.values ++ more })
          ∙ ap (λ c. first_blocks ty values place ++ c ∷ []) (sym filled)
          ∙ sym (blocks_more ty values more place low (omega (arith, h.counted, fits, part)) (omega (arith, h.counted, some)))
