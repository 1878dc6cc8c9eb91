-- The frames of a column's values: each may stand where it stands, and they give the values back.
use Rattle.std.proofs.Common.{◌≡◌, ℕ, zero, suc, ◌+◌, ◌-◌, ◌*◌, ◌<◌, ◌≤◌, Bool, true, false, cond, ◌&&◌, eqb, Option, Some, List, [], ◌++◌, length, take, drop, map, refl, sym, ap, ◌∙◌, inl, inr, arith, rules}
use Rattle.std.specs.List.{range_with_len}
use Rattle.std.proofs.Math.Seq.{take-add}
use Rattle.std.proofs.lemmas.Bool.{and_from, and_left, cases_eq, eq-eqb, eqb-false, eqb-true, ne_eqb, or_from, or_left, or_right}
use Rattle.std.proofs.lemmas.List.{drop-drop, length-drop, length-take, take_all}
use Rattle.values.specs.declared.value.ColumnType.{ColumnType}
use Rattle.values.specs.declared.value.Value.{Value}
use Rattle.blocks.specs.Column.{IsBlock}
use Rattle.stable.specs.Column.{block_at}
use Rattle.frames.specs.declared.frame.Format.TheVariants.{Second}
use Rattle.frames.specs.declared.frame.Frame.{Frame}
use Rattle.frames.specs.declared.frame.Part.{Part}
use Rattle.frames.specs.declared.seam.Seam.{Seam}
use Rattle.frames.specs.declared.seam.Unfinished.{Unfinished}
use Rattle.frames.specs.Column.{AreFramesAt, IsPartAt, flag_byte, goes_on, has_due_count, head_of, is_above, is_in_turn, seam_after, seam_after_all}
use Rattle.frames.specs.Reading.{AreWanted, parts_of}
use Rattle.devices.specs.Image.{image_frame, part_count}
use Rattle.devices.specs.Stored.{is_whole, values_in}
use Rattle.devices.proofs.GenerationsLemmas.{AreOf}
use Rattle.std.proofs.lemmas.Grind.{common_steps}

-- how so many values stand in so many blocks
pub record IsCut (len count : ℕ) : Type 0 where
  pub some : 0 < count
  pub last : 0 < len → 1024 * (count - 1) < len
  pub all : len ≤ 1024 * count
  pub none : len ≡ 0 → count ≡ 1

pub is_cut : (len : ℕ) → IsCut len (part_count len)
is_cut len = search rules

-- a block is full, or the last and not empty, or the first
due_of : (g k n s : ℕ) (last : Bool) → n ≤ 1024 → (last ≡ false → n ≡ 1024) → (last ≡ true → 0 < k → 0 < n)
    → has_due_count (record { generation = g; number = k; flag = flag_byte last; count = n; size = s }) ≡ true
due_of g k n s true le full some = search rules
due_of g k n s false le full some = eq-eqb n 1024 (full refl)

module _ (g : ℕ) (ty : ColumnType) (values : List Value) (count : ℕ) where
  abbrev part : ℕ → Part
  part k = record { format = Second; generation = g; number = k; last = eqb (k + 1) count; block = block_at ty values k }

  abbrev frame : ℕ → Frame
  frame k = image_frame g ty values count k

  -- the frames from number a on
  abbrev pub frames_from : ℕ → ℕ → List Frame
  frames_from a m = map frame (range_with_len a m)

  -- ---- what they say

  pub frames_wanted : (wanted : Option ColumnType) (a m : ℕ) → AreWanted wanted (frames_from a m)
  frames_wanted wanted a zero = tt
  frames_wanted wanted a (suc m) = frames_wanted wanted (a + 1) m

  pub frames_newer : (a m : ℕ) → AreOf g (parts_of (frames_from a m))
  frames_newer a zero = tt
  frames_newer a (suc m) = (refl, frames_newer (a + 1) m)

  -- without the last block the generation isn't whole
  pub is_whole-frames : (a m : ℕ) → a + m < count → is_whole g (parts_of (frames_from a m)) ≡ false
  is_whole-frames a zero lt = refl
  is_whole-frames a (suc m) lt = grind (arith, common_steps, is_whole-frames (a + 1) m (omega (arith, lt)), ne_eqb, or_from, and_left)

  -- with it, it is
  pub is_whole-all : (a m : ℕ) → 0 < m → a + m ≡ count → is_whole g (parts_of (frames_from a m)) ≡ true
  is_whole-all a zero some all = absurd (omega (arith, some))
  is_whole-all a (suc zero) some all = grind (arith, common_steps, eq-eqb, or_left, and_from)
  is_whole-all a (suc (suc m)) some all = grind (arith, common_steps, is_whole-all (a + 1) (suc m) (omega arith) (omega (arith, all)), or_right)

  -- their values are those of the column
  values_in-frames : (a m : ℕ) → values_in g (parts_of (frames_from a m)) ≡ take (1024 * m) (drop (1024 * a) values)
  values_in-frames a zero = refl
  values_in-frames a (suc m) =
      let here : eqb g g ≡ true = eq-eqb g g refl in
      let rest = drop (1024 * a) values in
      ap (λ b. cond b (take 1024 rest) [] ++ values_in g (parts_of (frames_from (a + 1) m))) here
      ∙ ap (λ vs. take 1024 rest ++ vs) (values_in-frames (a + 1) m)
      ∙ ap (λ n. take 1024 rest ++ take (1024 * m) (drop n values)) (let n : 1024 * (a + 1) ≡ 1024 * a + 1024 = omega arith in n)
      ∙ ap (λ vs. take 1024 rest ++ take (1024 * m) vs) (sym (drop-drop 1024 (1024 * a) values))
      ∙ sym (take-add 1024 (1024 * m) rest)
      ∙ ap (λ n. take n rest) (let n : 1024 + 1024 * m ≡ 1024 * suc m = omega arith in n)

  -- ---- where they stand

  module _ (cut : IsCut (length values) count) (blocks : (k : ℕ) → k < count → IsBlock (block_at ty values k))
      (small : g < 4294967296) (few : count ≤ 4294967296) where
    pub values_in-all : values_in g (parts_of (frames_from 0 count)) ≡ values
    values_in-all = values_in-frames 0 count ∙ take_all (1024 * count) values cut.all

    filled : 1 < count → 0 < length values
    filled more = search rules

    block_full : (k : ℕ) → k + 1 < count → length (take 1024 (drop (1024 * k) values)) ≡ 1024
    block_full k lt =
        omega (
          arith,
          length-take 1024 (drop (1024 * k) values),
          length-drop (1024 * k) values,
          cut.last (filled (omega (arith, lt))),
          lt,
        )

    block_some : (k : ℕ) → k + 1 ≡ count → 0 < k → 0 < length (take 1024 (drop (1024 * k) values))
    block_some k last some = grind (arith, common_steps)

    due : (k : ℕ) → k < count → has_due_count (head_of (part k)) ≡ true
    due k lt = grind (arith, common_steps, due_of, length-take, block_full, eqb-false, block_some, eqb-true)

    -- a seam at which the block number a may stand
    pub record IsTurn (seam : Seam) (a : ℕ) : Type 0 where
      pub kind : seam.kind ≡ Some (record { format = Second; ty = ty })
      pub first : a ≡ 0 → is_above seam.newest g ≡ true
      pub next : 0 < a → a < count → seam.before ≡ Some (record { generation = g; number = a - 1 })

    in_turn : (seam : Seam) (a : ℕ) → a < count → IsTurn seam a → is_in_turn seam (head_of (part a)) ≡ true
    in_turn seam a lt turn =
        elim (cases_eq a 0) [
          | inl begins ↦
              let zeroth : eqb a 0 ≡ true = eq-eqb a 0 begins in
              ap (λ b. cond b (is_above seam.newest g) (goes_on seam.before (head_of (part a)))) zeroth ∙ turn.first begins
          | inr later ↦
              let further : eqb a 0 ≡ false = ne_eqb a 0 later in
              let next : (eqb g g && eqb (a - 1 + 1) a) ≡ true =
              and_from (eqb g g) (eqb (a - 1 + 1) a) (eq-eqb g g refl) (eq-eqb (a - 1 + 1) a (omega (arith, later))) in
              ap (λ b. cond b (is_above seam.newest g) (goes_on seam.before (head_of (part a)))) further
              ∙ ap (λ (o : Option Unfinished). goes_on o (head_of (part a))) (turn.next (omega (arith, later)) lt) ∙ next
        ]

    stands_at : (seam : Seam) (a : ℕ) → a < count → IsTurn seam a → IsPartAt seam (part a)
    stands_at seam a lt turn = grind (arith, common_steps, and_from, in_turn, due)

    turn_after : (seam : Seam) (a : ℕ) → a < count → IsTurn seam a → IsTurn (seam_after seam (frame a)) (a + 1)
    turn_after seam a lt turn = search rules

    pub frames_stand : (a m : ℕ) (seam : Seam) → a + m ≡ count → IsTurn seam a → AreFramesAt seam (frames_from a m)
    frames_stand a zero seam all turn = tt
    frames_stand a (suc m) seam all turn = grind (arith, common_steps, frames_stand (a + 1) m (seam_after seam (frame a)) (omega (arith, all)) (turn_after seam a (omega (arith, all)) turn), stands_at, turn_after)

  pub kind_after : (a m : ℕ) (seam : Seam) → (seam_after_all seam (frames_from a m)).kind ≡ seam.kind
  kind_after a zero seam = refl
  kind_after a (suc m) seam = kind_after (a + 1) m (seam_after seam (frame a))
