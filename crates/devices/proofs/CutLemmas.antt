-- The first bytes of an image's frames are frames and a rest.
use Rattle.std.proofs.Common.{◌≡◌, ℕ, zero, suc, ◌+◌, ◌-◌, ◌<◌, ◌≤◌, true, List, [], ◌++◌, length, take, drop, refl, sym, ap, ◌∙◌, append_assoc, inl, inr, arith, rules}
use Rattle.std.proofs.Math.Seq.{take-add}
use Rattle.std.proofs.lemmas.Bool.{and_from, cases_lt, le-ltb, lt-ltb}
use Rattle.std.proofs.lemmas.List.{drop_at, length-append, length-take, take-append-le, take_at}
use Rattle.values.specs.declared.value.ColumnType.{ColumnType}
use Rattle.values.specs.declared.value.Value.{Value}
use Rattle.frames.specs.declared.frame.Frame.TheVariants.{Block}
use Rattle.frames.specs.declared.frame.Head.{Head}
use Rattle.frames.specs.declared.frame.Part.{Part}
use Rattle.frames.specs.declared.seam.Seam.{Seam}
use Rattle.frames.specs.Column.{AreFramesAt, IsPartAt, column_bytes, frame_bytes, head_bytes, head_of, is_cut_block, is_rest, part_payload, seam_after, seam_after_all}
use Rattle.frames.proofs.AgainLemmas.{part_short}
use Rattle.frames.proofs.FrameLemmas.{head_again}
use Rattle.devices.specs.Image.{image_frame}
use Rattle.devices.proofs.ImageFramesLemmas.{frames_from}
use Rattle.std.proofs.lemmas.Grind.{common_steps}

take-append-ge : (n : ℕ) (xs ys : List ℕ) → length xs ≤ n → take n (xs ++ ys) ≡ xs ++ take (n - length xs) ys
take-append-ge n xs ys le =
    ap (λ k. take k (xs ++ ys)) (let k : n ≡ length xs + (n - length xs) = omega (arith, le) in k)
    ∙ take-add (length xs) (n - length xs) (xs ++ ys)
    ∙ ap (λ zs. zs ++ take (n - length xs) (drop (length xs) (xs ++ ys))) (take_at xs ys (length xs) refl)
    ∙ ap (λ zs. xs ++ take (n - length xs) zs) (drop_at xs ys (length xs) refl)

-- a block that lacks bytes is the beginning of one
module _ (seam : Seam) (part : Part) (is : IsPartAt seam part) where
  abbrev h : Head
  h = head_of part

  cut_head : (bytes : List ℕ) → length bytes < 16 → is_cut_block seam bytes ≡ true
  cut_head bytes short = search rules

  cut_payload : (payload : List ℕ) → length payload < h.size → is_cut_block seam (head_bytes h ++ payload) ≡ true
  cut_payload payload short = grind (arith, common_steps, head_again, part_short, le-ltb, and_from, lt-ltb)

  pub cut_block : (n : ℕ) → n < length (frame_bytes (Block part)) → is_rest seam (take n (frame_bytes (Block part))) ≡ true
  cut_block zero lt = refl
  cut_block (suc n) lt =
      let payload = part_payload part in
      elim (cases_lt (suc n) 16) [
        | inl short ↦ cut_head (take (suc n) (frame_bytes (Block part)))
            (omega (arith, short, length-take (suc n) (frame_bytes (Block part))))
        | inr long ↦
            let room = suc n - length (head_bytes h) in
            let short : length (take room payload) < h.size =
            omega (arith, long, lt, length-take room payload, length-append (head_bytes h) payload) in
            ap (is_rest seam) (take-append-ge (suc n) (head_bytes h) payload (omega (arith, long))) ∙ cut_payload (take room payload) short
      ]

take_nil : (n : ℕ) → take {A = ℕ} n [] ≡ []
take_nil zero = refl
take_nil (suc n) = refl

module _ (g : ℕ) (ty : ColumnType) (values : List Value) (count : ℕ) where
  -- so many bytes of the frames from number a on
  pub record IsFront (seam : Seam) (a m : ℕ) (bytes : List ℕ) : Type 0 where
    pub k : ℕ
    pub rest : List ℕ
    pub within : k ≤ m
    pub spelt : bytes ≡ column_bytes (frames_from g ty values count a k) ++ rest
    pub lawful : AreFramesAt seam (frames_from g ty values count a k)
    pub torn : is_rest (seam_after_all seam (frames_from g ty values count a k)) rest ≡ true

  pub cut_frames : (a m n : ℕ) (seam : Seam) → AreFramesAt seam (frames_from g ty values count a m)
      → IsFront seam a m (take n (column_bytes (frames_from g ty values count a m)))
  cut_frames a zero n seam are = record { k = 0; rest = []; within = omega arith; spelt = take_nil n; lawful = tt; torn = refl }
  cut_frames a (suc m) n seam are =
      let frame = image_frame g ty values count a in
      let first = frame_bytes frame in
      let others = column_bytes (frames_from g ty values count (a + 1) m) in
      elim (cases_lt n (length first)) [
        | inl short ↦ record {
          k = 0;
          rest = take n first;
          within = omega arith;
          spelt = take-append-le n first others (omega (arith, short));
          lawful = tt;
          torn = cut_block seam _ are.0 n short;
        }
        | inr long ↦
            let after = cut_frames (a + 1) m (n - length first) (seam_after seam frame) are.1 in
            record {
              k = suc after.k;
              rest = after.rest;
              within = omega (arith, after.within);
              spelt =
                  take-append-ge n first others long ∙ ap (λ bytes. first ++ bytes) after.spelt
                  ∙ sym (append_assoc first (column_bytes (frames_from g ty values count (a + 1) after.k)) after.rest);
              lawful = (are.0, after.lawful);
              torn = after.torn;
            }
      ]
