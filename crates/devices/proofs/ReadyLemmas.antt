-- One column: what it stores once it has taken some bytes of an image.
use Rattle.std.proofs.Common.{◌≡◌, ℕ, ◌+◌, ◌<◌, ◌≤◌, true, false, Some, List, [], ◌∷◌, ◌++◌, length, take, Ok, refl, sym, ap, subst, ◌∙◌, inl, inr, arith, rules}
use Rattle.std.proofs.lemmas.Bool.{cases_lt}
use Rattle.std.proofs.lemmas.List.{append-nil}
use Rattle.blocks.specs.Column.{Column}
use Rattle.frames.specs.declared.frame.Frame.{Frame}
use Rattle.frames.specs.declared.frame.Part.{Part}
use Rattle.frames.specs.declared.seam.Seam.{Seam}
use Rattle.frames.specs.Column.{AreFramesAt, IsColumn, column_bytes, is_rest, seam_after_all, start}
use Rattle.frames.specs.Reading.{frames_of, parts_after, parts_of}
use Rattle.devices.specs.Image.{AreBlocks, image_frames, part_count}
use Rattle.devices.specs.Ready.{AreBelow, IsReadyColumn}
use Rattle.devices.specs.Stored.{is_whole, values_in}
use Rattle.devices.proofs.CutLemmas.{cut_frames}
use Rattle.devices.proofs.FramesLemmas.{AreWanted-append, above_all, column_after, parts_again, parts_of-append, seam_after_all-append}
use Rattle.devices.proofs.GenerationsLemmas.{AreOf, Grown, IsGrown, all_of}
use Rattle.devices.proofs.ImageFramesLemmas.{frames_from, frames_newer, frames_stand, frames_wanted, is_cut, is_whole-all, is_whole-frames, kind_after, values_in-all}

-- a column of a table, which an image of this generation may hold
pub record IsHeld (g : ℕ) (c : Column) : Type 0 where
  pub small : g < 4294967296
  pub few : length c.values ≤ 2147483647
  pub blocks : AreBlocks c

-- a column that has taken bytes, as it is read before and after
pub record Grows (g : ℕ) (c : Column) (old new : List ℕ) : Type 0 where
  pub column : Grown
  pub grown : IsGrown g column
  pub old_read : (col : ℕ) → parts_after [] (frames_of col (Some c.ty) old) ≡ Ok column.front
  pub new_read : (col : ℕ) → parts_after [] (frames_of col (Some c.ty) new) ≡ Ok (all_of column)
  pub full : is_whole g column.more ≡ true → values_in g column.more ≡ c.values

below_more : (g : ℕ) (parts more : List Part) → AreBelow g parts → AreOf g more → AreBelow (g + 1) (parts ++ more)
below_more g [] [] below of = tt
below_more g [] (p ∷ more) below of = (omega (arith, of.0), below_more g [] more tt of.1)
below_more g (p ∷ parts) more below of = (omega (arith, below.0), below_more g parts more below.1 of)

module _ (g : ℕ) (c : Column) (held : IsHeld g c) (old : List ℕ) (ready : IsReadyColumn g c.ty old) where
  abbrev count : ℕ
  count = part_count (length c.values)

  abbrev frames : ℕ → List Frame
  frames k = frames_from g c.ty c.values count 0 k

  abbrev before : List Frame
  before = ready.whole.frames

  abbrev seam : Seam
  seam = seam_after_all start before

  few : count ≤ 4294967296
  few = search rules

  stand : AreFramesAt seam (frames count)
  stand =
      frames_stand g c.ty c.values count (is_cut (length c.values)) held.blocks held.small few 0 count seam (omega arith)
      (record { kind = ready.kind; first = λ _. above_all g before ready.whole.below; next = λ some. absurd (omega (arith, some)) })

  -- with some of the frames and a rest
  grows_by : (k : ℕ) (rest new : List ℕ) → k ≤ count → AreFramesAt seam (frames k) → is_rest (seam_after_all seam (frames k)) rest ≡ true
      → new ≡ old ++ (column_bytes (frames k) ++ rest)
      → (grows : Grows g c old new) × (grows.column.more ≡ parts_of (frames k))
  grows_by k rest new le lawful torn is =
      let column = column_after old before (frames k) rest ready.whole.column lawful torn in
      let wanted = AreWanted-append (Some c.ty) before (frames k) ready.whole.typed (frames_wanted g c.ty c.values count (Some c.ty) 0 k) in
      let grows : Grows g c old new = record {
        column = record { front = parts_of before; more = parts_of (frames k) };
        grown = record { below = ready.whole.below; newer = frames_newer g c.ty c.values count 0 k };
        old_read = parts_again c.ty old before [] ready.whole.column ready.whole.typed;
        new_read =
            λ col.
            ap (λ bytes. parts_after [] (frames_of col (Some c.ty) bytes)) is
            ∙ parts_again c.ty (old ++ (column_bytes (frames k) ++ rest)) (before ++ frames k) rest column wanted col
            ∙ ap (λ ps. Ok ps) (parts_of-append before (frames k));
        full = full;
      } in
      (grows, refl)
    where
      full : is_whole g (parts_of (frames k)) ≡ true → values_in g (parts_of (frames k)) ≡ c.values
      full whole =
          elim (cases_lt k count) [
            | inl part ↦ absurd (let lacks : is_whole g (parts_of (frames k)) ≡ false =
                is_whole-frames g c.ty c.values count 0 k (omega (arith, part)) in
                cc)
            | inr all ↦
                ap (λ n. values_in g (parts_of (frames n))) (let n : k ≡ count = omega (arith, le, all) in n)
                ∙ values_in-all g c.ty c.values count (is_cut (length c.values)) held.blocks held.small few
          ]

  -- with some bytes of its piece
  pub grows_front : (n : ℕ) → Grows g c old (old ++ take n (column_bytes (image_frames g c)))
  grows_front n =
      let front = cut_frames g c.ty c.values count 0 count n seam stand in
      (grows_by front.k front.rest (old ++ take n (column_bytes (image_frames g c))) front.within front.lawful front.torn
      (ap (λ bytes. old ++ bytes) front.spelt)).0

  -- with nothing
  pub grows_none : Grows g c old old
  grows_none = (grows_by 0 [] old (omega arith) tt refl (sym (append-nil old))).0

  -- with all of it
  pub grows_whole : (grows : Grows g c old (old ++ column_bytes (image_frames g c))) × (is_whole g grows.column.more ≡ true)
  grows_whole =
      let cut = is_cut (length c.values) in
      let by =
      grows_by count [] (old ++ column_bytes (image_frames g c)) (omega arith) stand refl
      (ap (λ bytes. old ++ bytes) (sym (append-nil (column_bytes (image_frames g c))))) in
      (by.0, ap (is_whole g) by.1 ∙ is_whole-all g c.ty c.values count 0 count cut.some (omega arith))

  -- and the next image may follow
  pub ready_next : IsReadyColumn (g + 1) c.ty (old ++ column_bytes (image_frames g c))
  ready_next =
      let more = image_frames g c in
      let column = column_after old before more [] ready.whole.column stand refl in
      record {
        whole = record {
          frames = before ++ more;
          column = subst (λ bytes. IsColumn (old ++ bytes) (before ++ more) []) (append-nil (column_bytes more)) column;
          typed = AreWanted-append (Some c.ty) before more ready.whole.typed (frames_wanted g c.ty c.values count (Some c.ty) 0 count);
          below =
              subst (AreBelow (g + 1)) (sym (parts_of-append before more))
              (below_more g (parts_of before) (parts_of more) ready.whole.below (frames_newer g c.ty c.values count 0 count));
        };
        kind =
            ap (λ (s : Seam). s.kind) (seam_after_all-append start before more)
            ∙ kind_after g c.ty c.values count 0 count seam
            ∙ ready.kind;
      }
