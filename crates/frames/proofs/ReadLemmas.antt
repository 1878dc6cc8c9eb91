-- Reading frames one after the other, as a loop does.
use Rattle.std.proofs.Common.{◌≡◌, ℕ, zero, suc, ◌-◌, ◌<◌, ◌≤◌, Option, Some, None, List, [], ◌∷◌, ◌++◌, length, Result, Ok, Err, refl, sym, ap, ◌∙◌, arith}
use Rattle.std.proofs.lemmas.List.{append-nil}
use Rattle.values.specs.declared.value.ColumnType.{ColumnType}
use Rattle.frames.specs.declared.fault.ReadFault.{ReadFault}
use Rattle.frames.specs.declared.fault.ReadFault.TheVariants.{WrongCount, BadFrame, TypesDiffer, BadBlock, NoImage, CountsDiffer, TooManyRows, NotAscending, NoMemory}
use Rattle.frames.specs.declared.frame.Frame.{Frame}
use Rattle.frames.specs.declared.frame.Frame.TheVariants.{Header, Block, End}
use Rattle.frames.specs.declared.frame.Part.{Part}
use Rattle.frames.specs.declared.seam.Seam.{Seam}
use Rattle.frames.specs.Column.{seam_after}
use Rattle.frames.specs.Reading.{◌>>=◌, Found, found_then, and_then, frame_at, frames_at, parts_of, parts_after, Fails}
use Rattle.frames.proofs.AgainLemmas.{frames_step}
use Rattle.std.proofs.lemmas.Grind.{common_steps}

parts_after-and_then : (front : List Part) (frame : Frame) (reading : Result (List Frame) ReadFault)
    → parts_after front (and_then frame reading) ≡ parts_after (front ++ parts_of (frame ∷ [])) reading
parts_after-and_then front frame (Ok frames) = grind (arith, common_steps)
parts_after-and_then front frame (Err fault) = refl

-- what has been read so far, with what is left to read, is all that is read
pub record IsReadTo (col : ℕ) (wanted : Option ColumnType) (size : ℕ) (seam : Seam) (rest : List ℕ) (front : List Part) (total : Result (List Part) ReadFault) :
    Type 0 where
  pub most : ℕ
  pub enough : length rest ≤ most
  pub read : parts_after front (frames_at most col wanted size seam rest) ≡ total

-- nothing is left
none_left : (most col : ℕ) (wanted : Option ColumnType) (size : ℕ) (seam : Seam) (bytes : List ℕ) → length bytes ≡ 0
    → frames_at most col wanted size seam bytes ≡ Ok []
unfolding frames_at
none_left zero col wanted size seam bytes h = refl
none_left (suc most) col wanted size seam [] h = refl
none_left (suc most) col wanted size seam (byte ∷ bytes) h = absurd (omega (arith, h))

module _ (col : ℕ) (wanted : Option ColumnType) (size : ℕ) (seam : Seam) (rest : List ℕ) (front : List Part)
    (total : Result (List Part) ReadFault) where
  -- nothing is left
  pub reads_end : length rest ≡ 0 → IsReadTo col wanted size seam rest front total → total ≡ Ok front
  reads_end none so_far = grind (arith, common_steps, none_left, append-nil)

  module _ (some : 0 < length rest) (so_far : IsReadTo col wanted size seam rest front total) where
    abbrev next : ℕ → Found → Result (List Frame) ReadFault
    next most found = found_then found (λ frame left. frames_at most col wanted size (seam_after seam frame) left)

    step :
        (most : ℕ) × (length rest ≤ suc most)
        × (parts_after front (frame_at col (size - length rest) wanted seam rest >>= next most) ≡ total)
    step = by so_far.most so_far.enough so_far.read
      where
        by : (n : ℕ) → length rest ≤ n → parts_after front (frames_at n col wanted size seam rest) ≡ total
            → (most : ℕ) × (length rest ≤ suc most)
            × (parts_after front (frame_at col (size - length rest) wanted seam rest >>= next most) ≡ total)
        by zero le e = absurd (omega arith)
        by (suc most) le e = (most, le, sym (ap (parts_after front) (frames_step most col wanted size seam rest some)) ∙ e)

    -- a frame more
    pub reads_on : (frame : Frame) (left : List ℕ) → length left < length rest
        → frame_at col (size - length rest) wanted seam rest ≡ Ok (Some (frame, left))
        → IsReadTo col wanted size (seam_after seam frame) left (front ++ parts_of (frame ∷ [])) total
    reads_on frame left shorter e =
        let most = step.0 in
        record {
          most = most;
          enough = omega (arith, step.1);
          read =
              sym (parts_after-and_then front frame (frames_at most col wanted size (seam_after seam frame) left))
              ∙ sym (ap (λ r. parts_after front (r >>= next most)) e)
              ∙ step.2;
        }

    -- a rest
    pub reads_torn : frame_at col (size - length rest) wanted seam rest ≡ Ok None → total ≡ Ok front
    reads_torn e = sym step.2 ∙ ap (λ r. parts_after front (r >>= next step.0)) e ∙ ap (λ ps. Ok ps) (append-nil front)

    -- a fault
    pub reads_fault : (fault : ReadFault) → Fails fault (frame_at col (size - length rest) wanted seam rest) → Fails fault total
    reads_fault fault failed = by fault failed
      where
        failed_by : (f : ReadFault) → frame_at col (size - length rest) wanted seam rest ≡ Err f → total ≡ Err f
        failed_by f e = sym step.2 ∙ ap (λ r. parts_after front (r >>= next step.0)) e

        by : (f : ReadFault) → Fails f (frame_at col (size - length rest) wanted seam rest) → Fails f total
        by NoMemory h = tt
        by WrongCount h = failed_by WrongCount h
        by (BadFrame c at) h = failed_by (BadFrame c at) h
        by (TypesDiffer c) h = failed_by (TypesDiffer c) h
        by (BadBlock c at fault) h = failed_by (BadBlock c at fault) h
        by NoImage h = failed_by NoImage h
        by CountsDiffer h = failed_by CountsDiffer h
        by TooManyRows h = failed_by TooManyRows h
        by (NotAscending row) h = failed_by (NotAscending row) h
