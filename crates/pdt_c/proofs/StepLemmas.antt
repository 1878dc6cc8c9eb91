-- Pieces that show the frames of a batch, and the header of a journal that is opened.
use Rattle.std.proofs.Common.{◌≡◌, ◌<◌, ◌^◌, ℕ, zero, suc, Bool, true, false, cond, eqb, leb, Option, Some, None, List, [], ◌∷◌, length, set, get_or, arith}
use Rattle.std.proofs.lemmas.Option.{none-some}
use Rattle.journal.specs.Header.{HeaderFields, header_with, seed_of}
use Rattle.journal_steps.specs.Progress.{header_from}
use Rattle.pdt_c.specs.Steps.{ArePieces, IsPiece}
use Rattle.pdt_c.specs.declared.calls.steps.FramePiece.{FramePiece}

-- once the next frame is shown, one more is
pub pieces_more : (i : ℕ) (pieces : List FramePiece) (frames : List (List ℕ)) (p : FramePiece) → i < length pieces → i < length frames
    → IsPiece p (get_or frames i []) → ArePieces i pieces frames → ArePieces (suc i) (set pieces i p) frames
pieces_more i [] frames p lt in_frames is h = absurd (omega (arith, lt))
pieces_more i (q ∷ pieces) [] p lt in_frames is h = absurd (omega (arith, in_frames))
pieces_more zero (q ∷ pieces) (f ∷ frames) p lt in_frames is h = (is, tt)
pieces_more (suc i) (q ∷ pieces) (f ∷ frames) p lt in_frames is h =
    (h.0, pieces_more i pieces frames p (omega (arith, lt)) (omega (arith, in_frames)) is h.1)

-- ---- a header

some_is : (h g : HeaderFields) → ◌≡◌ {A = Option HeaderFields} (Some h) (Some g) → h ≡ g
some_is h g e = cc

header_when : (a b : Bool) (h g : HeaderFields) → cond a None (cond b None (Some h)) ≡ Some g → h ≡ g
header_when true b h g e = absurd (none-some g e)
header_when false true h g e = absurd (none-some g e)
header_when false false h g e = some_is h g e

-- a header has the fields that it was made of
pub header_is : (salt store base : ℕ) (g : HeaderFields) → header_with salt store base ≡ Some g → header_from salt store base ≡ g
unfolding header_with
header_is salt store base g e = header_when (eqb (seed_of salt) 0) (leb (2 ^ 63) base) (header_from salt store base) g e
