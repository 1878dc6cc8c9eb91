-- The headers of a column that was read are of the type that is wanted.
use Rattle.std.proofs.Common.{◌≡◌, ℕ, zero, suc, ltb, Option, Some, None, List, [], ◌∷◌, length, drop, Result, Ok, Err, refl, subst, ◌∙◌, sym, inl, inr, arith, rules}
use Rattle.std.proofs.lemmas.Bool.{cases_Bool}
use Rattle.values.specs.declared.value.ColumnType.{ColumnType}
use Rattle.values.specs.declared.value.Value.{Value}
use Rattle.blocks.specs.declared.fault.BlockFault.{BlockFault}
use Rattle.frames.specs.declared.fault.ReadFault.{ReadFault}
use Rattle.frames.specs.declared.fault.ReadFault.TheVariants.{BadFrame}
use Rattle.frames.specs.declared.frame.Frame.{Frame}
use Rattle.frames.specs.declared.frame.Frame.TheVariants.{Header, Block, End}
use Rattle.frames.specs.declared.frame.Head.{Head}
use Rattle.frames.specs.declared.frame.Kind.{Kind}
use Rattle.frames.specs.declared.seam.Seam.{Seam}
use Rattle.frames.specs.Column.{head_at, may_stand, seam_after, start}
use Rattle.frames.specs.Reading.{Found, AreWanted, found_then, frame_at, frames_at, frames_of, header_at, part_at, part_of, part_with}
use Rattle.frames.proofs.WholeLemmas.{step_ok}
use Rattle.std.proofs.lemmas.Grind.{common_steps}

-- a frame and the bytes after it, as they are found
abbrev found : Frame → List ℕ → Result Found ReadFault
found frame rest = Ok (Some (frame, rest))

-- what is found in one way is one frame
frame_is : (frame other : Frame) (rest left : List ℕ) → found frame rest ≡ found other left → frame ≡ other
frame_is frame other rest left e = search rules

-- one frame is of the type that is wanted
abbrev IsWanted : Option ColumnType → Frame → Type 0
IsWanted wanted frame = AreWanted wanted (frame ∷ [])

-- a header at the front
header_wanted : (col at : ℕ) (wanted : Option ColumnType) (bytes rest : List ℕ) (frame : Frame)
    → header_at col at wanted bytes ≡ found frame rest → IsWanted wanted frame
unfolding header_at
header_wanted col at wanted bytes rest frame e = search rules

-- a block by its values
part_of_wanted :
    (col at : ℕ) (wanted : Option ColumnType) (h : Head) (kind : Kind) (after rest : List ℕ)
    (reading : Result (List Value) BlockFault) (frame : Frame)
    → part_of col at h kind after reading ≡ found frame rest → IsWanted wanted frame
part_of_wanted col at wanted h kind after rest (Ok values) frame e =
    subst (IsWanted wanted) (frame_is (Block (part_with h kind values)) frame after rest e) tt
part_of_wanted col at wanted h kind after rest (Err fault) frame e = absurd cc

-- a block at the front
part_wanted : (col at : ℕ) (wanted : Option ColumnType) (seam : Seam) (bytes rest : List ℕ) (frame : Frame)
    → part_at col at seam bytes ≡ found frame rest → IsWanted wanted frame
unfolding part_at
part_wanted col at wanted seam bytes rest frame e =
    elim (cases_Bool (ltb (length bytes) 16)) [
      | inl short ↦ absurd (let f : found frame rest ≡ Ok None = sym (rw short at e) in cc)
      | inr long ↦ elim (cases_Bool (may_stand seam (head_at bytes))) [
        | inl stands ↦ elim (cases_Bool (ltb (length (drop 16 bytes)) (head_at bytes).size)) [
          | inl cut ↦ absurd (let f : found frame rest ≡ Ok None = sym (rw (long, stands, cut) at e) in cc)
          | inr whole ↦ part_of_wanted col at wanted (head_at bytes) _ _ rest _ frame (rw (long, stands, whole) at e)
        ]
        | inr refused ↦ absurd (let f : found frame rest ≡ Err (BadFrame col at) = sym (rw (long, refused) at e) in cc)
      ]
    ]

-- a frame at the front
frame_wanted : (col at : ℕ) (wanted : Option ColumnType) (seam : Seam) (bytes rest : List ℕ) (frame : Frame)
    → frame_at col at wanted seam bytes ≡ found frame rest → IsWanted wanted frame
unfolding frame_at
frame_wanted col at wanted seam bytes rest frame e = grind (arith, common_steps, header_wanted, part_wanted, frame_is)

-- ---- frames

-- a frame and those after it
wanted_more : (wanted : Option ColumnType) (frame : Frame) (frames : List Frame) → IsWanted wanted frame → AreWanted wanted frames
    → AreWanted wanted (frame ∷ frames)
wanted_more wanted (Header kind) frames is are = (is.0, are)
wanted_more wanted (Block part) frames is are = are
wanted_more wanted End frames is are = are

-- frames, as they are read
abbrev read : List Frame → Result (List Frame) ReadFault
read frames = Ok frames

-- what is read in one way is one list
ok_is : (frames others : List Frame) → read frames ≡ read others → frames ≡ others
ok_is frames others e = cc

-- a frame that was found and those after it
found_wanted : (wanted : Option ColumnType) (next : Frame → List ℕ → Result (List Frame) ReadFault) (frames : List Frame) (seen : Found)
    → ((frame : Frame) (rest : List ℕ) → seen ≡ Some (frame, rest) → IsWanted wanted frame)
    → ((frame : Frame) (rest : List ℕ) (others : List Frame) → next frame rest ≡ Ok others → AreWanted wanted others)
    → found_then seen next ≡ Ok frames → AreWanted wanted frames
found_wanted wanted next frames None first others e = subst (AreWanted wanted) (ok_is [] frames e) tt
found_wanted wanted next frames (Some seen) first others e =
    let b = step_ok (next seen.0 seen.1) (λ fs. Ok (seen.0 ∷ fs)) frames e in
    subst (AreWanted wanted) (ok_is (seen.0 ∷ b.0) frames b.2) (wanted_more wanted seen.0 b.0 (first seen.0 seen.1 refl)
    (others seen.0 seen.1 b.0 b.1))

-- all frames
frames_wanted : (most col : ℕ) (wanted : Option ColumnType) (size : ℕ) (seam : Seam) (bytes : List ℕ) (frames : List Frame)
    → frames_at most col wanted size seam bytes ≡ Ok frames → AreWanted wanted frames
unfolding frames_at
frames_wanted zero col wanted size seam bytes frames e = subst (AreWanted wanted) (ok_is [] frames e) tt
frames_wanted (suc most) col wanted size seam [] frames e = subst (AreWanted wanted) (ok_is [] frames e) tt
frames_wanted (suc most) col wanted size seam (first ∷ bytes) frames e =
    let b =
    step_ok (frame_at col _ wanted seam (first ∷ bytes)) (λ seen. found_then seen
    (λ frame left. frames_at most col wanted size (seam_after seam frame) left)) frames e in
    found_wanted wanted (λ frame left. frames_at most col wanted size (seam_after seam frame) left) frames b.0
    (λ frame rest is. frame_wanted col _ wanted seam (first ∷ bytes) rest frame (b.1 ∙ (λ i. Ok (is i))))
    (λ frame rest others e. frames_wanted most col wanted size (seam_after seam frame) rest others e)
    b.2

-- each header of a column that was read is of the type that is wanted
pub column_wanted : (col : ℕ) (wanted : Option ColumnType) (bytes : List ℕ) (frames : List Frame) → frames_of col wanted bytes ≡ Ok frames
    → AreWanted wanted frames
column_wanted col wanted bytes frames e = frames_wanted (length bytes) col wanted (length bytes) start bytes frames e
