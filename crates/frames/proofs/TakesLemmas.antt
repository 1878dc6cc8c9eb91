-- Bytes that were read as frames are these frames, and a rest.
use Rattle.std.proofs.Common.{◌≡◌, ℕ, ◌<◌, eqb, Option, Some, List, [], ◌∷◌, length, drop, get_or, Result, Ok, Err, refl, sym, ap, subst, ◌∙◌, inl, inr, arith, rules}
use Rattle.std.proofs.lemmas.Bool.{eqb-true, cases_Bool}
use Rattle.std.proofs.lemmas.List.{length-append, drop_at}
use Rattle.values.specs.declared.value.ColumnType.{ColumnType}
use Rattle.blocks.specs.Payload.{AreBytes}
use Rattle.blocks.proofs.CallerLemmas.{AreBytes-drop}
use Rattle.frames.specs.declared.fault.ReadFault.{ReadFault}
use Rattle.frames.specs.declared.fault.ReadFault.TheVariants.{BadFrame}
use Rattle.frames.specs.declared.frame.Frame.{Frame}
use Rattle.frames.specs.declared.frame.Frame.TheVariants.{End}
use Rattle.frames.specs.declared.seam.Seam.{Seam}
use Rattle.frames.specs.Column.{frame_bytes}
use Rattle.frames.specs.Reading.{Found, frame_at}
use Rattle.frames.proofs.FrameLemmas.{Takes, header_takes, part_takes}
use Rattle.frames.proofs.AgainLemmas.{frame_long}

-- ---- one frame

abbrev found : Frame → List ℕ → Result Found ReadFault
found frame rest = Ok (Some (frame, rest))

end_takes : (seam : Seam) (bytes rest : List ℕ) (frame : Frame) → get_or bytes 0 0 ≡ 69
    → found End (drop 1 bytes) ≡ found frame rest → Takes seam bytes rest frame
end_takes seam [] rest frame h e = absurd (omega (arith, h))
end_takes seam (byte ∷ bytes) rest frame h e = search rules

-- a frame that was read is spelt at the front of the bytes, and may stand there
pub frame_takes : (col at : ℕ) (wanted : Option ColumnType) (seam : Seam) (bytes rest : List ℕ) (frame : Frame) → AreBytes bytes
    → frame_at col at wanted seam bytes ≡ Ok (Some (frame, rest)) → Takes seam bytes rest frame
unfolding frame_at
frame_takes col at wanted seam bytes rest frame small e =
    elim (cases_Bool (eqb (get_or bytes 0 0) 72)) [
      | inl header ↦ header_takes col at wanted seam bytes rest frame (eqb-true _ _ header) (rw header at e)
      | inr not_header ↦ elim (cases_Bool (eqb (get_or bytes 0 0) 66)) [
        | inl block ↦ part_takes col at seam bytes rest frame small (eqb-true _ _ block) (rw (not_header, block) at e)
        | inr not_block ↦ elim (cases_Bool (eqb (get_or bytes 0 0) 69)) [
          | inl end ↦ end_takes seam bytes rest frame (eqb-true _ _ end) (rw (not_header, not_block, end) at e)
          | inr nothing ↦ absurd (let f : found frame rest ≡ Err (BadFrame col at) = sym (rw (not_header, not_block, nothing) at e) in cc)
        ]
      ]
    ]

-- and is shorter than the bytes
pub frame_shorter : (col at : ℕ) (wanted : Option ColumnType) (seam : Seam) (bytes rest : List ℕ) (frame : Frame) → AreBytes bytes
    → frame_at col at wanted seam bytes ≡ Ok (Some (frame, rest)) → length rest < length bytes
frame_shorter col at wanted seam bytes rest frame small e =
    let takes = frame_takes col at wanted seam bytes rest frame small e in
    omega (arith, ap length takes.spelt, length-append (frame_bytes frame) rest, frame_long frame)

-- and the bytes after it are bytes
pub frame_leaves : (col at : ℕ) (wanted : Option ColumnType) (seam : Seam) (bytes rest : List ℕ) (frame : Frame) → AreBytes bytes
    → frame_at col at wanted seam bytes ≡ Ok (Some (frame, rest)) → AreBytes rest
frame_leaves col at wanted seam bytes rest frame small e =
    let takes = frame_takes col at wanted seam bytes rest frame small e in
    let n = length (frame_bytes frame) in
    subst AreBytes (ap (drop n) takes.spelt ∙ drop_at (frame_bytes frame) rest n refl) (AreBytes-drop n bytes small)
