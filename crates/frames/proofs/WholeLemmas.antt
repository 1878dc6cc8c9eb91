-- Bytes that read as a column are one: its frames, each where it may stand, and a rest.
use Rattle.std.proofs.Common.{◌≡◌, ℕ, zero, suc, ◌-◌, ◌<◌, ◌≤◌, true, ltb, eqb, Option, Some, None, List, [], ◌∷◌, ◌++◌, length, drop, Result, Ok, Err, refl, sym, ap, subst, ◌∙◌, append_assoc, inl, inr, arith, rules}
use Rattle.std.proofs.lemmas.Bool.{lt-ltb, cases_Bool}
use Rattle.values.specs.declared.value.ColumnType.{ColumnType}
use Rattle.values.specs.declared.value.Value.{Value}
use Rattle.blocks.specs.Payload.{AreBytes}
use Rattle.blocks.specs.declared.fault.BlockFault.{BlockFault}
use Rattle.frames.specs.declared.fault.ReadFault.{ReadFault}
use Rattle.frames.specs.declared.frame.Format.{Format}
use Rattle.frames.specs.declared.frame.Frame.{Frame}
use Rattle.frames.specs.declared.frame.Head.{Head}
use Rattle.frames.specs.declared.frame.Kind.{Kind}
use Rattle.frames.specs.declared.seam.Seam.{Seam}
use Rattle.frames.specs.Column.{AreFramesAt, column_bytes, frame_bytes, head_at, is_cut_block, is_rest, may_stand, seam_after, seam_after_all, start}
use Rattle.frames.specs.Laws.{WhatReadsIsAColumn}
use Rattle.frames.specs.Reading.{◌>>=◌, Found, found_then, frame_at, frames_at, header_at, header_of, part_at, part_of}
use Rattle.frames.proofs.FrameLemmas.{ok_is}
use Rattle.frames.proofs.TakesLemmas.{frame_takes, frame_shorter, frame_leaves}

-- ---- no frame: a rest

header_cut : (col at : ℕ) (wanted : Option ColumnType) (bytes : List ℕ) → header_at col at wanted bytes ≡ Ok None → length bytes < 3
unfolding header_at
header_cut col at wanted bytes e = search rules

part_none : (col at : ℕ) (h : Head) (kind : Kind) (rest : List ℕ) (reading : Result (List Value) BlockFault)
    → part_of col at h kind rest reading ≡ Ok None → ⊥
part_none col at h kind rest (Ok values) e = absurd cc
part_none col at h kind rest (Err fault) e = absurd cc

part_cut : (col at : ℕ) (seam : Seam) (bytes : List ℕ) → part_at col at seam bytes ≡ Ok None → is_cut_block seam bytes ≡ true
unfolding part_at
part_cut col at seam bytes e =
    elim (cases_Bool (ltb (length bytes) 16)) [
      | inl short ↦ rw short refl
      | inr long ↦ elim (cases_Bool (may_stand seam (head_at bytes))) [
        | inl stands ↦ elim (cases_Bool (ltb (length (drop 16 bytes)) (head_at bytes).size)) [
          | inl cut ↦ rw (long, stands, cut) refl
          | inr whole ↦ absurd (part_none col at (head_at bytes) _ _ _ (rw (long, stands, whole) at e))
        ]
        | inr refused ↦ absurd (cc (rw (long, refused) at e))
      ]
    ]

rest_taken : (col at : ℕ) (wanted : Option ColumnType) (seam : Seam) (first : ℕ) (bytes : List ℕ)
    → frame_at col at wanted seam (first ∷ bytes) ≡ Ok None → is_rest seam (first ∷ bytes) ≡ true
unfolding frame_at
rest_taken col at wanted seam first bytes e =
    elim (cases_Bool (eqb first 72)) [
      | inl header ↦
          let short : ltb (length bytes) 2 ≡ true = lt-ltb _ _ (omega (arith, header_cut col at wanted (first ∷ bytes) (rw header at e))) in
          rw (header, short) refl
      | inr not_header ↦ elim (cases_Bool (eqb first 66)) [
        | inl block ↦ rw (not_header, block) (part_cut col at seam (first ∷ bytes) (rw (not_header, block) at e))
        | inr not_block ↦ elim (cases_Bool (eqb first 69)) [
          | inl end ↦ absurd (cc (rw (not_header, not_block, end) at e))
          | inr nothing ↦ absurd (cc (rw (not_header, not_block, nothing) at e))
        ]
      ]
    ]

-- ---- frames

pub step_ok : {A B : Type 0} (r : Result A ReadFault) (next : A → Result B ReadFault) (y : B) → (r >>= next) ≡ Ok y
    → (x : A) × (r ≡ Ok x) × (next x ≡ Ok y)
step_ok (Ok x) next y e = (x, refl, e)
step_ok (Err fault) next y e = absurd cc

-- what bytes that were read are
record IsTaken (seam : Seam) (bytes : List ℕ) (frames : List Frame) : Type 0 where
  rest : List ℕ
  lawful : AreFramesAt seam frames
  torn : is_rest (seam_after_all seam frames) rest ≡ true
  spelt : bytes ≡ column_bytes frames ++ rest

none_taken : (seam : Seam) (frames : List Frame) → [] ≡ frames → IsTaken seam [] frames
none_taken seam frames is = subst (IsTaken seam []) is (record { rest = []; lawful = tt; torn = refl; spelt = refl })

-- a rest, or a frame and those after it
found_taken : (most col at : ℕ) (wanted : Option ColumnType) (size : ℕ) (seam : Seam) (first : ℕ) (bytes : List ℕ)
    (frames : List Frame) (found : Found)
    → AreBytes (first ∷ bytes)
    → length (first ∷ bytes) ≤ suc most → frame_at col at wanted seam (first ∷ bytes) ≡ Ok found
    → found_then found (λ frame left. frames_at most col wanted size (seam_after seam frame) left) ≡ Ok frames
    → ((next : Seam) (left : List ℕ) (others : List Frame) → AreBytes left → length left ≤ most
    → frames_at most col wanted size next left ≡ Ok others → IsTaken next left others)
    → IsTaken seam (first ∷ bytes) frames
found_taken most col at wanted size seam first bytes frames None small le e more again =
    subst (IsTaken seam (first ∷ bytes)) (ok_is [] frames more)
    (record { rest = first ∷ bytes; lawful = tt; torn = rest_taken col at wanted seam first bytes e; spelt = refl })
found_taken most col at wanted size seam first bytes frames (Some found) small le e more again =
    let frame = found.0 in
    let left = found.1 in
    let takes = frame_takes col at wanted seam (first ∷ bytes) left frame small e in
    let shorter = frame_shorter col at wanted seam (first ∷ bytes) left frame small e in
    let b = step_ok (frames_at most col wanted size (seam_after seam frame) left) (λ fs. Ok (frame ∷ fs)) frames more in
    let others =
    again (seam_after seam frame) left b.0 (frame_leaves col at wanted seam (first ∷ bytes) left frame small e)
    (omega (arith, shorter, le)) b.1 in
    let made : IsTaken seam (first ∷ bytes) (frame ∷ b.0) = record {
      rest = others.rest;
      lawful = (takes.lawful, others.lawful);
      torn = others.torn;
      spelt =
          takes.spelt
          ∙ ap (λ x. frame_bytes frame ++ x) others.spelt
          ∙ sym (append_assoc (frame_bytes frame) (column_bytes b.0) others.rest);
    } in
    subst (IsTaken seam (first ∷ bytes)) (ok_is (frame ∷ b.0) frames b.2) made

frames_take : (most col : ℕ) (wanted : Option ColumnType) (size : ℕ) (seam : Seam) (bytes : List ℕ) (frames : List Frame)
    → AreBytes bytes → length bytes ≤ most
    → frames_at most col wanted size seam bytes ≡ Ok frames → IsTaken seam bytes frames
unfolding frames_at
frames_take zero col wanted size seam [] frames small le e = none_taken seam frames (ok_is [] frames e)
frames_take zero col wanted size seam (first ∷ bytes) frames small le e = absurd (omega (arith, le))
frames_take (suc most) col wanted size seam [] frames small le e = none_taken seam frames (ok_is [] frames e)
frames_take (suc most) col wanted size seam (first ∷ bytes) frames small le e =
    let at = size - length (first ∷ bytes) in
    let b =
    step_ok (frame_at col at wanted seam (first ∷ bytes))
    (λ found. found_then found (λ frame left. frames_at most col wanted size (seam_after seam frame) left)) frames e in
    found_taken most col at wanted size seam first bytes frames b.0 small le b.1 b.2
    (λ next left others. frames_take most col wanted size next left others)

pub column_taken : WhatReadsIsAColumn
column_taken col wanted bytes frames small e =
    let taken = frames_take (length bytes) col wanted (length bytes) start bytes frames small (omega arith) e in
    (taken.rest, record { lawful = taken.lawful; torn = taken.torn; spelt = taken.spelt })
