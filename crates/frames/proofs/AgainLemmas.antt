-- Frames that are spelt are read again.
use Rattle.std.proofs.Common.{◌≡◌, ℕ, zero, suc, ◌+◌, ◌*◌, ◌-◌, ◌<◌, ◌≤◌, Bool, true, false, ◌&&◌, ltb, eqb, Option, Some, None, List, [], ◌∷◌, ◌++◌, length, drop, Ok, refl, sym, ap, ◌∙◌, append_assoc, inl, inr, arith, rules}
use Rattle.std.specs.Prelude.{unwrap_or}
use Rattle.std.specs.List.{flat_map}
use Rattle.std.proofs.lemmas.Bool.{ltb-true, le-ltb, lt-ltb, and_parts, cases_Bool}
use Rattle.std.proofs.lemmas.List.{length-append, take_at, drop_at}
use Rattle.values.specs.declared.value.ColumnType.{ColumnType}
use Rattle.values.specs.declared.value.ColumnType.TheVariants as column
use Rattle.values.specs.declared.value.Value.{Value}
use Rattle.values.specs.declared.value.Value.TheVariants.{Int, Text, Bool as Truth}
use Rattle.blocks.specs.Column.{Column, Fits, IsBlock, AllFit}
use Rattle.blocks.specs.Payload.{spelling, payload_of}
use Rattle.blocks.proofs.CallerLemmas.{length-packed, reads_back, encoding_reads_back}
use Rattle.frames.specs.declared.frame.Frame.{Frame}
use Rattle.frames.specs.declared.frame.Frame.TheVariants.{Header, Block, End}
use Rattle.frames.specs.declared.frame.Format.{Format}
use Rattle.frames.specs.declared.frame.Format.TheVariants.{First, Second}
use Rattle.frames.specs.declared.frame.Kind.{Kind}
use Rattle.frames.specs.declared.frame.Part.{Part}
use Rattle.frames.specs.declared.seam.Seam.{Seam}
use Rattle.frames.specs.Column.{flag_byte, payload_in, part_payload, part_kind, head_of, head_bytes, frame_bytes, column_bytes, may_stand, IsPartAt, IsFrameAt, AreFramesAt, IsColumn, seam_after, seam_after_all, head_at, is_cut_block, is_rest}
use Rattle.frames.specs.Reading.{◌>>=◌, found_then, AreWanted, header_at, no_kind, payload_at, part_at, frame_at, frames_at, frames_of}
use Rattle.frames.specs.Stored.{reading_in}
use Rattle.frames.proofs.FrameLemmas.{ok_is, header_again, head_again, part_at-stands}
use Rattle.std.proofs.lemmas.Grind.{common_steps}

-- ---- how long a payload is

spelling_short : (ty : ColumnType) (v : Value) → Fits ty v → length (spelling v) ≤ 4098
spelling_short column.Int (Int x) fit = omega arith
spelling_short column.Int (Text t) fit = absurd fit
spelling_short column.Int (Truth b) fit = absurd fit
spelling_short column.Text (Text t) fit = omega (arith, fit.short)
spelling_short column.Text (Int x) fit = absurd fit
spelling_short column.Text (Truth b) fit = absurd fit
spelling_short column.Bool (Truth b) fit = omega arith
spelling_short column.Bool (Int x) fit = absurd fit
spelling_short column.Bool (Text t) fit = absurd fit

spellings_short : (ty : ColumnType) (values : List Value) → AllFit ty values → length (flat_map spelling values) ≤ 4098 * length values
spellings_short ty [] fit = omega arith
spellings_short ty (v ∷ values) fit = grind (arith, common_steps, spellings_short ty values fit.1, spelling_short, length-append)

payload_small : (c : Column) → IsBlock c → length (payload_of c.ty c.values) ≤ 4196352
payload_small c is = grind (arith, common_steps, spellings_short, length-packed)

-- in either format
pub in_short : (format : Format) (c : Column) → IsBlock c → length (payload_in format c.ty c.values) < 4294967296
in_short First c is = omega (arith, payload_small c is)
in_short Second c is = grind (arith, common_steps, payload_small)

pub part_short : (part : Part) → IsBlock part.block → length (part_payload part) < 4294967296
part_short part is = in_short part.format part.block is

-- what is stored is read
stored_again : (format : Format) (ty : ColumnType) (values : List Value) → AllFit ty values
    → reading_in format ty (length values) (payload_in format ty values) ≡ Ok values
stored_again First ty values fit = reads_back ty values fit
stored_again Second ty values fit = encoding_reads_back ty values fit

-- ---- a block

flag_again : (last : Bool) → eqb (flag_byte last) 1 ≡ last
flag_again true = refl
flag_again false = refl

kind_again : (seam : Option Kind) (kind : Kind) → seam ≡ Some kind → kind ≡ unwrap_or seam no_kind
kind_again seam kind e = sym (ap (λ o. unwrap_or o no_kind) e)

payload_again : (col at : ℕ) (part : Part) (rest : List ℕ) → IsBlock part.block
    → payload_at col at (head_of part) (part_kind part) (part_payload part ++ rest) ≡ Ok (Some (Block part, rest))
payload_again col at part rest is = grind (arith, common_steps, le-ltb, length-append, take_at, drop_at, stored_again, flag_again)

part_again : (col at : ℕ) (seam : Seam) (part : Part) (rest : List ℕ) → IsPartAt seam part
    → part_at col at seam (head_bytes (head_of part) ++ (part_payload part ++ rest)) ≡ Ok (Some (Block part, rest))
part_again col at seam part rest is =
    let body = part_payload part ++ rest in
    let h = head_of part in
    let again : head_at (head_bytes h ++ body) ≡ h = head_again h body (record {
      generation = is.generation;
      number = is.number;
      count = omega (arith, is.block.few);
      size = part_short part is.block;
    }) in
    sym (part_at-stands col at seam (head_bytes h ++ body) h (part_kind part) (omega arith) (sym again) is.stands
    (kind_again seam.kind (part_kind part) is.typed))
    ∙ payload_again col at part rest is.block

-- ---- a frame

pub frame_again : (col at : ℕ) (wanted : Option ColumnType) (seam : Seam) (frame : Frame) (rest : List ℕ) → IsFrameAt seam frame
    → AreWanted wanted (frame ∷ []) → frame_at col at wanted seam (frame_bytes frame ++ rest) ≡ Ok (Some (frame, rest))
unfolding frame_at
frame_again col at wanted seam (Header kind) rest is w = header_again col at wanted kind rest w.0
frame_again col at wanted seam (Block part) rest is w =
    ap (frame_at col at wanted seam) (append_assoc (head_bytes (head_of part)) (part_payload part) rest)
    ∙ part_again col at seam part rest is
frame_again col at wanted seam End rest is w = refl

-- a rest is read as the end
pub rest_again : (col at : ℕ) (wanted : Option ColumnType) (seam : Seam) (rest : List ℕ) → 0 < length rest
    → is_rest seam rest ≡ true → frame_at col at wanted seam rest ≡ Ok None
unfolding frame_at header_at part_at
rest_again col at wanted seam [] some h = absurd (omega arith)
rest_again col at wanted seam (first ∷ bytes) some h =
    elim (cases_Bool (eqb first 72)) [
      | inl header ↦
          let short : ltb (length bytes) 2 ≡ true = rw header at h in
          let cut : ltb (length (first ∷ bytes)) 3 ≡ true = lt-ltb _ _ (omega (arith, ltb-true _ _ short)) in
          rw (header, cut) refl
      | inr other ↦ elim (cases_Bool (eqb first 66)) [
        | inl block ↦
            let cut : is_cut_block seam (first ∷ bytes) ≡ true = rw (other, block) at h in
            rw (other, block) (cut_block cut)
        | inr neither ↦ absurd (let f : false ≡ true = rw (other, neither) at h in cc)
      ]
    ]
  where
    cut_block : is_cut_block seam (first ∷ bytes) ≡ true → part_at col at seam (first ∷ bytes) ≡ Ok None
    cut_block cut =
        elim (cases_Bool (ltb (length (first ∷ bytes)) 16)) [
          | inl short ↦ rw short refl
          | inr long ↦
              let more :
              (may_stand seam (head_at (first ∷ bytes))
              && ltb (length (drop 16 (first ∷ bytes))) (head_at (first ∷ bytes)).size)
              ≡ true =
              rw long at cut in
              let both =
              and_parts (may_stand seam (head_at (first ∷ bytes)))
              (ltb (length (drop 16 (first ∷ bytes))) (head_at (first ∷ bytes)).size) more in
              rw (long, both.0, both.1) refl
        ]

-- ---- a column

pub frames_step : (most col : ℕ) (wanted : Option ColumnType) (size : ℕ) (seam : Seam) (bytes : List ℕ) → 0 < length bytes
    → frames_at (suc most) col wanted size seam bytes
    ≡ (frame_at col (size - length bytes) wanted seam bytes >>= λ found. found_then found
    (λ frame rest. frames_at most col wanted size (seam_after seam frame) rest))
unfolding frames_at
frames_step most col wanted size seam [] some = absurd (omega arith)
frames_step most col wanted size seam (byte ∷ bytes) some = refl

pub frame_long : (frame : Frame) → 0 < length (frame_bytes frame)
frame_long (Header kind) = omega arith
frame_long (Block part) = omega arith
frame_long End = omega arith

wanted_first : (wanted : Option ColumnType) (frame : Frame) (frames : List Frame) → AreWanted wanted (frame ∷ frames)
    → AreWanted wanted (frame ∷ []) × AreWanted wanted frames
wanted_first wanted (Header kind) frames w = ((w.0, tt), w.1)
wanted_first wanted (Block part) frames w = (tt, w)
wanted_first wanted End frames w = (tt, w)

pub frames_again : (most col : ℕ) (wanted : Option ColumnType) (size : ℕ) (seam : Seam) (frames : List Frame) (rest : List ℕ)
    → AreFramesAt seam frames → AreWanted wanted frames → is_rest (seam_after_all seam frames) rest ≡ true
    → length (column_bytes frames ++ rest) ≤ most
    → frames_at most col wanted size seam (column_bytes frames ++ rest) ≡ Ok frames
unfolding frames_at
frames_again zero col wanted size seam [] rest are w torn le = refl
frames_again (suc most) col wanted size seam [] [] are w torn le = refl
frames_again (suc most) col wanted size seam [] (byte ∷ rest) are w torn le =
    ap (λ r. r >>= λ found. found_then found (λ frame left. frames_at most col wanted size (seam_after seam frame) left))
    (rest_again col (size - length (byte ∷ rest)) wanted seam (byte ∷ rest) (omega arith) torn)
frames_again zero col wanted size seam (frame ∷ frames) rest are w torn le = search rules
frames_again (suc most) col wanted size seam (frame ∷ frames) rest are w torn le =
    let others = column_bytes frames ++ rest in
    let bytes = frame_bytes frame ++ others in
    let shape : column_bytes (frame ∷ frames) ++ rest ≡ bytes = append_assoc (frame_bytes frame) (column_bytes frames) rest in
    let counted : length bytes ≡ length (frame_bytes frame) + length others = length-append (frame_bytes frame) others in
    let some : 0 < length bytes = omega (arith, counted, frame_long frame) in
    let first = wanted_first wanted frame frames w in
    ap (frames_at (suc most) col wanted size seam) shape
    ∙ frames_step most col wanted size seam bytes some
    ∙ ap (λ r. r >>= λ found. found_then found (λ f left. frames_at most col wanted size (seam_after seam f) left))
    (frame_again col (size - length bytes) wanted seam frame others are.0 first.0)
    ∙ ap (λ r. r >>= λ fs. Ok (frame ∷ fs))
    (frames_again most col wanted size (seam_after seam frame) frames rest are.1 first.1 torn
    (omega (arith, ap length shape, counted, frame_long frame)))

-- the bytes of a column read as its frames
pub column_again : (col : ℕ) (bytes : List ℕ) (frames : List Frame) (rest : List ℕ) (wanted : Option ColumnType)
    → IsColumn bytes frames rest → AreWanted wanted frames → frames_of col wanted bytes ≡ Ok frames
column_again col bytes frames rest wanted is w = grind (arith, common_steps, frames_again)

any_wanted : (frames : List Frame) → AreWanted None frames
any_wanted [] = tt
any_wanted (Header kind ∷ frames) = (refl, any_wanted frames)
any_wanted (Block part ∷ frames) = any_wanted frames
any_wanted (End ∷ frames) = any_wanted frames

cut_front : (front xs ys : List ℕ) → front ++ xs ≡ front ++ ys → xs ≡ ys
cut_front front xs ys e = sym (drop_at front xs (length front) refl) ∙ ap (drop (length front)) e ∙ drop_at front ys (length front) refl

-- bytes are a column in one way at most
pub one_column : (bytes : List ℕ) (frames others : List Frame) (rest left : List ℕ) → IsColumn bytes frames rest
    → IsColumn bytes others left → (frames ≡ others) × (rest ≡ left)
one_column bytes frames others rest left a b =
    let same : frames ≡ others =
    ok_is frames others (sym (column_again 0 bytes frames rest None a (any_wanted frames))
    ∙ column_again 0 bytes others left None b (any_wanted others)) in
    (same, cut_front (column_bytes frames) rest left (sym a.spelt ∙ b.spelt ∙ ap (λ fs. column_bytes fs ++ left) (sym same)))
