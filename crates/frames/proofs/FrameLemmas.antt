-- A frame read from its bytes, and the bytes of a frame that was read.
use Rattle.std.proofs.Common.{◌≡◌, ℕ, zero, suc, ◌+◌, ◌<◌, ◌≤◌, Bool, true, false, cond, ltb, eqb, Option, Some, None, List, [], ◌∷◌, ◌++◌, length, take, drop, get_or, Result, Ok, Err, refl, sym, ap, subst, ◌∙◌, append_assoc, arith, rules}
use Rattle.std.specs.Prelude.{unwrap_or, is_some}
use Rattle.std.specs.Int.{w16, w32, to_be_bytes}
use Rattle.std.proofs.lemmas.Bool.{ltb-false}
use Rattle.std.proofs.lemmas.List.{length-take, take-append-drop}
use Rattle.values.specs.declared.value.ColumnType.{ColumnType}
use Rattle.values.specs.declared.value.ColumnType.TheVariants as column
use Rattle.values.specs.declared.value.Value.{Value}
use Rattle.values.specs.declared.limits.TheConstants.{MAX_BLOCK_VALUES}
use Rattle.blocks.specs.Payload.{AreBytes}
use Rattle.blocks.specs.Column.{AllFit}
use Rattle.blocks.specs.declared.fault.BlockFault.{BlockFault}
use Rattle.blocks.proofs.CallerLemmas.{is_payload, is_encoded, AreBytes-drop, AreBytes-take}
use Rattle.frames.specs.declared.fault.ReadFault.{ReadFault}
use Rattle.frames.specs.declared.fault.ReadFault.TheVariants.{BadFrame, TypesDiffer}
use Rattle.frames.specs.declared.frame.Frame.{Frame}
use Rattle.frames.specs.declared.frame.Frame.TheVariants.{Header, Block}
use Rattle.frames.specs.declared.frame.Format.{Format}
use Rattle.frames.specs.declared.frame.Format.TheVariants.{First, Second}
use Rattle.frames.specs.declared.frame.Head.{Head}
use Rattle.frames.specs.declared.frame.Kind.{Kind}
use Rattle.frames.specs.declared.frame.Part.{Part}
use Rattle.frames.specs.declared.seam.Seam.{Seam}
use Rattle.frames.specs.Bytes.{type_byte, version_byte}
use Rattle.frames.specs.Column.{flag_byte, payload_in, head_of, head_bytes, frame_bytes, has_due_count, is_in_turn, may_stand, IsPartAt, IsFrameAt, word_at, half_at, head_at}
use Rattle.frames.specs.Reading.{format_of, type_of, is_wanted, header_of, header_at, part_with, no_kind, part_of, payload_at, part_at}
use Rattle.frames.specs.Stored.{reading_in, values_or_none, values_read, IsRead}

-- ---- what a step answered

abbrev pub done : {A : Type 0} → A → Result A ReadFault
done x = Ok x

pub ok_is : {A : Type 0} (x y : A) → done x ≡ done y → x ≡ y
ok_is x y e = cc

-- a test that passed
pub passed_ok : {A : Type 0} (b : Bool) (x : Result A ReadFault) (fault : ReadFault) (y : A) → cond b x (Err fault) ≡ Ok y
    → (b ≡ true) × (x ≡ Ok y)
passed_ok true x fault y e = (refl, e)
passed_ok false x fault y e = absurd cc

-- bytes that aren't cut short
whole_ok : {A : Type 0} (b : Bool) (x : Result (Option A) ReadFault) (y : A) → cond b (Ok None) x ≡ Ok (Some y)
    → (b ≡ false) × (x ≡ Ok (Some y))
whole_ok true x y e = absurd cc
whole_ok false x y e = (refl, e)

-- ---- headers

-- what a frame that was read says of its bytes
pub record Takes (seam : Seam) (bytes rest : List ℕ) (frame : Frame) : Type 0 where
  pub spelt : bytes ≡ frame_bytes frame ++ rest
  pub lawful : IsFrameAt seam frame

pub header_takes : (col at : ℕ) (wanted : Option ColumnType) (seam : Seam) (bytes rest : List ℕ) (frame : Frame)
    → get_or bytes 0 0 ≡ 72 → header_at col at wanted bytes ≡ Ok (Some (frame, rest)) → Takes seam bytes rest frame
unfolding header_at
header_takes col at wanted seam bytes rest frame h e = search rules

pub header_again : (col at : ℕ) (wanted : Option ColumnType) (kind : Kind) (rest : List ℕ) → is_wanted wanted kind.ty ≡ true
    → header_at col at wanted (frame_bytes (Header kind) ++ rest) ≡ Ok (Some (Header kind, rest))
unfolding header_at
header_again col at wanted kind rest w = search rules

-- ---- heads

-- the word at a seam is spelt by its cells
word_spelt : (bytes : List ℕ) (i : ℕ) → AreBytes bytes → to_be_bytes w32 (word_at bytes i)
    ≡ get_or bytes i 0 ∷ get_or bytes (i + 1) 0 ∷ get_or bytes (i + 2) 0 ∷ get_or bytes (i + 3) 0 ∷ []
word_spelt bytes i small = search rules

half_spelt : (bytes : List ℕ) (i : ℕ) → AreBytes bytes → to_be_bytes w16 (half_at bytes i) ≡ get_or bytes i 0 ∷ get_or bytes (i + 1) 0 ∷ []
half_spelt bytes i small = search rules

pub word_small : (bytes : List ℕ) (i : ℕ) → AreBytes bytes → word_at bytes i < 4294967296
word_small bytes i small = omega (arith, small i, small (i + 1), small (i + 2), small (i + 3))

-- the parts of a head, put together
abbrev joined_head : List ℕ → List ℕ → ℕ → List ℕ → List ℕ → List ℕ
joined_head a b flag c d = 66 ∷ (a ++ (b ++ flag ∷ (c ++ d)))

sixteen_cells : (bytes : List ℕ) → 16 ≤ length bytes
    → bytes ≡ get_or bytes 0 0 ∷ get_or bytes 1 0 ∷ get_or bytes 2 0 ∷ get_or bytes 3 0 ∷ get_or bytes 4 0 ∷ get_or bytes 5 0
    ∷ get_or bytes 6 0 ∷ get_or bytes 7 0 ∷ get_or bytes 8 0 ∷ get_or bytes 9 0 ∷ get_or bytes 10 0 ∷ get_or bytes 11 0
    ∷ get_or bytes 12 0 ∷ get_or bytes 13 0 ∷ get_or bytes 14 0 ∷ get_or bytes 15 0 ∷ drop 16 bytes
sixteen_cells [] h = absurd (omega arith)
sixteen_cells (x0 ∷ []) h = absurd (omega arith)
sixteen_cells (x0 ∷ x1 ∷ []) h = absurd (omega arith)
sixteen_cells (x0 ∷ x1 ∷ x2 ∷ []) h = absurd (omega arith)
sixteen_cells (x0 ∷ x1 ∷ x2 ∷ x3 ∷ []) h = absurd (omega arith)
sixteen_cells (x0 ∷ x1 ∷ x2 ∷ x3 ∷ x4 ∷ []) h = absurd (omega arith)
sixteen_cells (x0 ∷ x1 ∷ x2 ∷ x3 ∷ x4 ∷ x5 ∷ []) h = absurd (omega arith)
sixteen_cells (x0 ∷ x1 ∷ x2 ∷ x3 ∷ x4 ∷ x5 ∷ x6 ∷ []) h = absurd (omega arith)
sixteen_cells (x0 ∷ x1 ∷ x2 ∷ x3 ∷ x4 ∷ x5 ∷ x6 ∷ x7 ∷ []) h = absurd (omega arith)
sixteen_cells (x0 ∷ x1 ∷ x2 ∷ x3 ∷ x4 ∷ x5 ∷ x6 ∷ x7 ∷ x8 ∷ []) h = absurd (omega arith)
sixteen_cells (x0 ∷ x1 ∷ x2 ∷ x3 ∷ x4 ∷ x5 ∷ x6 ∷ x7 ∷ x8 ∷ x9 ∷ []) h = absurd (omega arith)
sixteen_cells (x0 ∷ x1 ∷ x2 ∷ x3 ∷ x4 ∷ x5 ∷ x6 ∷ x7 ∷ x8 ∷ x9 ∷ x10 ∷ []) h = absurd (omega arith)
sixteen_cells (x0 ∷ x1 ∷ x2 ∷ x3 ∷ x4 ∷ x5 ∷ x6 ∷ x7 ∷ x8 ∷ x9 ∷ x10 ∷ x11 ∷ []) h = absurd (omega arith)
sixteen_cells (x0 ∷ x1 ∷ x2 ∷ x3 ∷ x4 ∷ x5 ∷ x6 ∷ x7 ∷ x8 ∷ x9 ∷ x10 ∷ x11 ∷ x12 ∷ []) h = absurd (omega arith)
sixteen_cells (x0 ∷ x1 ∷ x2 ∷ x3 ∷ x4 ∷ x5 ∷ x6 ∷ x7 ∷ x8 ∷ x9 ∷ x10 ∷ x11 ∷ x12 ∷ x13 ∷ []) h = absurd (omega arith)
sixteen_cells (x0 ∷ x1 ∷ x2 ∷ x3 ∷ x4 ∷ x5 ∷ x6 ∷ x7 ∷ x8 ∷ x9 ∷ x10 ∷ x11 ∷ x12 ∷ x13 ∷ x14 ∷ []) h = absurd (omega arith)
sixteen_cells (x0 ∷ x1 ∷ x2 ∷ x3 ∷ x4 ∷ x5 ∷ x6 ∷ x7 ∷ x8 ∷ x9 ∷ x10 ∷ x11 ∷ x12 ∷ x13 ∷ x14 ∷ x15 ∷ bytes) h = refl

-- sixteen bytes are the spelling of the numbers that they spell
head_spelt : (bytes : List ℕ) → 16 ≤ length bytes → get_or bytes 0 0 ≡ 66 → AreBytes bytes
    → bytes ≡ head_bytes (head_at bytes) ++ drop 16 bytes
head_spelt bytes long h small =
    let a : to_be_bytes w32 (word_at bytes 1) ≡ get_or bytes 1 0 ∷ get_or bytes 2 0 ∷ get_or bytes 3 0 ∷ get_or bytes 4 0 ∷ [] =
    word_spelt bytes 1 small in
    let b : to_be_bytes w32 (word_at bytes 5) ≡ get_or bytes 5 0 ∷ get_or bytes 6 0 ∷ get_or bytes 7 0 ∷ get_or bytes 8 0 ∷ [] =
    word_spelt bytes 5 small in
    let c : to_be_bytes w16 (half_at bytes 10) ≡ get_or bytes 10 0 ∷ get_or bytes 11 0 ∷ [] = half_spelt bytes 10 small in
    let d :
    to_be_bytes w32 (word_at bytes 12) ≡ get_or bytes 12 0 ∷ get_or bytes 13 0 ∷ get_or bytes 14 0 ∷ get_or bytes 15 0 ∷ [] =
    word_spelt bytes 12 small in
    let flag = get_or bytes 9 0 in
    let rest = drop 16 bytes in
    sixteen_cells bytes long
    ∙ ap (λ x. x ∷ get_or bytes 1 0 ∷ get_or bytes 2 0 ∷ get_or bytes 3 0 ∷ get_or bytes 4 0 ∷ get_or bytes 5 0 ∷ get_or bytes 6 0
    ∷ get_or bytes 7 0 ∷ get_or bytes 8 0 ∷ get_or bytes 9 0 ∷ get_or bytes 10 0 ∷ get_or bytes 11 0 ∷ get_or bytes 12 0
    ∷ get_or bytes 13 0 ∷ get_or bytes 14 0 ∷ get_or bytes 15 0 ∷ rest) h
    ∙ ap (λ xs. joined_head xs (get_or bytes 5 0 ∷ get_or bytes 6 0 ∷ get_or bytes 7 0 ∷ get_or bytes 8 0 ∷ []) flag
    (get_or bytes 10 0 ∷ get_or bytes 11 0 ∷ [])
    (get_or bytes 12 0 ∷ get_or bytes 13 0 ∷ get_or bytes 14 0 ∷ get_or bytes 15 0 ∷ [])
    ++ rest) (sym a)
    ∙ ap (λ xs. joined_head (to_be_bytes w32 (word_at bytes 1)) xs flag (get_or bytes 10 0 ∷ get_or bytes 11 0 ∷ [])
    (get_or bytes 12 0 ∷ get_or bytes 13 0 ∷ get_or bytes 14 0 ∷ get_or bytes 15 0 ∷ [])
    ++ rest) (sym b)
    ∙ ap (λ xs. joined_head (to_be_bytes w32 (word_at bytes 1)) (to_be_bytes w32 (word_at bytes 5)) flag xs
    (get_or bytes 12 0 ∷ get_or bytes 13 0 ∷ get_or bytes 14 0 ∷ get_or bytes 15 0 ∷ [])
    ++ rest) (sym c)
    ∙ ap (λ xs. joined_head (to_be_bytes w32 (word_at bytes 1)) (to_be_bytes w32 (word_at bytes 5)) flag
    (to_be_bytes w16 (half_at bytes 10)) xs
    ++ rest) (sym d)

abbrev make_head : ℕ → ℕ → ℕ → ℕ → ℕ → Head
make_head generation number flag count size = record { generation = generation; number = number; flag = flag; count = count; size = size }

-- numbers that fit their bytes
pub record IsSmallHead (h : Head) : Type 0 where
  pub generation : h.generation < 4294967296
  pub number : h.number < 4294967296
  pub count : h.count < 65536
  pub size : h.size < 4294967296

-- the spelling of numbers spells them
pub head_again : (h : Head) (rest : List ℕ) → IsSmallHead h → head_at (head_bytes h ++ rest) ≡ h
head_again h rest small = search rules

-- ---- blocks

-- what a test of a block's numbers says
record MayStand (seam : Seam) (h : Head) : Type 0 where
  typed : is_some seam.kind ≡ true
  turn : is_in_turn seam h ≡ true
  count : has_due_count h ≡ true

may_stand_says : (seam : Seam) (h : Head) → may_stand seam h ≡ true → MayStand seam h
may_stand_says seam h e = search rules

kind_is : (kind : Option Kind) → is_some kind ≡ true → kind ≡ Some (unwrap_or kind no_kind)
kind_is None e = absurd cc
kind_is (Some kind) e = refl

-- ---- payloads of either format

-- bytes are the payload of these values
pub record IsStored (format : Format) (ty : ColumnType) (count : ℕ) (bytes : List ℕ) (values : List Value) : Type 0 where
  pub counted : length values ≡ count
  pub fit : AllFit ty values
  pub spelt : bytes ≡ payload_in format ty values

is_stored : (format : Format) (ty : ColumnType) (count : ℕ) (bytes : List ℕ) (values : List Value) → AreBytes bytes
    → reading_in format ty count bytes ≡ Ok values → IsStored format ty count bytes values
is_stored First ty count bytes values small e =
    let p = is_payload ty count bytes values small e in
    record { counted = p.counted; fit = p.fit; spelt = p.spelt }
is_stored Second ty count bytes values small e =
    let p = is_encoded ty count bytes values small e in
    record { counted = p.counted; fit = p.fit; spelt = p.spelt }

-- what reads as values may be read again
pub is_read : (kind : Kind) (count : ℕ) (bytes : List ℕ) (values : List Value) → AreBytes bytes → count ≤ MAX_BLOCK_VALUES
    → reading_in kind.format kind.ty count bytes ≡ Ok values → IsRead kind count bytes
is_read kind count bytes values small few e =
    let same : values_read kind count bytes ≡ values = ap values_or_none e in
    record {
      few = few;
      read = e ∙ ap (λ vs. Ok vs) (sym same);
      counted = ap length same ∙ (is_stored kind.format kind.ty count bytes values small e).counted;
    }

-- the flag is one of two bytes, and the values fill a block at most
count_says : (h : Head) → has_due_count h ≡ true → (flag_byte (eqb h.flag 1) ≡ h.flag) × (h.count ≤ MAX_BLOCK_VALUES)
count_says h e = search rules

-- a block that was read
record IsPartRead (h : Head) (kind : Kind) (after rest : List ℕ) (reading : Result (List Value) BlockFault) (frame : Frame) : Type 0 where
  values : List Value
  reading_is : reading ≡ Ok values
  frame_is : frame ≡ Block (part_with h kind values)
  rest_is : after ≡ rest

part_of_ok : (col at : ℕ) (h : Head) (kind : Kind) (after rest : List ℕ) (reading : Result (List Value) BlockFault) (frame : Frame)
    → part_of col at h kind after reading ≡ Ok (Some (frame, rest)) → IsPartRead h kind after rest reading frame
part_of_ok col at h kind after rest (Ok values) frame e = search rules
part_of_ok col at h kind after rest (Err fault) frame e = absurd cc

pub part_takes : (col at : ℕ) (seam : Seam) (bytes rest : List ℕ) (frame : Frame) → AreBytes bytes → get_or bytes 0 0 ≡ 66
    → part_at col at seam bytes ≡ Ok (Some (frame, rest)) → Takes seam bytes rest frame
unfolding part_at
part_takes col at seam bytes rest frame small first e =
    let h = head_at bytes in
    let kind = unwrap_or seam.kind no_kind in
    let body = drop 16 bytes in
    let payload = take h.size body in
    let reading = reading_in kind.format kind.ty h.count payload in
    let a =
    whole_ok (ltb (length bytes) 16) (cond (may_stand seam h) (payload_at col at h kind body) (Err (BadFrame col at)))
    (frame, rest) e in
    let b = passed_ok (may_stand seam h) (payload_at col at h kind body) (BadFrame col at) (Some (frame, rest)) a.1 in
    let c = whole_ok (ltb (length body) h.size) (part_of col at h kind (drop h.size body) reading) (frame, rest) b.1 in
    let read = part_of_ok col at h kind (drop h.size body) rest reading frame c.1 in
    let says = may_stand_says seam h b.0 in
    let count = count_says h says.count in
    let part : Part = part_with h kind read.values in
    let written = payload_in kind.format kind.ty read.values in
    let is : IsStored kind.format kind.ty h.count payload read.values =
    is_stored kind.format kind.ty h.count payload read.values (AreBytes-take h.size body (AreBytes-drop 16 bytes small)) read.reading_is in
    let long : h.size ≤ length body = ltb-false _ _ c.0 in
    let size : length written ≡ h.size =
    sym (ap length is.spelt) ∙ (let l : length payload ≡ h.size = omega (arith, length-take h.size body) in l) in
    let head : head_of part ≡ h =
    ap (λ x. make_head h.generation h.number x (length read.values) (length written)) count.0
    ∙ ap (λ x. make_head h.generation h.number h.flag x (length written)) is.counted
    ∙ ap (λ x. make_head h.generation h.number h.flag h.count x) size in
    let lawful : IsPartAt seam part = record {
      stands = ap (may_stand seam) head ∙ b.0;
      typed = kind_is seam.kind says.typed;
      block = record { few = omega (arith, is.counted, count.1); fit = is.fit };
      generation = word_small bytes 1 small;
      number = word_small bytes 5 small;
    } in
    let spelt : bytes ≡ frame_bytes (Block part) ++ rest =
    head_spelt bytes (ltb-false _ _ a.0) first small
    ∙ ap (λ x. head_bytes h ++ x) (sym (take-append-drop h.size body))
    ∙ ap (λ x. head_bytes h ++ (x ++ drop h.size body)) is.spelt
    ∙ ap (λ x. head_bytes h ++ (written ++ x)) read.rest_is
    ∙ sym (append_assoc (head_bytes h) written rest)
    ∙ ap (λ x. head_bytes x ++ written ++ rest) (sym head) in
    subst (Takes seam bytes rest) (sym read.frame_is) (record { spelt = spelt; lawful = lawful })

-- the block whose numbers may stand here is the payload at them
pub part_at-stands : (col at : ℕ) (seam : Seam) (bytes : List ℕ) (h : Head) (kind : Kind) → 16 ≤ length bytes → h ≡ head_at bytes
    → may_stand seam h ≡ true → kind ≡ unwrap_or seam.kind no_kind → payload_at col at h kind (drop 16 bytes) ≡ part_at col at seam bytes
unfolding part_at
part_at-stands col at seam bytes h kind long head stands typed = search rules
