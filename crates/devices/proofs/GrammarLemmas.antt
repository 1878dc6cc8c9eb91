-- The blocks of a lawful column are in turn.
use Rattle.std.proofs.Common.{◌≡◌, ℕ, ◌+◌, Bool, true, false, cond, ◌&&◌, eqb, Option, Some, None, List, [], ◌∷◌, Result, Ok, Err, Vec, Global, refl, sym, ap, ◌∙◌, inl, inr, arith, rules}
use Rattle.std.specs.Prelude.{is_some, IfOk}
use Rattle.std.specs.Option.{option_map}
use Rattle.std.proofs.lemmas.Bool.{eqb-true, ltb-true, and_parts, cases_Bool}
use Rattle.values.specs.declared.value.ColumnType.{ColumnType}
use Rattle.values.specs.declared.value.ColumnType.TheVariants as column
use Rattle.blocks.specs.Payload.{AreBytes}
use Rattle.frames.specs.declared.fault.ReadFault.{ReadFault}
use Rattle.frames.specs.declared.frame.Frame.{Frame}
use Rattle.frames.specs.declared.frame.Frame.TheVariants.{Header, Block, End}
use Rattle.frames.specs.declared.frame.Head.{Head}
use Rattle.frames.specs.declared.frame.Kind.{Kind}
use Rattle.frames.specs.declared.frame.Part.{Part}
use Rattle.frames.specs.declared.seam.Seam.{Seam}
use Rattle.frames.specs.declared.seam.Unfinished.{Unfinished}
use Rattle.frames.specs.Bytes.{type_byte}
use Rattle.frames.specs.Column.{AreFramesAt, IsPartAt, head_of, part_kind, is_above, goes_on, is_in_turn, has_due_count, seam_after, start}
use Rattle.frames.specs.Laws.{WhatReadsIsAColumn}
use Rattle.frames.specs.Reading.{AreWanted, Gives, frames_of, parts_of, parts_after}
use Rattle.devices.specs.Turns.{IsPartOf, IsNext, AreNext, AreInTurn}
use Rattle.devices.proofs.WantedLemmas.{column_wanted}
use Rattle.std.proofs.lemmas.Grind.{common_steps}

-- types of one byte are one
type_is : (a b : ColumnType) → eqb (type_byte a) (type_byte b) ≡ true → a ≡ b
type_is column.Int column.Int h = refl
type_is column.Int column.Text h = absurd (cc h)
type_is column.Int column.Bool h = absurd (cc h)
type_is column.Text column.Int h = absurd (cc h)
type_is column.Text column.Text h = refl
type_is column.Text column.Bool h = absurd (cc h)
type_is column.Bool column.Int h = absurd (cc h)
type_is column.Bool column.Text h = absurd (cc h)
type_is column.Bool column.Bool h = refl

-- a block that another one has to follow
record IsUnfinished (u : Unfinished) (before : Option Part) : Type 0 where
  block : Part
  before_is : before ≡ Some block
  generation : u.generation ≡ block.generation
  number : u.number ≡ block.number
  more : block.last ≡ false

-- a seam after this block, in a column of the type
record IsAfter (ty : ColumnType) (seam : Seam) (before : Option Part) : Type 0 where
  typed : (kind : Kind) → seam.kind ≡ Some kind → kind.ty ≡ ty
  newest : seam.newest ≡ option_map (λ p. p.generation) before
  unfinished : (u : Unfinished) → seam.before ≡ Some u → IsUnfinished u before

-- ---- one block

-- the block that a head goes on from
record GoesOn (before : Option Unfinished) (h : Head) : Type 0 where
  from : Unfinished
  before_is : before ≡ Some from
  generation : from.generation ≡ h.generation
  number : from.number + 1 ≡ h.number

-- a head that goes on does so from a block
goes_on_from : (before : Option Unfinished) (h : Head) → goes_on before h ≡ true → GoesOn before h
goes_on_from None h e = absurd (cc e)
goes_on_from (Some u) h e = search rules

module _ (seam : Seam) (part : Part) (turn : is_in_turn seam (head_of part) ≡ true) where
  -- number 0 begins a generation above the newest
  begins_above : part.number ≡ 0 → is_above seam.newest part.generation ≡ true
  begins_above e = search rules

  -- another number goes on
  goes_on_so : eqb part.number 0 ≡ false → goes_on seam.before (head_of part) ≡ true
  goes_on_so e = sym (ap (λ b. cond b (is_above seam.newest part.generation) (goes_on seam.before (head_of part))) e) ∙ turn

  -- a block of a later number goes on
  later : (ty : ColumnType) (before : Option Part) → IsAfter ty seam before → eqb part.number 0 ≡ false
      → (b : Part) × (before ≡ Some b) × (b.generation ≡ part.generation) × (b.number + 1 ≡ part.number) × (b.last ≡ false)
  later ty before after e =
      let on = goes_on_from seam.before (head_of part) (goes_on_so e) in
      let u = after.unfinished on.from on.before_is in
      (u.block, u.before_is, sym u.generation ∙ on.generation, ap (λ n. n + 1) (sym u.number) ∙ on.number, u.more)

  -- a block that may stand is the next one
  next_here : (ty : ColumnType) (before : Option Part) → IsAfter ty seam before → IsNext before part
  next_here ty None after = elim (cases_Bool (eqb part.number 0)) [
    | inl zero ↦ eqb-true part.number 0 zero
    | inr more ↦ absurd (let l = later ty None after more in cc (l.1))
  ]
  next_here ty (Some before) after = record {
    begins = λ e. ltb-true before.generation part.generation (sym (ap (λ o. is_above o part.generation) after.newest) ∙ begins_above e);
    continues = λ some. elim (cases_Bool (eqb part.number 0)) [
      | inl zero ↦ absurd (omega (arith, some, eqb-true part.number 0 zero))
      | inr more ↦
          let l = later ty (Some before) after more in
          let same : before ≡ l.0 = cc (l.1) in
          (ap (λ (b : Part). b.generation) same ∙ l.2, ap (λ (b : Part). b.number + 1) same ∙ l.3, ap (λ (b : Part). b.last) same ∙ l.4)
    ];
  }

-- and is of the type
part_here : (ty : ColumnType) (seam : Seam) (before : Option Part) (part : Part) → IsAfter ty seam before → IsPartAt seam part
    → IsPartOf ty part × IsNext before part
part_here ty seam before part after at =
    let a = and_parts (is_some seam.kind && is_in_turn seam (head_of part)) (has_due_count (head_of part)) at.stands in
    let b = and_parts (is_some seam.kind) (is_in_turn seam (head_of part)) a.0 in
    let is : IsPartOf ty part = record {
      typed = after.typed (part_kind part) at.typed;
      numbered = at.number;
      few = at.block.few;
      full = λ more. eqb-true _ _ (rw more at a.1);
    } in
    (is, next_here seam part b.1 ty before after)

-- what has to go on is this block
unfinished_so : (part : Part) (last : Bool) (u : Unfinished) → part.last ≡ last
    → cond last None (Some (record { generation = part.generation; number = part.number })) ≡ Some u → IsUnfinished u (Some part)
unfinished_so part true u is e = absurd (cc e)
unfinished_so part false u is e = search rules

-- ---- frames

-- the blocks of frames that may stand are in turn
in_turn : (ty : ColumnType) (seam : Seam) (before : Option Part) (frames : List Frame) → IsAfter ty seam before → AreFramesAt seam frames
    → AreWanted (Some ty) frames → AreNext ty before (parts_of frames)
in_turn ty seam before [] after are wanted = tt
in_turn ty seam before (Header kind ∷ frames) after are wanted =
    let next : IsAfter ty (seam_after seam (Header kind)) before = record {
      typed = λ k e. ap (λ (x : Kind). x.ty) (let same : k ≡ kind = cc e in same) ∙ type_is kind.ty ty wanted.0;
      newest = after.newest;
      unfinished = λ u e. absurd (cc e);
    } in
    in_turn ty (seam_after seam (Header kind)) before frames next are.1 wanted.1
in_turn ty seam before (Block part ∷ frames) after are wanted =
    let here = part_here ty seam before part after are.0 in
    let next : IsAfter ty (seam_after seam (Block part)) (Some part) = record {
      typed = after.typed;
      newest = refl;
      unfinished = λ u e. unfinished_so part part.last u refl e;
    } in
    (here.0, here.1, in_turn ty (seam_after seam (Block part)) (Some part) frames next are.1 wanted)
in_turn ty seam before (End ∷ frames) after are wanted =
    let next : IsAfter ty (seam_after seam End) before = record {
      typed = after.typed;
      newest = after.newest;
      unfinished = λ u e. absurd (cc e);
    } in
    in_turn ty (seam_after seam End) before frames next are.1 wanted

-- no block stands before the first frame
start_after : (ty : ColumnType) → IsAfter ty start None
start_after ty = record { typed = λ k e. absurd (cc e); newest = refl; unfinished = λ u e. absurd (cc e) }

-- ---- a column

-- the blocks of a column, by what its bytes read as
parts_in_turn : WhatReadsIsAColumn
    → (col : ℕ) (ty : ColumnType) (bytes : List ℕ) (reading : Result (List Frame) ReadFault) (parts : List Part) → AreBytes bytes
    → frames_of col (Some ty) bytes ≡ reading → parts_after [] reading ≡ Ok parts → AreInTurn ty parts
parts_in_turn law col ty bytes (Ok frames) parts small read e = grind (arith, common_steps, in_turn, start_after, column_wanted)
parts_in_turn law col ty bytes (Err fault) parts small read e = absurd (cc e)

-- the blocks of a column that was read are in turn
pub read_in_turn : WhatReadsIsAColumn → (col : ℕ) (ty : ColumnType) (bytes : List ℕ) (parts : List Part) → AreBytes bytes
    → parts_after [] (frames_of col (Some ty) bytes) ≡ Ok parts → AreInTurn ty parts
read_in_turn law col ty bytes parts small e = parts_in_turn law col ty bytes (frames_of col (Some ty) bytes) parts small refl e

-- where they were answered
pub answered_in_turn : WhatReadsIsAColumn → (col : ℕ) (ty : ColumnType) (bytes : List ℕ) (result : Result (Vec Part Global) ReadFault)
    → AreBytes bytes
    → Gives (λ parts. parts.items) result (parts_after [] (frames_of col (Some ty) bytes)) → IfOk result (λ parts. AreInTurn ty parts.items)
answered_in_turn law col ty bytes (Ok parts) small gives = read_in_turn law col ty bytes parts.items small gives
answered_in_turn law col ty bytes (Err fault) small gives = tt
