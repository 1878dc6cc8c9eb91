-- The spelling of entries is read as these entries.
use Rattle.std.proofs.Common.{◌≡◌, ℕ, ℤ, pos, negsuc, zero, suc, ◌<◌, ◌≤◌, ◌^◌, Bool, true, false, cond, ltb, Some, List, [], ◌∷◌, ◌++◌, length, take, Result, Ok, Err, IsUtf8, FitsSigned, refl, ap, ◌∙◌, append_assoc, arith}
use Rattle.std.specs.Prelude.{OnOk}
use Rattle.std.specs.Int.{w16, w32, w64, from_be_bytes, to_be_bytes, cast_signed, cast_unsigned}
use Rattle.std.proofs.lemmas.Bool.{le-ltb, ltb-false}
use Rattle.std.proofs.lemmas.Int.{to_z-of_z}
use Rattle.std.proofs.lemmas.List.{length-append, take_at, drop_at}
use Rattle.std.proofs.lemmas.List.Elements.{All-head, All-tail}
use Rattle.std.proofs.lemmas.Nat.{from_be_bytes-to_be_bytes_2, from_be_bytes-to_be_bytes_4, from_be_bytes-to_be_bytes_8}
use Rattle.std.proofs.lemmas.Str.{is_utf8-from_IsUtf8}
use Rattle.values.specs.Shape.{Columns}
use Rattle.values.specs.declared.value.ColumnType.{ColumnType}
use Rattle.values.specs.declared.value.ColumnType.TheVariants as column
use Rattle.values.specs.declared.value.Value.{Value}
use Rattle.values.specs.declared.value.Value.TheVariants.{Int, Text, Bool as Truth}
use Rattle.values.specs.declared.limits.TheConstants.{MAX_TEXT_BYTES}
use Rattle.blocks.specs.Payload.{spelling}
use Rattle.blocks.specs.Reading.{int_of}
use Rattle.model.specs.declared.entry.Entry.{Entry}
use Rattle.model.specs.declared.entry.Change.{Change}
use Rattle.model.specs.declared.entry.Change.TheVariants.{Ins, Del, Mod}
use Rattle.codec.specs.declared.fault.PayloadFault.{PayloadFault}
use Rattle.codec.specs.Fit.{EntryFits, EntriesFit, change_fits, IsPlain, ArePlain, IsPlainChange, ArePlainEntries}
use Rattle.codec.specs.Laws.{ReadBack}
use Rattle.codec.specs.Payload.{cell_bytes, cells_bytes, change_bytes, entry_bytes, entries_bytes}
use Rattle.codec.specs.Reading.{◌>>=◌, FoundValue, FoundEntry, int_at, text_at, truth_at, cell_at, cells_at, before, settable, modify_at, row_then, key_then, change_at, entry_then, entry_at, and_then, entries_up}
use Rattle.codec.proofs.FitLemmas.{IsTyped, AreTyped, IsCell, row_typed, key_typed, cell_typed}
use Rattle.codec.proofs.LoopLemmas.{entries_up-none, entries_up-step}

abbrev pub done : {A : Type 0} → A → Result A PayloadFault
done x = Ok x

-- ---- cells

unsigned_lt : (x : ℤ) → FitsSigned w64 x → cast_unsigned w64 x < 2 ^ 64
unsigned_lt (pos n) fits = omega (arith, fits.sfits)
unsigned_lt (negsuc n) fits = omega (arith, fits.sfits)

-- the spelling of a number spells it
int_spelt : (x : ℤ) → FitsSigned w64 x → int_of (spelling (Int x)) ≡ Int x
int_spelt x fits =
    ap Int (ap (cast_signed w64) (from_be_bytes-to_be_bytes_8 (cast_unsigned w64 x) (unsigned_lt x fits)) ∙ to_z-of_z w64 x fits)

int_again : (end : ℕ) (word rest : List ℕ) (value : Value) → length word ≡ 8 → int_of word ≡ value
    → int_at end (word ++ rest) ≡ Ok (value, rest)
unfolding int_at
int_again end word rest value eight spelt =
    let long : ltb (length (word ++ rest)) 8 ≡ false = le-ltb _ _ (omega (arith, length-append word rest)) in
    rw (long, take_at word rest 8 eight, drop_at word rest 8 eight, spelt) refl

text_again : (end : ℕ) (front t rest : List ℕ) → length front ≡ 2 → from_be_bytes w16 front ≡ length t → IsUtf8 t
    → length t ≤ MAX_TEXT_BYTES → text_at end (front ++ (t ++ rest)) ≡ Ok (Text t, rest)
unfolding text_at
text_again end front t rest two spelt utf8 fits =
    let bytes = front ++ (t ++ rest) in
    let first : ltb (length bytes) 2 ≡ false = le-ltb _ _ (omega (arith, length-append front (t ++ rest))) in
    let short : ltb MAX_TEXT_BYTES (length t) ≡ false = le-ltb _ _ fits in
    let long : ltb (length (t ++ rest)) (length t) ≡ false = le-ltb _ _ (omega (arith, length-append t rest)) in
    rw (
      first,
      take_at front (t ++ rest) 2 two,
      drop_at front (t ++ rest) 2 two,
      spelt,
      short,
      long,
      take_at t rest (length t) refl,
      drop_at t rest (length t) refl,
      is_utf8-from_IsUtf8 t utf8,
    ) refl

truth_again : (end : ℕ) (b : Bool) (rest : List ℕ) → truth_at end (cond b 128 0 ∷ rest) ≡ Ok (Truth b, rest)
unfolding truth_at
truth_again end true rest =
    let long : ltb (length (128 ∷ rest)) 1 ≡ false = le-ltb _ _ (omega arith) in
    rw long refl
truth_again end false rest =
    let long : ltb (length (0 ∷ rest)) 1 ≡ false = le-ltb _ _ (omega arith) in
    rw long refl

short_text : (t : List ℕ) → ltb MAX_TEXT_BYTES (length t) ≡ false → length t ≤ 4096
short_text t e = ltb-false MAX_TEXT_BYTES (length t) e

pub cell_again : (ty : ColumnType) (value : Value) (end : ℕ) (rest : List ℕ) → IsTyped ty value → IsPlain value
    → cell_at ty end (cell_bytes value ++ rest) ≡ Ok (value, rest)
cell_again column.Int (Int x) end rest typed plain = int_again end (spelling (Int x)) rest (Int x) refl (int_spelt x plain)
cell_again column.Int (Text t) end rest typed plain = absurd (let h = typed.typed in cc)
cell_again column.Int (Truth b) end rest typed plain = absurd (let h = typed.typed in cc)
cell_again column.Text (Int x) end rest typed plain = absurd (let h = typed.typed in cc)
cell_again column.Text (Text t) end rest typed plain =
    let front = to_be_bytes w16 (length t) in
    let few : length t ≤ 4096 = short_text t typed.short in
    let short : length t < 2 ^ 16 = omega (arith, few) in
    ap (text_at end) (append_assoc front t rest)
    ∙ text_again end front t rest refl (from_be_bytes-to_be_bytes_2 (length t) short) plain few
cell_again column.Text (Truth b) end rest typed plain = absurd (let h = typed.typed in cc)
cell_again column.Bool (Int x) end rest typed plain = absurd (let h = typed.typed in cc)
cell_again column.Bool (Text t) end rest typed plain = absurd (let h = typed.typed in cc)
cell_again column.Bool (Truth b) end rest typed plain = truth_again end b rest

pub cells_again : (types : List ColumnType) (values : List Value) (end : ℕ) (rest : List ℕ) → AreTyped types values → ArePlain values
    → cells_at types end (cells_bytes values ++ rest) ≡ Ok (values, rest)
cells_again [] [] end rest typed plain = refl
cells_again [] (value ∷ values) end rest typed plain = absurd typed
cells_again (ty ∷ types) [] end rest typed plain = absurd typed
cells_again (ty ∷ types) (value ∷ values) end rest typed plain =
    let left = cells_bytes values ++ rest in
    let next : Result FoundValue PayloadFault → Result (List Value × List ℕ) PayloadFault =
    λ r. r >>= λ cell. cells_at types end cell.1 >>= λ cells. Ok (before cell.0 cells) in
    ap (cells_at (ty ∷ types) end) (append_assoc (cell_bytes value) (cells_bytes values) rest)
    ∙ ap next (cell_again ty value end left typed.0 plain.0)
    ∙ ap (λ (r : Result (List Value × List ℕ) PayloadFault). r >>= λ cells. Ok (before value cells))
    (cells_again types values end rest typed.1 plain.1)

-- ---- entries

settable_again : (schema : Columns) (col : ℕ) (value : Value) (cell : IsCell schema col value) → settable schema col ≡ Some cell.ty
unfolding settable
settable_again schema col value cell = rw cell.outside cell.there

modify_again : (schema : Columns) (col : ℕ) (value : Value) (end : ℕ) (rest : List ℕ) → IsCell schema col value → IsPlain value
    → modify_at schema end (col ∷ (cell_bytes value ++ rest)) ≡ Ok (Mod col value, rest)
unfolding modify_at
modify_again schema col value end rest cell plain =
    let bytes = col ∷ (cell_bytes value ++ rest) in
    let long : ltb (length bytes) 1 ≡ false = le-ltb _ _ (omega arith) in
    rw (long, settable_again schema col value cell)
    (ap (λ (r : Result FoundValue PayloadFault). r >>= λ found. done (Mod col found.0, found.1)) (cell_again cell.ty value end rest cell.typed plain))

pub change_again : (schema : Columns) (change : Change) (end : ℕ) (rest : List ℕ) → change_fits schema change ≡ true → IsPlainChange change
    → change_at schema end (change_bytes change ++ rest) ≡ Ok (change, rest)
unfolding change_at
change_again schema (Ins row) end rest fits plain = ap row_then (cells_again schema.types row end rest (row_typed schema row fits) plain)
change_again schema (Del key) end rest fits plain =
    ap key_then (cells_again (take schema.key_cols schema.types) key end rest (key_typed schema key fits) plain)
change_again schema (Mod col value) end rest fits plain = modify_again schema col value end rest (cell_typed schema col value fits) plain

change_some : (change : Change) → 1 ≤ length (change_bytes change)
change_some (Ins row) = omega arith
change_some (Del key) = omega arith
change_some (Mod col value) = omega arith

pub entry_again : (schema : Columns) (entry : Entry) (end : ℕ) (rest : List ℕ) → EntryFits schema entry → IsPlainChange entry.change
    → entry_at schema end (entry_bytes entry ++ rest) ≡ Ok (entry, rest)
unfolding entry_at
entry_again schema entry end rest fits plain =
    let change = change_bytes entry.change in
    let bytes = entry_bytes entry ++ rest in
    let long : ltb (length bytes) 5 ≡ false =
    le-ltb _ _ (omega (arith, length-append (entry_bytes entry) rest, length-append (to_be_bytes w32 entry.sid) change, change_some entry.change)) in
    rw (long)
    (ap (entry_then (from_be_bytes w32 (to_be_bytes w32 entry.sid))) (change_again schema entry.change end rest fits.shaped plain)
    ∙ ap (λ sid. done (entry_with sid, rest)) (from_be_bytes-to_be_bytes_4 entry.sid fits.placed))
  where
    entry_with : ℕ → Entry
    entry_with sid = record { sid = sid; change = entry.change }

pub entry_some : (entry : Entry) → 1 ≤ length (entry_bytes entry)
entry_some entry = omega (arith, length-append (to_be_bytes w32 entry.sid) (change_bytes entry.change))

entries_again : (schema : Columns) (end : ℕ) (entries : List Entry) (most : ℕ) → length (entries_bytes entries) ≤ most
    → EntriesFit schema entries → ArePlainEntries entries → entries_up most schema end (entries_bytes entries) ≡ Ok entries
entries_again schema end [] most enough fit plain = entries_up-none most schema end [] refl
entries_again schema end (entry ∷ entries) zero enough fit plain =
    absurd (omega (arith, enough, entry_some entry, length-append (entry_bytes entry) (entries_bytes entries)))
entries_again schema end (entry ∷ entries) (suc most) enough fit plain =
    let left = entries_bytes entries in
    let sized = length-append (entry_bytes entry) left in
    entries_up-step most schema end (entry_bytes entry ++ left) (omega (arith, sized, entry_some entry))
    ∙ ap (λ (r : Result FoundEntry PayloadFault). r >>= λ found. and_then found.0 (entries_up most schema end found.1))
    (entry_again schema entry end left (All-head (EntryFits schema) entry entries fit) plain.0)
    ∙ ap (and_then entry)
    (entries_again schema end entries most (omega (arith, enough, sized, entry_some entry)) (All-tail (EntryFits schema) entry entries fit) plain.1)

pub read_back : (schema : Columns) (entries : List Entry) → EntriesFit schema entries → ArePlainEntries entries → ReadBack schema entries
read_back schema entries fit plain = λ end. entries_again schema end entries (length (entries_bytes entries)) (omega arith) fit plain

-- what follows from two facts at `Ok` holds there
pub on_both : {A E P Q R : Type 0} (result : Result A E) → OnOk result P → OnOk result Q → (P → Q → R) → OnOk result R
on_both (Ok x) p q next = next p q
on_both (Err e) p q next = tt
