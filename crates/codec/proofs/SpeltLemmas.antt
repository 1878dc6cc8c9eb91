-- Bytes that read as entries are spelt by them.
use Rattle.std.proofs.Common.{◌≡◌, ℕ, zero, suc, ◌+◌, ◌^◌, ◌<◌, ◌≤◌, Bool, true, false, cond, ltb, eqb, Option, Some, None, List, [], ◌∷◌, ◌++◌, length, take, drop, get_or, Result, Ok, Err, refl, sym, ap, ◌∙◌, append_assoc, subst, arith}
use Rattle.std.proofs.Common.{Fits as FitsBits}
use Rattle.std.specs.Prelude.{slice_get}
use Rattle.std.specs.Int.{w16, w32, w64, from_be_bytes, to_be_bytes}
use Rattle.std.specs.Str.{is_utf8}
use Rattle.std.proofs.Math.Facts.{sfits_to_z}
use Rattle.std.proofs.lemmas.Bool.{le-ltb, ltb-false, eqb-true}
use Rattle.std.proofs.lemmas.Int.{of_z-to_z}
use Rattle.std.proofs.lemmas.List.{length-append, length-take, length-drop, take-append-drop, drop_more}
use Rattle.std.proofs.lemmas.List.Elements.{All-nil, All-cons}
use Rattle.std.proofs.lemmas.Nat.{be_bytes_2, be_bytes_4, be_bytes_8}
use Rattle.std.proofs.lemmas.Str.{IsUtf8-from_is_utf8}
use Rattle.values.specs.Shape.{Columns}
use Rattle.values.specs.declared.value.ColumnType.{ColumnType}
use Rattle.values.specs.declared.value.ColumnType.TheVariants as column
use Rattle.values.specs.declared.value.Value.{Value}
use Rattle.values.specs.declared.value.Value.TheVariants.{Text, Bool as Truth}
use Rattle.values.specs.declared.limits.TheConstants.{MAX_TEXT_BYTES}
use Rattle.blocks.specs.Payload.{AreBytes, spelling}
use Rattle.blocks.specs.Reading.{int_of, length_of}
use Rattle.blocks.proofs.CallerLemmas.{AreBytes-drop, AreBytes-take}
use Rattle.model.specs.declared.entry.Entry.{Entry}
use Rattle.model.specs.declared.entry.Change.{Change}
use Rattle.model.specs.declared.entry.Change.TheVariants.{Ins, Del, Mod}
use Rattle.codec.specs.declared.fault.PayloadFault.{PayloadFault}
use Rattle.codec.specs.declared.fault.PayloadFault.TheVariants.{Short, BadKind, BadCell}
use Rattle.codec.specs.Fit.{EntryFits, EntriesFit, change_fits, IsPlain, ArePlain, IsPlainChange, ArePlainEntries}
use Rattle.codec.specs.Payload.{cell_bytes, cells_bytes, change_bytes, entry_bytes, entries_bytes}
use Rattle.codec.specs.Reading.{◌>>=◌, FoundValue, FoundChange, FoundEntry, begin, int_at, text_at, truth_at, cell_at, cells_at, before, settable, modify_of, modify_at, row_then, key_then, change_at, entry_then, entry_at, and_then, entries_up, entries_to, word_at}
use Rattle.codec.proofs.BackLemmas.{done, entry_some}
use Rattle.codec.proofs.FitLemmas.{IsTyped, AreTyped, row_fits, key_fits, cell_fits}
use Rattle.codec.proofs.LoopLemmas.{FoundValues}

-- ---- what a step answered

pub bind_ok : {A B : Type 0} (r : Result A PayloadFault) (next : A → Result B PayloadFault) (y : B) → (r >>= next) ≡ Ok y
    → (x : A) × (r ≡ Ok x) × (next x ≡ Ok y)
bind_ok (Ok x) next y e = (x, refl, e)
bind_ok (Err fault) next y e = absurd cc

pub guard_ok : {A : Type 0} (b : Bool) (fault : PayloadFault) (x : Result A PayloadFault) (y : A) → cond b (Err fault) x ≡ Ok y
    → (b ≡ false) × (x ≡ Ok y)
guard_ok true fault x y e = absurd cc
guard_ok false fault x y e = (refl, e)

pub ok_is : {A : Type 0} (x y : A) → done x ≡ done y → x ≡ y
ok_is x y e = cc

pub test_ok : {A : Type 0} (b : Bool) (fault : PayloadFault) (x y : A) → cond b (done x) (Err fault) ≡ Ok y → (b ≡ true) × (x ≡ y)
test_ok true fault x y e = (refl, ok_is x y e)
test_ok false fault x y e = absurd cc

-- ---- numbers

-- bytes as the first of them and the others
pub first_byte : (bytes : List ℕ) → 1 ≤ length bytes → bytes ≡ get_or bytes 0 0 ∷ drop 1 bytes
first_byte [] some = absurd (omega (arith, some))
first_byte (byte ∷ bytes) some = refl

four_small : (a b c d : ℕ) → a < 256 → b < 256 → c < 256 → d < 256 → AreBytes (a ∷ b ∷ c ∷ d ∷ [])
four_small a b c d p q r s zero = p
four_small a b c d p q r s (suc zero) = q
four_small a b c d p q r s (suc (suc zero)) = r
four_small a b c d p q r s (suc (suc (suc zero))) = s
four_small a b c d p q r s (suc (suc (suc (suc i)))) = omega arith

pub word_small : (bytes : List ℕ) (i : ℕ) → AreBytes bytes → word_at bytes i < 2 ^ 32
word_small bytes i small = omega (arith, small i, small (i + 1), small (i + 2), small (i + 3))

-- four bytes from a place on, as a number's
pub word_spelt : (bytes : List ℕ) (i : ℕ) → AreBytes bytes → i + 4 ≤ length bytes
    → drop i bytes ≡ to_be_bytes w32 (word_at bytes i) ++ drop (i + 4) bytes
word_spelt bytes i small le =
    let a = get_or bytes i 0 in
    let b = get_or bytes (i + 1) 0 in
    let c = get_or bytes (i + 2) 0 in
    let d = get_or bytes (i + 3) 0 in
    let two : i + 1 + 1 ≡ i + 2 = omega arith in
    let three : i + 2 + 1 ≡ i + 3 = omega arith in
    let four : i + 3 + 1 ≡ i + 4 = omega arith in
    let cells : drop i bytes ≡ a ∷ b ∷ c ∷ d ∷ drop (i + 4) bytes =
    drop_more bytes i 0 (omega (arith, le))
    ∙ ap (λ (x : List ℕ). a ∷ x) (drop_more bytes (i + 1) 0 (omega (arith, le)) ∙ ap (λ k. b ∷ drop k bytes) two)
    ∙ ap (λ (x : List ℕ). a ∷ b ∷ x) (drop_more bytes (i + 2) 0 (omega (arith, le)) ∙ ap (λ k. c ∷ drop k bytes) three)
    ∙ ap (λ (x : List ℕ). a ∷ b ∷ c ∷ x) (drop_more bytes (i + 3) 0 (omega (arith, le)) ∙ ap (λ k. d ∷ drop k bytes) four) in
    let spelt : to_be_bytes w32 (word_at bytes i) ≡ a ∷ b ∷ c ∷ d ∷ [] =
    be_bytes_4 (a ∷ b ∷ c ∷ d ∷ []) (word_at bytes i) refl
    (four_small a b c d (small i) (small (i + 1)) (small (i + 2)) (small (i + 3))) refl in
    cells ∙ sym (ap (λ (x : List ℕ). x ++ drop (i + 4) bytes) spelt)

-- ---- cells

pub record TakesCell (ty : ColumnType) (bytes : List ℕ) (value : Value) (rest : List ℕ) : Type 0 where
  pub spelt : bytes ≡ cell_bytes value ++ rest
  pub small : AreBytes rest
  pub typed : IsTyped ty value
  pub plain : IsPlain value

pub record TakesCells (types : List ColumnType) (bytes : List ℕ) (values : List Value) (rest : List ℕ) : Type 0 where
  pub spelt : bytes ≡ cells_bytes values ++ rest
  pub small : AreBytes rest
  pub typed : AreTyped types values
  pub plain : ArePlain values

cell_pair : (ty : ColumnType) (bytes : List ℕ) (found pair : FoundValue) → found ≡ pair → TakesCell ty bytes found.0 found.1
    → TakesCell ty bytes pair.0 pair.1
cell_pair ty bytes found pair e takes = subst (λ (p : FoundValue). TakesCell ty bytes p.0 p.1) e takes

-- eight bytes are the spelling of the number that they spell
int_spelt : (bytes : List ℕ) → length bytes ≡ 8 → AreBytes bytes → spelling (int_of bytes) ≡ bytes
int_spelt bytes eight small =
    let n = from_be_bytes w64 bytes in
    let lt : n < 2 ^ 64 = omega (arith, small 0, small 1, small 2, small 3, small 4, small 5, small 6, small 7) in
    ap (to_be_bytes w64) (of_z-to_z w64 n lt) ∙ be_bytes_8 bytes n eight small refl

int_plain : (bytes : List ℕ) → AreBytes bytes → IsPlain (int_of bytes)
int_plain bytes small =
    let n = from_be_bytes w64 bytes in
    let lt : n < 2 ^ 64 = omega (arith, small 0, small 1, small 2, small 3, small 4, small 5, small 6, small 7) in
    let word : FitsBits w64 n = record { fits = lt } in
    sfits_to_z word

int_takes : (end : ℕ) (bytes : List ℕ) (pair : FoundValue) → AreBytes bytes → int_at end bytes ≡ Ok pair
    → TakesCell column.Int bytes pair.0 pair.1
unfolding int_at
int_takes end bytes pair small e =
    let found : FoundValue = (int_of (take 8 bytes), drop 8 bytes) in
    let a = guard_ok (ltb (length bytes) 8) (Short (begin end bytes)) (done found) pair e in
    let long : 8 ≤ length bytes = ltb-false _ _ a.0 in
    let front = int_spelt (take 8 bytes) (omega (arith, length-take 8 bytes, long)) (AreBytes-take 8 bytes small) in
    cell_pair column.Int bytes found pair (ok_is found pair a.1) (record {
      spelt = sym (ap (λ (x : List ℕ). x ++ drop 8 bytes) front ∙ take-append-drop 8 bytes);
      small = AreBytes-drop 8 bytes small;
      typed = record { typed = refl; short = refl };
      plain = int_plain (take 8 bytes) (AreBytes-take 8 bytes small);
    })

text_takes : (end : ℕ) (bytes : List ℕ) (pair : FoundValue) → AreBytes bytes → text_at end bytes ≡ Ok pair
    → TakesCell column.Text bytes pair.0 pair.1
unfolding text_at
text_takes end bytes pair small e =
    let at = begin end bytes in
    let len = length_of bytes in
    let body = drop 2 bytes in
    let found : FoundValue = (Text (take len body), drop len body) in
    let tested = cond (is_utf8 (take len body)) (done found) (Err (BadCell at)) in
    let bodied = cond (ltb (length body) len) (Err (Short at)) tested in
    let a = guard_ok (ltb (length bytes) 2) (Short at) (cond (ltb MAX_TEXT_BYTES len) (Err (BadCell at)) bodied) pair e in
    let b = guard_ok (ltb MAX_TEXT_BYTES len) (BadCell at) bodied pair a.1 in
    let c = guard_ok (ltb (length body) len) (Short at) tested pair b.1 in
    let d = test_ok (is_utf8 (take len body)) (BadCell at) found pair c.1 in
    let two : 2 ≤ length bytes = ltb-false _ _ a.0 in
    let few : len ≤ MAX_TEXT_BYTES = ltb-false _ _ b.0 in
    let long : len ≤ length body = ltb-false _ _ c.0 in
    let counted : length (take len body) ≡ len = omega (arith, length-take len body, long) in
    let front : to_be_bytes w16 len ≡ take 2 bytes =
    be_bytes_2 (take 2 bytes) len (omega (arith, length-take 2 bytes, two)) (AreBytes-take 2 bytes small) refl in
    cell_pair column.Text bytes found pair d.1 (record {
      spelt =
          sym (take-append-drop 2 bytes)
          ∙ ap (λ (xs : List ℕ). xs ++ body) (sym front)
          ∙ ap (λ (xs : List ℕ). to_be_bytes w16 len ++ xs) (sym (take-append-drop len body))
          ∙ sym (append_assoc (to_be_bytes w16 len) (take len body) (drop len body))
          ∙ ap (λ n. (to_be_bytes w16 n ++ take len body) ++ drop len body) (sym counted);
      small = AreBytes-drop len body (AreBytes-drop 2 bytes small);
      typed = record { typed = refl; short = le-ltb _ _ (omega (arith, counted, few)) };
      plain = IsUtf8-from_is_utf8 (take len body) d.0;
    })

truth_takes : (end : ℕ) (bytes : List ℕ) (pair : FoundValue) → AreBytes bytes → truth_at end bytes ≡ Ok pair
    → TakesCell column.Bool bytes pair.0 pair.1
unfolding truth_at
truth_takes end bytes pair small e =
    let byte = get_or bytes 0 0 in
    let rest = drop 1 bytes in
    let yes_found : FoundValue = (Truth true, rest) in
    let no_found : FoundValue = (Truth false, rest) in
    let at = begin end bytes in
    let a = guard_ok (ltb (length bytes) 1) (Short at)
    (cond (eqb byte 128) (done yes_found) (cond (eqb byte 0) (done no_found) (Err (BadCell at)))) pair e in
    let whole = first_byte bytes (ltb-false _ _ a.0) in
    let made : (b : Bool) → byte ≡ cond b 128 0 → TakesCell column.Bool bytes (Truth b) rest =
    λ b is. record {
      spelt = whole ∙ ap (λ n. n ∷ rest) is;
      small = AreBytes-drop 1 bytes small;
      typed = record { typed = refl; short = refl };
      plain = tt;
    } in
    by (eqb byte 128) (eqb byte 0) yes_found no_found (BadCell at) pair a.1
    (λ h same. cell_pair column.Bool bytes yes_found pair same (made true (eqb-true byte 128 h)))
    (λ h same. cell_pair column.Bool bytes no_found pair same (made false (eqb-true byte 0 h)))
  where
    by : {P : Type 0} (b c : Bool) (x y : FoundValue) (fault : PayloadFault) (pair : FoundValue)
        → cond b (done x) (cond c (done y) (Err fault)) ≡ Ok pair → (b ≡ true → x ≡ pair → P) → (c ≡ true → y ≡ pair → P) → P
    by true c x y fault pair e one two = one refl (ok_is x pair e)
    by false true x y fault pair e one two = two refl (ok_is y pair e)
    by false false x y fault pair e one two = absurd cc

pub cell_takes : (ty : ColumnType) (end : ℕ) (bytes : List ℕ) (pair : FoundValue) → AreBytes bytes → cell_at ty end bytes ≡ Ok pair
    → TakesCell ty bytes pair.0 pair.1
cell_takes column.Int end bytes pair small e = int_takes end bytes pair small e
cell_takes column.Text end bytes pair small e = text_takes end bytes pair small e
cell_takes column.Bool end bytes pair small e = truth_takes end bytes pair small e

pub cells_take : (types : List ColumnType) (end : ℕ) (bytes : List ℕ) (pair : FoundValues) → AreBytes bytes
    → cells_at types end bytes ≡ Ok pair → TakesCells types bytes pair.0 pair.1
cells_take [] end bytes pair small e =
    let found : FoundValues = ([], bytes) in
    subst (λ (p : FoundValues). TakesCells [] bytes p.0 p.1) (ok_is found pair e)
    (record { spelt = refl; small = small; typed = tt; plain = tt })
cells_take (ty ∷ types) end bytes pair small e =
    let one = bind_ok (cell_at ty end bytes) (λ cell. cells_at types end cell.1 >>= λ cells. done (before cell.0 cells)) pair e in
    let others = bind_ok (cells_at types end one.0.1) (λ cells. done (before one.0.0 cells)) pair one.2 in
    let first = cell_takes ty end bytes one.0 small one.1 in
    let later = cells_take types end one.0.1 others.0 first.small others.1 in
    subst (λ (p : FoundValues). TakesCells (ty ∷ types) bytes p.0 p.1) (ok_is (before one.0.0 others.0) pair others.2)
    (record {
      spelt =
          first.spelt
          ∙ ap (λ (x : List ℕ). cell_bytes one.0.0 ++ x) later.spelt
          ∙ sym (append_assoc (cell_bytes one.0.0) (cells_bytes others.0.0) others.0.1);
      small = later.small;
      typed = (first.typed, later.typed);
      plain = (first.plain, later.plain);
    })

-- ---- entries

pub record TakesChange (schema : Columns) (bytes : List ℕ) (change : Change) (rest : List ℕ) : Type 0 where
  pub spelt : bytes ≡ change_bytes change ++ rest
  pub small : AreBytes rest
  pub fits : change_fits schema change ≡ true
  pub plain : IsPlainChange change

change_pair : (schema : Columns) (bytes : List ℕ) (found pair : FoundChange) → found ≡ pair → TakesChange schema bytes found.0 found.1
    → TakesChange schema bytes pair.0 pair.1
change_pair schema bytes found pair e takes = subst (λ (p : FoundChange). TakesChange schema bytes p.0 p.1) e takes

settable_is : (schema : Columns) (col : ℕ) (ty : ColumnType) → settable schema col ≡ Some ty
    → (ltb col schema.key_cols ≡ false) × (slice_get schema.types col ≡ Some ty)
unfolding settable
settable_is schema col ty e = by (ltb col schema.key_cols) (slice_get schema.types col) e
  where
    by : (b : Bool) (o : Option ColumnType) → cond b None o ≡ Some ty → (b ≡ false) × (o ≡ Some ty)
    by true o h = absurd cc
    by false o h = (refl, h)

modify_takes : (schema : Columns) (end : ℕ) (bytes : List ℕ) (pair : FoundChange) → AreBytes bytes → modify_at schema end bytes ≡ Ok pair
    → TakesChange schema (3 ∷ bytes) pair.0 pair.1
unfolding modify_at
modify_takes schema end bytes pair small e =
    let a = guard_ok (ltb (length bytes) 1) (Short (begin end bytes))
    (modify_of (settable schema (get_or bytes 0 0)) (get_or bytes 0 0) (begin end bytes) end (drop 1 bytes)) pair e in
    by (settable schema (get_or bytes 0 0)) refl (ltb-false _ _ a.0) a.1
  where
    by : (o : Option ColumnType) → settable schema (get_or bytes 0 0) ≡ o → 1 ≤ length bytes
        → modify_of o (get_or bytes 0 0) (begin end bytes) end (drop 1 bytes) ≡ Ok pair → TakesChange schema (3 ∷ bytes) pair.0 pair.1
    by None is some h = absurd cc
    by (Some ty) is some h =
        let col = get_or bytes 0 0 in
        let rest = drop 1 bytes in
        let one = bind_ok (cell_at ty end rest) (λ cell. done (Mod col cell.0, cell.1)) pair h in
        let cell = cell_takes ty end rest one.0 (AreBytes-drop 1 bytes small) one.1 in
        let found : FoundChange = (Mod col one.0.0, one.0.1) in
        let outside = settable_is schema col ty is in
        change_pair schema (3 ∷ bytes) found pair (ok_is found pair one.2) (record {
          spelt =
              ap (λ (x : List ℕ). 3 ∷ x) (first_byte bytes some) ∙ ap (λ (x : List ℕ). 3 ∷ col ∷ x) cell.spelt;
          small = cell.small;
          fits = cell_fits schema col one.0.0 (record { ty = ty; there = outside.1; outside = outside.0; typed = cell.typed });
          plain = cell.plain;
        })

row_takes : (schema : Columns) (end : ℕ) (bytes : List ℕ) (pair : FoundChange) → AreBytes bytes
    → row_then (cells_at schema.types end bytes) ≡ Ok pair → TakesChange schema (1 ∷ bytes) pair.0 pair.1
row_takes schema end bytes pair small e =
    let one = bind_ok (cells_at schema.types end bytes) (λ row. done (Ins row.0, row.1)) pair e in
    let row = cells_take schema.types end bytes one.0 small one.1 in
    let found : FoundChange = (Ins one.0.0, one.0.1) in
    change_pair schema (1 ∷ bytes) found pair (ok_is found pair one.2) (record {
      spelt = ap (λ (x : List ℕ). 1 ∷ x) row.spelt;
      small = row.small;
      fits = row_fits schema one.0.0 row.typed;
      plain = row.plain;
    })

key_takes : (schema : Columns) (end : ℕ) (bytes : List ℕ) (pair : FoundChange) → AreBytes bytes
    → key_then (cells_at (take schema.key_cols schema.types) end bytes) ≡ Ok pair → TakesChange schema (2 ∷ bytes) pair.0 pair.1
key_takes schema end bytes pair small e =
    let one = bind_ok (cells_at (take schema.key_cols schema.types) end bytes) (λ key. done (Del key.0, key.1)) pair e in
    let key = cells_take (take schema.key_cols schema.types) end bytes one.0 small one.1 in
    let found : FoundChange = (Del one.0.0, one.0.1) in
    change_pair schema (2 ∷ bytes) found pair (ok_is found pair one.2) (record {
      spelt = ap (λ (x : List ℕ). 2 ∷ x) key.spelt;
      small = key.small;
      fits = key_fits schema one.0.0 key.typed;
      plain = key.plain;
    })

change_takes : (schema : Columns) (end : ℕ) (bytes : List ℕ) (pair : FoundChange) → AreBytes bytes → 1 ≤ length bytes
    → change_at schema end bytes ≡ Ok pair → TakesChange schema bytes pair.0 pair.1
unfolding change_at
change_takes schema end bytes pair small some e =
    let kind = get_or bytes 0 0 in
    let rest = drop 1 bytes in
    let rest_small = AreBytes-drop 1 bytes small in
    let back : (k : ℕ) → kind ≡ k → TakesChange schema (k ∷ rest) pair.0 pair.1 → TakesChange schema bytes pair.0 pair.1 =
    λ k is takes. subst (λ (b : List ℕ). TakesChange schema b pair.0 pair.1) (sym (first_byte bytes some ∙ ap (λ n. n ∷ rest) is)) takes in
    by (eqb kind 1) (eqb kind 2) (eqb kind 3) (row_then (cells_at schema.types end rest))
    (key_then (cells_at (take schema.key_cols schema.types) end rest)) (modify_at schema end rest) (BadKind (begin end bytes)) e
    (λ h r. back 1 (eqb-true kind 1 h) (row_takes schema end rest pair rest_small r))
    (λ h r. back 2 (eqb-true kind 2 h) (key_takes schema end rest pair rest_small r))
    (λ h r. back 3 (eqb-true kind 3 h) (modify_takes schema end rest pair rest_small r))
  where
    by : {P : Type 0} (a b c : Bool) (x y z : Result FoundChange PayloadFault) (fault : PayloadFault)
        → cond a x (cond b y (cond c z (Err fault))) ≡ Ok pair → (a ≡ true → x ≡ Ok pair → P) → (b ≡ true → y ≡ Ok pair → P)
        → (c ≡ true → z ≡ Ok pair → P) → P
    by true b c x y z fault e one two three = one refl e
    by false true c x y z fault e one two three = two refl e
    by false false true x y z fault e one two three = three refl e
    by false false false x y z fault e one two three = absurd cc

pub record TakesEntry (schema : Columns) (bytes : List ℕ) (entry : Entry) (rest : List ℕ) : Type 0 where
  pub spelt : bytes ≡ entry_bytes entry ++ rest
  pub small : AreBytes rest
  pub fits : EntryFits schema entry
  pub plain : IsPlainChange entry.change

entry_takes : (schema : Columns) (end : ℕ) (bytes : List ℕ) (pair : FoundEntry) → AreBytes bytes → entry_at schema end bytes ≡ Ok pair
    → TakesEntry schema bytes pair.0 pair.1
unfolding entry_at
entry_takes schema end bytes pair small e =
    let sid = word_at bytes 0 in
    let a = guard_ok (ltb (length bytes) 5) (Short (begin end bytes)) (entry_then sid (change_at schema end (drop 4 bytes))) pair e in
    let long : 5 ≤ length bytes = ltb-false _ _ a.0 in
    let one = bind_ok (change_at schema end (drop 4 bytes)) (λ change. done (entry_with sid change.0, change.1)) pair a.1 in
    let change = change_takes schema end (drop 4 bytes) one.0 (AreBytes-drop 4 bytes small) (omega (arith, length-drop 4 bytes, long)) one.1 in
    let found : FoundEntry = (entry_with sid one.0.0, one.0.1) in
    subst (λ (p : FoundEntry). TakesEntry schema bytes p.0 p.1) (ok_is found pair one.2) (record {
      spelt =
          word_spelt bytes 0 small (omega (arith, long))
          ∙ ap (λ (x : List ℕ). to_be_bytes w32 sid ++ x) change.spelt
          ∙ sym (append_assoc (to_be_bytes w32 sid) (change_bytes one.0.0) one.0.1);
      small = change.small;
      fits = record { placed = word_small bytes 0 small; shaped = change.fits };
      plain = change.plain;
    })
  where
    entry_with : ℕ → Change → Entry
    entry_with sid change = record { sid = sid; change = change }

-- what entries that were read say of their bytes
pub record AreSpelt (schema : Columns) (bytes : List ℕ) (entries : List Entry) : Type 0 where
  pub spelt : bytes ≡ entries_bytes entries
  pub fit : EntriesFit schema entries
  pub plain : ArePlainEntries entries

entries_none : (schema : Columns) (bytes : List ℕ) (entries : List Entry) → bytes ≡ [] → [] ≡ entries → AreSpelt schema bytes entries
entries_none schema bytes entries none is =
    subst (AreSpelt schema bytes) is (record { spelt = none; fit = All-nil (EntryFits schema); plain = tt })

entries_take : (most : ℕ) (schema : Columns) (end : ℕ) (bytes : List ℕ) (entries : List Entry) → length bytes ≤ most → AreBytes bytes
    → entries_up most schema end bytes ≡ Ok entries → AreSpelt schema bytes entries
unfolding entries_up
entries_take zero schema end [] entries few small e = entries_none schema [] entries refl (ok_is [] entries e)
entries_take zero schema end (byte ∷ bytes) entries few small e = absurd (omega (arith, few))
entries_take (suc most) schema end [] entries few small e = entries_none schema [] entries refl (ok_is [] entries e)
entries_take (suc most) schema end (byte ∷ bytes) entries few small e =
    let whole = byte ∷ bytes in
    let one = bind_ok (entry_at schema end whole) (λ found. and_then found.0 (entries_up most schema end found.1)) entries e in
    let others = bind_ok (entries_up most schema end one.0.1) (λ es. done (one.0.0 ∷ es)) entries one.2 in
    let first = entry_takes schema end whole one.0 small one.1 in
    let sized = ap length first.spelt ∙ length-append (entry_bytes one.0.0) one.0.1 in
    let later = entries_take most schema end one.0.1 others.0 (omega (arith, few, sized, entry_some one.0.0)) first.small others.1 in
    subst (AreSpelt schema whole) (ok_is (one.0.0 ∷ others.0) entries others.2) (record {
      spelt = first.spelt ∙ ap (λ (x : List ℕ). entry_bytes one.0.0 ++ x) later.spelt;
      fit = All-cons (EntryFits schema) one.0.0 others.0 first.fits later.fit;
      plain = (first.plain, later.plain);
    })

pub entries_spelt : (schema : Columns) (end : ℕ) (bytes : List ℕ) (entries : List Entry) → AreBytes bytes
    → entries_to schema end bytes ≡ Ok entries → AreSpelt schema bytes entries
entries_spelt schema end bytes entries small e = entries_take (length bytes) schema end bytes entries (omega arith) small e
