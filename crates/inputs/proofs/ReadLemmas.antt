-- The records of a text, one after the other, and lists that are read element by element.
use Rattle.std.proofs.Common.{◌≡◌, ◌∙◌, ◌<◌, ◌≤◌, ℕ, zero, suc, Bool, true, false, List, [], ◌∷◌, ◌++◌, length, drop, slice_get}
use Rattle.std.proofs.Common.{Option, Some, None, Result, Ok, Err, Bor, refl, sym, ap, append_assoc, inl, subst, arith}
use Rattle.std.specs.Result.{IsErrAnd, IfErr, IfOk}
use Rattle.csv.specs.Machine.{Read}
use Rattle.csv.specs.Reading.{AreRecords, Reached, ReadRecord, default_config, is_flexible, strip_bom, took_first}
use Rattle.csv.specs.Records.{field_at}
use Rattle.csv.specs.declared.parser.Config.{Config}
use Rattle.csv.specs.declared.parser.State.{State}
use Rattle.csv.specs.declared.parser.State.TheVariants as st
use Rattle.csv.specs.declared.reader.Reader.{Reader}
use Rattle.csv.proofs.ReadFacts.{rows-more, rows-end}
use Rattle.inputs.specs.Cells.{or_else, then_cons, prepend}
use Rattle.inputs.specs.Reading.{Fields, AreRecordsOf, IsReading, ReadsOne, found_fields}

-- ---- lists

module _ {A F : Type 0} where
  -- one more element that was read
  pub prepend-then_cons : (xs : List A) (a : A) (r : Result (List A) F) → prepend xs (then_cons (Ok a) r) ≡ prepend (xs ++ a ∷ []) r
  prepend-then_cons xs a (Ok ys) = ap Ok (sym (append_assoc xs (a ∷ []) ys))
  prepend-then_cons xs a (Err e) = refl

  -- what was read first, and the rest
  pub then_cons-parts : (a : Result A F) (r : Result (List A) F) (xs : List A) → then_cons a r ≡ Ok xs
      → (x : A) × (rest : List A) × (a ≡ Ok x) × (r ≡ Ok rest) × (xs ≡ x ∷ rest)
  then_cons-parts (Err f) r xs e = cc e
  then_cons-parts (Ok a) (Err f) xs e = cc e
  then_cons-parts (Ok a) (Ok rest) xs e = (a, rest, refl, refl, cc e)

  -- what is there
  pub or_else-parts : (fault : F) (o : Option A) (a : A) → or_else fault o ≡ Ok a → o ≡ Some a
  or_else-parts fault None a e = cc e
  or_else-parts fault (Some x) a e = cc e

  pub prepend-nil : (r : Result (List A) F) → prepend [] r ≡ r
  prepend-nil (Ok ys) = refl
  prepend-nil (Err e) = refl

-- a fault that is passed up
pub passed-up : {T E : Type 0} (r : Result T E) (e : E) (P : E → Type 0) → IsErrAnd r (λ y. y ≡ e) → P e → IfErr r P
passed-up (Ok x) e P is p = tt
passed-up (Err y) e P is p = subst P (sym is) p

pub then-err : {T E : Type 0} (r : Result T E) (P Q : E → Type 0) → ((e : E) → P e → Q e) → IfErr r P → IfErr r Q
then-err (Ok x) P Q f h = tt
then-err (Err e) P Q f h = f e h

pub then-ok : {T E : Type 0} (r : Result T E) (P Q : T → Type 0) → ((x : T) → P x → Q x) → IfOk r P → IfOk r Q
then-ok (Ok x) P Q f h = f x h
then-ok (Err e) P Q f h = tt

-- the field at a place, and those after it
pub field-drop : (fields : Fields) (i : ℕ) (field : List ℕ) → Some field ≡ field_at fields i → drop i fields ≡ field ∷ drop (suc i) fields
unfolding field_at
field-drop [] i field e = cc e
field-drop (g ∷ fields) zero field e = ap (λ (x : List ℕ). x ∷ fields) (cc e)
field-drop (g ∷ fields) (suc i) field e = field-drop fields i field e

-- below a record's length there is a field
pub field-there : (fields : Fields) (i : ℕ) → None ≡ field_at fields i → i < length fields → ⊥
unfolding field_at
field-there [] i e l = absurd (omega (arith, l))
field-there (f ∷ fields) zero e l = cc e
field-there (f ∷ fields) (suc i) e l = field-there fields i e (omega (arith, l))

-- past a record's last field there is none
pub field-none : (fields : Fields) (i : ℕ) → None ≡ field_at fields i → drop i fields ≡ []
unfolding field_at
field-none [] zero e = refl
field-none [] (suc i) e = refl
field-none (f ∷ fields) zero e = cc e
field-none (f ∷ fields) (suc i) e = field-none fields i e

-- ---- records

-- a reader that has read nothing
pub reached-start : (cfg : Config) (s s2 : State) (xs : List ℕ) → s ≡ s2 → Reached cfg s xs [] s2 xs
unfolding Reached
reached-start cfg s s2 xs e = (e, refl)

-- what a read adds
pub reads-one : (text : List ℕ) (read : List Fields) (old new : Reader (Bor (List ℕ))) (found : Bool) (fields : Fields)
    → IsReading text read old → took_first new ≡ true → is_flexible new ≡ is_flexible old
    → ReadRecord (λ (s : Bor (List ℕ)). Some s.now) old new found fields → ReadsOne text read new found fields
reads-one text read old new true fields h begun flex r =
    let more =
    rows-more (λ (s : Bor (List ℕ)). Some s.now) old new fields default_config st.StartRecord (strip_bom text) h.left read
    h.config h.source h.reached r in
    record {
      plain = r.3 ∙ h.plain;
      ready = inl begun;
      config = r.2 ∙ h.config;
      flexible = flex ∙ h.flexible;
      left = more.0;
      source = more.1;
      reached = more.2;
    }
reads-one text read old new false fields h begun flex r =
    (old.state, h.left, h.reached, rows-end (λ (s : Bor (List ℕ)). Some s.now) old new fields default_config h.left h.config h.source r)

-- the records after the first ones
rest_of : (cfg : Config) (s s2 : State) (xs ys : List ℕ) (first all : List Fields)
    → Reached cfg s xs first s2 ys → AreRecords cfg s xs all → (rest : List Fields) × (all ≡ first ++ rest)
unfolding Reached
rest_of cfg s s2 xs ys [] all h g = (all, refl)
rest_of cfg s s2 xs ys (r ∷ rs) [] h g = cc (sym h.1 ∙ rw (← g.2.0, ← g.2.1) at g.3)
rest_of cfg s s2 xs ys (r ∷ rs) (q ∷ all) h g =
    let d = g.2 in
    let same : h.0 ≡ d.0 = cc (sym h.1 ∙ d.1) in
    let later = rest_of cfg h.0.1 s2 h.0.2 ys rs all h.3 (g.0, g.1, rw (← same) at d.3, g.3) in
    (later.0, cc (h.2, d.2, ap (λ (p : Read). p.0) same, later.1))

-- what a reader gave stands at the start of the text's records
pub records-start : (text : List ℕ) (read all : List Fields) (reader : Reader (Bor (List ℕ))) → IsReading text read reader
    → AreRecordsOf text all → (rest : List Fields) × (all ≡ read ++ rest)
records-start text read all reader h g = rest_of default_config st.StartRecord reader.state (strip_bom text) h.left read all h.reached g

same_of : (cfg : Config) (s : State) (xs : List ℕ) (first all : List Fields) → AreRecords cfg s xs first → AreRecords cfg s xs all
    → all ≡ first
unfolding Reached
same_of cfg s xs [] [] h g = refl
same_of cfg s xs [] (q ∷ all) h g = cc (sym g.2.1 ∙ rw (← h.2.0, ← h.2.1) at h.3)
same_of cfg s xs (r ∷ rs) [] h g = cc (sym h.2.1 ∙ rw (← g.2.0, ← g.2.1) at g.3)
same_of cfg s xs (r ∷ rs) (q ∷ all) h g =
    let c = h.2 in
    let d = g.2 in
    let same : c.0 ≡ d.0 = cc (sym c.1 ∙ d.1) in
    let later = same_of cfg c.0.1 c.0.2 rs all (h.0, h.1, c.3, h.3) (g.0, g.1, rw (← same) at d.3, g.3) in
    cc (c.2, d.2, ap (λ (p : Read). p.0) same, later)

-- a text has one list of records
pub records-same : (text : List ℕ) (read all : List Fields) → AreRecordsOf text read → AreRecordsOf text all → all ≡ read
records-same text read all h g = same_of default_config st.StartRecord (strip_bom text) read all h g

-- ---- a record by its number

past : (read : List Fields) (fields : Fields) (rest : List Fields) → slice_get ((read ++ fields ∷ []) ++ rest) (length read) ≡ Some fields
past [] fields rest = refl
past (r ∷ read) fields rest = past read fields rest

none_past : (records : List Fields) (n : ℕ) → length records ≤ n → slice_get records n ≡ None
none_past [] n h = refl
none_past (r ∷ records) zero h = absurd (omega (arith, h))
none_past (r ∷ records) (suc n) h = none_past records n (omega (arith, h))

-- a record that was found behind so many is the one of that place, and where none was found there is none there
pub found-there : (text : List ℕ) (read : List Fields) (reader : Reader (Bor (List ℕ))) (found : Bool) (fields : Fields) (n : ℕ)
    → ReadsOne text read reader found fields → length read ≡ n → (records : List Fields) → AreRecordsOf text records
    → found_fields found fields ≡ slice_get records n
found-there text read reader true fields n h e records g =
    let start = records-start text (read ++ fields ∷ []) records reader h g in
    rw (start.1, ← e) (sym (past read fields start.0))
found-there text read reader false fields n h e records g =
    rw (records-same text read records h g) (sym (none_past read n (omega (arith, e))))

-- where the text ends before a place there is no record there
pub none-there : (text : List ℕ) (read : List Fields) (n : ℕ) → AreRecordsOf text read → length read ≤ n → (records : List Fields)
    → AreRecordsOf text records → None ≡ slice_get records n
none-there text read n h few records g = rw (records-same text read records h g) (sym (none_past read n few))
