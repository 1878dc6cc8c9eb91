-- What is read of a header is the schema that it is spelt of.
use Rattle.std.proofs.Common.{◌≡◌, ◌<◌, ◌≤◌, inl, inr, ℕ, suc, ◌+◌, ◌-◌, ◌==◌, Bool, true, false, cond, not, eqb, ltb, leb, slice_get, add-one, ◌&&◌, min, Option, Some, None, Result, Ok, Err, List, [], ◌∷◌, ◌++◌, length, get_or, take, drop, map, refl, sym, ap, ◌∙◌, append_assoc, arith}
use Rattle.std.specs.List.{count_by, position, prefix_len}
use Rattle.std.proofs.lemmas.List.{drop_all, drop_at, get_or-map, length-append, map_more, map_push, take_at, take_more}
use Rattle.std.specs.Option.{is_none, is_some}
use Rattle.std.specs.Str.{is_utf8}
use Rattle.std.proofs.lemmas.Bool.{and_left, and_right, and_parts, le-leb, cases_Bool, cond-false, cond-true, ne_eqb, cases_lt, lt-ltb, le-ltb, true≢false, ltb-true, leb-true, not-true}
use Rattle.std.proofs.lemmas.Option.{get_or_from_slice_get}
use Rattle.inputs.proofs.CallerLemmas.{drop-slice_get}
use Rattle.std.proofs.lemmas.List.Sorted.{IsPermutation-refl}
use Rattle.std.proofs.lemmas.List.Sums.{sum_by-cons}
use Rattle.csv.specs.Machine.{Read, next_record}
use Rattle.csv.specs.Reading.{Reached, default_config, strip_bom}
use Rattle.csv.specs.Writing.{default_writer, escaped}
use Rattle.csv.specs.declared.parser.State.TheVariants as st
use Rattle.csv.proofs.RoundTrip.{quoted-run}
use Rattle.values.specs.Shape.{Columns, IsSchema, schema_fault}
use Rattle.values.specs.declared.limits.TheConstants.{MAX_COLUMNS, MAX_KEY_COLUMNS, MAX_NAME_BYTES}
use Rattle.values.specs.declared.value.ColumnType.{ColumnType}
use Rattle.values.specs.declared.value.ColumnType.TheVariants as column
use Rattle.inputs.specs.Cells.{then_cons}
use Rattle.inputs.specs.Header.{as_schema, heading_kind, heading_of, headings_of, is_colon, kind_word, named, parted, unless_refused, schema_of}
use Rattle.inputs.specs.Input.{IsTableOf, under}
use Rattle.inputs.specs.Reading.{AreRecordsOf, Fields}
use Rattle.inputs.specs.declared.fault.TableFault.{TableFault}
use Rattle.inputs.specs.declared.fault.TableFault.TheVariants.{BadHeader}
use Rattle.headers.specs.Spelling.{cell_text, cells_text, comma_before, header_text, is_name, quoted_text}

-- ---- the cells, as fields

abbrev cells : ℕ → ℕ → List (List ℕ) → List ColumnType → Fields
cells key col [] types = []
cells key col (name ∷ names) [] = []
cells key col (name ∷ names) (type ∷ types) = cell_text name type (ltb col key) ∷ cells key (suc col) names types

-- what is read where these fields are all
abbrev read_as : Fields → Option Read
read_as fields = Some (fields, st.StartRecord, [])

-- a field between quotes, with what stands behind it
run_quoted : (fields : Fields) (x tail : List ℕ)
    → next_record default_config st.StartField fields [] (quoted_text x ++ tail) ≡ next_record default_config st.AfterQuote fields x tail
unfolding next_record
run_quoted fields x tail =
    ap (λ (t : List ℕ). next_record default_config st.InQuoted fields [] t) (append_assoc (escaped default_writer x) (34 ∷ []) tail)
    ∙ quoted-run fields [] x tail

run_comma : (fields : Fields) (x tail : List ℕ)
    → next_record default_config st.AfterQuote fields x (44 ∷ tail) ≡ next_record default_config st.StartField (fields ++ x ∷ []) [] tail
unfolding next_record
run_comma fields x tail = refl

run_end : (fields : Fields) (x : List ℕ)
    → next_record default_config st.AfterQuote fields x (10 ∷ []) ≡ read_as (fields ++ x ∷ [])
unfolding next_record
run_end fields x = refl

comma_more : (col : ℕ) → comma_before (suc col) ≡ 44 ∷ []
comma_more col = cond-false (eqb (suc col) 0) [] (44 ∷ []) (ne_eqb (suc col) 0 (λ e. omega (arith, e)))

-- the cells behind the first
run_rest : (key col : ℕ) (names : List (List ℕ)) (types : List ColumnType) (fields : Fields) (x : List ℕ)
    → next_record default_config st.AfterQuote fields x (cells_text key (suc col) names types)
    ≡ read_as (fields ++ x ∷ cells key (suc col) names types)
unfolding cells_text
run_rest key col [] types fields x = run_end fields x
run_rest key col (name ∷ names) [] fields x = run_end fields x
run_rest key col (name ∷ names) (type ∷ types) fields x =
    let cell = cell_text name type (ltb (suc col) key) in
    let rest = cells_text key (suc (suc col)) names types in
    ap (λ (comma : List ℕ). next_record default_config st.AfterQuote fields x ((comma ++ quoted_text cell) ++ rest)) (comma_more col)
    ∙ run_comma fields x (quoted_text cell ++ rest)
    ∙ run_quoted (fields ++ x ∷ []) cell rest
    ∙ run_rest key (suc col) names types (fields ++ x ∷ []) cell
    ∙ ap read_as (append_assoc fields (x ∷ []) (cell ∷ cells key (suc (suc col)) names types))

-- the one record of a header
one_record : (key : ℕ) (name : List ℕ) (names : List (List ℕ)) (type : ColumnType) (types : List ColumnType)
    → next_record default_config st.StartRecord [] [] (cells_text key 0 (name ∷ names) (type ∷ types))
    ≡ read_as (cells key 0 (name ∷ names) (type ∷ types))
unfolding next_record cells_text
one_record key name names type types =
    run_quoted [] (cell_text name type (ltb 0 key)) (cells_text key 1 names types)
    ∙ run_rest key 0 names types [] (cell_text name type (ltb 0 key))

-- ---- what a cell says

kind_is : (type : ColumnType) (is_key : Bool) → heading_kind (kind_word type is_key) ≡ Some (type, is_key)
kind_is column.Int false = refl
kind_is column.Int true = refl
kind_is column.Text false = refl
kind_is column.Text true = refl
kind_is column.Bool false = refl
kind_is column.Bool true = refl

abbrev other : ℕ → Bool
other c = not (is_colon c)

-- where no byte is a colon the bytes before the first one are all
some_len : (name : List ℕ) → is_none (position is_colon name) ≡ true → length name ≤ prefix_len other name
some_len name none = elim (cases_lt (prefix_len other name) (length name)) [
  | inl lt ↦ absurd (true≢false (sym none ∙ ap is_none (cond-true _ (Some (prefix_len other name)) None (lt-ltb _ _ lt))))
  | inr le ↦ le
]

prefix_all : (name tail : List ℕ) → length name ≤ prefix_len other name → prefix_len other (name ++ 58 ∷ tail) ≡ length name
prefix_all [] tail le = refl
prefix_all (x ∷ xs) tail le = elim (cases_Bool (other x)) [
  | inl is ↦
      rw is (omega (arith, prefix_all xs tail (omega (arith, le, cond-true (other x) (1 + prefix_len other xs) 0 is))))
  | inr isnt ↦ absurd (omega (arith, le, cond-false (other x) (1 + prefix_len other xs) 0 isnt))
]

colon_at : (name tail : List ℕ) → is_none (position is_colon name) ≡ true → position is_colon (name ++ 58 ∷ tail) ≡ Some (length name)
colon_at name tail none =
    let most = some_len name none in
    let len = prefix_all name tail most in
    rw len (cond-true (ltb (length name) (length (name ++ 58 ∷ tail))) (Some (length name)) None
    (lt-ltb (length name) (length (name ++ 58 ∷ tail)) (omega (arith, length-append name (58 ∷ tail)))))

named_is : (name : List ℕ) (type : ColumnType) (is_key : Bool) → eqb (length name) 0 ≡ false → length name ≤ MAX_NAME_BYTES → is_utf8 name ≡ true
    → named name (Some (type, is_key)) ≡ Some (record { name = name; column = type; is_key = is_key })
named_is name type is_key some short text = rw (some, le-ltb MAX_NAME_BYTES (length name) short, text) refl

heading_is : (name : List ℕ) (type : ColumnType) (is_key : Bool) → is_name name ≡ true
    → heading_of (cell_text name type is_key) ≡ Some (record { name = name; column = type; is_key = is_key })
heading_is name type is_key lawful =
    let empty = eqb (length name) 0 in
    let short = leb (length name) MAX_NAME_BYTES in
    let plain = is_none (position is_colon name) in
    let some = and_parts (not empty) (short && (is_utf8 name && plain)) lawful in
    let small = and_parts short (is_utf8 name && plain) some.1 in
    let text = and_parts (is_utf8 name) plain small.1 in
    let word = kind_word type is_key in
    let front : take (length name) (name ++ 58 ∷ word) ≡ name = take_at name (58 ∷ word) (length name) refl in
    let behind : drop (length name + 1) (name ++ 58 ∷ word) ≡ word =
    ap (λ (bytes : List ℕ). drop (length name + 1) bytes) (sym (append_assoc name (58 ∷ []) word))
    ∙ drop_at (name ++ 58 ∷ []) word (length name + 1) (length-append name (58 ∷ [])) in
    ap (parted (name ++ 58 ∷ word)) (colon_at name word text.1)
    ∙ rw (front, behind, kind_is type is_key) (named_is name type is_key (not-true empty some.0) (leb-true (length name) MAX_NAME_BYTES small.0)
    text.0)

-- ---- the columns that the cells say

-- cells are read as headings, which have these names, types and so many columns of a key
record Says {A : Type 0} (r : Result (List A) TableFault) (name : A → List ℕ) (type : A → ColumnType) (is_key : A → Bool)
    (names : List (List ℕ)) (types : List ColumnType) (keys : ℕ) : Type 0 where
  headings : List A
  read : r ≡ Ok headings
  names_are : map name headings ≡ names
  types_are : map type headings ≡ types
  keys_are : count_by is_key headings ≡ keys

says_none : {A : Type 0} (name : A → List ℕ) (type : A → ColumnType) (is_key : A → Bool) (keys : ℕ) → 0 ≡ keys
    → Says {A = A} (Ok []) name type is_key [] [] keys
says_none {A} name type is_key keys none = record { headings = []; read = refl; names_are = refl; types_are = refl; keys_are = none }

abbrev ok : {A : Type 0} → A → Result A TableFault
ok x = Ok x

-- a key column stands where one may stand
placed_is : {A : Type 0} (is_key in_key : Bool) (fault : TableFault) (h : A) → (is_key ≡ true → in_key ≡ true)
    → cond (is_key && not in_key) (Err fault) (ok h) ≡ ok h
placed_is {A} false in_key fault h follows = refl
placed_is {A} true in_key fault h follows = rw (follows refl) refl

-- a cell more, before those
says_cons : {A : Type 0} (b in_key : Bool) (fault : TableFault) (h : A) (r : Result (List A) TableFault)
    (name : A → List ℕ) (type : A → ColumnType) (is_key : A → Bool) (names : List (List ℕ)) (types : List ColumnType) (keys all : ℕ)
    → (b ≡ true → in_key ≡ true) → cond (is_key h) 1 0 + keys ≡ all → Says r name type is_key names types keys
    → Says (then_cons (cond (b && not in_key) (Err fault) (Ok h)) r) name type is_key (name h ∷ names) (type h ∷ types) all
says_cons {A} b in_key fault h r name type is_key names types keys all follows sum s = record {
  headings = h ∷ s.headings;
  read = ap (λ (x : Result A TableFault). then_cons x r) (placed_is b in_key fault h follows)
      ∙ ap (λ (x : Result (List A) TableFault). then_cons (Ok h) x) s.read;
  names_are = ap (λ (x : List (List ℕ)). name h ∷ x) s.names_are;
  types_are = ap (λ (x : List ColumnType). type h ∷ x) s.types_are;
  keys_are = sum_by-cons (λ x. cond (is_key x) 1 0) h s.headings ∙ ap (λ (n : ℕ). cond (is_key h) 1 0 + n) s.keys_are ∙ sum;
}

abbrev AreNames : List (List ℕ) → Type 0
AreNames names = (i : ℕ) → i < length names → is_name (get_or names i []) ≡ true

keys_more : (col key width : ℕ) → cond (ltb col key) 1 0 + min (key - suc col) width ≡ min (key - col) (suc width)
keys_more col key width = elim (cases_lt col key) [
  | inl lt ↦ rw (lt-ltb col key lt) (omega (arith, lt))
  | inr le ↦ rw (le-ltb col key le) (omega (arith, le))
]

headings_are : (key col : ℕ) (in_key : Bool) (names : List (List ℕ)) (types : List ColumnType) → length names ≡ length types → AreNames names
    → (col < key → in_key ≡ true)
    → Says (headings_of col in_key (cells key col names types)) (λ h. h.name) (λ h. h.column) (λ h. h.is_key) names types
    (min (key - col) (length types))
headings_are key col in_key [] [] same lawful follows = says_none _ _ _ (min (key - col) 0) (omega arith)
headings_are key col in_key [] (type ∷ types) same lawful follows = absurd (omega (arith, same))
headings_are key col in_key (name ∷ names) [] same lawful follows = absurd (omega (arith, same))
headings_are key col in_key (name ∷ names) (type ∷ types) same lawful follows =
    rw (heading_is name type (ltb col key) (lawful 0 (omega arith)))
    (says_cons (ltb col key) in_key (BadHeader col) _ _ _ _ _ names types (min (key - suc col) (length types)) _
    (λ t. follows (ltb-true col key t)) (keys_more col key (length types))
    (headings_are key (suc col) (ltb col key) names types (omega (arith, same)) (λ i lt. lawful (suc i) (omega (arith, lt)))
    (λ lt. lt-ltb col key (omega (arith, lt)))))

-- ---- the schema, and the table

same_columns : (a b : List (List ℕ)) (s t : List ColumnType) (m n : ℕ) → a ≡ b → s ≡ t → m ≡ n
    → ◌≡◌ {A = Columns} (record { names = a; types = s; key_cols = m }) (record { names = b; types = t; key_cols = n })
same_columns a b s t m n ea es em = rw (ea, es, em) refl

no_fault : (schema : Columns) → IsSchema schema → schema_fault schema ≡ None
no_fault schema lawful =
    let width = length schema.names in
    let e0 = ne_eqb width 0 (λ e. omega (arith, e, lawful.named, lawful.keyed, lawful.key_within)) in
    let e1 = le-ltb MAX_COLUMNS width (omega (arith, lawful.named, lawful.narrow)) in
    let k0 = ne_eqb schema.key_cols 0 (λ e. omega (arith, e, lawful.keyed)) in
    let k1 = le-ltb MAX_KEY_COLUMNS schema.key_cols lawful.short_key in
    let k2 = le-ltb width schema.key_cols (omega (arith, lawful.named, lawful.key_within)) in
    rw (e0, e1, k0, k1, k2, lawful.distinct) refl

schema_is : (schema : Columns) → IsSchema schema → AreNames schema.names
    → schema_of (cells schema.key_cols 0 schema.names schema.types) ≡ Ok schema
schema_is schema lawful names =
    let s = headings_are schema.key_cols 0 true schema.names schema.types lawful.named names (λ lt. refl) in
    let e = same_columns _ schema.names _ schema.types _ schema.key_cols s.names_are s.types_are
    (s.keys_are ∙ omega (arith, lawful.key_within)) in
    ap as_schema s.read ∙ ap (λ (c : Columns). unless_refused c (schema_fault c)) e ∙ ap (unless_refused schema) (no_fault schema lawful)

no_bom : (bytes : List ℕ) → strip_bom (34 ∷ bytes) ≡ 34 ∷ bytes
unfolding strip_bom
no_bom [] = refl
no_bom (b ∷ []) = refl
no_bom (b ∷ c ∷ rest) = refl

are_records : (key : ℕ) (names : List (List ℕ)) (types : List ColumnType) → length names ≡ length types → 1 ≤ length names
    → AreRecordsOf (cells_text key 0 names types) (cells key 0 names types ∷ [])
unfolding cells_text Reached next_record
are_records key [] types same some = absurd (omega (arith, some))
are_records key (name ∷ names) [] same some = absurd (omega (arith, same))
are_records key (name ∷ names) (type ∷ types) same some = (
  st.StartRecord,
  [],
  (
    (cells key 0 (name ∷ names) (type ∷ types), st.StartRecord, []),
    ap (λ (t : List ℕ). next_record default_config st.StartRecord [] [] t) (no_bom _) ∙ one_record key name names type types,
    refl,
    (refl, refl),
  ),
  refl,
)

-- what is read of a header is the schema that it is spelt of, without a row
pub header_reads : (schema : Columns) → IsSchema schema → AreNames schema.names → IsTableOf (header_text schema) schema []
header_reads schema lawful names = record {
  records = cells schema.key_cols 0 schema.names schema.types ∷ [];
  read = [];
  are = are_records schema.key_cols schema.names schema.types lawful.named (omega (arith, lawful.named, lawful.keyed, lawful.key_within));
  said = ap (λ r. under r []) (schema_is schema lawful names);
  each_once = IsPermutation-refl [];
  ascending = λ k d lt. absurd (omega (arith, lt));
}

-- ---- as the loop goes

-- a column more
pub cells_more : (key col : ℕ) (names : List (List ℕ)) (types : List ColumnType) (name : List ℕ) (type : ColumnType)
    → slice_get names col ≡ Some name → slice_get types col ≡ Some type
    → cells_text key col (drop col names) (drop col types)
    ≡ (comma_before col ++ quoted_text (cell_text name type (ltb col key))) ++ cells_text key (col + 1) (drop (col + 1) names) (drop (col + 1) types)
unfolding cells_text
cells_more key col names types name type n t =
    rw (add-one, drop-slice_get names col name n, drop-slice_get types col type t) refl

pub cells_done : (key col : ℕ) (names : List (List ℕ)) (types : List ColumnType) → length names ≤ col
    → cells_text key col (drop col names) (drop col types) ≡ 10 ∷ []
unfolding cells_text
cells_done key col names types all = ap (λ (ns : List (List ℕ)). cells_text key col ns (drop col types)) (drop_all col names all)

pub cells_step : (front new total : List ℕ) (key col : ℕ) (names : List (List ℕ)) (types : List ColumnType) (name : List ℕ) (type : ColumnType)
    → slice_get names col ≡ Some name → slice_get types col ≡ Some type
    → new ≡ front ++ (comma_before col ++ quoted_text (cell_text name type (ltb col key)))
    → front ++ cells_text key col (drop col names) (drop col types) ≡ total
    → new ++ cells_text key (col + 1) (drop (col + 1) names) (drop (col + 1) types) ≡ total
cells_step front new total key col names types name type n t is so_far =
    let rest = cells_text key (col + 1) (drop (col + 1) names) (drop (col + 1) types) in
    let cell = comma_before col ++ quoted_text (cell_text name type (ltb col key)) in
    ap (λ (r : List ℕ). r ++ rest) is ∙ append_assoc front cell rest
    ∙ sym (ap (λ (r : List ℕ). front ++ r) (cells_more key col names types name type n t)) ∙ so_far

-- a name more is one that a header says
pub names_more : (names : List (List ℕ)) (col : ℕ) (name : List ℕ) → ((i : ℕ) → i < col → is_name (get_or names i []) ≡ true)
    → slice_get names col ≡ Some name → is_name name ≡ true → (i : ℕ) → i < col + 1 → is_name (get_or names i []) ≡ true
names_more names col name before there is i lt = elim (cases_lt i col) [
  | inl less ↦ before i less
  | inr le ↦
      let e : i ≡ col = omega (arith, lt, le) in
      rw e (ap is_name (get_or_from_slice_get names col name [] there) ∙ is)
]

-- ---- names

flipped : (a b : Bool) → a ≡ not b → b ≡ not a
flipped a false e = sym (ap not e)
flipped a true e = sym (ap not e)

-- bytes are a name where none of the tests refuses them
pub name_is : (name bytes : List ℕ) (found : Option ℕ) (none : Bool) → bytes ≡ name → false ≡ (length bytes == 0) → length bytes ≤ 64
    → is_utf8 name ≡ true → found ≡ position is_colon bytes → is_some found ≡ not none → none ≡ is_name name
name_is name bytes found none same some short text first is =
    let e : none ≡ is_none (position is_colon name) = flipped (is_some found) none is ∙ ap is_none (first ∙ ap (position is_colon) same) in
    let width = ap length same in
    let e0 : eqb (length name) 0 ≡ false = ap (λ (n : ℕ). eqb n 0) (sym width) ∙ sym some in
    rw (e0, le-leb (length name) MAX_NAME_BYTES (omega (arith, width, short)), text) e

-- bytes that aren't UTF-8 are no name
pub no_name : (name : List ℕ) → is_utf8 name ≡ false → is_name name ≡ false
no_name name e =
    let plain = is_none (position is_colon name) in
    let some = not (eqb (length name) 0) in
    let short = leb (length name) MAX_NAME_BYTES in
    and_right some (short && (is_utf8 name && plain)) (and_right short (is_utf8 name && plain) (and_left (is_utf8 name) plain e))

-- ---- columns that are named one by one

pub names_step : {A B : Type 0} (f : A → List ℕ) (g : B → List ℕ) (items : List A) (x : A) (names : List B) (col : ℕ) (d : B) → col < length names
    → map f items ≡ map g (take col names) → f x ≡ g (get_or names col d) → map f (items ++ x ∷ []) ≡ map g (take (col + 1) names)
names_step {A} {B} f g items x names col d lt so_far is =
    map_push f items x ∙ ap (λ (r : List (List ℕ)). r ++ f x ∷ []) so_far
    ∙ ap (λ (n : List ℕ). map g (take col names) ++ n ∷ []) is ∙ sym (map_more g names col d lt)

pub types_step : {A : Type 0} (f : A → ColumnType) (items : List A) (x : A) (types : List ColumnType) (col : ℕ) (d : ColumnType) → col < length types
    → map f items ≡ take col types → f x ≡ get_or types col d → map f (items ++ x ∷ []) ≡ take (col + 1) types
types_step {A} f items x types col d lt so_far is =
    map_push f items x ∙ ap (λ (r : List ColumnType). r ++ f x ∷ []) so_far
    ∙ ap (λ (t : ColumnType). take col types ++ t ∷ []) is ∙ sym (take_more types col d lt)

pub names_all : {B : Type 0} (g : B → List ℕ) (names : List B) (col : ℕ) (d : B) → col < length names
    → ((i : ℕ) → i < col → is_name (get_or (map g names) i []) ≡ true) → is_name (g (get_or names col d)) ≡ true
    → (i : ℕ) → i < col + 1 → is_name (get_or (map g names) i []) ≡ true
names_all {B} g names col d within before is i lt = elim (cases_lt i col) [
  | inl less ↦ before i less
  | inr le ↦
      let e : i ≡ col = omega (arith, lt, le) in
      rw e (ap is_name (get_or-map g names col d [] within) ∙ is)
]
