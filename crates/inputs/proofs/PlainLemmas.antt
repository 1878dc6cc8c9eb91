-- The columns of a text whose header names no types: cell by cell, record by record, and the key before the others.
use Rattle.std.proofs.Common.{◌≡◌, ◌∙◌, ◌+◌, ◌<◌, ◌≤◌, ℕ, zero, suc, false, ◌||◌, ◌==◌, List, [], ◌∷◌, ◌++◌, length, take, drop, map}
use Rattle.std.proofs.Common.{get_or, set, Option, Some, None, Ok, Err, Bor, refl, sym, ap, subst, arith, add-one}
use Rattle.std.specs.Prelude.{position}
use Rattle.std.specs.List.{list_any}
use Rattle.std.proofs.lemmas.List.{append-nil, append_assoc, length-map, drop-set-lt, drop_all, drop-map}
use Rattle.std.proofs.lemmas.List.{take-append-drop, take-append-le, take_all}
use Rattle.std.proofs.lemmas.List.FromFn.{length-map-range_with_len, map-range_with_len_more}
use Rattle.std.proofs.Math.Seq.{drop-cons, take-suc-set}
use Rattle.csv.specs.declared.reader.Reader.{Reader}
use Rattle.values.specs.Shape.{Columns}
use Rattle.values.specs.declared.value.ColumnType.{ColumnType}
use Rattle.inputs.specs.Cells.{prepend}
use Rattle.inputs.specs.Plain.{after_header, columns_found, plain_columns, found_with, names_types, or_text, types_found, types_shown, rekeyed}
use Rattle.inputs.specs.Plain.{as_found, first_in_key, has_type, joined, joined_type, kind_of, seen, unseen, plain_heading, plain_headings}
use Rattle.inputs.specs.Plain.{with_key, moved_next, moved_to, is_named, Moved}
use Rattle.inputs.specs.Header.{as_schema}
use Rattle.inputs.specs.Reading.{Fields, AreRecordsOf, IsReading}
use Rattle.inputs.specs.declared.header.Heading.{Heading}
use Rattle.inputs.specs.declared.fault.TableFault.{TableFault}
use Rattle.inputs.specs.declared.fault.PlainFault.{PlainFault}
use Rattle.inputs.specs.declared.fault.PlainFault.TheVariants.{Table}
use Rattle.inputs.specs.declared.fault.TableFault.TheVariants.{NoHeader}
use Rattle.inputs.proofs.ReadLemmas.{prepend-then_cons, records-same, records-start}

-- ---- types

pub unseen-more : (count : ℕ) → unseen (count + 1) ≡ unseen count ++ None ∷ []
unseen-more count = map-range_with_len_more (λ (col : ℕ). None) 0 count count (omega arith)

joined-none : (kinds : List (Option ColumnType)) → joined kinds [] ≡ kinds
joined-none [] = refl
joined-none (kind ∷ kinds) = refl

-- where the record has no more cells
pub joined-end : (kinds : List (Option ColumnType)) (fields : Fields) (i : ℕ) → drop i fields ≡ []
    → take i kinds ++ joined (drop i kinds) (drop i fields) ≡ kinds
joined-end kinds fields i none =
    ap (λ (left : Fields). take i kinds ++ joined (drop i kinds) left) none
    ∙ ap (λ (left : List (Option ColumnType)). take i kinds ++ left) (joined-none (drop i kinds))
    ∙ take-append-drop i kinds

-- one more cell
pub joined-step : (kinds : List (Option ColumnType)) (fields : Fields) (i : ℕ) (kind : Option ColumnType) (field : List ℕ)
    → i < length kinds → kind ≡ get_or kinds i kind → drop i fields ≡ field ∷ drop (suc i) fields
    → take i kinds ++ joined (drop i kinds) (drop i fields)
    ≡ take (i + 1) (set kinds i (Some (joined_type kind (kind_of field))))
    ++ joined (drop (i + 1) (set kinds i (Some (joined_type kind (kind_of field))))) (drop (i + 1) fields)
joined-step kinds fields i kind field lt is here =
    let more = Some (joined_type kind (kind_of field)) in
    let mine : drop i kinds ≡ kind ∷ drop (suc i) kinds = drop-cons kinds i kind lt ∙ ap (λ k. k ∷ drop (suc i) kinds) (sym is) in
    let later : drop (suc i) (set kinds i more) ≡ drop (suc i) kinds = drop-set-lt (suc i) kinds i more (omega arith) in
    rw (mine, here, add-one, take-suc-set kinds i more lt, later)
    (sym (append_assoc (take i kinds) (more ∷ []) (joined (drop (suc i) kinds) (drop (suc i) fields))))

-- one more record
pub seen-more : (kinds : List (Option ColumnType)) (records : List Fields) (fields : Fields)
    → seen kinds (records ++ fields ∷ []) ≡ joined (seen kinds records) fields
seen-more kinds [] fields = refl
seen-more kinds (first ∷ records) fields = seen-more (joined kinds first) records fields

length-joined : (kinds : List (Option ColumnType)) (fields : Fields) → length (joined kinds fields) ≡ length kinds
length-joined [] fields = refl
length-joined (kind ∷ kinds) [] = refl
length-joined (kind ∷ kinds) (field ∷ fields) = ap suc (length-joined kinds fields)

length-seen : (kinds : List (Option ColumnType)) (records : List Fields) → length (seen kinds records) ≡ length kinds
length-seen kinds [] = refl
length-seen kinds (fields ∷ records) = length-seen (joined kinds fields) records ∙ length-joined kinds fields

pub length-shown : (width : ℕ) (records : List Fields) → length (types_shown width records) ≡ width
length-shown width records =
    length-map (seen (unseen width) records) or_text
    ∙ length-seen (unseen width) records
    ∙ length-map-range_with_len (λ (col : ℕ). None) 0 width

-- where all records were read
pub shown-all : (text : List ℕ) (header : Fields) (read records : List Fields) (sample : ℕ) → AreRecordsOf text (header ∷ read)
    → AreRecordsOf text (header ∷ records) → length read ≤ sample → take sample records ≡ read
shown-all text header read records sample h g le =
    ap (λ (all : List Fields). take sample (after_header all)) (records-same text (header ∷ read) (header ∷ records) h g)
    ∙ take_all sample read le

-- where so many were read
pub shown-first : (text : List ℕ) (header : Fields) (read records : List Fields) (sample : ℕ) (reader : Reader (Bor (List ℕ)))
    → IsReading text (header ∷ read) reader → AreRecordsOf text (header ∷ records) → length read ≡ sample → take sample records ≡ read
shown-first text header read records sample reader h g e =
    let rest = records-start text (header ∷ read) (header ∷ records) reader h g in
    ap (λ (all : List Fields). take sample (after_header all)) rest.1
    ∙ take-append-le sample read rest.0 (omega (arith, e))
    ∙ take_all sample read (omega (arith, e))

-- ---- headers

-- the cell at a place, and those after it
pub any-here : (cells : Fields) (i : ℕ) (cell : List ℕ) → drop i cells ≡ cell ∷ drop (suc i) cells
    → list_any has_type (drop i cells) ≡ (has_type cell || list_any has_type (drop (suc i) cells))
any-here cells i cell here = ap (λ (left : Fields). list_any has_type left) here

pub plain_headings-step : (i : ℕ) (names : Fields) (types : List ColumnType) (name : List ℕ) (type : ColumnType) (heading : Heading)
    (headings : List Heading)
    → drop i names ≡ name ∷ drop (suc i) names → drop i types ≡ type ∷ drop (suc i) types → plain_heading i name type ≡ Ok heading
    → prepend headings (plain_headings i (drop i names) (drop i types))
    ≡ prepend (headings ++ heading ∷ []) (plain_headings (i + 1) (drop (i + 1) names) (drop (i + 1) types))
plain_headings-step i names types name type heading headings hn ht hh =
    rw (hn, ht, hh, add-one) (prepend-then_cons headings heading _)

pub plain_headings-fault : (i : ℕ) (names : Fields) (types : List ColumnType) (name : List ℕ) (type : ColumnType) (fault : TableFault)
    (headings : List Heading)
    → drop i names ≡ name ∷ drop (suc i) names → drop i types ≡ type ∷ drop (suc i) types → plain_heading i name type ≡ Err fault
    → prepend headings (plain_headings i (drop i names) (drop i types)) ≡ Err fault
plain_headings-fault i names types name type fault headings hn ht hh = rw (hn, ht, hh) refl

-- ---- the key

-- a name that no column has is the fault of all
pub with_key-fault : (at : ℕ) (names : List (List ℕ)) (headings : List Heading) (fault : PlainFault) → at ≤ length names
    → with_key at (drop at names) headings ≡ Err fault → with_key 0 names headings ≡ Err fault
with_key-fault zero names headings fault le e = e
with_key-fault (suc at) names headings fault le e =
    let lt : at < length names = omega (arith, le) in
    let name = get_or names at [] in
    let here : drop at names ≡ name ∷ drop (suc at) names = drop-cons names at [] lt in
    with_key-fault at names headings fault (omega (arith, le))
    (ap (λ (left : List (List ℕ)). with_key at left headings) here ∙ ap (moved_next at name) e)

-- the name of the key at a place, and those after it
pub name-drop : (key : List (Bor (List ℕ))) (at : ℕ) (d : Bor (List ℕ)) → at < length key
    → drop at (map (λ (it : Bor (List ℕ)). it.now) key)
    ≡ (get_or key at d).now ∷ drop (suc at) (map (λ (it : Bor (List ℕ)). it.now) key)
name-drop key at d lt =
    drop-map (λ (it : Bor (List ℕ)). it.now) at key
    ∙ ap (λ (left : List (Bor (List ℕ))). map (λ (it : Bor (List ℕ)). it.now) left) (drop-cons key at d lt)
    ∙ ap (λ (left : List (List ℕ)). (get_or key at d).now ∷ left) (sym (drop-map (λ (it : Bor (List ℕ)). it.now) (suc at) key))

-- one name more, the one before those that were moved
pub with_key-step : (names : List (List ℕ)) (headings : List Heading) (at left : ℕ) (name : List ℕ) (so_far : Moved) → left ≡ suc at
    → drop at names ≡ name ∷ drop (suc at) names → with_key left (drop left names) headings ≡ Ok so_far
    → with_key at (drop at names) headings ≡ moved_to at so_far (position (is_named name) so_far.headings)
with_key-step names headings at left name so_far e here so =
    ap (λ (rest : List (List ℕ)). with_key at rest headings) here
    ∙ ap (moved_next at name) (subst (λ n. with_key n (drop n names) headings ≡ Ok so_far) e so)

-- ---- columns

found_with-key : (key : List (List ℕ)) (types : List ColumnType) (headings : List Heading) (schema : Columns)
    → (length key == 0) ≡ false
    → found_with key types headings (Ok schema) ≡ rekeyed types (with_key 0 key (first_in_key false headings))
found_with-key [] types headings schema some = cc some
found_with-key (name ∷ names) types headings schema some = refl

-- the columns under a key that has names
pub columns_found-key : (key : List (List ℕ)) (header : Fields) (types : List ColumnType) (headings : List Heading) (schema : Columns)
    (so_far : Moved)
    → (length key == 0) ≡ false → plain_headings 0 header types ≡ Ok headings → as_schema (Ok headings) ≡ Ok schema
    → with_key 0 key (first_in_key false headings) ≡ Ok so_far
    → columns_found key header types ≡ as_found types so_far.places (as_schema (Ok so_far.headings))
columns_found-key key header types headings schema so_far some named lawful moved =
    rw (named, lawful) (found_with-key key types headings schema some ∙ ap (rekeyed types) moved)

pub plain_columns-none : (key : List (List ℕ)) (sample : ℕ) (text : List ℕ) (records : List Fields) → AreRecordsOf text []
    → AreRecordsOf text records → plain_columns key sample records ≡ Err (Table NoHeader)
plain_columns-none key sample text records h g = ap (plain_columns key sample) (records-same text [] records h g)

-- the columns of a text whose header was read, by the types that its records show
pub plain_columns-first : (key : List (List ℕ)) (sample : ℕ) (text : List ℕ) (header : Fields) (types : List ColumnType)
    (records : List Fields) (reader : Reader (Bor (List ℕ)))
    → IsReading text (header ∷ []) reader
    → ((rest : List Fields) → AreRecordsOf text (header ∷ rest) → types ≡ types_shown (length header) (take sample rest))
    → AreRecordsOf text records → plain_columns key sample records ≡ columns_found key header types
plain_columns-first key sample text header types records reader h shown g =
    let rest = records-start text (header ∷ []) records reader h g in
    ap (plain_columns key sample) rest.1
    ∙ ap (columns_found key header) (sym (shown rest.0 (subst (AreRecordsOf text) rest.1 g)))

pub types_found-none : (sample : ℕ) (text : List ℕ) (records : List Fields) → AreRecordsOf text [] → AreRecordsOf text records
    → types_found sample records ≡ []
types_found-none sample text records h g = ap (types_found sample) (records-same text [] records h g)

pub types_found-first : (sample : ℕ) (text : List ℕ) (header : Fields) (types : List ColumnType) (records : List Fields)
    (reader : Reader (Bor (List ℕ)))
    → IsReading text (header ∷ []) reader
    → ((rest : List Fields) → AreRecordsOf text (header ∷ rest) → types ≡ types_shown (length header) (take sample rest))
    → AreRecordsOf text records → types ≡ types_found sample records
types_found-first sample text header types records reader h shown g =
    let rest = records-start text (header ∷ []) records reader h g in
    shown rest.0 (subst (AreRecordsOf text) rest.1 g) ∙ ap (types_found sample) (sym rest.1)

-- ---- whether types are named

pub names_types-none : (text : List ℕ) (records : List Fields) → AreRecordsOf text [] → AreRecordsOf text records
    → names_types records ≡ false
names_types-none text records h g = ap names_types (records-same text [] records h g)

pub names_types-first : (text : List ℕ) (header : Fields) (records : List Fields) (reader : Reader (Bor (List ℕ)))
    → IsReading text (header ∷ []) reader → AreRecordsOf text records → names_types records ≡ list_any has_type header
names_types-first text header records reader h g = ap names_types (records-start text (header ∷ []) records reader h g).1
