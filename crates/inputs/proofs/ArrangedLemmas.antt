-- Columns that are moved before others, the rows that they show, and their types.
use Rattle.std.proofs.Common.{◌≡◌, ◌∙◌, ◌+◌, ℕ, zero, suc, Bool, true, false, ◌==◌, nat_lt, List, [], ◌∷◌, ◌++◌, length, take, drop, map}
use Rattle.std.proofs.Common.{Option, Some, None, Result, Ok, Err, refl, sym, ap, subst, arith, inl, inr, eq-eqb}
use Rattle.std.specs.Prelude.{position}
use Rattle.std.specs.Str.{is_utf8}
use Rattle.std.specs.List.{All, range_with_len}
use Rattle.std.proofs.lemmas.Bool.{cases_Bool, cases_eq, ne_eqb}
use Rattle.std.proofs.lemmas.List.{length-append, take-map, drop-map, map-append}
use Rattle.std.proofs.lemmas.List.Elements.{All-append, All-take, All-drop}
use Rattle.std.proofs.lemmas.Simd.{map-map}
use Rattle.values.specs.declared.fault.SchemaFault.{SchemaFault}
use Rattle.values.specs.Shape.{Columns, schema_fault, has_type, is_too_long, list_fault, or_fault, value_fault, values_fault}
use Rattle.values.specs.declared.row.Row.{Row}
use Rattle.values.specs.declared.value.ColumnType.{ColumnType}
use Rattle.values.specs.declared.value.Value.{Value}
use Rattle.values.specs.declared.fault.ShapeFault.{ShapeFault}
use Rattle.blocks.specs.Column.{Column}
use Rattle.stable.specs.Rows.{cell_at, row_at}
use Rattle.inputs.specs.Filling.{row_in, rows_in}
use Rattle.inputs.specs.Header.{as_schema, columns_named, named, is_colon, unless_refused}
use Rattle.inputs.specs.Plain.{Moved, PlainColumns, as_found, rekeyed, found_with, found_under, plain_columns, types_shown, arranged}
use Rattle.inputs.specs.Plain.{first_in_key, fronted, is_named, moved_next, moved_row, moved_to, plain_heading, plain_headings, plain_named}
use Rattle.inputs.specs.Plain.{with_key}
use Rattle.inputs.specs.Reading.{Fields}
use Rattle.inputs.specs.declared.header.Heading.{Heading}
use Rattle.inputs.specs.declared.fault.TableFault.{TableFault}
use Rattle.inputs.specs.declared.fault.PlainFault.{PlainFault}
use Rattle.values.specs.declared.limits.TheConstants.{MAX_NAME_BYTES}
use Rattle.inputs.proofs.ReadLemmas.{or_else-parts, then_cons-parts}
use Rattle.inputs.proofs.PlainLemmas.{length-shown}

-- ---- elements

module _ {A B : Type 0} where
  fronted-map : (f : A → B) (place : ℕ) (xs : List A) → map f (fronted place xs) ≡ fronted place (map f xs)
  fronted-map f place xs =
      let rest = map-append f (take place xs) (drop (suc place) xs) in
      let first = sym (take-map f 1 (drop place xs)) in
      let at = sym (drop-map f place xs) in
      let before = sym (take-map f place xs) in
      let after = sym (drop-map f (suc place) xs) in
      map-append f (take 1 (drop place xs)) (take place xs ++ drop (suc place) xs) ∙ rw (rest, first, at, before, after) refl

  pub arranged-map : (f : A → B) (places : List ℕ) (xs : List A) → map f (arranged places xs) ≡ arranged places (map f xs)
  arranged-map f [] xs = refl
  arranged-map f (place ∷ places) xs =
      arranged-map f places (fronted place xs) ∙ ap (λ (ys : List B). arranged places ys) (fronted-map f place xs)

module _ {A : Type 0} where
  pub arranged-more : (places : List ℕ) (place : ℕ) (xs : List A)
      → arranged (places ++ place ∷ []) xs ≡ fronted place (arranged places xs)
  arranged-more [] place xs = refl
  arranged-more (first ∷ places) place xs = arranged-more places place (fronted first xs)

module _ {A : Type 0} (P : A → Type 0) where
  pub arranged-all : (places : List ℕ) (xs : List A) → All P xs → All P (arranged places xs)
  arranged-all [] xs h = h
  arranged-all (place ∷ places) xs h =
      arranged-all places (fronted place xs)
      (All-append P (take 1 (drop place xs)) (take place xs ++ drop (suc place) xs) (All-take P 1 (drop place xs) (All-drop P place xs h))
      (All-append P (take place xs) (drop (suc place) xs) (All-take P place xs h) (All-drop P (suc place) xs h)))

module _ {A B : Type 0} where
  length-take-same : (n : ℕ) (xs : List A) (ys : List B) → length xs ≡ length ys → length (take n xs) ≡ length (take n ys)
  length-take-same zero xs ys l = refl
  length-take-same (suc n) [] [] l = refl
  length-take-same (suc n) [] (y ∷ ys) l = absurd (omega (arith, l))
  length-take-same (suc n) (x ∷ xs) [] l = absurd (omega (arith, l))
  length-take-same (suc n) (x ∷ xs) (y ∷ ys) l = ap suc (length-take-same n xs ys (omega (arith, l)))

  length-drop-same : (n : ℕ) (xs : List A) (ys : List B) → length xs ≡ length ys → length (drop n xs) ≡ length (drop n ys)
  length-drop-same zero xs ys l = l
  length-drop-same (suc n) [] [] l = refl
  length-drop-same (suc n) [] (y ∷ ys) l = absurd (omega (arith, l))
  length-drop-same (suc n) (x ∷ xs) [] l = absurd (omega (arith, l))
  length-drop-same (suc n) (x ∷ xs) (y ∷ ys) l = length-drop-same n xs ys (omega (arith, l))

  pub map-same : (f g : A → B) (xs : List A) → ((x : A) → f x ≡ g x) → map f xs ≡ map g xs
  map-same f g [] h = refl
  map-same f g (x ∷ xs) h = ap (λ (y : B). y ∷ map f xs) (h x) ∙ ap (λ (ys : List B). g x ∷ ys) (map-same f g xs h)

-- ---- rows

pub arranged-row : (moved : List ℕ) (place : ℕ) (columns : List Column)
    → row_at (arranged moved columns) place ≡ arranged moved (row_at columns place)
arranged-row moved place columns = arranged-map (cell_at place) moved columns

pub arranged-rows : (moved : List ℕ) (count : ℕ) (columns : List Column)
    → map (moved_row moved) (rows_in count columns) ≡ rows_in count (arranged moved columns)
arranged-rows moved count columns =
    map-map (moved_row moved) (row_in columns) (range_with_len 0 count)
    ∙ map-same (λ (place : ℕ). moved_row moved (row_in columns place)) (row_in (arranged moved columns)) (range_with_len 0 count)
    (λ place. ap (λ (row : Row). record { number = place + 2; row = row }) (sym (arranged-row moved place columns)))

-- ---- types

unless_refused-types : (columns schema : Columns) (refused : Option SchemaFault) → unless_refused columns refused ≡ Ok schema
    → schema.types ≡ columns.types
unless_refused-types columns schema None e = let same : columns ≡ schema = cc e in ap (λ (it : Columns). it.types) (sym same)
unless_refused-types columns schema (Some fault) e = cc e

pub as_schema-types : (headings : List Heading) (schema : Columns) → as_schema (Ok headings) ≡ Ok schema
    → schema.types ≡ map (λ (it : Heading). it.column) headings
as_schema-types headings schema e = unless_refused-types (columns_named headings) schema (schema_fault (columns_named headings)) e

named-column : (name : List ℕ) (type : ColumnType) (is_key : Bool) (heading : Heading)
    → named name (Some (type, is_key)) ≡ Some heading
    → heading.column ≡ type
named-column name type is_key heading e = elim (cases_Bool (length name == 0)) [
  | inl none ↦ cc (rw none at e)
  | inr some ↦ elim (cases_Bool (nat_lt MAX_NAME_BYTES (length name))) [
    | inl long ↦ cc (rw (some, long) at e)
    | inr short ↦ elim (cases_Bool (is_utf8 name)) [
      | inl text ↦
          let same : ◌≡◌ {A = Heading} (record { name = name; column = type; is_key = is_key }) heading = cc (rw (some, short, text) at e) in
          ap (λ (it : Heading). it.column) (sym same)
      | inr bytes ↦ cc (rw (some, short, bytes) at e)
    ]
  ]
]

plain_named-column : (colon : Option ℕ) (name : List ℕ) (type : ColumnType) (is_key : Bool) (heading : Heading)
    → plain_named colon name type is_key ≡ Some heading → heading.column ≡ type
plain_named-column (Some colon) name type is_key heading e = cc e
plain_named-column None name type is_key heading e = named-column name type is_key heading e

pub plain_headings-types : (at : ℕ) (names : Fields) (types : List ColumnType) (headings : List Heading) → length types ≡ length names
    → plain_headings at names types ≡ Ok headings → map (λ (it : Heading). it.column) headings ≡ types
plain_headings-types at [] [] headings l e = let none : headings ≡ [] = cc e in rw none refl
plain_headings-types at [] (type ∷ types) headings l e = absurd (omega (arith, l))
plain_headings-types at (name ∷ names) [] headings l e = absurd (omega (arith, l))
plain_headings-types at (name ∷ names) (type ∷ types) headings l e =
    let parts = then_cons-parts (plain_heading at name type) (plain_headings (suc at) names types) headings e in
    let one = plain_named-column (position is_colon name) name type (at == 0) parts.0 (or_else-parts _ _ parts.0 parts.2) in
    let rest = plain_headings-types (suc at) names types parts.1 (omega (arith, l)) parts.3 in
    rw parts.4
    (ap (λ (it : ColumnType). it ∷ map (λ (it : Heading). it.column) parts.1) one
    ∙ ap (λ (its : List ColumnType). type ∷ its) rest)

first_in_key-types : (is_key : Bool) (headings : List Heading)
    → map (λ (it : Heading). it.column) (first_in_key is_key headings) ≡ map (λ (it : Heading). it.column) headings
first_in_key-types is_key [] = refl
first_in_key-types is_key (heading ∷ headings) = refl

moved_to-types : (at : ℕ) (headings : List Heading) (so_far moved : Moved) (place : Option ℕ) → moved_to at so_far place ≡ Ok moved
    → map (λ (it : Heading). it.column) so_far.headings ≡ arranged so_far.places (map (λ (it : Heading). it.column) headings)
    → map (λ (it : Heading). it.column) moved.headings ≡ arranged moved.places (map (λ (it : Heading). it.column) headings)
moved_to-types at headings so_far moved None e h = cc e
moved_to-types at headings so_far moved (Some place) e h =
    let same : ◌≡◌ {A = Moved} (record {
      places = so_far.places ++ place ∷ [];
      headings = first_in_key true (fronted place so_far.headings);
    }) moved = cc e in
    let types = map (λ (it : Heading). it.column) headings in
    subst (λ (it : Moved). map (λ (it : Heading). it.column) it.headings ≡ arranged it.places types) same
    (first_in_key-types true (fronted place so_far.headings)
    ∙ fronted-map (λ (it : Heading). it.column) place so_far.headings
    ∙ ap (λ (its : List ColumnType). fronted place its) h
    ∙ sym (arranged-more so_far.places place types))

moved_next-types : (at : ℕ) (name : List ℕ) (headings : List Heading) (r : Result Moved PlainFault) (moved : Moved)
    → moved_next at name r ≡ Ok moved
    → ((so_far : Moved) → r ≡ Ok so_far
    → map (λ (it : Heading). it.column) so_far.headings ≡ arranged so_far.places (map (λ (it : Heading). it.column) headings))
    → map (λ (it : Heading). it.column) moved.headings ≡ arranged moved.places (map (λ (it : Heading). it.column) headings)
moved_next-types at name headings (Err fault) moved e h = cc e
moved_next-types at name headings (Ok so_far) moved e h =
    moved_to-types at headings so_far moved (position (is_named name) so_far.headings) e (h so_far refl)

pub with_key-types : (at : ℕ) (names : List (List ℕ)) (headings : List Heading) (moved : Moved)
    → with_key at names headings ≡ Ok moved
    → map (λ (it : Heading). it.column) moved.headings ≡ arranged moved.places (map (λ (it : Heading). it.column) headings)
with_key-types at [] headings moved e =
    let same : ◌≡◌ {A = Moved} (record { places = []; headings = headings }) moved = cc e in
    let types = map (λ (it : Heading). it.column) headings in
    subst (λ (it : Moved). map (λ (it : Heading). it.column) it.headings ≡ arranged it.places types) same refl
with_key-types at (name ∷ names) headings moved e =
    moved_next-types at name headings (with_key (suc at) names headings) moved e (with_key-types (suc at) names headings)

as_found-types : (types : List ColumnType) (moved : List ℕ) (r : Result Columns TableFault) (found : PlainColumns)
    → as_found types moved r ≡ Ok found
    → ((schema : Columns) → r ≡ Ok schema → schema.types ≡ arranged moved types)
    → (found.types ≡ types) × (found.schema.types ≡ arranged found.moved found.types)
as_found-types types moved (Err fault) found e h = cc e
as_found-types types moved (Ok schema) found e h =
    let same : ◌≡◌ {A = PlainColumns} (record { schema = schema; types = types; moved = moved }) found = cc e in
    subst (λ (it : PlainColumns). (it.types ≡ types) × (it.schema.types ≡ arranged it.moved it.types)) same (refl, h schema refl)

rekeyed-types : (types : List ColumnType) (headings : List Heading) (r : Result Moved PlainFault) (found : PlainColumns)
    → map (λ (it : Heading). it.column) headings ≡ types → rekeyed types r ≡ Ok found
    → ((moved : Moved) → r ≡ Ok moved
    → map (λ (it : Heading). it.column) moved.headings ≡ arranged moved.places (map (λ (it : Heading). it.column) headings))
    → (found.types ≡ types) × (found.schema.types ≡ arranged found.moved found.types)
rekeyed-types types headings (Err fault) found t e h = cc e
rekeyed-types types headings (Ok moved) found t e h =
    as_found-types types moved.places (as_schema (Ok moved.headings)) found e
    (λ schema so. as_schema-types moved.headings schema so ∙ h moved refl ∙ ap (λ (its : List ColumnType). arranged moved.places its) t)

found_with-types : (key : List (List ℕ)) (types : List ColumnType) (headings : List Heading) (r : Result Columns TableFault)
    (found : PlainColumns)
    → map (λ (it : Heading). it.column) headings ≡ types → r ≡ as_schema (Ok headings) → found_with key types headings r ≡ Ok found
    → (found.types ≡ types) × (found.schema.types ≡ arranged found.moved found.types)
found_with-types key types headings (Err fault) found t is e = cc e
found_with-types [] types headings (Ok schema) found t is e =
    as_found-types types [] (Ok schema) found e
    (λ other so. let same : schema ≡ other = cc so in
    ap (λ (it : Columns). it.types) (sym same) ∙ as_schema-types headings schema (sym is) ∙ t)
found_with-types (name ∷ names) types headings (Ok schema) found t is e =
    rekeyed-types types (first_in_key false headings) (with_key 0 (name ∷ names) (first_in_key false headings)) found
    (first_in_key-types false headings ∙ t) e (with_key-types 0 (name ∷ names) (first_in_key false headings))

found_under-types : (key : List (List ℕ)) (header : Fields) (types : List ColumnType) (r : Result (List Heading) TableFault)
    (found : PlainColumns)
    → length types ≡ length header → r ≡ plain_headings 0 header types → found_under key types r ≡ Ok found
    → (found.types ≡ types) × (found.schema.types ≡ arranged found.moved found.types)
found_under-types key header types (Err fault) found l is e = cc e
found_under-types key header types (Ok headings) found l is e =
    found_with-types key types headings (as_schema (Ok headings)) found (plain_headings-types 0 header types headings l (sym is)) refl e

-- the schema's types are those of the text, those of the key before the others
pub plain_columns-types : (key : List (List ℕ)) (sample : ℕ) (header : Fields) (records : List Fields) (found : PlainColumns)
    → plain_columns key sample (header ∷ records) ≡ Ok found
    → found.schema.types ≡ arranged found.moved found.types
plain_columns-types key sample header records found e =
    let types = types_shown (length header) (take sample records) in
    (found_under-types key header types (plain_headings 0 header types) found (length-shown (length header) (take sample records)) refl e).1

-- ---- cells that fit

or_fault-none : (a b : Option ShapeFault) → or_fault a b ≡ None → (a ≡ None) × (b ≡ None)
or_fault-none None b e = (refl, e)
or_fault-none (Some fault) b e = cc e

value_fault-any : (type : ColumnType) (col other : ℕ) (v : Value) → value_fault type col v ≡ None → value_fault type other v ≡ None
value_fault-any type col other v e = elim (cases_Bool (has_type type v)) [
  | inr f ↦ cc (rw f at e)
  | inl t ↦ elim (cases_Bool (is_too_long v)) [ inl long ↦ cc (rw (t, long) at e) | inr short ↦ rw (t, short) refl ]
]

values_fault-any : (col other : ℕ) (types : List ColumnType) (cells : List Value) → values_fault col types cells ≡ None
    → values_fault other types cells ≡ None
values_fault-any col other [] cells e = refl
values_fault-any col other (type ∷ types) [] e = refl
values_fault-any col other (type ∷ types) (v ∷ cells) e =
    let parts = or_fault-none (value_fault type col v) (values_fault (suc col) types cells) e in
    rw (value_fault-any type col other v parts.0) (values_fault-any (suc col) (suc other) types cells parts.1)

values_fault-append : (col : ℕ) (types more : List ColumnType) (cells others : List Value) → length types ≡ length cells
    → values_fault col types cells ≡ None → values_fault col more others ≡ None
    → values_fault col (types ++ more) (cells ++ others) ≡ None
values_fault-append col [] more [] others l a b = b
values_fault-append col [] more (v ∷ cells) others l a b = absurd (omega (arith, l))
values_fault-append col (type ∷ types) more [] others l a b = absurd (omega (arith, l))
values_fault-append col (type ∷ types) more (v ∷ cells) others l a b =
    let parts = or_fault-none (value_fault type col v) (values_fault (suc col) types cells) a in
    let later = values_fault-any col (suc col) more others b in
    rw parts.0 (values_fault-append (suc col) types more cells others (omega (arith, l)) parts.1 later)

values_fault-no_cells : (col : ℕ) (types : List ColumnType) → values_fault col types [] ≡ None
values_fault-no_cells col [] = refl
values_fault-no_cells col (type ∷ types) = refl

values_fault-take : (col n : ℕ) (types : List ColumnType) (cells : List Value) → values_fault col types cells ≡ None
    → values_fault col (take n types) (take n cells) ≡ None
values_fault-take col zero types cells e = refl
values_fault-take col (suc n) [] cells e = refl
values_fault-take col (suc n) (type ∷ types) [] e = refl
values_fault-take col (suc n) (type ∷ types) (v ∷ cells) e =
    let parts = or_fault-none (value_fault type col v) (values_fault (suc col) types cells) e in
    rw parts.0 (values_fault-take (suc col) n types cells parts.1)

values_fault-drop : (col n : ℕ) (types : List ColumnType) (cells : List Value) → values_fault col types cells ≡ None
    → values_fault col (drop n types) (drop n cells) ≡ None
values_fault-drop col zero types cells e = e
values_fault-drop col (suc n) [] cells e = refl
values_fault-drop col (suc n) (type ∷ types) [] e = values_fault-no_cells col (drop n types)
values_fault-drop col (suc n) (type ∷ types) (v ∷ cells) e =
    let parts = or_fault-none (value_fault type col v) (values_fault (suc col) types cells) e in
    values_fault-drop col n types cells (values_fault-any (suc col) col types cells parts.1)

fronted-fits : (place : ℕ) (types : List ColumnType) (cells : List Value) → length types ≡ length cells
    → values_fault 0 types cells ≡ None → values_fault 0 (fronted place types) (fronted place cells) ≡ None
fronted-fits place types cells l e =
    let one = values_fault-take 0 1 (drop place types) (drop place cells) (values_fault-drop 0 place types cells e) in
    let before = values_fault-take 0 place types cells e in
    let after = values_fault-drop 0 (suc place) types cells e in
    values_fault-append 0 (take 1 (drop place types)) (take place types ++ drop (suc place) types) (take 1 (drop place cells))
    (take place cells ++ drop (suc place) cells)
    (length-take-same 1 (drop place types) (drop place cells) (length-drop-same place types cells l)) one
    (values_fault-append 0 (take place types) (drop (suc place) types) (take place cells) (drop (suc place) cells)
    (length-take-same place types cells l) before after)

fronted-length : (place : ℕ) (types : List ColumnType) (cells : List Value) → length types ≡ length cells
    → length (fronted place types) ≡ length (fronted place cells)
fronted-length place types cells l =
    let one = length-take-same 1 (drop place types) (drop place cells) (length-drop-same place types cells l) in
    let before = length-take-same place types cells l in
    let after = length-drop-same (suc place) types cells l in
    let left = length-append (take 1 (drop place types)) (take place types ++ drop (suc place) types) in
    let left2 = length-append (take place types) (drop (suc place) types) in
    let right = length-append (take 1 (drop place cells)) (take place cells ++ drop (suc place) cells) in
    let right2 = length-append (take place cells) (drop (suc place) cells) in
    omega (arith, one, before, after, left, left2, right, right2)

arranged-fits : (places : List ℕ) (types : List ColumnType) (cells : List Value) → length types ≡ length cells
    → values_fault 0 types cells ≡ None
    → (length (arranged places types) ≡ length (arranged places cells))
    × (values_fault 0 (arranged places types) (arranged places cells) ≡ None)
arranged-fits [] types cells l e = (l, e)
arranged-fits (place ∷ places) types cells l e =
    arranged-fits places (fronted place types) (fronted place cells) (fronted-length place types cells l)
    (fronted-fits place types cells l e)

pub list_fault-arranged : (places : List ℕ) (types : List ColumnType) (cells : List Value) → list_fault types cells ≡ None
    → list_fault (arranged places types) (arranged places cells) ≡ None
list_fault-arranged places types cells e = elim (cases_eq (length cells) (length types)) [
  | inr n ↦ cc (rw (ne_eqb (length cells) (length types) n) at e)
  | inl s ↦
      let fit = arranged-fits places types cells (sym s) (rw (eq-eqb (length cells) (length types) s) at e) in
      rw (eq-eqb (length (arranged places cells)) (length (arranged places types)) (sym fit.0)) fit.1
]
