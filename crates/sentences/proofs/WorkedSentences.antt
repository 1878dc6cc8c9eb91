-- Sentences, computed from the records of a text by their definitions.
use Rattle.std.proofs.Common.{◌≡◌, ◌∷◌, [], List, codes, refl}
use Rattle.std.specs.Char.{encode_utf8}
use Rattle.std.specs.Fmt.{digits}
use Rattle.std.specs.Str.{chars, is_utf8}
use Rattle.csv.specs.Records.{field_at}
use Rattle.inputs.specs.Reading.{Fields}
use Rattle.values.specs.declared.value.ColumnType.TheVariants as column
use Rattle.inputs.specs.declared.fault.TableFault.TheVariants.{BadCell, BadCount, BadHeader, RepeatedKey}
use Rattle.sentences.specs.Quoting.{quoted}
use Rattle.sentences.specs.Tables.{table_sentence}

-- a table with two faults of its cells, a record that is short, and a key that is there twice
abbrev people : List Fields
people =
    (codes "id:int:key" ∷ codes "age:int" ∷ [])
    ∷ (codes "7" ∷ codes "40" ∷ [])
    ∷ (codes "8" ∷ codes "abc" ∷ [])
    ∷ (codes "9" ∷ [])
    ∷ (codes "7" ∷ codes "41" ∷ [])
    ∷ []

bad_cell : table_sentence [] 3 people (BadCell 3 1)
    ≡ codes "line 3, column \"age\": \"abc\" is not an int: a whole number of 64 bits is wanted"
unfolding is_utf8 chars field_at encode_utf8 digits
bad_cell = refl

-- the types are given, and the header has names alone
typed : table_sentence (column.Int ∷ column.Bool ∷ []) 2 ((codes "id" ∷ codes "a:b" ∷ []) ∷ (codes "1" ∷ codes "yes" ∷ []) ∷ [])
    (BadCell 2 1)
    ≡ codes "line 2, column \"a:b\": \"yes\" is not a bool: true or false is wanted"
unfolding is_utf8 chars field_at encode_utf8 digits
typed = refl

bad_count : table_sentence [] 6 people (BadCount 4) ≡ codes "line 6 (record 4): 1 cell, and the header has 2 columns"
unfolding is_utf8 chars field_at encode_utf8 digits
bad_count = refl

repeated_key : table_sentence [] 5 people (RepeatedKey 5) ≡ codes "line 5, key id=7: an earlier record has this key"
unfolding is_utf8 chars field_at encode_utf8 digits
repeated_key = refl

bad_header : table_sentence [] 1 ((codes "id:int:key" ∷ codes "age:integer" ∷ []) ∷ []) (BadHeader 1)
    ≡ codes "line 1, column 2: \"age:integer\" is not a name, a colon and a type (int, text or bool, with :key behind it for a key column)"
unfolding is_utf8 chars field_at encode_utf8 digits
bad_header = refl

-- a control character, a quote and a byte that is no text; and a text that is cut
quoted-escapes : quoted 64 (97 ∷ 7 ∷ 34 ∷ []) ≡ codes "\"a\\u{7}\\\"\""
unfolding is_utf8 chars encode_utf8 digits
quoted-escapes = refl

quoted-bytes : quoted 64 (97 ∷ 255 ∷ []) ≡ codes "\"a\\xff\""
unfolding is_utf8 chars encode_utf8 digits
quoted-bytes = refl

quoted-cut : quoted 3 (codes "abcd") ≡ codes "\"abc\"..."
unfolding is_utf8 chars encode_utf8 digits
quoted-cut = refl
