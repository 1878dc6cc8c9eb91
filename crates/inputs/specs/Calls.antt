-- The call that a record asks for: its verb, and then its arguments.
use Rattle.std.specs.Prelude.{ℕ, suc, ◌+◌, ◌==◌, cond, Option, Some, None, Result, Ok, Err, List, [], ◌∷◌, length, take, drop, slice_get, find, codes}
use Rattle.std.specs.Str.{bytes_eq}
use Rattle.values.specs.Shape.{Columns}
use Rattle.values.specs.declared.value.ColumnType.{ColumnType}
use Rattle.values.specs.declared.value.Value.{Value}
use Rattle.model.specs.declared.write.Write.TheVariants.{Insert, Delete, Set}
use Rattle.inputs.specs.Cells.{value_of, position_of, or_else, then_cons, place_from}
use Rattle.inputs.specs.Reading.{Fields}
use Rattle.inputs.specs.declared.call.Call.{Call}
use Rattle.inputs.specs.declared.call.Call.TheVariants.{Begin, Write, Read, Commit, Abort, Fold, Checkpoint, Cut}
use Rattle.inputs.specs.declared.call.Read.TheVariants.{Get, At, Rank, Len, Scan}
use Rattle.inputs.specs.declared.fault.ScriptFault.{ScriptFault}
use Rattle.inputs.specs.declared.fault.ScriptFault.TheVariants.{BadCount, BadVerb, BadArgument}
use Rattle.inputs.specs.declared.verb.Verb.{Verb}
use Rattle.inputs.specs.declared.verb.Verb.TheVariants as verb
use Rattle.inputs.specs.declared.verb.TheConstants.{VERBS}

-- the word by which a script asks for a verb
abbrev pub verb_word : Verb → List ℕ
verb_word verb.Begin = codes "begin"
verb_word verb.Insert = codes "insert"
verb_word verb.Delete = codes "delete"
verb_word verb.Set = codes "set"
verb_word verb.Get = codes "get"
verb_word verb.At = codes "at"
verb_word verb.Rank = codes "rank"
verb_word verb.Len = codes "len"
verb_word verb.Scan = codes "scan"
verb_word verb.Commit = codes "commit"
verb_word verb.Abort = codes "abort"
verb_word verb.Fold = codes "fold"
verb_word verb.Checkpoint = codes "checkpoint"
verb_word verb.Cut = codes "cut"

-- the verb whose word this is
abbrev pub verb_of : List ℕ → Option Verb
verb_of word = find (λ v. bytes_eq (verb_word v) word) VERBS

-- how many arguments a verb wants
abbrev pub arguments_of : Columns → Verb → ℕ
arguments_of schema verb.Begin = 0
arguments_of schema verb.Insert = length schema.types
arguments_of schema verb.Delete = schema.key_cols
arguments_of schema verb.Set = schema.key_cols + 2
arguments_of schema verb.Get = schema.key_cols
arguments_of schema verb.At = 1
arguments_of schema verb.Rank = schema.key_cols
arguments_of schema verb.Len = 0
arguments_of schema verb.Scan = 2
arguments_of schema verb.Commit = 0
arguments_of schema verb.Abort = 0
arguments_of schema verb.Fold = 0
arguments_of schema verb.Checkpoint = 0
arguments_of schema verb.Cut = 0

abbrev pub key_types : Columns → List ColumnType
key_types schema = take schema.key_cols schema.types

-- the values of these types that the fields from `at` on say
abbrev pub values_of : ℕ → ℕ → List ColumnType → Fields → Result (List Value) ScriptFault
values_of number at [] fields = Ok []
values_of number at (type ∷ types) [] = Ok []
values_of number at (type ∷ types) (field ∷ fields) =
    then_cons (or_else (BadArgument number at) (value_of type field)) (values_of number (suc at) types fields)

abbrev pub value_at : Option ColumnType → List ℕ → Option Value
value_at None field = None
value_at (Some type) field = value_of type field

abbrev pub set_value : List Value → ℕ → Result Value ScriptFault → Result Call ScriptFault
set_value key col (Err fault) = Err fault
set_value key col (Ok value) = Ok (Write (Set key col value))

-- the column that is set, and then its value
abbrev pub set_column : Columns → ℕ → ℕ → List Value → Option ℕ → List ℕ → Result Call ScriptFault
set_column schema number at key None field = Err (BadArgument number at)
set_column schema number at key (Some col) field =
    set_value key col (or_else (BadArgument number (suc at)) (value_at (slice_get schema.types col) field))

abbrev pub set_cell : Columns → ℕ → ℕ → List Value → Fields → Result Call ScriptFault
set_cell schema number at key [] = Err (BadCount number)
set_cell schema number at key (name ∷ []) = Err (BadCount number)
set_cell schema number at key (name ∷ field ∷ rest) = set_column schema number at key (place_from 0 name schema.names) field

abbrev pub inserted : Result (List Value) ScriptFault → Result Call ScriptFault
inserted (Err fault) = Err fault
inserted (Ok cells) = Ok (Write (Insert cells))

-- what is asked of a key
abbrev pub of_key : (List Value → Call) → Result (List Value) ScriptFault → Result Call ScriptFault
of_key ask (Err fault) = Err fault
of_key ask (Ok cells) = Ok (ask cells)

abbrev pub set_of : Columns → ℕ → Result (List Value) ScriptFault → Fields → Result Call ScriptFault
set_of schema number (Err fault) rest = Err fault
set_of schema number (Ok key) rest = set_cell schema number (2 + schema.key_cols) key rest

-- the position of a field
abbrev pub position_at : ℕ → ℕ → List ℕ → Result ℕ ScriptFault
position_at number at field = or_else (BadArgument number at) (position_of field)

abbrev pub read_at : Result ℕ ScriptFault → Result Call ScriptFault
read_at (Err fault) = Err fault
read_at (Ok rid) = Ok (Read (At rid))

abbrev pub scan_between : Result ℕ ScriptFault → Result ℕ ScriptFault → Result Call ScriptFault
scan_between (Err fault) to = Err fault
scan_between (Ok from) (Err fault) = Err fault
scan_between (Ok from) (Ok to) = Ok (Read (Scan from to))

-- the read at the position that the first argument says
abbrev pub at_call : ℕ → Fields → Result Call ScriptFault
at_call number [] = Err (BadCount number)
at_call number (field ∷ rest) = read_at (position_at number 2 field)

-- the scan between the positions that the first two arguments say
abbrev pub scan_call : ℕ → Fields → Result Call ScriptFault
scan_call number [] = Err (BadCount number)
scan_call number (from ∷ []) = Err (BadCount number)
scan_call number (from ∷ to ∷ rest) = scan_between (position_at number 2 from) (position_at number 3 to)

-- the call of a verb, whose arguments stand from field 2 on
abbrev pub typed_call : Columns → ℕ → Verb → Fields → Result Call ScriptFault
typed_call schema number verb.Begin fields = Ok Begin
typed_call schema number verb.Insert fields = inserted (values_of number 2 schema.types (drop 2 fields))
typed_call schema number verb.Delete fields = of_key (λ key. Write (Delete key)) (values_of number 2 (key_types schema) (drop 2 fields))
typed_call schema number verb.Set fields =
    set_of schema number (values_of number 2 (key_types schema) (drop 2 fields)) (drop (2 + schema.key_cols) fields)
typed_call schema number verb.Get fields = of_key (λ key. Read (Get key)) (values_of number 2 (key_types schema) (drop 2 fields))
typed_call schema number verb.At fields = at_call number (drop 2 fields)
typed_call schema number verb.Rank fields = of_key (λ key. Read (Rank key)) (values_of number 2 (key_types schema) (drop 2 fields))
typed_call schema number verb.Len fields = Ok (Read Len)
typed_call schema number verb.Scan fields = scan_call number (drop 2 fields)
typed_call schema number verb.Commit fields = Ok Commit
typed_call schema number verb.Abort fields = Ok Abort
typed_call schema number verb.Fold fields = Ok Fold
typed_call schema number verb.Checkpoint fields = Ok Checkpoint
typed_call schema number verb.Cut fields = Ok Cut

abbrev pub verb_call : Columns → ℕ → Fields → Option Verb → Result Call ScriptFault
verb_call schema number fields None = Err (BadVerb number)
verb_call schema number fields (Some verb) =
    cond (length fields == 2 + arguments_of schema verb) (typed_call schema number verb fields) (Err (BadCount number))

-- the call where these stand after the client's name
abbrev pub word_call : Columns → ℕ → Fields → Fields → Result Call ScriptFault
word_call schema number fields [] = Err (BadCount number)
word_call schema number fields (word ∷ arguments) = verb_call schema number fields (verb_of word)

-- the call that a record asks for
abbrev pub asked : Columns → ℕ → Fields → Result Call ScriptFault
asked schema number fields = word_call schema number fields (drop 1 fields)
