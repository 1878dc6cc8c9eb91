-- The sentence of a fault of a script's text.
use Rattle.std.specs.Prelude.{ℕ, ◌-◌, ◌++◌, cond, Option, None, Some, List, [], ◌∷◌, length, codes, slice_get}
use Rattle.std.specs.Fmt.{decimal}
use Rattle.std.specs.Str.{is_utf8}
use Rattle.csv.specs.Records.{field_at}
use Rattle.values.specs.Shape.{Columns}
use Rattle.inputs.specs.Calls.{arguments_of, verb_of, verb_word}
use Rattle.inputs.specs.Reading.{Fields}
use Rattle.inputs.specs.declared.fault.ScriptFault.{ScriptFault}
use Rattle.inputs.specs.declared.fault.ScriptFault.TheVariants as script
use Rattle.inputs.specs.declared.verb.Verb.{Verb}
use Rattle.sentences.specs.Arguments.{argument_sentence, field_sentence}
use Rattle.sentences.specs.Cells.{missing_record, place_of}
use Rattle.sentences.specs.Tables.{counted}

-- the record that a fault is of
abbrev pub record_of : ScriptFault → Option ℕ
record_of (script.BadText number) = Some number
record_of (script.BadClient number) = Some number
record_of (script.TooManyClients number) = Some number
record_of (script.BadCount number) = Some number
record_of (script.BadVerb number) = Some number
record_of (script.BadArgument number at) = Some number
record_of script.NoMemory = None

-- the first field that is no text
abbrev pub first_bad : Fields → Option (List ℕ)
first_bad [] = None
first_bad (field ∷ fields) = cond (is_utf8 field) (first_bad fields) (Some field)

-- a word that is no verb
abbrev pub not_verb : List ℕ
not_verb = codes " is not a verb: begin, insert, delete, set, get, at, rank, len, scan, commit, abort, fold, checkpoint or cut is wanted"

-- how many arguments there are, and how many the verb takes
abbrev pub verb_count_sentence : Columns → List ℕ → ℕ → Verb → List ℕ
verb_count_sentence schema place count verb =
    place ++ (codes ": " ++ (verb_word verb ++ (codes " has " ++ (counted (count - 2) (codes "argument")
    ++ (codes ", and it takes " ++ decimal (arguments_of schema verb))))))

abbrev pub word_count_sentence : Columns → List ℕ → ℕ → List ℕ → Option Verb → List ℕ
word_count_sentence schema place count word None = field_sentence place (Some word) not_verb
word_count_sentence schema place count word (Some verb) = verb_count_sentence schema place count verb

abbrev pub count_sentence : Columns → List ℕ → ℕ → Option (List ℕ) → List ℕ
count_sentence schema place count None = place ++ codes ": there is a client, and no verb"
count_sentence schema place count (Some word) = word_count_sentence schema place count word (verb_of word)

-- the sentence of a fault of a record, which begins at a place
abbrev pub record_sentence : Columns → List ℕ → Fields → ScriptFault → List ℕ
record_sentence schema place fields (script.BadText number) = field_sentence place (first_bad fields) (codes " is not UTF-8")
record_sentence schema place fields (script.BadClient number) =
    field_sentence place (field_at fields 0) (codes " is not a client: 1 to 32 ASCII letters, digits, - or _ are wanted")
record_sentence schema place fields (script.TooManyClients number) =
    field_sentence place (field_at fields 0) (codes " is the 65th client, and 64 are the most")
record_sentence schema place fields (script.BadCount number) = count_sentence schema place (length fields) (field_at fields 1)
record_sentence schema place fields (script.BadVerb number) = field_sentence place (field_at fields 1) not_verb
record_sentence schema place fields (script.BadArgument number at) = argument_sentence schema place fields at
record_sentence schema place fields script.NoMemory = codes "there was no memory to read the text"

abbrev pub found_sentence : Columns → ℕ → ℕ → ScriptFault → Option Fields → List ℕ
found_sentence schema line number fault None = missing_record number
found_sentence schema line number fault (Some fields) = record_sentence schema (place_of line number) fields fault

abbrev pub numbered_sentence : Columns → ℕ → List Fields → ScriptFault → Option ℕ → List ℕ
numbered_sentence schema line records fault None = codes "there was no memory to read the text"
numbered_sentence schema line records fault (Some number) = found_sentence schema line number fault (slice_get records (number - 1))

-- the sentence of a fault of these records, the record of the fault beginning on this line
abbrev pub script_sentence : Columns → ℕ → List Fields → ScriptFault → List ℕ
script_sentence schema line records fault = numbered_sentence schema line records fault (record_of fault)
