-- The sentences that explain refusals.
use Rattle.std.specs.Prelude.{◌≡◌, ◌⊎◌, ℕ, List, [], Ok, Err}
use Rattle.values.specs.Shape.{Columns}
use Rattle.values.specs.declared.row.Row.{Row}
use Rattle.inputs.specs.Input.{IsFaultOf, IsTableOf}
use Rattle.inputs.specs.Reading.{AreRecordsOf, Fields}
use Rattle.inputs.specs.declared.fault.ScriptFault.{ScriptFault}
use Rattle.inputs.specs.declared.fault.TableFault.{TableFault}
use Rattle.sentences.specs.Scripts.{script_sentence}
use Rattle.sentences.specs.Tables.{table_sentence}
use Rattle.pdtcli.specs.Program.{File}
use Rattle.pdtcli.specs.declared.refusal.Refusal.{Refusal}
use Rattle.pdtcli.specs.declared.refusal.Refusal.TheVariants.{Header, Script, Table}

-- the sentence is that of the fault, for the records of the table's text; nothing is said where there is no text
abbrev pub ExplainsTable : File → TableFault → List ℕ → Type 0
ExplainsTable (Ok text) fault sentence =
    (line : ℕ) × ((records : List Fields) → AreRecordsOf text records → sentence ≡ table_sentence [] line records fault)
ExplainsTable (Err file_fault) fault sentence = Unit {0}

-- likewise of a script's, under the columns of the table, unless its text has a fault itself
abbrev pub ExplainsScript : File → File → ScriptFault → List ℕ → Type 0
ExplainsScript (Ok table) (Ok text) fault sentence =
    ((other : TableFault) × IsFaultOf table other)
    ⊎ ((schema : Columns) × (rows : List Row) × IsTableOf table schema rows
    × (line : ℕ) × ((records : List Fields) → AreRecordsOf text records → sentence ≡ script_sentence schema line records fault))
ExplainsScript (Ok table) (Err file_fault) fault sentence = Unit {0}
ExplainsScript (Err file_fault) script fault sentence = Unit {0}

-- likewise of the first part that is refused
abbrev pub ExplainsOpening : File → File → Refusal → List ℕ → Type 0
ExplainsOpening table script (Table fault) sentence = ExplainsTable table fault sentence
ExplainsOpening table script (Script fault) sentence = ExplainsScript table script fault sentence
ExplainsOpening table script refusal sentence = Unit {0}

-- likewise of a store's header
abbrev pub ExplainsHeader : File → Refusal → List ℕ → Type 0
ExplainsHeader header (Header fault) sentence = ExplainsTable header fault sentence
ExplainsHeader header refusal sentence = Unit {0}
