-- What the words of a command line say.
use Rattle.std.specs.Prelude.{◌≡◌, ◌<◌, ◌≤◌, ℕ, Bool, true, false, Option, Some, None, List, codes, is_some, length}
use Rattle.std.specs.Option.{IfSome, option_map, option_and_then}
use Rattle.std.specs.Str.Parse.{IsNumeral, digits_value, without_leading_plus}
use Rattle.clap.specs.Simple.{on_top}
use Rattle.clap.specs.Words.{App, Row, Rule, Text, AddsSubcommand, app_of, first_of, new_app, new_rule, subcommand_of, takes, with_rule, with_subcommand}
use Rattle.clap.specs.declared.builder.command.Command.{Command}
use Rattle.clap.specs.declared.builder.ArgAction.TheVariants.{Set, SetTrue}
use Rattle.clap.specs.declared.builder.value_parser.ValueParser.TheVariants.{NonEmptyString, Unsigned}
use Rattle.values.specs.declared.limits.TheConstants.{MAX_RECENT_COMMITS, MAX_ROWS}
use Rattle.model.specs.declared.clash.ConflictRule.{ConflictRule}
use Rattle.model.specs.declared.clash.ConflictRule.TheVariants.{ByColumn, ByRow}
use Rattle.words.specs.declared.settings.TheConstants.{RECENT_COMMITS}
use Rattle.words.specs.declared.settings.Settings.{Settings}
use Rattle.words.specs.declared.settings.Settings.TheVariants.{Run, Recover}

-- ---- the usage: `pdt run TABLE SCRIPT [--threads] [--store DIR] [--journal] [--recent N] [--limit N] [--conflicts column|row] [--explain]`,
-- `pdt recover DIR [--table NAME] [--explain]`

-- a word that has to be there, by its place
abbrev pub placed_rule : Text → Rule
placed_rule id = record (new_rule id) { value_names = 1; required = true; action = Some Set }

-- a folder that has to be named, by its place
abbrev pub folder_rule : Text → Rule
folder_rule id = record (placed_rule id) { parser = Some NonEmptyString }

-- an option with no value, which is there or isn't
abbrev pub flag_rule : Text → Rule
flag_rule id = record (new_rule id) { long = Some id; action = Some SetTrue }

-- an option with a value
abbrev pub option_rule : Text → Rule
option_rule id = record (new_rule id) { long = Some id; value_names = 1; action = Some Set }

-- an option whose value names a folder
abbrev pub folder_option_rule : Text → Rule
folder_option_rule id = record (option_rule id) { parser = Some NonEmptyString }

-- an option whose value is a number from 1 to the largest
abbrev pub number_rule : Text → ℕ → Rule
number_rule id largest = record (option_rule id) { parser = Some (Unsigned 1 largest) }

-- `run`, whose first word is the table and whose second is the script. What the settings are says which words are rules
abbrev pub run_usage : App
run_usage =
    let placed = with_rule (with_rule (new_app (codes "run")) (placed_rule (codes "table"))) (placed_rule (codes "script")) in
    let threaded = with_rule placed (flag_rule (codes "threads")) in
    let stored = with_rule threaded (folder_option_rule (codes "store")) in
    let logged = with_rule stored (flag_rule (codes "journal")) in
    let counted = with_rule (with_rule logged (number_rule (codes "recent") MAX_RECENT_COMMITS)) (number_rule (codes "limit") MAX_ROWS) in
    with_rule (with_rule counted (option_rule (codes "conflicts"))) (flag_rule (codes "explain"))

-- `recover`, whose word is the folder of a store or a database
abbrev pub recover_usage : App
recover_usage =
    let named = with_rule (with_rule (new_app (codes "recover")) (folder_rule (codes "dir"))) (option_rule (codes "table")) in
    with_rule named (flag_rule (codes "explain"))

-- the program, of which one of the two commands is asked for
abbrev pub usage : App
usage =
    let top = on_top (λ s. record s { subcommand_required = true }) (new_app (codes "pdt")) in
    with_subcommand (with_subcommand top run_usage.top) recover_usage.top

-- a command is of this usage, alone and among another one's commands
pub record IsCommandOf (said : App) (command : Command) : Type 0 where
  pub alone : app_of command ≡ said
  pub among : (top added : Command) → AddsSubcommand top command added → app_of added ≡ with_subcommand (app_of top) said.top

-- the name of the command that the crate `clap` reads, by the usage
abbrev pub command_for : List Text → Option Text
command_for words = option_map (λ p. p.0) (subcommand_of usage words)

-- the word of the argument of this name, where a command was read
abbrev pub word_in : Option (List Row) → Text → Option Text
word_in rows id = option_and_then (first_of id) rows

-- the word that the crate `clap` reads for the argument of this name, by the usage
abbrev pub word_for : List Text → Text → Option Text
word_for words = word_in (option_map (λ p. p.1) (subcommand_of usage words))

-- ---- settings

-- the word that the crate `clap` has for an option with no value: `true` where it is there, `false` where it isn't
abbrev pub flag_word : Bool → Text
flag_word true = codes "true"
flag_word false = codes "false"

-- the number that a word writes, or the usual one where there is none
abbrev pub IsNumberOf : ℕ → Option Text → ℕ → Type 0
IsNumberOf usual None number = number ≡ usual
IsNumberOf usual (Some word) number = IsNumeral 10 (without_leading_plus word) × (number ≡ digits_value 10 (without_leading_plus word))

-- the conflict rule that a word names, or by column where there is none
abbrev pub IsRuleOf : Option Text → ConflictRule → Type 0
IsRuleOf None rule = rule ≡ ByColumn
IsRuleOf (Some word) ByColumn = word ≡ codes "column"
IsRuleOf (Some word) ByRow = word ≡ codes "row"

-- the settings are of the command, and of the words for each of its arguments
abbrev pub AreOf : Option Text → (Text → Option Text) → Settings → Type 0
AreOf command word_of (Recover dir table explain) =
    (command ≡ Some (codes "recover"))
    × (word_of (codes "dir") ≡ Some dir.now) × (word_of (codes "table") ≡ option_map (λ w. w.now) table)
    × (word_of (codes "explain") ≡ Some (flag_word explain))
AreOf command word_of (Run table script threads store journal recent limit conflicts explain) =
    (command ≡ Some (codes "run"))
    × (word_of (codes "table") ≡ Some table.now) × (word_of (codes "script") ≡ Some script.now)
    × (word_of (codes "threads") ≡ Some (flag_word threads)) × (word_of (codes "store") ≡ option_map (λ w. w.now) store)
    × (word_of (codes "journal") ≡ Some (flag_word journal))
    × IsNumberOf RECENT_COMMITS (word_of (codes "recent")) recent × IsNumberOf MAX_ROWS (word_of (codes "limit")) limit
    × IsRuleOf (word_of (codes "conflicts")) conflicts × (word_of (codes "explain") ≡ Some (flag_word explain))

-- a word names a folder, as the empty one does not
abbrev pub NamesFolder : Text → Type 0
NamesFolder word = 0 < length word

-- a journal is asked for only beside a store
abbrev pub HasPlace : Bool → Bool → Type 0
HasPlace journal stored = journal ≡ true → stored ≡ true

-- the numbers are within their limits, a folder has a name, and a journal has a place
abbrev pub IsWithinLimits : Settings → Type 0
IsWithinLimits (Recover dir table explain) = NamesFolder dir.now
IsWithinLimits (Run table script threads store journal recent limit conflicts explain) =
    (1 ≤ recent) × (recent ≤ MAX_RECENT_COMMITS) × (1 ≤ limit) × (limit ≤ MAX_ROWS) × IfSome store (λ dir. NamesFolder dir.now)
    × HasPlace journal (is_some store)

-- the crate `clap` takes the words by the usage, and they say these settings
pub record AreAsked (words : List Text) (settings : Settings) : Type 0 where
  pub taken : takes usage words ≡ true
  pub said : AreOf (command_for words) (word_for words) settings
  pub within : IsWithinLimits settings
