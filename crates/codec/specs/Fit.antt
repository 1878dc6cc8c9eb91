-- Which entries can be written.
use Rattle.std.specs.Prelude.{◌≡◌, ◌<◌, ◌^◌, Bool, true, List, IsUtf8}
use Rattle.std.specs.List.{All, AllByRecursion}
use Rattle.std.specs.Int.{w64}
use Rattle.std.specs.Int.RustNames.{FitsSigned}
use Rattle.values.specs.Shape.{Columns, fits_schema, key_fits_schema, cell_fits_schema}
use Rattle.values.specs.declared.value.Value.{Value}
use Rattle.values.specs.declared.value.Value.TheVariants.{Int, Text, Bool as Truth}
use Rattle.model.specs.declared.entry.Entry.{Entry}
use Rattle.model.specs.declared.entry.Change.{Change}
use Rattle.model.specs.declared.entry.Change.TheVariants.{Ins, Del, Mod}

-- whether what an entry sets fits the schema
abbrev pub change_fits : Columns → Change → Bool
change_fits schema (Ins row) = fits_schema schema row
change_fits schema (Del key) = key_fits_schema schema key
change_fits schema (Mod col value) = cell_fits_schema schema col value

-- an entry whose SID fits four bytes, and which fits the schema
pub record EntryFits (schema : Columns) (entry : Entry) : Type 0 where
  pub placed : entry.sid < 2 ^ 32
  pub shaped : change_fits schema entry.change ≡ true

-- entries of a table of the schema
abbrev pub EntriesFit : Columns → List Entry → Type 0
EntriesFit schema entries = All (EntryFits schema) entries

-- ---- what Rust's types say of a value, and the model of values doesn't

-- a number of 64 bits, a text of UTF-8, a truth
abbrev pub IsPlain : Value → Type 0
IsPlain (Int x) = FitsSigned w64 x
IsPlain (Text t) = IsUtf8 t
IsPlain (Truth b) = Unit {0}

-- each of the values
abbrev pub ArePlain : List Value → Type 0
ArePlain values = AllByRecursion IsPlain values

-- what an entry sets
abbrev pub IsPlainChange : Change → Type 0
IsPlainChange (Ins row) = ArePlain row
IsPlainChange (Del key) = ArePlain key
IsPlainChange (Mod col value) = IsPlain value

-- and what each of them sets
abbrev pub ArePlainEntries : List Entry → Type 0
ArePlainEntries entries = AllByRecursion (λ entry. IsPlainChange entry.change) entries
