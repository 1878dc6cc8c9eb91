-- What a payload says: so many values of a type, in a format.
use Rattle.std.specs.Prelude.{◌≡◌, ◌≤◌, ℕ, List, [], length, Result, Ok, Err}
use Rattle.values.specs.declared.limits.TheConstants.{MAX_BLOCK_VALUES}
use Rattle.values.specs.declared.value.ColumnType.{ColumnType}
use Rattle.values.specs.declared.value.Value.{Value}
use Rattle.blocks.specs.declared.fault.BlockFault.{BlockFault}
use Rattle.blocks.specs.Encoding.{decoding_of}
use Rattle.blocks.specs.Reading.{reading_of}
use Rattle.frames.specs.declared.frame.Format.{Format}
use Rattle.frames.specs.declared.frame.Format.TheVariants.{First, Second}
use Rattle.frames.specs.declared.frame.Kind.{Kind}

-- so many values of the type by a payload of the format
abbrev pub reading_in : Format → ColumnType → ℕ → List ℕ → Result (List Value) BlockFault
reading_in First ty count bytes = reading_of ty count bytes
reading_in Second ty count bytes = decoding_of ty count bytes

-- the values of a reading, none where it is a fault
abbrev pub values_or_none : Result (List Value) BlockFault → List Value
values_or_none (Ok values) = values
values_or_none (Err fault) = []

-- so many values by a payload of the kind
abbrev pub values_read : Kind → ℕ → List ℕ → List Value
values_read kind count bytes = values_or_none (reading_in kind.format kind.ty count bytes)

-- a payload of the kind reads as so many values, which a block may have
pub record IsRead (kind : Kind) (count : ℕ) (bytes : List ℕ) : Type 0 where
  pub few : count ≤ MAX_BLOCK_VALUES
  pub read : reading_in kind.format kind.ty count bytes ≡ Ok (values_read kind count bytes)
  pub counted : length (values_read kind count bytes) ≡ count
