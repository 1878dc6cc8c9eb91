-- The blocks of a column in turn: those of a generation stand together, each but the last of them full.
use Rattle.std.specs.Prelude.{◌≡◌, ℕ, ◌+◌, ◌<◌, ◌≤◌, false, Option, Some, None, List, [], ◌∷◌, length, get_or}
use Rattle.values.specs.declared.value.ColumnType.{ColumnType}
use Rattle.values.specs.declared.value.ColumnType.TheVariants as column
use Rattle.values.specs.declared.limits.TheConstants.{MAX_BLOCK_VALUES}
use Rattle.frames.specs.declared.frame.Part.{Part}

-- a block of the type, full unless it is the last of its generation
pub record IsPartOf (ty : ColumnType) (part : Part) : Type 0 where
  pub typed : part.block.ty ≡ ty
  pub numbered : part.number < 4294967296
  pub few : length part.block.values ≤ MAX_BLOCK_VALUES
  pub full : part.last ≡ false → length part.block.values ≡ MAX_BLOCK_VALUES

-- a block after another: the first of a greater generation, or the next of its own
pub record Follows (before part : Part) : Type 0 where
  pub begins : part.number ≡ 0 → before.generation < part.generation
  pub continues : 0 < part.number → (before.generation ≡ part.generation) × (before.number + 1 ≡ part.number) × (before.last ≡ false)

-- a block after the one before it, where there is one
abbrev pub IsNext : Option Part → Part → Type 0
IsNext None part = part.number ≡ 0
IsNext (Some before) part = Follows before part

-- blocks of the type in turn, after this one
abbrev pub AreNext : ColumnType → Option Part → List Part → Type 0
AreNext ty before [] = Unit {0}
AreNext ty before (part ∷ parts) = IsPartOf ty part × IsNext before part × AreNext ty (Some part) parts

-- the blocks of a column of the type in turn
abbrev pub AreInTurn : ColumnType → List Part → Type 0
AreInTurn ty parts = AreNext ty None parts

-- the blocks of each column in turn
abbrev pub AreAllInTurn : List ColumnType → List (List Part) → Type 0
AreAllInTurn types columns = (col : ℕ) → col < length columns → AreInTurn (get_or types col column.Int) (get_or columns col [])

-- of whatever type they are
abbrev pub IsInTurn : List Part → Type 0
IsInTurn parts = (ty : ColumnType) × AreInTurn ty parts

-- in each column
abbrev pub AreEachInTurn : List (List Part) → Type 0
AreEachInTurn columns = (col : ℕ) → col < length columns → IsInTurn (get_or columns col [])
