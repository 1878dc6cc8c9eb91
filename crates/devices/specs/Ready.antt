-- Contents that the blocks of an image may follow.
use Rattle.std.specs.Prelude.{◌≡◌, ◌<◌, ℕ, Some, List, [], ◌∷◌, ◌++◌, length, get_or}
use Rattle.std.specs.List.{AllByRecursion, AllZip}
use Rattle.values.specs.Shape.{Columns}
use Rattle.values.specs.declared.value.ColumnType.{ColumnType}
use Rattle.values.specs.declared.value.ColumnType.TheVariants as column
use Rattle.frames.specs.declared.frame.Format.TheVariants.{Second}
use Rattle.frames.specs.declared.frame.Frame.{Frame}
use Rattle.frames.specs.declared.frame.Part.{Part}
use Rattle.frames.specs.Column.{IsColumn, seam_after_all, start}
use Rattle.frames.specs.Reading.{AreWanted, parts_of}
use Rattle.devices.specs.Stored.{stored_image}

-- whether each of the blocks is of a generation below this one
abbrev pub AreBelow : ℕ → List Part → Type 0
AreBelow next parts = AllByRecursion (λ p. p.generation < next) parts

-- bytes are whole frames of the type, or none, and each generation there is below this one
pub record IsWholeColumn (next : ℕ) (ty : ColumnType) (bytes : List ℕ) : Type 0 where
  pub frames : List Frame
  pub column : IsColumn bytes frames []
  pub typed : AreWanted (Some ty) frames
  pub below : AreBelow next (parts_of frames)

-- and the last header says that blocks of the type follow, in format 2
pub record IsReadyColumn (next : ℕ) (ty : ColumnType) (bytes : List ℕ) : Type 0 where
  pub whole : IsWholeColumn next ty bytes
  pub kind : (seam_after_all start whole.frames).kind ≡ Some (record { format = Second; ty = ty })

-- contents are whole frames, each of the type of its column
abbrev pub AreWhole : ℕ → List ColumnType → List (List ℕ) → Type 0
AreWhole next types contents = AllZip (IsWholeColumn next) types contents

-- contents that the image of this generation may follow
abbrev pub AreReady : ℕ → List ColumnType → List (List ℕ) → Type 0
AreReady next types contents = AllZip (IsReadyColumn next) types contents

-- whatever the columns beside, with the new bytes for whole frames they store the image that they stored
abbrev pub StoresAs : List ℕ → List ℕ → Type 0
StoresAs old new = (schema : Columns) (next : ℕ) (front back : List (List ℕ))
    → IsWholeColumn next (get_or schema.types (length front) column.Int) old
    → stored_image schema (front ++ new ∷ back) ≡ stored_image schema (front ++ old ∷ back)
