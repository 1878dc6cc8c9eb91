-- The image that columns store, and the first fault of columns as an image.
use Rattle.std.specs.Prelude.{◌≡◌, ◌⊎◌, ℕ, suc, ◌==◌, Bool, cond, ◌&&◌, Option, Some, None, List, [], ◌∷◌, length, Result, Ok, Err}
use Rattle.std.specs.List.{flat_map, list_any, list_all}
use Rattle.values.specs.Shape.{Columns}
use Rattle.values.specs.declared.value.ColumnType.{ColumnType}
use Rattle.values.specs.declared.value.Value.{Value}
use Rattle.blocks.specs.Column.{Column}
use Rattle.stable.specs.Rows.{row_count, rows_of}
use Rattle.stable.specs.Stable.{Stable, build_fault}
use Rattle.stable.specs.declared.fault.BuildFault.{BuildFault}
use Rattle.stable.specs.declared.fault.BuildFault.TheVariants as build
use Rattle.frames.specs.declared.fault.ReadFault.{ReadFault}
use Rattle.frames.specs.declared.fault.ReadFault.TheVariants.{WrongCount, NoImage, CountsDiffer, TooManyRows, NotAscending, NoMemory}
use Rattle.frames.specs.declared.frame.Part.{Part}
use Rattle.frames.specs.Reading.{◌>>=◌, frames_of, parts_after}

-- a generation, and the table that it stores
pub record Image : Type 0 where
  pub generation : ℕ
  pub table : Stable

-- ---- generations

-- whether the generation is whole: its last block is there
abbrev pub is_whole : ℕ → List Part → Bool
is_whole g parts = list_any (λ p. p.last && (p.generation == g)) parts

-- whether this block ends a generation that is whole in each of the columns
abbrev pub ends_image : List (List Part) → Part → Bool
ends_image columns p = p.last && list_all (is_whole p.generation) columns

-- the last generation among the blocks of a column that is whole in each of the columns, or else this one
abbrev pub newest_of : List (List Part) → Option ℕ → List Part → Option ℕ
newest_of columns best [] = best
newest_of columns best (p ∷ parts) = newest_of columns (cond (ends_image columns p) (Some p.generation) best) parts

-- the greatest generation that is whole in each of the columns
abbrev pub newest_whole : List (List Part) → Option ℕ
newest_whole [] = None
newest_whole (parts ∷ columns) = newest_of columns None parts

-- ---- the table of a generation

-- the values of a generation in a column, in order
abbrev pub values_in : ℕ → List Part → List Value
values_in g parts = flat_map (λ p. cond (p.generation == g) p.block.values []) parts

-- its columns
abbrev pub columns_in : ℕ → List ColumnType → List (List Part) → List Column
columns_in g [] columns = []
columns_in g (ty ∷ types) [] = []
columns_in g (ty ∷ types) (parts ∷ columns) = record { ty = ty; values = values_in g parts } ∷ columns_in g types columns

-- whether each has as many values as the first
abbrev pub are_even : List Column → Bool
are_even columns = list_all (λ c. length c.values == row_count columns) columns

-- rows that are no table, as columns that are no image
abbrev pub fault_of : BuildFault → ReadFault
fault_of build.TooManyRows = TooManyRows
fault_of (build.NotAscending row) = NotAscending row
fault_of (build.Shape row fault) = NotAscending row
fault_of build.NoMemory = NoMemory

abbrev pub image_unless : Columns → ℕ → List Column → Option BuildFault → Result Image ReadFault
image_unless schema g columns None =
    Ok (record { generation = g; table = record { schema = schema; rows = rows_of (row_count columns) columns } })
image_unless schema g columns (Some fault) = Err (fault_of fault)

-- the image of a generation's columns
abbrev pub image_of : Columns → ℕ → List Column → Result Image ReadFault
image_of schema g columns =
    cond (are_even columns) (image_unless schema g columns (build_fault schema (rows_of (row_count columns) columns)))
    (Err CountsDiffer)

abbrev pub image_at : Columns → List (List Part) → Option ℕ → Result Image ReadFault
image_at schema columns None = Err NoImage
image_at schema columns (Some g) = image_of schema g (columns_in g schema.types columns)

-- ---- a store

-- the blocks of the columns from number `col` on
abbrev pub all_parts : ℕ → List ColumnType → List (List ℕ) → Result (List (List Part)) ReadFault
all_parts col [] columns = Ok []
all_parts col (ty ∷ types) [] = Ok []
all_parts col (ty ∷ types) (bytes ∷ columns) =
    parts_after [] (frames_of col (Some ty) bytes) >>= λ parts. (all_parts (suc col) types columns >>= λ others. Ok (parts ∷ others))

-- the image that columns store under a schema, or their first fault
abbrev pub stored_image : Columns → List (List ℕ) → Result Image ReadFault
stored_image schema columns =
    cond (length columns == length schema.types)
    (all_parts 0 schema.types columns >>= λ parts. image_at schema parts (newest_whole parts)) (Err WrongCount)

-- what the columns store is what they stored before, or this image
abbrev pub StaysOrIs : Columns → List (List ℕ) → Image → List (List ℕ) → Type 0
StaysOrIs schema old image new = (stored_image schema new ≡ stored_image schema old) ⊎ (stored_image schema new ≡ Ok image)
