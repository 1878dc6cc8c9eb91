-- What a merge makes of values that it doesn't look at.
use Rattle.std.specs.Prelude.{◌≡◌, ℕ, suc, ◌<◌, List, [], ◌∷◌, map}
use Rattle.values.specs.declared.row.Row.{Row}
use Rattle.values.specs.declared.value.Value.{Value}
use Rattle.model.specs.declared.entry.Entry.{Entry}
use Rattle.model.specs.declared.entry.Change.{Change}
use Rattle.model.specs.declared.entry.Change.TheVariants.{Ins, Del, Mod}
use Rattle.model.specs.Entries.{are_ordered}
use Rattle.model.specs.Merging.{merged_rows}
use Rattle.merge.specs.Image.{Stack, image_rows}
use Rattle.merge.specs.ColumnStretches.{column_cells}

-- what becomes of each value of a column
abbrev pub Alter : Type 0
Alter = ℕ → Value → Value

-- the row with its values altered, from the column of that number on
abbrev pub altered_from : Alter → ℕ → Row → Row
altered_from f col [] = []
altered_from f col (value ∷ row) = f col value ∷ altered_from f (suc col) row

abbrev pub altered_row : Alter → Row → Row
altered_row f row = altered_from f 0 row

-- the change with the values that it gives altered in the same way. A delete gives none
abbrev pub altered_change : Alter → Change → Change
altered_change f (Ins row) = Ins (altered_row f row)
altered_change f (Del key) = Del key
altered_change f (Mod col value) = Mod col (f col value)

abbrev pub altered_entry : Alter → Entry → Entry
altered_entry f e = record { sid = e.sid; change = altered_change f e.change }

-- layers over altered rows, with their entries altered in the same way
abbrev pub altered_stack : Alter → Stack → Stack
altered_stack f s =
    record {
      schema = s.schema;
      rows = map (altered_row f) s.rows;
      read = map (altered_entry f) s.read;
      write = map (altered_entry f) s.write;
      trans = map (altered_entry f) s.trans;
    }

-- the rows that are merged from altered rows and entries are the altered rows that are merged
abbrev pub AMergeCommutes : Type 0
AMergeCommutes =
    (f : Alter) (rows : List Row) (entries : List Entry)
    → merged_rows (map (altered_row f) rows) (map (altered_entry f) entries) ≡ map (altered_row f) (merged_rows rows entries)

-- the values of a column stay
abbrev pub Keeps : Alter → ℕ → Type 0
Keeps f col = (value : Value) → f col value ≡ value

-- what other columns hold changes nothing in a column of the image, and so neither where its rows stand
abbrev pub APlaceholderIsEnough : Type 0
APlaceholderIsEnough =
    (f : Alter) (s : Stack) (col : ℕ) → Keeps f col → column_cells col (image_rows (altered_stack f s)) ≡ column_cells col (image_rows s)

-- entries stay as ordered as they are, where the values of the key stay
abbrev pub AlteredEntriesAreOrdered : Type 0
AlteredEntriesAreOrdered =
    (f : Alter) (key_cols : ℕ) (entries : List Entry) → ((col : ℕ) → col < key_cols → Keeps f col)
    → are_ordered key_cols (map (altered_entry f) entries) ≡ are_ordered key_cols entries
