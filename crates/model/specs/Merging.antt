-- What entries make of a list of rows.
use Rattle.std.specs.Prelude.{ℕ, suc, ◌==◌, List, [], ◌∷◌, ◌++◌, map, filter, slice_set}
use Rattle.values.specs.declared.row.Row.{Row}
use Rattle.model.specs.declared.entry.Entry.{Entry}
use Rattle.model.specs.declared.entry.Change.{Change}
use Rattle.model.specs.declared.entry.Change.TheVariants.{Ins, Del, Mod}

-- the changes at a place, in order
abbrev pub changes_at : ℕ → List Entry → List Change
changes_at sid entries = map (λ e. e.change) (filter (λ e. e.sid == sid) entries)

-- the rows that are inserted, in order
abbrev pub inserted_rows : List Change → List Row
inserted_rows [] = []
inserted_rows (Ins row ∷ changes) = row ∷ inserted_rows changes
inserted_rows (Del key ∷ changes) = inserted_rows changes
inserted_rows (Mod col value ∷ changes) = inserted_rows changes

-- what the changes at its place leave of a base row: the row with its modifies, or nothing where it is deleted
abbrev pub left_of : Row → List Change → List Row
left_of row [] = row ∷ []
left_of row (Ins new ∷ changes) = left_of row changes
left_of row (Del key ∷ changes) = []
left_of row (Mod col value ∷ changes) = left_of (slice_set row col value) changes

-- the image of the base rows from place `sid` on
abbrev pub merged_rows_from : ℕ → List Row → List Entry → List Row
merged_rows_from sid [] entries = inserted_rows (changes_at sid entries)
merged_rows_from sid (row ∷ base) entries =
    inserted_rows (changes_at sid entries) ++ (left_of row (changes_at sid entries) ++ merged_rows_from (suc sid) base entries)

-- the image: at each place of the base first its inserts, then its row as the changes leave it
abbrev pub merged_rows : List Row → List Entry → List Row
merged_rows base entries = merged_rows_from 0 base entries
