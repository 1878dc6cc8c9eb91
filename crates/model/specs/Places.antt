-- Positions in the image, by the entries before them.
use Rattle.std.specs.Prelude.{ℕ, ◌+◌, ◌-◌, nat_lt, nat_le, List, [], ◌∷◌, map, filter, length}
use Rattle.values.specs.declared.row.Key.{Key}
use Rattle.model.specs.declared.entry.Entry.{Entry}
use Rattle.model.specs.declared.entry.Change.{Change}
use Rattle.model.specs.declared.entry.Change.TheVariants.{Ins, Del, Mod}
use Rattle.model.specs.Merging.{inserted_rows}

-- the keys of the rows that are deleted, in order
abbrev pub deleted_keys : List Change → List Key
deleted_keys [] = []
deleted_keys (Ins row ∷ changes) = deleted_keys changes
deleted_keys (Del key ∷ changes) = key ∷ deleted_keys changes
deleted_keys (Mod col value ∷ changes) = deleted_keys changes

abbrev pub insert_count : List Entry → ℕ
insert_count entries = length (inserted_rows (map (λ e. e.change) entries))

abbrev pub delete_count : List Entry → ℕ
delete_count entries = length (deleted_keys (map (λ e. e.change) entries))

-- the position of the row of an insert: its place, and the inserts less the deletes of the entries before it
abbrev pub rid_of_insert : List Entry → ℕ → ℕ
rid_of_insert before sid = (sid + insert_count before) - delete_count before

-- the position of a base row that isn't deleted: its place, and the inserts there or below less the deletes below
abbrev pub rid_of_base : List Entry → ℕ → ℕ
rid_of_base entries sid =
    (sid + insert_count (filter (λ e. nat_le e.sid sid) entries)) - delete_count (filter (λ e. nat_lt e.sid sid) entries)
