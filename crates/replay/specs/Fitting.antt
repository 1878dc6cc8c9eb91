-- Whether entries are those of a commit over a table: each is looked at with the one after it.
use Rattle.std.specs.Prelude.{ℕ, ◌==◌, nat_lt, Bool, true, false, ◌&&◌, ◌||◌, Option, Some, None, is_some, is_none, List, [], ◌∷◌, length, slice_get}
use Rattle.std.specs.Ordering.{is_lt}
use Rattle.values.specs.Shape.{Columns, key_of, fits_schema, cell_fits_schema}
use Rattle.model.specs.declared.entry.Entry.{Entry}
use Rattle.model.specs.declared.entry.Change.{Change}
use Rattle.model.specs.declared.entry.Change.TheVariants.{Ins, Del, Mod}
use Rattle.model.specs.Entries.{entry_cmp, is_delete}
use Rattle.model.specs.Table.{Table, row_at, rank}

-- whether an entry stands before the next one, where there is one
abbrev pub stands_before : ℕ → Entry → Option Entry → Bool
stands_before key_cols e None = true
stands_before key_cols e (Some next) = is_lt (entry_cmp key_cols e next)

-- whether the next entry deletes the row at a place
abbrev pub deletes_at : ℕ → Option Entry → Bool
deletes_at place None = false
deletes_at place (Some next) = (next.sid == place) && is_delete next.change

module _ (schema : Columns) (t : Table) where
  -- whether what an entry does may be done at its place: a row is inserted at the rank of its key, which isn't there or is
  -- deleted there; the row that is deleted has this key; and a row that is modified is there
  abbrev pub may_stand : ℕ → Change → Option Entry → Bool
  may_stand sid (Ins row) next =
      fits_schema schema row
      && ((rank (key_of schema.key_cols row) t == sid) && (is_none (row_at t (key_of schema.key_cols row)) || deletes_at sid next))
  may_stand sid (Del key) next = (rank key t == sid) && is_some (row_at t key)
  may_stand sid (Mod col value) next = nat_lt sid (length t) && cell_fits_schema schema col value

  -- whether an entry may stand where it does
  abbrev pub is_over : Entry → Option Entry → Bool
  is_over e next = stands_before schema.key_cols e next && may_stand e.sid e.change next

  -- whether each of them may
  abbrev pub are_over : List Entry → Bool
  are_over [] = true
  are_over (e ∷ es) = is_over e (slice_get es 0) && are_over es
