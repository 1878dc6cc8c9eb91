-- What callers need of a list after a change: how long it is at most.
use Rattle.std.proofs.Common.{ℕ, ◌+◌, ◌≤◌, List, [], ◌∷◌, length, arith}
use Rattle.std.proofs.lemmas.List.Sums.{length-filter, count_by-le-length}
use Rattle.values.specs.declared.row.Row.{Row}
use Rattle.values.specs.declared.row.Key.{Key}
use Rattle.values.specs.declared.value.Value.{Value}
use Rattle.model.specs.declared.entry.Entry.{Entry}
use Rattle.model.specs.declared.entry.Change.TheVariants.{Ins, Mod}
use Rattle.model.specs.Entries.{entry_at}
use Rattle.model.specs.Edits.{put_entry, put_ins, put_del, put_mod}
use Rattle.std.proofs.lemmas.Grind.{common_steps}

module _ (key_cols : ℕ) where
  -- an entry that is put in makes the list longer by one at most
  pub length-put_entry : (e : Entry) (es : List Entry) → length (put_entry key_cols e es) ≤ length es + 1
  length-put_entry e [] = omega arith
  length-put_entry e (x ∷ es) = grind (arith, common_steps, length-put_entry e es)

  -- so does an insert
  pub length-put_ins : (sid : ℕ) (row : Row) (es : List Entry) → length (put_ins key_cols sid row es) ≤ length es + 1
  length-put_ins sid row es = length-put_entry (entry_at sid (Ins row)) es

  -- a modify
  pub length-put_mod : (sid col : ℕ) (value : Value) (es : List Entry) → length (put_mod key_cols sid col value es) ≤ length es + 1
  length-put_mod sid col value es = length-put_entry (entry_at sid (Mod col value)) es

  -- and a delete
  pub length-put_del : (sid : ℕ) (key : Key) (es : List Entry) → length (put_del key_cols sid key es) ≤ length es + 1
  length-put_del sid key es = omega (arith, length-put_entry, length-filter, count_by-le-length)
