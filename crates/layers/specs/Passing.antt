-- A walk over a tree that goes past its entries as those of another one over the same image come.
use Rattle.std.specs.Prelude.{◌≡◌, ℕ, ◌≤◌, T, List, [], ◌∷◌, length, take, drop}
use Rattle.std.specs.List.{list_all}
use Rattle.model.specs.declared.clash.ConflictRule.{ConflictRule}
use Rattle.model.specs.declared.entry.Entry.{Entry}
use Rattle.model.specs.Entries.{IsLawful}
use Rattle.model.specs.Places.{insert_count, delete_count}
use Rattle.delta.specs.Search.{stands_before}
use Rattle.delta.specs.Tree.{Tree}
use Rattle.layers.specs.declared.cursor.Cursor.{Cursor}
use Rattle.layers.specs.declared.beside.Search.{Search}
use Rattle.layers.specs.declared.beside.Search.TheVariants.{Descents, Walk}
use Rattle.layers.specs.Serialization.{clash_cmp}

-- so many of the tree's entries are passed, with so many inserts and deletes among them, and the others are ahead
pub record IsCursor (c : Cursor) : Type 0 where
  pub lawful : IsLawful c.tree.now.key_cols c.tree.now.entries
  pub within : c.passed ≤ length c.tree.now.entries
  pub ahead_is : c.ahead ≡ drop c.passed c.tree.now.entries
  pub added_is : c.added ≡ insert_count (take c.passed c.tree.now.entries)
  pub gone_is : c.gone ≡ delete_count (take c.passed c.tree.now.entries)

module _ (rule : ConflictRule) where
  -- the entries passed stand before the entry, where none ties with it but those that it can clash with
  abbrev pub AreBefore : Cursor → Entry → Type 0
  AreBefore c e = T (list_all (stands_before (clash_cmp c.tree.now.key_cols rule e.change) e.sid) (take c.passed c.tree.now.entries))

  -- a walk has passed none but entries before this one; descents pass none
  abbrev pub IsReady : Search → Entry → Type 0
  IsReady (Descents tree) e = Unit {0}
  IsReady (Walk cursor) e = IsCursor cursor × AreBefore cursor e

-- the tree in which entries are looked for
abbrev pub searched_tree : Search → Tree
searched_tree (Descents tree) = tree.now
searched_tree (Walk cursor) = cursor.tree.now

-- the first so many entries of a tree, each where it stood as long as the list of those that are put has none
abbrev pub put_entries : ℕ → List Entry → List Entry → List Entry
put_entries n own [] = take n own
put_entries n own (e ∷ es) = e ∷ es
