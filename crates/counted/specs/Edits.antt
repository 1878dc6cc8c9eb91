-- One edit of a list of entries.
use Rattle.std.specs.Prelude.{◌≡◌, ℕ, ◌+◌, ◌≤◌, ℤ, ◌+ℤ◌, Option, Some, None, Result, IfOk, IfErr, List, [], ◌∷◌, ◌++◌, take, drop}
use Rattle.model.specs.declared.entry.Entry.{Entry}
use Rattle.counted.specs.Sums.{total}
use Rattle.counted.specs.Trees.{IsRoot}
use Rattle.counted.specs.Views.{View}

abbrev pub put_items : Option Entry → List Entry
put_items None = []
put_items (Some e) = e ∷ []

-- the entries with so many from an index on replaced by others
abbrev pub edited : ℕ → ℕ → List Entry → List Entry → List Entry
edited at gone put items = take at items ++ (put ++ drop (at + gone) items)

-- so many entries from an index on are replaced by another, if there is one, which changes by so much what all add
pub record IsEdit (at gone : ℕ) (put : Option Entry) (old new : List Entry) (added : ℤ) : Type 0 where
  pub items : new ≡ edited at gone (put_items put) old
  pub net : total new ≡ total old +ℤ added

-- a node after an edit in place: it has that edit, or is as it was and the entry comes back
pub record IsEditedNode (at gone least : ℕ) (put : Option Entry) (old new : View) (r : Result ℤ (Option Entry)) : Type 0 where
  pub depth : new.depth ≡ old.depth
  pub enough : least ≤ old.width → least ≤ new.width
  pub root : IsRoot old → IsRoot new
  pub ok : IfOk r (IsEdit at gone put old.items new.items)
  pub err : IfErr r (λ back. (new ≡ old) × (back ≡ put))
