-- A tree made consecutive to another one over the same image, or where the two clash.
use Rattle.std.specs.Prelude.{◌≡◌, ℕ, false, Option, None, List, [], ◌∷◌, drop}
use Rattle.std.proofs.Common.{Ordering}
use Rattle.model.specs.declared.clash.ConflictRule.{ConflictRule}
use Rattle.model.specs.declared.clash.ConflictRule.TheVariants.{ByColumn, ByRow}
use Rattle.model.specs.declared.entry.Entry.{Entry}
use Rattle.model.specs.declared.entry.Change.{Change}
use Rattle.model.specs.declared.entry.Change.TheVariants.{Ins, Del, Mod}
use Rattle.model.specs.declared.clash.Clash.{Clash}
use Rattle.model.specs.Effects.{table_with}
use Rattle.model.specs.Clashes.{conflicts, Conflicts}
use Rattle.model.specs.Entries.{change_cmp}
use Rattle.model.specs.Rebasing.{clash_of_entries, or_clash, IsLeastClash}
use Rattle.delta.specs.Search.{base_cmp, stands_before, IsSplit}
use Rattle.delta.specs.Tree.{Tree}
use Rattle.layers.specs.declared.rebase.Serialized.{Serialized}
use Rattle.layers.specs.declared.rebase.Serialized.TheVariants as answer
use Rattle.layers.specs.Over.{tree_of, AreAligned}

-- the tree of the first one's effects over the table after the second one's
abbrev pub rebased_tree : (first second : Tree) → AreAligned first second → Tree
rebased_tree first second w = tree_of w.schema (table_with w.t w.y) w.x

module _ (rule : ConflictRule) where
  -- a tree where the effects don't conflict: theirs over the table after the others; else two entries that clash, the first
  abbrev pub IsSerialized : (first second : Tree) → AreAligned first second → Serialized → Type 0
  IsSerialized first second w (answer.Tree tree) = (conflicts rule w.x w.y ≡ false) × (tree ≡ rebased_tree first second w)
  IsSerialized first second w (answer.Conflict clash) =
      Conflicts rule w.x w.y × IsLeastClash rule w.schema.key_cols first.entries second.entries clash

-- the clash, as the other tree sees it
abbrev pub turned_clash : Clash → Clash
turned_clash clash = record { kind = clash.kind; x = clash.y; y = clash.x }

-- ---- one entry

module _ (key_cols : ℕ) where
  -- how a change stands to those at its SID where a modify ties with all that becomes of the row
  abbrev pub row_cmp : Change → Change → Ordering
  row_cmp (Ins row) y = change_cmp key_cols (Ins row) y
  row_cmp (Del key) y = change_cmp key_cols (Del key) y
  row_cmp (Mod col value) y = base_cmp y

  -- how it stands to them so that it ties with just those that it can clash with
  abbrev pub clash_cmp : ConflictRule → Change → Change → Ordering
  clash_cmp ByColumn x y = change_cmp key_cols x y
  clash_cmp ByRow x y = row_cmp x y

-- the clash of the entry at place i with the first of these, the one at place j
abbrev pub clash_with_first : ConflictRule → ℕ → ℕ → Entry → ℕ → List Entry → Option Clash
clash_with_first rule key_cols i x j [] = None
clash_with_first rule key_cols i x j (y ∷ ys) = or_clash i j (clash_of_entries rule key_cols x y) None

-- the clash of the entry at place i, if there is one, is that with the first entry that it can clash with
abbrev pub IsClashBeside : ConflictRule → ℕ → ℕ → Entry → List Entry → Option Clash → Type 0
IsClashBeside rule key_cols i x ys clash =
    (j : ℕ) × IsSplit (stands_before (clash_cmp key_cols rule x.change) x.sid) ys j
    × (clash ≡ clash_with_first rule key_cols i x j (drop j ys))
