-- Effects by position: the entries of a delta tree, and their order.
use Rattle.std.specs.Prelude.{ℕ, ◌≤◌, ◌<◌, ◌^◌, Bool, true, false, ◌&&◌, IsTrue, List, [], ◌∷◌, map, flat_map, length}
use Rattle.std.proofs.Common.{Ordering, Less, Equal, Greater}
use Rattle.std.specs.Ordering.{nat_cmp, is_lt, ordering_then}
use Rattle.std.specs.List.{list_all, All}
use Rattle.values.specs.Orders.{key_cmp}
use Rattle.values.specs.Shape.{key_of}
use Rattle.values.specs.declared.row.Key.{Key}
use Rattle.model.specs.declared.entry.Entry.{Entry}
use Rattle.model.specs.declared.entry.Change.{Change}
use Rattle.model.specs.declared.entry.Change.TheVariants.{Ins, Del, Mod}
use Rattle.model.specs.declared.effect.Effect.{Effect}
use Rattle.model.specs.declared.effect.Effect.TheVariants as effect
use Rattle.model.specs.Table.{Table, rank}
use Rattle.model.specs.Effects.{Effects}

abbrev pub entry_at : ℕ → Change → Entry
entry_at sid change = record { sid = sid; change = change }

abbrev pub is_insert : Change → Bool
is_insert (Ins row) = true
is_insert (Del key) = false
is_insert (Mod col value) = false

abbrev pub is_delete : Change → Bool
is_delete (Ins row) = false
is_delete (Del key) = true
is_delete (Mod col value) = false

abbrev pub is_modify : Change → Bool
is_modify (Ins row) = false
is_modify (Del key) = false
is_modify (Mod col value) = true

-- the entries of one effect, at the place of its key
abbrev pub entries_of : ℕ → Key → Effect → List Entry
entries_of sid key (effect.Ins row) = entry_at sid (Ins row) ∷ []
entries_of sid key effect.Del = entry_at sid (Del key) ∷ []
entries_of sid key (effect.Mod cells) = map (λ c. entry_at sid (Mod c.0 c.1)) cells
entries_of sid key (effect.Rep row) = entry_at sid (Ins row) ∷ entry_at sid (Del key) ∷ []

-- the entries of effects over a table: each stands at the number of the table's keys below its own
abbrev pub canonical_entries : Table → Effects → List Entry
canonical_entries t effects = flat_map (λ e. entries_of (rank e.0 t) e.0 e.1) effects

module _ (key_cols : ℕ) where
  -- at one place the inserts come first, by key, and then a delete, or modifies by column
  abbrev pub change_cmp : Change → Change → Ordering
  change_cmp (Ins row) (Ins other) = key_cmp (key_of key_cols row) (key_of key_cols other)
  change_cmp (Ins row) y = Less
  change_cmp x (Ins other) = Greater
  change_cmp (Mod col value) (Mod other w) = nat_cmp col other
  change_cmp x y = Equal

  abbrev pub entry_cmp : Entry → Entry → Ordering
  entry_cmp x y = ordering_then (nat_cmp x.sid y.sid) (change_cmp x.change y.change)

  -- whether the entries stand in order. A delete ties with a modify at its place, so that both can't stand there
  abbrev pub are_ordered : List Entry → Bool
  are_ordered [] = true
  are_ordered (x ∷ entries) = list_all (λ y. is_lt (entry_cmp x y)) entries && are_ordered entries

  -- what a tree may hold: entries in order, in places below 2^32, and no more of them than 2^40
  pub record IsLawful (entries : List Entry) : Type 0 where
    pub ordered : IsTrue (are_ordered entries)
    pub placed : All (λ e. e.sid < 2 ^ 32) entries
    pub counted : length entries ≤ 2 ^ 40
