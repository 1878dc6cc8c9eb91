-- Two trees over one image: where they clash, and one made consecutive to the other.
use Rattle.std.specs.Prelude.{◌≡◌, ◌⊎◌, ℕ, suc, ◌+◌, ◌-◌, ◌<◌, ◌≤◌, ◌==◌, nat_lt, Bool, true, false, cond, ◌&&◌, ◌||◌, Option, Some, None, is_some, List, [], ◌∷◌, map, filter, length, slice_get}
use Rattle.std.specs.Ordering.{eq_by_cmp, is_lt}
use Rattle.values.specs.Orders.{key_cmp}
use Rattle.model.specs.declared.entry.Entry.{Entry}
use Rattle.model.specs.declared.entry.Change.{Change}
use Rattle.model.specs.declared.entry.Change.TheVariants.{Ins, Del, Mod}
use Rattle.model.specs.declared.clash.ClashKind.{ClashKind}
use Rattle.model.specs.declared.clash.ClashKind.TheVariants.{InsertInsert, DeleteDelete, DeleteModify, ModifyModify}
use Rattle.model.specs.declared.clash.Clash.{Clash}
use Rattle.model.specs.declared.clash.ConflictRule.{ConflictRule}
use Rattle.model.specs.declared.clash.ConflictRule.TheVariants.{ByColumn, ByRow}
use Rattle.values.specs.Shape.{key_of}
use Rattle.model.specs.Entries.{entry_at, is_insert, is_delete}

-- ---- clashes of two trees over one image

-- a clash of this kind at these places, or else the other
abbrev pub or_clash : ℕ → ℕ → Option ClashKind → Option Clash → Option Clash
or_clash i j None other = other
or_clash i j (Some kind) other = Some (record { kind = kind; x = i; y = j })

-- the clash, or else the other
abbrev pub or_else : Option Clash → Option Clash → Option Clash
or_else (Some clash) other = Some clash
or_else None other = other

-- whether modifies of these two columns of one row clash
abbrev pub columns_clash : ConflictRule → ℕ → ℕ → Bool
columns_clash ByColumn col other = col == other
columns_clash ByRow col other = true

module _ (rule : ConflictRule) (key_cols : ℕ) where
  -- how two changes clash, where they stand at one place or not
  abbrev pub clash_of_changes : Bool → Change → Change → Option ClashKind
  clash_of_changes here (Ins row) (Ins other) =
      cond (eq_by_cmp key_cmp (key_of key_cols row) (key_of key_cols other)) (Some InsertInsert) None
  clash_of_changes here (Ins row) y = None
  clash_of_changes here x (Ins row) = None
  clash_of_changes here (Del key) (Del other) = cond here (Some DeleteDelete) None
  clash_of_changes here (Del key) (Mod col value) = cond here (Some DeleteModify) None
  clash_of_changes here (Mod col value) (Del key) = cond here (Some DeleteModify) None
  clash_of_changes here (Mod col value) (Mod other w) = cond (here && columns_clash rule col other) (Some ModifyModify) None

  abbrev pub clash_of_entries : Entry → Entry → Option ClashKind
  clash_of_entries x y = clash_of_changes (x.sid == y.sid) x.change y.change

  -- the first clash of the entry at place i with those from place j on
  abbrev pub clash_with : ℕ → Entry → ℕ → List Entry → Option Clash
  clash_with i x j [] = None
  clash_with i x j (y ∷ ys) = or_clash i j (clash_of_entries x y) (clash_with i x (suc j) ys)

  -- the first clash of the entries from place i on
  abbrev pub first_clash_from : ℕ → List Entry → List Entry → Option Clash
  first_clash_from i [] ys = None
  first_clash_from i (x ∷ xs) ys = or_else (clash_with i x 0 ys) (first_clash_from (suc i) xs ys)

  -- of the clashes that with the least place in xs, then in ys
  abbrev pub first_clash : List Entry → List Entry → Option Clash
  first_clash xs ys = first_clash_from 0 xs ys

  -- the entry at place i of xs and that at place j of ys clash in this way
  pub record AreClashing (xs ys : List Entry) (i j : ℕ) (kind : ClashKind) : Type 0 where
    pub x : Entry
    pub y : Entry
    pub x_at : slice_get xs i ≡ Some x
    pub y_at : slice_get ys j ≡ Some y
    pub kind_is : clash_of_entries x y ≡ Some kind

  -- two entries that clash, with the least place in xs, and then in ys
  pub record IsLeastClash (xs ys : List Entry) (clash : Clash) : Type 0 where
    pub clashing : AreClashing xs ys clash.x clash.y clash.kind
    pub least : (i j : ℕ) (kind : ClashKind) → AreClashing xs ys i j kind → (clash.x < i) ⊎ ((clash.x ≡ i) × (clash.y ≤ j))

-- ---- a tree made consecutive to another one

module _ (key_cols : ℕ) where
  -- whether an insert at an equal place stands before the change
  abbrev pub stands_first : Change → Change → Bool
  stands_first (Ins row) (Ins other) = is_lt (key_cmp (key_of key_cols row) (key_of key_cols other))
  stands_first (Ins row) x = true
  stands_first y x = false

  -- whether y is an insert before x, and whether it is a delete before x
  abbrev pub inserts_before : Entry → Entry → Bool
  inserts_before x y = is_insert y.change && (nat_lt y.sid x.sid || ((y.sid == x.sid) && stands_first y.change x.change))

  abbrev pub deletes_before : Entry → Entry → Bool
  deletes_before x y = is_delete y.change && nat_lt y.sid x.sid

  -- the entry at its place in the image of ys
  abbrev pub rebased_entry : List Entry → Entry → Entry
  rebased_entry ys x = entry_at ((x.sid + length (filter (inserts_before x) ys)) - length (filter (deletes_before x) ys)) x.change

  -- the entries xs made consecutive to ys, with which none of them clashes
  abbrev pub rebased_entries : List Entry → List Entry → List Entry
  rebased_entries ys xs = map (rebased_entry ys) xs

module _ (rule : ConflictRule) (key_cols : ℕ) where
  -- the entries made consecutive to each of the trees in turn, or nothing where they clash with one
  abbrev pub passed_entries : List (List Entry) → List Entry → Option (List Entry)
  passed_entries [] xs = Some xs
  passed_entries (ys ∷ trees) xs =
      cond (is_some (first_clash rule key_cols xs ys)) None (passed_entries trees (rebased_entries key_cols ys xs))
