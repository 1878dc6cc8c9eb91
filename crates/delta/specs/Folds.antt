-- Where an entry over the image is folded in.
use Rattle.std.specs.Prelude.{◌≡◌, ℕ, List}
use Rattle.values.specs.Shape.{key_of}
use Rattle.model.specs.declared.entry.Entry.{Entry}
use Rattle.model.specs.declared.entry.Change.{Change}
use Rattle.model.specs.declared.entry.Change.TheVariants.{Ins, Del, Mod}
use Rattle.delta.specs.declared.places.Place.{Place}
use Rattle.delta.specs.declared.places.Place.TheVariants.{Inserted, Base}
use Rattle.delta.specs.declared.folds.Fold.{Fold}
use Rattle.delta.specs.declared.folds.Fold.TheVariants.{Into, Put}
use Rattle.delta.specs.Changes.{IsRun}
use Rattle.delta.specs.Positions.{IsAtRid, IsGapAt}

-- the row that changes
abbrev pub row_of_fold : Fold → Place
row_of_fold (Into index) = Inserted index
row_of_fold (Put sid start end) = Base sid

module _ (key_cols : ℕ) (entries : List Entry) where
  -- what becomes of a base row stands in the place of the entries that it replaces
  abbrev pub IsRunOf : Change → Fold → Type 0
  IsRunOf (Ins row) fold = Unit {0}
  IsRunOf (Del key) (Into index) = Unit {0}
  IsRunOf (Del key) (Put sid start end) = IsRun key_cols sid (Del key) entries start end
  IsRunOf (Mod col value) (Into index) = Unit {0}
  IsRunOf (Mod col value) (Put sid start end) = IsRun key_cols sid (Mod col value) entries start end

  -- an insert is put in where its row comes to the position, in the place of no entry; another change where the row at the
  -- position stands
  abbrev pub IsFold : ℕ → Change → Fold → Type 0
  IsFold rid (Ins row) (Into index) = ⊥
  IsFold rid (Ins row) (Put sid start end) = IsGapAt rid (key_of key_cols row) entries sid start × (end ≡ start)
  IsFold rid (Del key) fold = IsAtRid entries rid (row_of_fold fold) × IsRunOf (Del key) fold
  IsFold rid (Mod col value) fold = IsAtRid entries rid (row_of_fold fold) × IsRunOf (Mod col value) fold

  -- and no other place is there for it
  abbrev pub IsOnlyFold : ℕ → Change → Fold → Type 0
  IsOnlyFold rid (Ins row) fold = (sid index : ℕ) → IsGapAt rid (key_of key_cols row) entries sid index → fold ≡ Put sid index index
  IsOnlyFold rid (Del key) fold = (place : Place) → IsAtRid entries rid place → place ≡ row_of_fold fold
  IsOnlyFold rid (Mod col value) fold = (place : Place) → IsAtRid entries rid place → place ≡ row_of_fold fold
