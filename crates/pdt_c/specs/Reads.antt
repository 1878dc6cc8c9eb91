-- What C is handed of a transaction's image.
use Rattle.std.specs.Prelude.{◌≡◌, ◌≤◌, ◌<◌, ℕ, ℤ, Bool, List, Some, None, length, take, drop, slice_get, is_some}
use Rattle.values.specs.declared.value.Value.{Value}
use Rattle.model.specs.Table.{rank, row_at, rows_of}
use Rattle.stable.specs.Rows.{column_values}
use Rattle.txn.specs.Txn.{Transaction, image_of}
use Rattle.pdt_c.specs.Cells.{AreGiven, numbers_of, texts_of}
use Rattle.pdt_c.specs.Writes.{key_types}

-- a row stands in C's room: its numbers, and so many bytes of its texts
pub record IsHanded (row : List Value) (numbers : List ℤ) (texts : List ℕ) (bytes : ℕ) : Type 0 where
  pub numbers_are : take (length row) numbers ≡ numbers_of row
  pub texts_are : take bytes texts ≡ texts_of row

-- the row at a position was handed out
pub record HandsRow (txn : Transaction) (rid : ℕ) (numbers : List ℤ) (texts : List ℕ) (bytes : ℕ) : Type 0 where
  pub row : List Value
  pub there : slice_get (rows_of (image_of txn)) rid ≡ Some row
  pub handed : IsHanded row numbers texts bytes

-- the texts of the row at a position have more bytes than there is room for, where its numbers have room
pub record NeedsRoom (txn : Transaction) (rid numbers texts needed : ℕ) : Type 0 where
  pub row : List Value
  pub there : slice_get (rows_of (image_of txn)) rid ≡ Some row
  pub more : length row ≤ numbers → texts < needed

-- the same of the row of the key that C gave
pub record NeedsRoomOf (txn : Transaction) (key_numbers : List ℤ) (key_texts : List ℕ) (numbers texts needed : ℕ) : Type 0 where
  pub key : List Value
  pub given : AreGiven (key_types txn) key_numbers key_texts key
  pub row : List Value
  pub there : row_at (image_of txn) key ≡ Some row
  pub more : length row ≤ numbers → texts < needed

-- the row of the key that C gave was handed out
pub record HandsRowOf (txn : Transaction) (key_numbers : List ℤ) (key_texts : List ℕ)
    (numbers : List ℤ) (texts : List ℕ) (bytes : ℕ) : Type 0 where
  pub key : List Value
  pub given : AreGiven (key_types txn) key_numbers key_texts key
  pub row : List Value
  pub there : row_at (image_of txn) key ≡ Some row
  pub handed : IsHanded row numbers texts bytes

-- the image has no row of the key that C gave
pub record HasNoneOf (txn : Transaction) (key_numbers : List ℤ) (key_texts : List ℕ) : Type 0 where
  pub key : List Value
  pub given : AreGiven (key_types txn) key_numbers key_texts key
  pub none : row_at (image_of txn) key ≡ None

-- how many rows stand below the key that C gave, and whether there is one of it
pub record Ranks (txn : Transaction) (key_numbers : List ℤ) (key_texts : List ℕ) (below : ℕ) (there : Bool) : Type 0 where
  pub key : List Value
  pub given : AreGiven (key_types txn) key_numbers key_texts key
  pub below_is : below ≡ rank key (image_of txn)
  pub there_is : there ≡ is_some (row_at (image_of txn) key)

-- the values of a column from a position on
abbrev pub column_from : Transaction → ℕ → ℕ → List Value
column_from txn col from = column_values col (drop from (rows_of (image_of txn)))

-- so many cells of a column stand in C's room, from a position on: their numbers, and so many bytes of their texts
pub record HandsCells (txn : Transaction) (col from count : ℕ) (numbers : List ℤ) (texts : List ℕ) (bytes : ℕ) : Type 0 where
  pub within : count ≤ length (column_from txn col from)
  pub numbers_are : take count numbers ≡ numbers_of (take count (column_from txn col from))
  pub texts_are : take bytes texts ≡ texts_of (take count (column_from txn col from))
