-- A write that C asked for.
use Rattle.std.specs.Prelude.{◌≡◌, ℕ, ℤ, false, List, take, slice_get, Some}
use Rattle.values.specs.declared.value.Value.{Value}
use Rattle.values.specs.declared.value.ColumnType.{ColumnType}
use Rattle.model.specs.declared.write.Write.{Write}
use Rattle.model.specs.declared.write.Write.TheVariants.{Insert, Delete, Set}
use Rattle.model.specs.declared.write.WriteReply.{WriteReply}
use Rattle.txn.specs.Txn.{Transaction, IsMet}
use Rattle.pdt_c.specs.Cells.{AreGiven, IsGiven}
use Rattle.pdt_c.specs.Told.{code_of_reply}

-- a write was answered, and C is told the reply that was due. A refused one leaves nothing
pub record IsTold (old : Transaction) (write : Write) (code : ℕ) (new : Transaction) : Type 0 where
  pub reply : WriteReply
  pub answered : IsMet false old write reply new
  pub code_is : code ≡ code_of_reply reply

-- the types of the key's columns
abbrev pub key_types : Transaction → List ColumnType
key_types txn = take txn.schema.key_cols txn.schema.types

-- the row that C gave was inserted, or was answered why not
pub record Inserts (numbers : List ℤ) (texts : List ℕ) (old : Transaction) (code : ℕ) (new : Transaction) : Type 0 where
  pub row : List Value
  pub given : AreGiven old.schema.types numbers texts row
  pub told : IsTold old (Insert row) code new

-- the row of the key that C gave was deleted, or was answered why not
pub record Deletes (numbers : List ℤ) (texts : List ℕ) (old : Transaction) (code : ℕ) (new : Transaction) : Type 0 where
  pub key : List Value
  pub given : AreGiven (key_types old) numbers texts key
  pub told : IsTold old (Delete key) code new

-- the cell that C gave was set in the row of a key, or was answered why not
pub record SetsCell (key : List Value) (col : ℕ) (number : ℤ) (text : List ℕ)
    (old : Transaction) (code : ℕ) (new : Transaction) : Type 0 where
  pub type : ColumnType
  pub type_is : slice_get old.schema.types col ≡ Some type
  pub cell : Value
  pub cell_given : IsGiven type number text cell
  pub told : IsTold old (Set key col cell) code new

-- in the row of the key that C gave
pub record Sets (numbers : List ℤ) (texts : List ℕ) (col : ℕ) (number : ℤ) (text : List ℕ)
    (old : Transaction) (code : ℕ) (new : Transaction) : Type 0 where
  pub key : List Value
  pub given : AreGiven (key_types old) numbers texts key
  pub cell : SetsCell key col number text old code new
