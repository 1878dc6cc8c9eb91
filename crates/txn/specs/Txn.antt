-- What an open transaction stands for: its snapshot, and its writes with their replies.
use Rattle.std.specs.Prelude.{◌≡◌, ℕ, ◌≤◌, Bool, ◌||◌, cond, IsTrue, is_some, List, [], ◌∷◌, ◌++◌, map, length}
use Rattle.std.specs.List.{list_all}
use Rattle.values.specs.Orders.{key_cmp}
use Rattle.values.specs.Shape.{Columns, IsSchema}
use Rattle.values.specs.declared.row.Key.{Key}
use Rattle.values.specs.declared.limits.TheConstants.{MAX_ROWS}
use Rattle.model.specs.declared.write.Write.{Write}
use Rattle.model.specs.declared.write.WriteReply.{WriteReply}
use Rattle.model.specs.declared.entry.Entry.{Entry}
use Rattle.model.specs.Maps.{find}
use Rattle.model.specs.Table.{Table, row_at, rank, IsTable}
use Rattle.model.specs.Effects.{Effects, table_with}
use Rattle.model.specs.Writes.{write_fits_schema, is_done, reply_to, replies_to, effects_after_all}
use Rattle.model.specs.Entries.{canonical_entries}
use Rattle.delta.specs.Tree.{Tree}
use Rattle.delta.specs.Laws.{row_inserted}
use Rattle.txn.specs.Version.{TableVersion}

pub record Transaction : Type 0 where
  pub schema : Columns
  -- how many rows a table may have
  pub limit : ℕ
  pub client : ℕ
  -- how many commits its snapshot has
  pub begin : ℕ
  pub table : Table
  pub writes : List (Write × WriteReply)

-- the transaction of a client over a version
abbrev pub transaction_at : TableVersion → ℕ → ℕ → List (Write × WriteReply) → Transaction
transaction_at v limit client writes =
    record { schema = v.schema; limit = limit; client = client; begin = v.number; table = v.table; writes = writes }

-- what it asked for, and what it was answered
abbrev pub asked_of : Transaction → List Write
asked_of txn = map (λ w. w.0) txn.writes

abbrev pub answers_of : Transaction → List WriteReply
answers_of txn = map (λ w. w.1) txn.writes

-- what its writes do to its snapshot
abbrev pub effects_of : Transaction → Effects
effects_of txn = effects_after_all txn.schema.key_cols txn.limit txn.table [] (asked_of txn)

-- the snapshot with its own writes
abbrev pub image_of : Transaction → Table
image_of txn = table_with txn.table (effects_of txn)

-- the entries of its effects over its snapshot
abbrev pub entries_of : Transaction → List Entry
entries_of txn = canonical_entries txn.table (effects_of txn)

-- what each transaction keeps: its writes fit the schema, and each has the reply that is due
pub record IsTransaction (txn : Transaction) : Type 0 where
  pub lawful : IsSchema txn.schema
  pub table : IsTable txn.schema txn.table
  pub within : length txn.table ≤ txn.limit
  pub limited : txn.limit ≤ MAX_ROWS
  pub fitting : IsTrue (list_all (write_fits_schema txn.schema) (asked_of txn))
  pub answered : answers_of txn ≡ replies_to txn.schema.key_cols txn.limit txn.table [] (asked_of txn)

-- the tree of a transaction
abbrev pub tree_of : Transaction → Tree
tree_of txn = record { key_cols = txn.schema.key_cols; entries = entries_of txn }

-- ---- one write

-- with one write more
abbrev pub with_write : Transaction → Write → WriteReply → Transaction
with_write txn write reply = record txn { writes = txn.writes ++ (write, reply) ∷ [] }

-- the reply that is due to a write
abbrev pub answer_to : Transaction → Write → WriteReply
answer_to txn write = reply_to txn.schema.key_cols txn.limit txn.table (effects_of txn) write

-- a write is answered: it fits the schema, gets the reply that is due, and joins those before it
pub record IsAnswered (old : Transaction) (write : Write) (reply : WriteReply) (new : Transaction) : Type 0 where
  pub fits : IsTrue (write_fits_schema old.schema write)
  pub due : reply ≡ answer_to old write
  pub kept : new ≡ with_write old write reply

-- a write is answered: it fits the schema, and gets the reply that is due. It joins those before it where it is done, or where refusals
-- are recorded too
pub record IsMet (with_refusals : Bool) (old : Transaction) (write : Write) (reply : WriteReply) (new : Transaction) : Type 0 where
  pub fits : IsTrue (write_fits_schema old.schema write)
  pub due : reply ≡ answer_to old write
  pub kept : new ≡ cond (with_refusals || is_done reply) (with_write old write reply) old

-- what a transaction finds at a key: its place in the snapshot, whether its image has it, and whether it inserted its row
pub record IsFound (txn : Transaction) (key : Key) (sid : ℕ) (there inserted : Bool) : Type 0 where
  pub sid_is : sid ≡ rank key txn.table
  pub there_is : there ≡ is_some (row_at (image_of txn) key)
  pub inserted_is : inserted ≡ is_some (row_inserted (find key_cmp key (effects_of txn)))
