-- What a commit lets go of.
use Rattle.std.specs.Prelude.{Option, Some, None, cond, nat_lt, List, ◌∷◌, ◌++◌, [], length, slice_get}
use Rattle.model.specs.History.{Record}
use Rattle.delta.specs.Tree.{Tree}
use Rattle.txn.specs.Txn.{Transaction, tree_of}
use Rattle.txn.specs.Version.{LayeredVersion, TableVersion, numbered}
use Rattle.manager.specs.Managed.{Managed, newest_number, record_of}
use Rattle.manager.specs.Kept.{kept_trees}
use Rattle.manager.specs.Prepared.{Granted, Prepared}

-- what others come into the places of
pub record Replaced : Type 0 where
  pub tree : Option Tree
  pub version : Option LayeredVersion

abbrev pub none : Replaced
none = record { tree = None; version = None }

-- the tree that goes where one more is kept: none while there is room, and else the oldest
abbrev pub tree_before : Managed → Tree → Option Tree
tree_before m tree = cond (nat_lt (length (kept_trees m)) m.start.recent) None (slice_get (kept_trees m ++ tree ∷ []) 0)

-- what a commit replaces: that tree and the newest version, or nothing where it isn't granted
abbrev pub replaced_by : Managed → Option Granted → Replaced
replaced_by m None = none
replaced_by m (Some granted) = record { tree = tree_before m granted.tree; version = Some (numbered m.layers (newest_number m)) }

-- the same with what the transaction has and the history doesn't keep
pub record Released : Type 0 where
  pub entry : List Record
  pub begun : TableVersion
  pub own : Tree
  pub replaced : Replaced

-- the version that a transaction began over
abbrev pub begun_of : Transaction → TableVersion
begun_of txn = record { schema = txn.schema; table = txn.table; number = txn.begin }

abbrev pub released_by : Managed → Transaction → Prepared → Released
released_by m txn p = record {
  entry = cond m.keeps [] (record_of txn p.reply ∷ []);
  begun = begun_of txn;
  own = tree_of txn;
  replaced = replaced_by m p.granted;
}
