-- A version that is kept.
use Rattle.std.specs.Prelude.{ℕ, []}
use Rattle.txn.specs.Txn.{Transaction, transaction_at}
use Rattle.txn.specs.Version.{LayeredVersion, numbered, table_version}
use Rattle.manager.specs.Managed.{Managed, newest_number}

pub record Pinned : Type 0 where
  pub version : LayeredVersion
  -- how many rows a table of its manager may have
  pub limit : ℕ

abbrev pub pinned : LayeredVersion → ℕ → Pinned
pinned version limit = record { version = version; limit = limit }

-- the newest version of a manager
abbrev pub pin_of : Managed → Pinned
pin_of m = pinned (numbered m.layers (newest_number m)) m.start.limit

-- a transaction that has just begun over a version that is kept
abbrev pub begun_over : Pinned → ℕ → Transaction
begun_over p client = transaction_at (table_version p.version) p.limit client []
