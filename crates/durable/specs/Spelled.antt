-- What is spelt of a transaction's commit.
use Rattle.std.specs.Prelude.{◌≡◌, ℕ, ◌<◌, ◌^◌, List, Option, Some, None, Ok, length}
use Rattle.codec.specs.Reading.{entries_in}
use Rattle.model.specs.declared.write.CommitReply.{CommitReply}
use Rattle.model.specs.declared.write.CommitReply.TheVariants.{Committed, Conflict, TooOld, Full}
use Rattle.model.specs.Entries.{canonical_entries}
use Rattle.txn.specs.Txn.{Transaction, effects_of}
use Rattle.manager.specs.Managed.{Managed, newest_table}
use Rattle.durable.specs.Durable.{payload_for}

-- the payload of a transaction's commit
abbrev pub payload_of : ℕ → Managed → Transaction → List ℕ
payload_of table m txn = payload_for table (canonical_entries (newest_table m) (effects_of txn))

-- it has a length that fits a frame, and reads as the entries
abbrev pub IsReadBack : Managed → ℕ → Transaction → CommitReply → Type 0
IsReadBack m table txn (Committed n) =
    (length (payload_of table m txn) < 2 ^ 32)
    × (entries_in m.schema table (payload_of table m txn) ≡ Ok (canonical_entries (newest_table m) (effects_of txn)))
IsReadBack m table txn (Conflict n) = Unit {0}
IsReadBack m table txn (TooOld n) = Unit {0}
IsReadBack m table txn (Full n) = Unit {0}

-- a commit that is granted is spelt, with its number; any other reply isn't
abbrev pub IsSpelled : Managed → ℕ → Transaction → CommitReply → Option ℕ → List ℕ → Type 0
IsSpelled m table txn (Committed n) number bytes =
    (number ≡ Some n) × (bytes ≡ payload_of table m txn) × IsReadBack m table txn (Committed n)
IsSpelled m table txn (Conflict n) number bytes = number ≡ None
IsSpelled m table txn (TooOld n) number bytes = number ≡ None
IsSpelled m table txn (Full n) number bytes = number ≡ None
