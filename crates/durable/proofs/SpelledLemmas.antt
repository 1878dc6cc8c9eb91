-- What is spelt of a reply to a transaction.
use Rattle.std.proofs.Common.{◌≡◌, ℕ, List, Some, sym, ap}
use Rattle.model.specs.declared.write.CommitReply.{CommitReply}
use Rattle.model.specs.declared.write.CommitReply.TheVariants.{Committed, Conflict, TooOld, Full}
use Rattle.txn.specs.Txn.{Transaction}
use Rattle.manager.specs.Managed.{Managed}
use Rattle.durable.specs.Spelled.{IsReadBack, IsSpelled, payload_of}

module _ (m : Managed) (table : ℕ) (txn : Transaction) where
  -- with a number it is a commit, whose payload is spelt, and is read again
  pub spelled_number : (reply : CommitReply) (n : ℕ) (bytes : List ℕ) → IsSpelled m table txn reply (Some n) bytes
      → (reply ≡ Committed n) × (bytes ≡ payload_of table m txn) × IsReadBack m table txn (Committed n)
  spelled_number (Committed k) n bytes h = let same : n ≡ k = cc (h.0) in (ap Committed (sym same), h.1, h.2)
  spelled_number (Conflict k) n bytes h = absurd (cc (h))
  spelled_number (TooOld k) n bytes h = absurd (cc (h))
  spelled_number (Full k) n bytes h = absurd (cc (h))
