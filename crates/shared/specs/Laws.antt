-- What the contracts of sessions give together.
use Rattle.std.specs.Prelude.{◌≡◌, ℕ, ◌+◌, ◌<◌, List, length}
use mathlib.Core.List.{IsPrefix}
use Rattle.model.specs.declared.write.CommitReply.TheVariants.{Committed}
use Rattle.txn.specs.Txn.{Transaction}
use Rattle.manager.specs.Managed.{Managed}
use Rattle.publishing.specs.declared.item.Item.{Item}
use Rattle.shared.specs.Endings.{IsClosed}
use Rattle.shared.specs.Sessions.{IsReplied, Seat, begun_in}

-- after a Committed a session begins at a greater number, whatever it has seen besides
abbrev pub BeginsAfterItsCommits : Type 0
BeginsAfterItsCommits = (o : Managed) (before after later : List Item) (txn : Transaction) (n : ℕ) (client : ℕ) →
    IsReplied o before after txn (Committed n) → IsPrefix after later → txn.begin < (begun_in o later client).begin

-- a manager that has all records still, those that it had at the opening and those that it made since, starts where it
-- started then, and its history begins with what it had
abbrev pub KeepsWhatItHad : Type 0
KeepsWhatItHad = (o : Managed) (seats : List Seat) (m : Managed) →
    IsClosed o seats m → length o.history + m.made ≡ length m.history + o.made → (m.start ≡ o.start) × IsPrefix o.history m.history
