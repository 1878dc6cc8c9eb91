-- Clients between two calls: each open transaction is one of the manager.
use Rattle.std.specs.Prelude.{◌≡◌, ℕ, IfSome, Option, List, length}
use Rattle.std.specs.List.{All}
use Rattle.values.specs.Shape.{Columns}
use Rattle.txn.specs.Txn.{Transaction}
use Rattle.manager.specs.Managed.{Managed, IsOwn}

pub record IsReady (schema : Columns) (count : ℕ) (manager : Managed) (transactions : List (Option Transaction)) : Type 0 where
  pub schema_is : manager.schema ≡ schema
  pub many : length transactions ≡ count
  pub own : All (λ own. IfSome own (IsOwn manager)) transactions
