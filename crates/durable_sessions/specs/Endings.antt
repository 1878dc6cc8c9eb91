-- What is left of a closed opening and of its journal.
use Rattle.std.specs.Prelude.{ℕ, ◌≤◌, List, All}
use Rattle.logging.specs.Device.{Device}
use Rattle.manager.specs.Managed.{Managed}
use Rattle.publishing.specs.declared.item.Item.{Item}
use Rattle.publishing.specs.Lists.{number_in}
use Rattle.shared.specs.Endings.{IsClosedWith}
use Rattle.shared.specs.Sessions.{Seat}
use Rattle.durable_sessions.specs.Laws.{JournalHolds}
use Rattle.durable_sessions.specs.Payloads.{IsLoggable}

-- the manager is that of the published list, and each session saw a prefix of this list; the device holds the commits of a prefix, and
-- all that a session's reader has loaded as durable are written
pub record IsClosedDurably (o : Managed) (table : ℕ) (front : List ℕ) (seed : ℕ) (seats : List Seat) (safe : List ℕ) (m : Managed) (device : Device) :
    Type 0 where
  pub written : List Item
  pub tried : List Item
  pub lasts : JournalHolds o table front seed device written tried
  pub spelt : IsLoggable o table tried
  pub answered : All (λ n. n ≤ number_in o written) safe
  pub closed : IsClosedWith o seats m tried
