-- What is recovered, from what is read of the files and what replay makes of it.
use Rattle.std.proofs.Common.{◌≡◌, ℕ, List}
use Rattle.values.specs.Shape.{Columns}
use Rattle.codec.specs.Reading.{decoded}
use Rattle.devices.specs.Stored.{Image}
use Rattle.journal.specs.Header.{seed_of}
use Rattle.manager.specs.Managed.{Managed, newest_table}
use Rattle.model.specs.Effects.{Effects}
use Rattle.model.specs.Table.{Table, rows_of}
use Rattle.replay.specs.Recovered.{AreBehind, HasPrefix, IsCrashed, IsImage, MayEnd, logged_since, payloads_since}
use Rattle.replay.specs.Replayed.{AreRead, rows_after}
use Rattle.journaled.specs.Recovery.{Files, IsRead, IsRecovered, Pair, commits_read}

-- the rows of the manager that replay recovers of the image are recovered of the files
pub recovered : (schema : Columns) (files : Files) (pair : Pair) (image : Image) (number : ℕ) (m : Managed)
    → IsRead schema files pair image number
    → rows_of (newest_table m)
    ≡ rows_after image.table.rows
    (logged_since (decoded image.table.schema 0) (seed_of pair.commits.salt) pair.commits.base number pair.frames)
    → MayEnd (commits_read pair).ending → AreBehind pair.commits.base number (commits_read pair)
    → AreRead image.table.schema 0 (payloads_since (seed_of pair.commits.salt) pair.commits.base number pair.frames)
    → ((t : Table) (commits : List Effects) (safe : ℕ)
    → IsCrashed (decoded image.table.schema 0) image.table.schema (seed_of pair.commits.salt) pair.commits.base t commits safe pair.frames
    → IsImage pair.commits.base t commits safe number image.table.rows → HasPrefix pair.commits.base t commits safe m)
    → IsRecovered schema files (rows_of (newest_table m))
recovered schema files pair image number m read rows ending reached payloads prefix =
    record {
      pair = pair;
      image = image;
      number = number;
      read = read;
      rows_are = rows;
      ending = ending;
      reached = reached;
      payloads = payloads;
      prefix = λ t commits safe crash is.
          let p = prefix t commits safe crash is in
          record { whole = p.whole; enough = p.enough; inside = p.inside; rows_are = p.rows_are };
    }
