use Rattle.std.proofs.Common.{◌≡◌, List, map, take}
use Rattle.codec.specs.Reading.{decoded}
use Rattle.model.specs.Effects.{Effects}
use Rattle.model.specs.History.{table_with_all}
use Rattle.model.specs.Laws.{AreCommits}
use Rattle.model.specs.Table.{rows_of}
use Rattle.manager.specs.Managed.{newest_table}
use Rattle.replay.specs.Replayed.{AreRead, AreSaid, IsReplayed, rows_after}
use Rattle.replay.proofs.replaying.replay.Given as goal

-- the frames so far are read and replayed; where they say commits, the table is that after these
abbrev pub invariant-loop-frame : goal.invariant-loop-frame
invariant-loop-frame l =
    IsReplayed l.fn.manager
    (rows_after (rows_of (newest_table l.fn.manager))
    (map (λ f. decoded l.fn.manager.schema l.table f.payload.now) (take l.frame-index l.frames))) l.frame-index l.manager
    × ((commits : List Effects) → AreCommits l.fn.manager.schema (newest_table l.fn.manager) commits
    → AreSaid l.fn.manager.schema l.table (newest_table l.fn.manager) commits (map (λ f. f.payload.now) l.frames)
    → newest_table l.manager ≡ table_with_all (newest_table l.fn.manager) (take l.frame-index commits))
    × AreRead l.fn.manager.schema l.table (map (λ f. f.payload.now) (take l.frame-index l.frames))
