-- A commit that is made again: its effects are in the newest table, and the history starts after it.
use Rattle.std.specs.Prelude.{◌≡◌, suc, []}
use Rattle.model.specs.Table.{Table}
use Rattle.model.specs.Effects.{Effects, table_with}
use Rattle.txn.specs.Version.{Lower}
use Rattle.manager.specs.History.{start_at}
use Rattle.manager.specs.Layers.{AreWritten}
use Rattle.manager.specs.Managed.{Managed, newest_number, newest_table}

-- the manager whose history starts at the next number over another table, under these layers
abbrev pub restarted : Managed → Table → Lower → Managed
restarted m t layers = record m {
  start = start_at (record { schema = m.schema; table = t; number = suc (newest_number m) }) m.start.limit m.start.recent m.start.rule;
  history = [];
  floor = suc (newest_number m);
  made = suc m.made;
  layers = layers;
}

-- a commit of these effects is made again
pub record IsRedone (old : Managed) (x : Effects) (new : Managed) : Type 0 where
  pub kept : new ≡ restarted old (table_with (newest_table old) x) new.layers
  pub layers : AreWritten old.layers x new.layers
