-- What commits and folds make of the layers of the newest version.
use Rattle.std.specs.Prelude.{◌≡◌}
use Rattle.model.specs.declared.write.CommitReply.{CommitReply}
use Rattle.model.specs.declared.write.CommitReply.TheVariants.{Committed, Conflict, TooOld, Full}
use Rattle.model.specs.Table.{Table}
use Rattle.model.specs.Effects.{Effects, table_with}
use Rattle.model.specs.Composition.{composed_effects}
use Rattle.layers.specs.Over.{tree_of}
use Rattle.stable.specs.Stable.{table_in}
use Rattle.txn.specs.Version.{Lower, AreLower, empty_tree}

-- the table under the Read-PDT
abbrev pub table_below : (l : Lower) → AreLower l → Table
table_below l h = table_with (table_in l.stable) h.lower.effects

-- more effects are in the Write-PDT, after those that it had
pub record AreWritten (old : Lower) (x : Effects) (new : Lower) : Type 0 where
  pub lawful : AreLower old
  pub stable : new.stable ≡ old.stable
  pub read : new.read ≡ old.read
  pub write : new.write ≡ tree_of old.stable.schema (table_below old lawful) (composed_effects lawful.middle.effects x)

-- both trees' effects are in the Read-PDT, and none in the Write-PDT
pub record AreMerged (old new : Lower) : Type 0 where
  pub lawful : AreLower old
  pub stable : new.stable ≡ old.stable
  pub read : new.read ≡ tree_of old.stable.schema (table_in old.stable) (composed_effects lawful.lower.effects lawful.middle.effects)
  pub write : new.write ≡ empty_tree old.stable.schema.key_cols

-- the layers after the reply to a commit of these effects
abbrev pub AreLayersAfter : Lower → Effects → CommitReply → Lower → Type 0
AreLayersAfter old x (Committed n) new = AreWritten old x new
AreLayersAfter old x (Conflict n) new = new ≡ old
AreLayersAfter old x (TooOld n) new = new ≡ old
AreLayersAfter old x (Full n) new = new ≡ old
