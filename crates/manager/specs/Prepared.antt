-- What a commit has made before anything changes.
use Rattle.std.specs.Prelude.{◌≡◌, ◌≤◌, ◌<◌, ◌^◌, suc, true, false, Option, Some, None, option_map, length}
use Rattle.std.specs.List.{list_any}
use Rattle.model.specs.declared.write.CommitReply.{CommitReply}
use Rattle.model.specs.declared.write.CommitReply.TheVariants.{Committed, Conflict, TooOld, Full}
use Rattle.model.specs.Clashes.{conflicts}
use Rattle.model.specs.Effects.{Effects, AreOver, table_with}
use Rattle.delta.specs.Tree.{Tree}
use Rattle.layers.specs.Over.{tree_of}
use Rattle.txn.specs.Txn.{Transaction, effects_of}
use Rattle.txn.specs.Version.{Lower, LayeredVersion, numbered, table_version}
use Rattle.manager.specs.Managed.{Managed, commits_since, newest_table, newest_number, reply_due}
use Rattle.manager.specs.Layers.{AreWritten}
use Rattle.manager.specs.Kept.{AreFolded}

-- the version after a commit, its layers, and the commit's tree over the table that it found
pub record Granted : Type 0 where
  pub tree : Tree
  pub layers : Lower
  pub version : LayeredVersion

-- the reply to a commit, and what it installs
pub record Prepared : Type 0 where
  pub reply : CommitReply
  pub granted : Option Granted

-- the version that it installs
abbrev pub version_in : Prepared → Option LayeredVersion
version_in p = option_map (λ g. g.version) p.granted

-- the commit's tree over the table that it found
abbrev pub tree_in : Prepared → Option Tree
tree_in p = option_map (λ g. g.tree) p.granted

-- what is left where it was taken: its reply
abbrev pub spent : Prepared → Prepared
spent p = record { reply = p.reply; granted = None }

-- whether a reply leaves the table
abbrev pub LeavesTable : CommitReply → Type 0
LeavesTable (Committed n) = ⊥
LeavesTable (Conflict n) = Unit {0}
LeavesTable (TooOld n) = Unit {0}
LeavesTable (Full n) = Unit {0}

-- the tree of a transaction made consecutive to the commits since it began, or none where it conflicts with one
abbrev pub IsPassed : Managed → Transaction → Option Tree → Type 0
IsPassed m txn None = list_any (conflicts m.start.rule (effects_of txn)) (commits_since m txn) ≡ true
IsPassed m txn (Some tree) =
    (list_any (conflicts m.start.rule (effects_of txn)) (commits_since m txn) ≡ false)
    × (tree ≡ tree_of m.schema (newest_table m) (effects_of txn))

-- the tree is that of effects that fit the newest table and leave no more rows than the limit
pub record MayGrant (m : Managed) (tree : Tree) : Type 0 where
  pub x : Effects
  pub over : AreOver m.schema (newest_table m) x
  pub tree_is : tree ≡ tree_of m.schema (newest_table m) x
  pub room : length (table_with (newest_table m) x) ≤ m.start.limit

-- the version after a commit of effects, its layers, and the effects' tree over the table that the commit found
pub record IsGrant (m : Managed) (x : Effects) (granted : Granted) : Type 0 where
  pub tree_is : granted.tree ≡ tree_of m.schema (newest_table m) x
  pub folded : AreFolded granted.layers
  pub written : AreWritten m.layers x granted.layers
  pub version_is :
      table_version granted.version
      ≡ record { schema = m.schema; table = table_with (newest_table m) x; number = suc (newest_number m) }
  pub layers_are : granted.version ≡ numbered granted.layers (suc (newest_number m))

-- what is installed with a reply: the next version where the transaction is committed, or nothing
abbrev pub IsInstalled : Managed → Transaction → CommitReply → Option Granted → Type 0
IsInstalled m txn reply None = LeavesTable reply
IsInstalled m txn reply (Some granted) = (reply ≡ Committed (suc (newest_number m))) × IsGrant m (effects_of txn) granted

-- what the commit of the transaction does
pub record IsPrepared (m : Managed) (txn : Transaction) (p : Prepared) : Type 0 where
  pub few : m.made < 2 ^ 62
  pub due : p.reply ≡ reply_due m txn
  pub installed : IsInstalled m txn p.reply p.granted
