-- What is logged of the commits of a published list.
use Rattle.std.specs.Prelude.{ℕ, List, [], ◌∷◌}
use Rattle.model.specs.Effects.{Effects, table_with}
use Rattle.model.specs.Entries.{canonical_entries}
use Rattle.model.specs.Laws.{AreCommits}
use Rattle.model.specs.Table.{Table}
use Rattle.manager.specs.Managed.{Managed}
use Rattle.publishing.specs.declared.item.Item.{Item}
use Rattle.publishing.specs.Commits.{all_effects}
use Rattle.publishing.specs.Lists.{all_commits}
use Rattle.replay.specs.Replayed.{AreSaid}
use Rattle.durable.specs.Durable.{payload_for}

-- the payloads of commits, each over the table that those before it leave
abbrev pub payloads_from : ℕ → Table → List Effects → List (List ℕ)
payloads_from table t [] = []
payloads_from table t (x ∷ commits) = payload_for table (canonical_entries t x) ∷ payloads_from table (table_with t x) commits

module _ (o : Managed) where
  -- what the commits of a list do, from the start of the manager's history on
  abbrev pub effects_in : List Item → List Effects
  effects_in list = all_effects (all_commits o list)

  -- and their payloads
  abbrev pub payloads_in : ℕ → List Item → List (List ℕ)
  payloads_in table list = payloads_from table o.start.table (effects_in list)

  -- the commits fit, one after the other, and their payloads read as their entries
  pub record IsLoggable (table : ℕ) (list : List Item) : Type 0 where
    pub fit : AreCommits o.schema o.start.table (effects_in list)
    pub said : AreSaid o.schema table o.start.table (effects_in list) (payloads_in table list)
