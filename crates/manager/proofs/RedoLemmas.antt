-- What a manager holds after a commit is made again.
use Rattle.std.proofs.Common.{◌≡◌, suc, ◌+◌, ◌-◌, ◌<◌, ◌≤◌, ◌^◌, [], length, ap, ◌∙◌, arith}
use Rattle.model.specs.Effects.{Effects, AreOver, table_with}
use Rattle.model.proofs.CallerLemmas.{leaves}
use Rattle.delta.specs.Tree.{Tree}
use Rattle.merge.specs.Image.{IsLayer}
use Rattle.txn.specs.Version.{numbered}
use Rattle.manager.specs.Managed.{Managed, newest_number, newest_table, IsManaged}
use Rattle.manager.specs.Kept.{HoldsNewest}
use Rattle.manager.specs.Prepared.{Granted, IsGrant, MayGrant}
use Rattle.manager.specs.Redone.{restarted}
use Rattle.manager.proofs.HistoryLemmas.{number_fits}
use Rattle.manager.proofs.GrantLemmas.{none_kept}

-- the tree of a layer over the newest table, where the limit leaves room
abbrev pub granted_layer : (m : Managed) (tree : Tree) (w : IsLayer m.schema (newest_table m) tree)
    → length (table_with (newest_table m) w.effects) ≤ m.start.limit → MayGrant m tree
granted_layer m tree w room = record {
  x = w.effects;
  over = w.over;
  tree_is = λ i. record { key_cols = w.key_cols i; entries = w.entries i };
  room = room;
}

pub redone_holds : (m : Managed) → IsManaged m → m.made < 2 ^ 62 → (x : Effects) → AreOver m.schema (newest_table m) x
    → length (table_with (newest_table m) x) ≤ m.start.limit → (grant : Granted) → IsGrant m x grant
    → HoldsNewest (restarted m (table_with (newest_table m) x) grant.layers) grant.layers grant.version []
redone_holds m h few x over room grant is =
    let fits = number_fits m h in
    let none : suc (newest_number m) ≡ suc (newest_number m) + 0 = omega arith in
    record {
      lawful = record {
        lawful = h.lawful;
        table = leaves m.schema (newest_table m) x over;
        within = room;
        limited = h.limited;
        legal = tt;
        counted = omega (arith, fits);
        few = omega (arith, few);
        based = omega arith;
        reached = omega arith;
      };
      folded = is.folded;
      newest_is = is.version_is ∙ (λ i. record { schema = m.schema; table = table_with (newest_table m) x; number = none i });
      layers_are = is.layers_are ∙ ap (numbered grant.layers) none;
      kept_are = none_kept m.start.recent (suc (newest_number m) - suc (newest_number m));
    }
