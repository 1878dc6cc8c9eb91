-- What a manager holds after a cut.
use Rattle.std.proofs.Common.{◌≡◌, ℕ, ◌+◌, ◌-◌, ◌≤◌, List, [], ◌++◌, length, take, drop, sym, ap, ◌∙◌, subst, arith, take-append-drop}
use Rattle.std.specs.Prelude.{min}
use Rattle.std.proofs.lemmas.List.{drop-drop, length-drop}
use Rattle.values.specs.Shape.{Columns}
use Rattle.model.specs.Table.{Table, IsTable}
use Rattle.model.specs.History.{table_with_all, table_after}
use Rattle.model.proofs.CallerLemmas.{leaves}
use Rattle.delta.specs.Tree.{Tree}
use Rattle.txn.specs.Txn.{Transaction}
use Rattle.txn.specs.Version.{Lower, LayeredVersion, numbered}
use Rattle.manager.specs.Managed.{Managed, newest_table, newest_number, commits_in, cut_of, IsOwn}
use Rattle.manager.specs.Kept.{HoldsNewest, commit_trees, kept_trees}
use Rattle.manager.proofs.HistoryLemmas.{newest_within, newest_whole, number_fits, take_nothing}
use Rattle.manager.proofs.KeptLemmas.{kept_count, length-commit_trees}
use Rattle.manager.proofs.GrantLemmas.{schema_is, folded_table, written_is, none_kept}

module _ (m : Managed) (l : Lower) (newest : LayeredVersion) (kept : List Tree) (h : HoldsNewest m l newest kept) where
  pub newest_IsTable : IsTable m.schema (newest_table m)
  newest_IsTable =
      let middle = h.folded.lower.middle in
      subst (λ (e : Columns × Table). IsTable e.0 e.1) (λ i. (schema_is m l newest kept h i, written_is m l newest kept h i))
      (leaves l.stable.schema (folded_table m l newest kept h) middle.effects middle.over)

  same_number : newest_number m ≡ newest_number m + 0
  same_number = omega arith

  -- the same version, and no trees
  pub cut_holds : HoldsNewest (cut_of m) l newest []
  cut_holds =
      let fits = number_fits m h.lawful in
      record {
        lawful = record {
          lawful = h.lawful.lawful;
          table = newest_IsTable;
          within = newest_within m h.lawful;
          limited = h.lawful.limited;
          legal = tt;
          counted = omega (arith, fits);
          few = h.lawful.few;
          based = omega arith;
          reached = omega arith;
        };
        folded = h.folded;
        newest_is = h.newest_is ∙ (λ i. record { schema = m.schema; table = newest_table m; number = same_number i });
        layers_are = h.layers_are ∙ ap (numbered l) same_number;
        kept_are = none_kept m.start.recent (newest_number m - newest_number m);
      }

-- a transaction of the manager is one of it after a cut
pub IsOwn-cut_of : (m : Managed) (txn : Transaction) → IsOwn m txn → IsOwn (cut_of m) txn
IsOwn-cut_of m txn own =
    let begun = own.begun in
    record {
      schema = own.schema;
      limit = own.limit;
      begun = omega (arith, begun);
      snapshot = λ above.
          let at : txn.begin ≡ newest_number m = omega (arith, begun, above) in
          let from : m.start.base ≤ txn.begin = omega (arith, at) in
          own.snapshot from
          ∙ ap (table_after m.start (commits_in m)) at
          ∙ newest_whole m
          ∙ sym (ap (table_with_all (newest_table m)) (take_nothing (txn.begin - newest_number m)));
    }

-- ---- trees that are let go, and no record

-- of so many trees the last ones are kept, before and after: how many stand before them
before_kept : (d e more fewer recent : ℕ) → d + more ≡ e + fewer → fewer ≤ more →
    d + ((more - recent) + ((more - (more - recent)) - min (more - (more - recent)) fewer)) ≡ e + (fewer - recent)
before_kept d e more fewer recent same le = omega (arith, same, le)

module _ (m : Managed) (l : Lower) (newest : LayeredVersion) (kept : List Tree) (h : HoldsNewest m l newest kept) (floor count : ℕ)
    (above : m.floor ≤ floor) (reached : floor ≤ newest_number m)
    (count_is : count ≡ length kept - min (length kept) (newest_number m - floor)) where
  many_above : (at : ℕ) → m.start.base ≤ at → length (commit_trees m.schema m.start.table (commits_in m)) ≡ length (commits_in m) →
      length (drop (at - m.start.base) (commit_trees m.schema m.start.table (commits_in m)))
      ≡ length (commit_trees m.schema m.start.table (commits_in m)) - (at - m.start.base) →
      length (drop (at - m.start.base) (commit_trees m.schema m.start.table (commits_in m))) ≡ newest_number m - at
  many_above at from all some = omega (arith, from, all, some)

  -- the trees of the commits above the floor are left
  pub kept_above : drop count kept ≡ kept_trees (record m { floor = floor })
  kept_above =
      let trees = commit_trees m.schema m.start.table (commits_in m) in
      let old = drop (m.floor - m.start.base) trees in
      let left = drop (floor - m.start.base) trees in
      let based = h.lawful.based in
      let recent = m.start.recent in
      let some = kept_count m l newest kept h in
      let all = length-commit_trees m.schema m.start.table (commits_in m) in
      let many = length-drop (m.floor - m.start.base) trees in
      let few = length-drop (floor - m.start.base) trees in
      let olds : length old ≡ newest_number m - m.floor = many_above m.floor based all many in
      let lefts : length left ≡ newest_number m - floor = many_above floor (omega (arith, based, above)) all few in
      let same : (m.floor - m.start.base) + (newest_number m - m.floor) ≡ (floor - m.start.base) + (newest_number m - floor) =
      omega (arith, based, above, reached) in
      let le : newest_number m - floor ≤ newest_number m - m.floor = omega (arith, above) in
      let at : (m.floor - m.start.base) + ((length old - recent) + count) ≡ (floor - m.start.base) + (length left - recent) =
      (λ i. (m.floor - m.start.base) + ((olds i - recent) + (count_is i)))
      ∙ (λ i. (m.floor - m.start.base) + (((newest_number m - m.floor) - recent) + (some i - min (some i) (newest_number m - floor))))
      ∙ before_kept (m.floor - m.start.base) (floor - m.start.base) (newest_number m - m.floor) (newest_number m - floor) recent same le
      ∙ (λ i. (floor - m.start.base) + (sym lefts i - recent)) in
      ap (drop count) h.kept_are
      ∙ drop-drop count (length old - m.start.recent) old
      ∙ drop-drop ((length old - m.start.recent) + count) (m.floor - m.start.base) trees
      ∙ ap (λ n. drop n trees) at
      ∙ sym (drop-drop (length left - m.start.recent) (floor - m.start.base) trees)

  -- and the manager holds them
  pub cut_to_holds : HoldsNewest (record m { floor = floor }) l newest (drop count kept)
  cut_to_holds =
      let based = h.lawful.based in
      record {
        lawful = record {
          lawful = h.lawful.lawful;
          table = h.lawful.table;
          within = h.lawful.within;
          limited = h.lawful.limited;
          legal = h.lawful.legal;
          counted = h.lawful.counted;
          few = h.lawful.few;
          based = omega (arith, based, above);
          reached = reached;
        };
        folded = h.folded;
        newest_is = h.newest_is;
        layers_are = h.layers_are;
        kept_are = kept_above;
      }

  -- those that are let go stood before them
  pub cut_off : take count kept ++ kept_trees (record m { floor = floor }) ≡ kept_trees m
  cut_off = ap (λ (ts : List Tree). take count kept ++ ts) (sym kept_above) ∙ take-append-drop count kept ∙ h.kept_are
