use Rattle.std.proofs.Common.{◌≡◌, ℕ, suc, ◌+◌, ◌≤◌, List, [], length, sym, ap, ◌∙◌, subst, arith}
use Rattle.circular_buffer.specs.Buffer.{Buffer}
use Rattle.model.specs.Effects.{table_with}
use Rattle.model.specs.Places.{insert_count, delete_count}
use Rattle.delta.specs.Tree.{Tree}
use Rattle.merge.specs.Image.{IsLayer}
use Rattle.txn.specs.Version.{Lower, LayeredVersion, TableVersion, numbered, table_version}
use Rattle.manager.specs.History.{Recorded, recorded_at}
use Rattle.manager.specs.Layers.{AreWritten}
use Rattle.manager.specs.Managed.{Managed, managed_of, history_of, newest_number, newest_table}
use Rattle.manager.specs.Kept.{HoldsNewest}
use Rattle.manager.specs.Prepared.{Granted, IsGrant}
use Rattle.manager.specs.Redone.{restarted}
use Rattle.manager.proofs.HistoryLemmas.{newest_within}
use Rattle.manager.proofs.GrantLemmas.{limited}
use Rattle.manager.proofs.KeptLemmas.{holds}
use Rattle.manager.proofs.OwnLemmas.{rows_counted}
use Rattle.manager.proofs.RedoLemmas.{granted_layer, redone_holds}
use Rattle.manager.proofs.manager.Manager.redo.Goals.{After-len, After-clear, Else-grown-row_limit}
use Rattle.manager.proofs.manager.Manager.redo.Goals as goal

-- the tree's entries count the rows that they leave
count : (m : Managed) (tree : Tree) (w : IsLayer m.schema (newest_table m) tree)
    → delete_count tree.entries + length (table_with (newest_table m) w.effects) ≡ insert_count tree.entries + length (newest_table m)
count m tree w = rows_counted m w.effects tree w.over (λ i. record { key_cols = w.key_cols i; entries = w.entries i })

-- the newest table has so many rows
rows : (c : After-len) → c.len.result ≡ length (newest_table c.args.self.now)
rows c =
    let h = holds c.self.view_is c.self.invariant.0 in
    c.len.ensures ∙ ap (λ (v : TableVersion). length v.table) h.newest_is

-- and the limit leaves room for those after the commit
room : (c : Else-grown-row_limit) (w : IsLayer c.args.self.now.schema (newest_table c.args.self.now) c.args.tree)
    → length (table_with (newest_table c.args.self.now) w.effects) ≤ c.args.self.now.start.limit
room c w =
    omega (
      arith,
      rows (goal.at.grant-requires c).After-len,
      count c.args.self.now c.args.tree w,
      c.row_limit.ensures,
      c.grown.ensures.sum,
      c.if-grown-row_limit.false,
    )

pub grown-requires-clause-few : goal.grown-requires-clause-few
grown-requires-clause-few c =
    let m = c.args.self.now in
    let h = holds c.self.view_is c.self.invariant.0 in
    let most = limited m (length (newest_table m)) h.lawful (newest_within m h.lawful) in
    omega (arith, rows (goal.at.grown-requires-clause-few c).After-len, most)

pub grown-requires-clause-enough : goal.grown-requires-clause-enough
grown-requires-clause-enough c =
    omega (arith, rows (goal.at.grown-requires-clause-enough c).After-len, count c.args.self.now c.args.tree c.requires.layer)

pub returns-then-grown-row_limit-clause-full : goal.returns-then-grown-row_limit-clause-full
returns-then-grown-row_limit-clause-full c = λ same w.
    omega (
      arith,
      rows (goal.at.returns-then-grown-row_limit-clause-full c).After-len,
      count c.args.self.now c.args.tree w,
      c.row_limit.ensures,
      c.grown.ensures.sum,
      c.if-grown-row_limit.true,
    )

pub grant-requires : goal.grant-requires
grant-requires c = granted_layer c.args.self.now c.args.tree c.requires.layer (room c c.requires.layer)

module _ (c : After-clear) (w : IsLayer c.args.self.now.schema (newest_table c.args.self.now) c.args.tree)
    (may : length (table_with (newest_table c.args.self.now) w.effects) ≤ c.args.self.now.start.limit) where
  abbrev granted : Granted
  granted = c.in_ok-grant.field-0

  is : IsGrant c.args.self.now w.effects granted
  is = c.in_ok-grant.ensures (granted_layer c.args.self.now c.args.tree w may)

  -- the version is the one that was made
  version : c.into_version-version.result ≡ numbered granted.layers (suc (newest_number c.args.self.now))
  version = c.into_version-version.ensures ∙ is.layers_are

  -- the history starts at it
  history : c.next.result ≡ history_of (restarted c.args.self.now (table_with (newest_table c.args.self.now) w.effects) granted.layers)
  history =
      let hist = ap history_of c.self.view_is in
      let at = ap table_version c.into_version-version.ensures ∙ is.version_is in
      c.next.ensures
      ∙ (λ j. record (recorded_at (at j) (hist j).start.limit (hist j).start.recent (hist j).start.rule []) { keeps = (hist j).keeps })

  made : c.self.inside.made + 1 ≡ suc c.args.self.now.made
  made = omega (arith, ap (λ (m : Managed). m.made) c.self.view_is)

pub invariant_of-self : goal.invariant_of-self
invariant_of-self c =
    let m = c.args.self.now in
    let before = (goal.at.invariant_of-self c).After-clear in
    let w = c.requires.layer in
    let may = room (goal.at.invariant_of-self c).Else-grown-row_limit w in
    let h = holds c.self.view_is c.self.invariant.0 in
    let g = granted before w may in
    let own = is before w may in
    let few = ap (λ (v : Managed). v.made) c.self.view_is in
    let after = redone_holds m h.lawful (omega (arith, few, c.if-self-ge-MAX_RECORDS.false)) w.effects w.over may g own in
    let kept : c.clear.new.self.items ≡ [] = ap (λ (b : Buffer Tree). b.items) c.clear.ensures in
    let capacity = ap (λ (b : Buffer Tree). b.capacity) c.clear.ensures ∙ c.self.invariant.1 in
    let layered : HoldsNewest (restarted m (table_with (newest_table m) w.effects) g.layers) g.layers (numbered g.layers (suc (newest_number m))) [] =
    subst (λ (v : LayeredVersion). HoldsNewest (restarted m (table_with (newest_table m) w.effects) g.layers) g.layers v []) own.layers_are after in
    let P = λ (e : Recorded × (ℕ × (LayeredVersion × List Tree))).
    HoldsNewest (managed_of e.0 e.1.0 e.1.1.0.layers) e.1.1.0.layers e.1.1.0 e.1.1.1 in (
      subst P (sym (λ j. (history before w may j, (made before w may j, (version before w may j, kept j))))) layered,
      capacity ∙ sym (ap (λ (r : Recorded). r.start.recent) c.next.ensures),
    )

pub returns-clause-ok : goal.returns-clause-ok
returns-clause-ok c = λ w.
    let m = c.args.self.now in
    let before = (goal.at.returns-clause-ok c).After-clear in
    let may = room (goal.at.returns-clause-ok c).Else-grown-row_limit w in
    let layers = c.into_version-version.result.layers in
    record {
      kept = λ j. managed_of (history before w may j) (made before w may j) layers;
      layers =
          subst (λ (l : Lower). AreWritten m.layers w.effects l) (sym (ap (λ (v : LayeredVersion). v.layers) (version before w may)))
          (is before w may).written;
    }
