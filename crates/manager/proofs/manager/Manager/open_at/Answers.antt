use Rattle.std.proofs.Common.{◌≡◌, ◌≤◌, List, [], length, sym, ap, ◌∙◌, subst, arith}
use Rattle.circular_buffer.specs.Buffer.{Buffer}
use Rattle.manager.specs.History.{Recorded, recorded_at}
use Rattle.delta.specs.Tree.{Tree}
use Rattle.values.specs.Shape.{IsSchema}
use Rattle.stable.specs.Stable.{Stable, IsStable}
use Rattle.txn.specs.Version.{LayeredVersion, TableVersion, alone, numbered, table_version, version_at}
use Rattle.txn.proofs.CallerLemmas.{version_of-alone}
use Rattle.manager.specs.Managed.{managed_of}
use Rattle.manager.specs.Kept.{HoldsNewest}
use Rattle.manager.proofs.GrantLemmas.{limit_fits, opened_holds}
use Rattle.manager.proofs.manager.Manager.open_at.Goals.{After-new-3}
use Rattle.manager.proofs.manager.Manager.open_at.Goals as goal

-- the newest version is that of the table alone
version : (c : After-new-3) → c.in_ok-newest.newest ≡ numbered (alone c.args.table) c.args.number
version c = c.in_ok-newest.ensures.version ∙ ap (λ (t : Stable). numbered (alone t) c.args.number) c.in_ok-new.ensures.ok

-- and the history begins at it
history : (c : After-new-3)
    → c.new-3.result ≡ recorded_at (version_at c.args.table c.args.number) c.args.row_limit c.args.recent c.args.conflicts []
history c =
    c.new-3.ensures
    ∙ ap (λ (v : TableVersion). recorded_at v c.args.row_limit c.args.recent c.args.conflicts [])
    (ap table_version (version c) ∙ version_of-alone c.args.table c.args.number)

pub invariant_of-result : goal.invariant_of-result
invariant_of-result c =
    let s = c.args.table in
    let stable : c.in_ok-new.field-0.value ≡ s = c.in_ok-new.ensures.ok in
    let before = (goal.at.invariant_of-result c).After-new-3 in
    let version = version before in
    let history = history before in
    let within : length s.rows ≤ c.args.row_limit = omega (arith, c.len.ensures.count, c.if-len-row_limit.false) in
    let most = limit_fits c.args.recent c.args.row_limit (sym c.is_bad_limit.ensures ∙ c.if-is_bad_limit.false) in
    let holds =
    opened_holds c.args.number c.requires.few s c.args.row_limit c.args.recent c.args.conflicts (subst IsStable stable c.in_ok-newest.ensures.lawful)
    (subst (λ (t : Stable). IsSchema t.schema) stable c.in_ok-newest.ensures.typed) within most in
    let kept : c.in_ok-with_capacity.field-0.items ≡ [] = ap (λ (b : Buffer Tree). b.items) c.in_ok-with_capacity.ensures in
    let P = λ (e : Recorded × (LayeredVersion × List Tree)). HoldsNewest (managed_of e.0 c.args.number e.1.0.layers) e.1.0.layers e.1.0 e.1.1 in (
      subst P (sym (λ i. (history i, (version i, kept i)))) holds,
      ap (λ (b : Buffer Tree). b.capacity) c.in_ok-with_capacity.ensures ∙ sym (ap (λ (h : Recorded). h.start.recent) history),
    )

pub returns-clause-ok : goal.returns-clause-ok
returns-clause-ok c =
    let before = (goal.at.returns-clause-ok c).After-new-3 in
    let version = version before in
    let history = history before in
    λ i. managed_of (history i) c.args.number (version i).layers
