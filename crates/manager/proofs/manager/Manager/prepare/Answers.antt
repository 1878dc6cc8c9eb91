use Rattle.std.proofs.Common.{None, Some, ◌≡◌, suc, ◌+◌, ◌<◌, ◌≤◌, false, length, sym, ap, ◌∙◌, subst, arith}
use Rattle.model.specs.declared.write.CommitReply.TheVariants as reply
use Rattle.model.specs.Effects.{AreOver, table_with}
use Rattle.model.specs.Places.{insert_count, delete_count}
use Rattle.txn.specs.Txn.{effects_of}
use Rattle.txn.specs.Version.{LayeredVersion, TableVersion}
use Rattle.manager.specs.Managed.{Managed, newest_table, newest_number, is_too_old}
use Rattle.manager.specs.Prepared.{IsPassed, IsPrepared}
use Rattle.manager.proofs.HistoryLemmas.{newest_within, over_newest}
use Rattle.manager.proofs.GrantLemmas.{limited}
use Rattle.manager.proofs.KeptLemmas.{holds}
use Rattle.manager.proofs.OwnLemmas.{full_due, committed_due, rows_counted}
use Rattle.manager.proofs.manager.Manager.prepare.Goals.{After-len, Else-grown-row_limit, In-Some}
use Rattle.manager.proofs.manager.Manager.prepare.Goals as goal

-- the transaction doesn't come too late
recent : (c : In-Some) → is_too_old c.args.self.now c.args.txn.now ≡ false
recent c = sym c.is_too_old.ensures.old ∙ c.if-is_too_old.false

-- what passed the commits since its begin is its tree over the newest table
passed : (c : In-Some) → IsPassed c.args.self.now c.args.txn.now (Some c.in-Some.tree)
passed c = subst (IsPassed c.args.self.now c.args.txn.now) c.in-Some.is c.in_ok-tree.ensures

-- its effects fit the newest table
over : (c : In-Some) → AreOver c.args.self.now.schema (newest_table c.args.self.now) (effects_of c.args.txn.now)
over c =
    let h = holds c.self.view_is c.self.invariant.0 in
    over_newest c.args.self.now c.args.txn.now c.requires.own (recent c) h.lawful c.is_too_old.ensures.lawful (passed c).0

-- the tree's entries count the rows that they leave
count : (c : In-Some) →
    let t = newest_table c.args.self.now in
    delete_count c.in-Some.tree.entries + length (table_with t (effects_of c.args.txn.now))
    ≡ insert_count c.in-Some.tree.entries + length t
count c = rows_counted c.args.self.now (effects_of c.args.txn.now) c.in-Some.tree (over c) (passed c).1

-- the newest table has so many rows
rows : (c : After-len) → c.len.result ≡ length (newest_table c.args.self.now)
rows c =
    let h = holds c.self.view_is c.self.invariant.0 in
    c.len.ensures ∙ ap (λ (v : TableVersion). length v.table) h.newest_is

-- and the limit leaves room for those after the commit
room : (c : Else-grown-row_limit)
    → length (table_with (newest_table c.args.self.now) (effects_of c.args.txn.now)) ≤ c.args.self.now.start.limit
room c =
    let to = goal.at.grant-requires c in
    omega (arith, rows to.After-len, count to.In-Some, c.row_limit.ensures, c.grown.ensures.sum, c.if-grown-row_limit.false)

pub grown-requires-clause-few : goal.grown-requires-clause-few
grown-requires-clause-few c =
    let m = c.args.self.now in
    let h = holds c.self.view_is c.self.invariant.0 in
    let most = limited m (length (newest_table m)) h.lawful (newest_within m h.lawful) in
    omega (arith, rows (goal.at.grown-requires-clause-few c).After-len, most)

pub grown-requires-clause-enough : goal.grown-requires-clause-enough
grown-requires-clause-enough c =
    let to = goal.at.grown-requires-clause-enough c in
    omega (arith, rows to.After-len, count to.In-Some)

pub returns-then-grown-row_limit-clause-prepared : goal.returns-then-grown-row_limit-clause-prepared
returns-then-grown-row_limit-clause-prepared c =
    let m = c.args.self.now in
    let txn = c.args.txn.now in
    let some = (goal.at.returns-then-grown-row_limit-clause-prepared c).In-Some in
    let rows = rows (goal.at.returns-then-grown-row_limit-clause-prepared c).After-len in
    let h = holds c.self.view_is c.self.invariant.0 in
    let past : m.start.limit < length (table_with (newest_table m) (effects_of txn)) =
    omega (arith, rows, c.row_limit.ensures, count some, c.grown.ensures.sum, c.if-grown-row_limit.true) in
    let number : c.number-count.result ≡ newest_number m = c.number-count.ensures ∙ ap (λ (v : TableVersion). v.number) h.newest_is in
    let made = ap (λ (v : Managed). v.made) c.self.view_is in
    let told : IsPrepared m txn (record { reply = reply.Full c.number-count.result; granted = None }) = record {
      few = omega (arith, made, c.if-self-ge-MAX_RECORDS.false);
      due = ap reply.Full number ∙ full_due m txn (recent some) (passed some).0 past;
      installed = tt;
    } in
    subst (IsPrepared m txn) (sym c.refused-then-grown-row_limit.ensures) told

pub grant-requires : goal.grant-requires
grant-requires c =
    let some = (goal.at.grant-requires c).In-Some in
    record { x = effects_of c.args.txn.now; over = over some; tree_is = (passed some).1; room = room c }

pub returns-clause-prepared : goal.returns-clause-prepared
returns-clause-prepared c =
    let m = c.args.self.now in
    let txn = c.args.txn.now in
    let some = (goal.at.returns-clause-prepared c).In-Some in
    let room = room (goal.at.returns-clause-prepared c).Else-grown-row_limit in
    let grant = c.in_ok-grant.ensures (record { x = effects_of txn; over = over some; tree_is = (passed some).1; room = room }) in
    let reply : reply.Committed c.number.result ≡ reply.Committed (suc (newest_number m)) =
    ap reply.Committed (c.number.ensures
    ∙ ap (λ (v : LayeredVersion). v.number) c.version.ensures
    ∙ ap (λ (v : TableVersion). v.number) grant.version_is) in
    let made = ap (λ (v : Managed). v.made) c.self.view_is in
    record {
      few = omega (arith, made, c.if-self-ge-MAX_RECORDS.false);
      due = reply ∙ committed_due m txn (recent some) (passed some).0 room;
      installed = (reply, grant);
    }
