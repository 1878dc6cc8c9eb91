use Rattle.std.proofs.Common.{◌≡◌, ◌-◌, length, drop, ap, sym, ◌∙◌, subst, arith}
use Rattle.std.specs.Prelude.{IfOk}
use Rattle.model.specs.declared.clash.ConflictRule.{ConflictRule}
use Rattle.txn.specs.Version.{TableVersion}
use Rattle.manager.specs.Managed.{Managed, newest_number}
use Rattle.manager.specs.Passing.{MayPass, IsThrough}
use Rattle.manager.proofs.OwnLemmas.{if_ok, since_kept, may_pass, led_on}
use Rattle.manager.proofs.KeptLemmas.{holds}
use Rattle.manager.proofs.manager.Manager.passed.Goals.{After-rules-conflicts}
use Rattle.manager.proofs.manager.Manager.passed.Goals as goal

pub overflow_sub-first : goal.overflow_sub-first
overflow_sub-first c =
    let i = c.self.inside in
    let h = holds c.self.view_is c.self.invariant.0 in
    let number = ap (λ (v : TableVersion). v.number) h.newest_is in
    let inside = since_kept c.args.self.now i.newest.layers i.newest i.kept.items h c.args.txn.now c.requires.own c.requires.recent c.requires.decided in
    omega (arith, number, inside, c.number.ensures, c.begin.ensures.number, c.len.ensures.len)

-- the first of the kept trees that the transaction comes after
first : (c : After-rules-conflicts) → c.len.result - (c.number.result - c.begin.result)
    ≡ length c.self.inside.kept.items - (newest_number c.args.self.now - c.args.txn.now.begin)
first c =
    let h = holds c.self.view_is c.self.invariant.0 in
    let number = ap (λ (v : TableVersion). v.number) h.newest_is in
    omega (arith, number, c.number.ensures, c.begin.ensures.number, c.len.ensures.len)

-- the rule is the manager's
rule : (c : After-rules-conflicts) → c.rules-conflicts.result.conflicts ≡ c.args.self.now.start.rule
rule c = c.rules-conflicts.ensures.conflicts ∙ ap (λ (v : Managed). v.start.rule) c.self.view_is

pub passed_through-requires : goal.passed_through-requires
passed_through-requires c =
    let i = c.self.inside in
    let before = (goal.at.passed_through-requires c).After-rules-conflicts in
    let h = holds c.self.view_is c.self.invariant.0 in
    subst
    (λ (r : ConflictRule). MayPass r (drop (c.len.result - (c.number.result - c.begin.result)) i.kept.items) c.in_ok-tree.tree)
    (sym (rule before))
    (may_pass c.args.self.now i.newest.layers i.newest i.kept.items h c.args.txn.now c.requires.own c.requires.recent c.requires.decided
    c.begin.ensures.lawful _ (first before) c.in_ok-tree.tree (c.in_ok-tree.ensures ∙ c.tree.ensures))

pub returns : goal.returns
returns c =
    let i = c.self.inside in
    let l = i.newest.layers in
    let m = c.args.self.now in
    let txn = c.args.txn.now in
    let before = (goal.at.returns c).After-rules-conflicts in
    let h = holds c.self.view_is c.self.invariant.0 in
    let n = c.len.result - (c.number.result - c.begin.result) in
    let own_tree = c.in_ok-tree.ensures ∙ c.tree.ensures in
    let w =
    may_pass m l i.newest i.kept.items h txn c.requires.own c.requires.recent c.requires.decided c.begin.ensures.lawful n (first before)
    c.in_ok-tree.tree own_tree in
    let P =
    λ (r : ConflictRule). IfOk c.passed_through.result (λ passed. (v : MayPass r (drop n i.kept.items) c.in_ok-tree.tree)
    → IsThrough r (drop n i.kept.items) c.in_ok-tree.tree v passed) in
    let all : P m.start.rule = subst P (rule before) c.passed_through.ensures in
    if_ok c.passed_through.result
    (λ passed told. led_on m l i.newest i.kept.items h txn c.requires.own c.requires.recent c.requires.decided c.begin.ensures.lawful n (first before)
    c.in_ok-tree.tree own_tree passed (told w))
    all
