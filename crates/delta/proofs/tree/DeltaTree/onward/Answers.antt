use Rattle.std.proofs.Common.{◌≡◌, ◌+◌, sym, ap, ◌∙◌, arith}
use Rattle.std.specs.Option.{option_copied}
use Rattle.std.proofs.lemmas.Float.{T_from_true}
use Rattle.delta.specs.Search.{stands_before}
use Rattle.delta.proofs.AheadLemmas.{next_is, passed_more}
use Rattle.delta.proofs.CountedLemmas.{some_within, some_is, none_is, split_where}
use Rattle.delta.proofs.SearchLemmas.{parted}
use Rattle.delta.proofs.tree.DeltaTree.onward.Goals.{in-Some+then-not-is_before, in_default}
use Rattle.delta.proofs.tree.DeltaTree.onward.Goals as goal

pub loop-next-preserved : goal.loop-next-preserved
loop-next-preserved g c =
    let es = c.args.self.now.entries in
    let n = c.loop-next.index in
    let at = sym c.loop-next.invariant.next_is ∙ ap option_copied c.in-Some.is in
    let next =
    next_is es (n + 1) c.loop-next.rest c.next-next.new.self c.next-next.result c.loop-next.invariant.rest_is c.next-next.ensures.steps in
    record {
      within = omega (arith, some_within es n c.in-Some.entry.now (sym at));
      next_is = next.0;
      rest_is = next.1;
      before = passed_more (stands_before (g.P.Probe.stand c.args.probe.now) c.args.sid) es n c.in-Some.entry.now at
          (c.is_before.ensures ∙ c.if-not-is_before.false) c.loop-next.invariant.before;
    }

pub returns-clause-split : goal.returns-clause-split
returns-clause-split g c =
    let k = c.args.self.now.key_cols in
    let es = c.args.self.now.entries in
    let n = c.loop-next.index in
    let cmp = g.P.Probe.stand c.args.probe.now in
    let inv = c.loop-next.invariant in
    let ends =
    split_where (stands_before cmp c.args.sid) es n
    (parted k cmp c.requires.closed c.args.sid es (T_from_true _ c.requires.lawful.ordered)) inv.within inv.before in
    elim c.match-next.branch [
      | in-Some+then-not-is_before w ↦
          let at = sym inv.next_is ∙ ap option_copied w.in-Some.is in
          ends (λ e is. let same : w.in-Some.entry.now ≡ e = some_is w.in-Some.entry.now e (sym at ∙ is) in
          sym (ap (stands_before cmp c.args.sid) same) ∙ w.is_before.ensures ∙ w.if-not-is_before.true)
      | in_default w ↦ ends (λ e is. absurd (none_is e (sym (sym inv.next_is ∙ ap option_copied w.in_default.is) ∙ is)))
    ]
