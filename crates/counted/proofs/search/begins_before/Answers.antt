use Rattle.std.proofs.Common.{◌≡◌, is_gt, ap, sym, ◌∙◌, w64}
use Rattle.std.specs.Prelude.{Some, slice_get}
use Rattle.std.proofs.lemmas.Int.{to_z-of_z}
use Rattle.model.specs.declared.entry.Entry.{Entry}
use Rattle.counted.specs.Search.{is_before}
use Rattle.counted.specs.Shapes.{items_of}
use Rattle.counted.proofs.Searches.{before_by, first_one, lead_sid, lead_weight, past_then, short_then, tied_then}
use Rattle.counted.proofs.search.begins_before.Given as given
use Rattle.counted.proofs.search.begins_before.Goals.{Else-is_short_of}
use Rattle.counted.proofs.search.begins_before.Goals as goal

pub returns-then-is_past-clause-before : goal.returns-then-is_past-clause-before
returns-then-is_past-clause-before g c = λ e is.
    let plain = to_z-of_z w64 c.args.up c.ranges.up in
    let past = rw plain at c.is_past.ensures in
    before_by (g.P.Probe.stand c.args.probe.now) c.args.target e _ c.args.up (lead_sid _ e (c.requires.lead e is))
    ∙ past_then _ _ (sym past ∙ c.if-is_past.true)

pub returns-then-is_short_of-clause-before : goal.returns-then-is_short_of-clause-before
returns-then-is_short_of-clause-before g c = λ e is.
    let plain = to_z-of_z w64 c.args.up c.ranges.up in
    let short = rw plain at c.is_short_of.ensures in
    before_by (g.P.Probe.stand c.args.probe.now) c.args.target e _ c.args.up (lead_sid _ e (c.requires.lead e is))
    ∙ short_then _ _ (sym short ∙ c.if-is_short_of.true)

-- past both tests the first entry stands at the target
tied : (g : given.Over) (c : Else-is_short_of g) (e : Entry) → slice_get (items_of c.args.child.now) 0 ≡ Some e
    → is_before (g.P.Probe.stand c.args.probe.now) c.args.target e c.args.up ≡ is_gt (g.P.Probe.stand c.args.probe.now e.change)
tied g c e is =
    let plain = to_z-of_z w64 c.args.up c.ranges.up in
    let past = rw plain at c.is_past.ensures in
    let short = rw plain at c.is_short_of.ensures in
    before_by (g.P.Probe.stand c.args.probe.now) c.args.target e _ c.args.up (lead_sid _ e (c.requires.lead e is))
    ∙ tied_then _ _ (sym past ∙ c.if-is_past.false) (sym short ∙ c.if-is_short_of.false)

pub returns-in-Some-clause-before : goal.returns-in-Some-clause-before
returns-in-Some-clause-before g c = λ e is.
    tied g (goal.at.returns-in-Some-clause-before g c).Else-is_short_of e is
    ∙ ap is_gt (c.compare_weight.ensures.tells e.change c.in-Some.order (lead_weight _ e (c.requires.lead e is)) c.in-Some.is)
    ∙ sym c.is_gt.ensures

pub returns-in-None-clause-before : goal.returns-in-None-clause-before
returns-in-None-clause-before g c = λ e is.
    let stand = g.P.Probe.stand c.args.probe.now in
    let first = first_one (items_of c.args.child.now) e c.first.result.now is (ap (λ v. slice_get v.items 0) (sym c.deref.ensures)
    ∙ c.first.ensures) in
    tied g (goal.at.returns-in-None-clause-before g c).Else-is_short_of e is
    ∙ ap (λ (x : Entry). is_gt (stand x.change)) first ∙ ap (λ x. is_gt (stand x)) (sym c.change.ensures)
    ∙ ap is_gt (sym c.compare.ensures) ∙ sym c.is_gt-in-None.ensures
