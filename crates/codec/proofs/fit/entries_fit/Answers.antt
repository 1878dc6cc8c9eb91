use Rattle.std.proofs.Common.{◌≡◌, ◌<◌, ◌^◌, true, sym, ◌∙◌, subst}
use Rattle.std.specs.List.{All}
use Rattle.std.proofs.lemmas.List.Elements.{All-head, All-tail, All-cons}
use Rattle.model.specs.declared.entry.Entry.{Entry}
use Rattle.codec.specs.Fit.{EntryFits, change_fits}
use Rattle.codec.proofs.fit.entries_fit.Goals as goal

pub loop-entry-preserved : goal.loop-entry-preserved
loop-entry-preserved c =
    let P = EntryFits c.args.schema.now in
    let Placed = λ (e : Entry). e.sid < 2 ^ 32 in
    let entry = c.in-Some.entry.now in
    let rest = c.next.new.self in
    let steps = c.in-Some.ensures.steps in
    let inv = c.loop-entry.invariant in
    let placed = subst (All Placed) steps inv.placed in
    let fits : change_fits c.args.schema.now entry.change ≡ true = sym c.change_fits.ensures ∙ c.if-not-change_fits.false in
    record {
      placed = All-tail Placed entry rest placed;
      enough = λ left. inv.enough
          (subst (All P) (sym steps) (All-cons P entry rest (record { placed = All-head Placed entry rest placed; shaped = fits }) left));
      wanted = λ all. All-tail P entry rest (subst (All P) steps (inv.wanted all));
    }
