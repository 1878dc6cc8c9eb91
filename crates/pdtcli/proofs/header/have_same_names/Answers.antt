use Rattle.std.proofs.Common.{◌≡◌, ◌∙◌, [], Bool, true, false, not, arith, sym, refl}
use Rattle.std.specs.Cmp.Lexicographic.{same_text}
use Rattle.std.proofs.lemmas.List.{take_more_same}
use Rattle.std.proofs.lemmas.Option.{get_or_from_slice_get}
use Rattle.pdtcli.proofs.header.have_same_names.Goals as goal

-- a test that is not denied holds
not-denied : (b : Bool) → not b ≡ false → true ≡ b
not-denied true h = refl
not-denied false h = cc

pub loop-col-preserved : goal.loop-col-preserved
loop-col-preserved c =
    let inv = c.loop-col.invariant in
    let equal = same_text c.name.result.now c.name-in-loop-col.result.now (not-denied _ (sym c.ne.ensures ∙ c.if-ne.false)) in
    let one = get_or_from_slice_get c.args.a.now.names c.loop-col.col c.name.result.now [] c.name.ensures in
    let other = get_or_from_slice_get c.args.b.now.names c.loop-col.col c.name-in-loop-col.result.now [] c.name-in-loop-col.ensures in
    record {
      same =
          take_more_same c.args.a.now.names c.args.b.now.names c.loop-col.col []
          (omega (arith, c.loop-col-test.true, inv.within, inv.first.named))
          (omega (arith, c.loop-col-test.true, inv.within, inv.width, inv.second.named)) inv.same (one ∙ equal ∙ sym other);
      within = inv.within;
      width = inv.width;
      first = inv.first;
      second = inv.second;
    }
