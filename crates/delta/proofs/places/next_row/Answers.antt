use Rattle.std.proofs.Common.{is_gt, refl, arith}
use Rattle.std.proofs.lemmas.Int.{ints}
use Rattle.delta.proofs.RidLemmas.{gap_from}
use Rattle.delta.proofs.WalkLemmas.{walk_bounds}
use Rattle.delta.proofs.places.next_row.Goals as goal

pub overflow_sub-shift : goal.overflow_sub-shift
overflow_sub-shift g c =
    let b =
    walk_bounds (λ x. is_gt (g.P.Probe.stand c.args.probe.now x)) c.requires.first c.args.rid c.args.tree.now.entries c.args.index
    c.args.shift
    (gap_from (g.P.Probe.stand c.args.probe.now) _ (λ x. refl) c.args.rid c.args.tree.now.entries c.args.index c.requires.place)
    c.requires.shift c.requires.few in
    omega (arith, ints, b.1)

pub moved-requires : goal.moved-requires
moved-requires g c =
    let b =
    walk_bounds (λ x. is_gt (g.P.Probe.stand c.args.probe.now x)) c.requires.first c.args.rid c.args.tree.now.entries c.args.index
    c.args.shift
    (gap_from (g.P.Probe.stand c.args.probe.now) _ (λ x. refl) c.args.rid c.args.tree.now.entries c.args.index c.requires.place)
    c.requires.shift c.requires.few in
    record {
      small = c.requires.rid;
      above = omega (arith, ints, b.2, b.1);
      below = omega (arith, ints, b.1, b.2);
      within = omega (arith, ints, b.0, b.1, b.2);
    }

pub returns : goal.returns
returns g c =
    let b =
    walk_bounds (λ x. is_gt (g.P.Probe.stand c.args.probe.now x)) c.requires.first c.args.rid c.args.tree.now.entries c.args.index
    c.args.shift
    (gap_from (g.P.Probe.stand c.args.probe.now) _ (λ x. refl) c.args.rid c.args.tree.now.entries c.args.index c.requires.place)
    c.requires.shift c.requires.few in
    let at = c.moved.ensures in
    let shift = c.requires.shift in
    omega (arith, ints, b.0, b.1, b.2)
