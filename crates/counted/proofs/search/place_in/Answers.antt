use Rattle.std.proofs.Common.{◌≡◌, ℕ, refl, ◌+◌, ◌<◌, length, take, get_or, ap, sym, ◌∙◌, subst, arith, length-take, to_z, of_z, w64}
use Rattle.std.specs.Prelude.{◌+ℤ◌, ℤ}
use Rattle.std.proofs.lemmas.Int.{ints, to_z-of_z}
use Rattle.std.proofs.lemmas.List.{get_or_default}
use Rattle.model.specs.declared.entry.Entry.{Entry}
use Rattle.counted.specs.Search.{is_before, IsNear, IsUp}
use Rattle.counted.specs.Sums.{total}
use Rattle.counted.proofs.Searches.{before_up, near_part, placed_at, reached}
use Rattle.counted.proofs.search.place_in.Given as given
use Rattle.counted.proofs.search.place_in.Goals.{After-index-entries-next, After-is_before}
use Rattle.counted.proofs.search.place_in.Goals as goal

-- so far above the rows below is the entry that is looked at
here : (g : given.Over) (c : After-index-entries-next g)
    → IsUp c.args.target (to_z w64 c.loop-low.up-bits)
    (total (take c.next_of-next.result c.args.entries.now) +ℤ to_z w64 (of_z w64 c.args.shift))
here g c =
    c.next_of-next.ensures.up _ (λ n. total (take n c.args.entries.now) +ℤ to_z w64 (of_z w64 c.args.shift)) c.loop-low.invariant.up

near : (g : given.Over) (c : After-index-entries-next g) → IsNear (to_z w64 (of_z w64 c.args.shift)) (length c.args.entries.now)
near g c =
    subst (λ (z : ℤ). IsNear z (length c.args.entries.now)) (sym (to_z-of_z w64 c.args.shift c.ranges.shift)) c.requires.near

pub is_before-requires : goal.is_before-requires
is_before-requires g c =
    let es = c.args.entries.now in
    let m = c.next_of-next.result in
    let lt : m < length es = omega (arith, c.next_of-next.ensures.high, c.loop-low.invariant.short) in
    let x = c.index-entries-next.result in
    let same = ap (λ (a : Entry). a.sid) c.index-entries-next.is in
    reached c.args.target es x.sid _ _ c.requires.met (λ placed. let small = placed_at es m x lt placed in omega arith) (here g c)
    (near_part (take m es) es _ (omega (arith, length-take m es)) (near g c))

pub up_past_entry-up-requires-clause-up : goal.up_past_entry-up-requires-clause-up
up_past_entry-up-requires-clause-up g c =
    let at = (goal.at.up_past_entry-up-requires-clause-up g c).After-index-entries-next in
    (to_z w64 (of_z w64 c.args.shift), near g at, here g at)

-- what the test says of the entry, by its place
told : (g : given.Over) (c : After-is_before g) (m : ℕ) (d : Entry) → c.next_of-next.result ≡ m
    → is_before (g.P.Probe.stand c.args.probe.now) c.args.target (get_or c.args.entries.now m d)
    (total (take m c.args.entries.now) +ℤ to_z w64 (of_z w64 c.args.shift)) ≡ c.is_before.result
told g c m d is =
    let es = c.args.entries.now in
    let shift = to_z w64 (of_z w64 c.args.shift) in
    let n = c.next_of-next.result in
    let lt : n < length es = omega (arith, c.next_of-next.ensures.high, c.loop-low.invariant.short) in
    let x = c.index-entries-next.result in
    let item = c.index-entries-next.is ∙ get_or_default es n x d lt ∙ ap (λ k. get_or es k d) is in
    let up = c.next_of-next.ensures.up _ (λ k. total (take k es) +ℤ shift) c.loop-low.invariant.up in
    before_up (g.P.Probe.stand c.args.probe.now) c.args.target x (get_or es m d) _ (total (take m es) +ℤ shift) item
    (subst (λ k. IsUp c.args.target (to_z w64 c.loop-low.up-bits) (total (take k es) +ℤ shift)) is up)
    ∙ c.is_before.ensures

pub loop-low-preserved-then-is_before : goal.loop-low-preserved-then-is_before
loop-low-preserved-then-is_before g c =
    let at = goal.at.loop-low-preserved-then-is_before g c in
    let end = total (take (c.next_of-next.result + 1) c.args.entries.now) +ℤ to_z w64 (of_z w64 c.args.shift) in
    let more = c.up_past_entry-up.result in
    let plain : to_z w64 (of_z w64 more) ≡ more = omega (arith, ints, c.up_past_entry-up.type_inv) in
    record {
      within = omega (arith, c.next_of-next.ensures.high);
      short = c.loop-low.invariant.short;
      low = λ m d is. told g at.After-is_before m d (omega arith) ∙ c.if-is_before.true;
      high = c.loop-low.invariant.high;
      up = subst (λ (up : ℤ). IsUp c.args.target up end) (sym plain)
          (c.up_past_entry-up.ensures _ (here g at.After-index-entries-next));
    }

pub loop-low-preserved : goal.loop-low-preserved
loop-low-preserved g c = record {
  within = c.next_of-next.ensures.low;
  short = omega (arith, c.next_of-next.ensures.high, c.loop-low.invariant.short);
  low = c.loop-low.invariant.low;
  high = λ d lt. told g (goal.at.loop-low-preserved g c).After-is_before c.next_of-next.result d refl ∙ c.if-is_before.false;
  up = c.loop-low.invariant.up;
}
