use Rattle.std.proofs.Common.{◌<◌, ◌≤◌, ◌+◌, ◌^◌, ◌⊎◌, ◌∙◌, ℕ, Option, ap, drop, inl, inr, map, refl, sym, subst, arith}
use Rattle.std.specs.Option.{IfSome, IsSomeAnd}
use Rattle.segments.specs.Listing.{HasFile, journal_name}
use Rattle.segments.proofs.ListingLemmas.{all_above, greatest_is, here, with_number, without_number}
use Rattle.segments.proofs.listing.greatest.Goals.{in-Some, in_default}
use Rattle.segments.proofs.listing.greatest.Goals as goal

pub loop-name-preserved : goal.loop-name-preserved
loop-name-preserved c =
    let names = c.args.names.now in
    let at = c.loop-name.name-index in
    let lt = c.loop-name-test.true in
    elim c.match-journal_number.branch [
      | in-Some w ↦
          let g = w.greater.result in
          let name_is = w.in-Some.ensures.some in
          let there : HasFile (map (λ n. n.now) names) g =
          elim w.greater.ensures.either [
            | inl e ↦ here names at _ g lt (name_is ∙ ap journal_name (sym e))
            | inr e ↦ subst (λ (o : Option ℕ). IfSome o (HasFile (map (λ n. n.now) names))) e c.loop-name.invariant.there
          ] in
          record {
            there = subst (λ (o : Option ℕ). IfSome o (HasFile (map (λ n. n.now) names))) (sym w.found-is) there;
            so_far = subst
                (λ (o : Option ℕ). (n : ℕ) → n < 2 ^ 64 → HasFile (map (λ m. m.now) names) n
                → IsSomeAnd o (λ m. n ≤ m) ⊎ HasFile (map (λ m. m.now) (drop (at + 1) names)) n)
                (sym w.found-is)
                (with_number names at _ lt c.loop-name.found c.loop-name.invariant.so_far w.in-Some.number g name_is w.greater.ensures.above
                w.greater.type_inv w.greater.ensures.most);
          }
      | in_default w ↦
          record {
            there = subst (λ (o : Option ℕ). IfSome o (HasFile (map (λ n. n.now) names))) (sym w.found-is) c.loop-name.invariant.there;
            so_far = subst
                (λ (o : Option ℕ). (n : ℕ) → n < 2 ^ 64 → HasFile (map (λ m. m.now) names) n
                → IsSomeAnd o (λ m. n ≤ m) ⊎ HasFile (map (λ m. m.now) (drop (at + 1) names)) n)
                (sym w.found-is)
                (without_number names at _ lt c.loop-name.found c.loop-name.invariant.so_far (w.in_default.ensures.none refl));
          }
    ]

pub returns-clause-some : goal.returns-clause-some
returns-clause-some c =
    greatest_is _ c.loop-name.found c.loop-name.invariant.there
    (all_above c.args.names.now c.loop-name.name-index c.loop-name.found c.loop-name-test.false c.loop-name.invariant.so_far)

pub returns-clause-none : goal.returns-clause-none
returns-clause-none c none n small has =
    let above =
    all_above c.args.names.now c.loop-name.name-index c.loop-name.found c.loop-name-test.false c.loop-name.invariant.so_far n small has in
    grind (arith, above, none)
