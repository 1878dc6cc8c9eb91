use Rattle.std.proofs.Common.{◌≡◌, ◌-◌, ◌∙◌, List, ℕ, Vec, Global, ap, sym, subst, arith, length, map, take}
use Rattle.std.specs.Prelude.{vec_len}
use Rattle.std.proofs.lemmas.List.{length-take, take-map}
use Rattle.journal_steps.specs.Batch.{HaveRooms, HaveSizes, payload_in}
use Rattle.journal_steps.proofs.BatchLemmas.{rooms_fewer}
use Rattle.journal_steps.proofs.WishLemmas.{sizes_fewer}
use Rattle.journal_steps.proofs.steps.Steps.withdraw.Goals as goal

pub invariant_of-self : goal.invariant_of-self
invariant_of-self c =
    let inv = c.self.invariant in
    let ws = c.self.inside.waiting.items in
    let n = length ws - 1 in
    let items = λ (v : Vec ℕ Global). v.items in
    let payload = λ (v : Vec ℕ Global). payload_in v.items in
    let made : c.pop.new.self.items ≡ take n ws =
    c.pop.ensures.rest ∙ ap (λ k. take k ws) (let e : vec_len c.self.inside.waiting - 1 ≡ n = omega arith in e) in
    let payloads : map payload c.pop.new.self.items ≡ take n (map payload ws) = ap (map payload) made ∙ sym (take-map payload n ws) in
    let frames : map items c.pop.new.self.items ≡ take n (map items ws) = ap (map items) made ∙ sym (take-map items n ws) in (
      inv.0,
      record {
        header = inv.1.header;
        numbers = omega (arith, inv.1.numbers, ap length payloads, length-take n (map payload ws));
        sizes = subst HaveSizes (sym payloads) (sizes_fewer n (map payload ws) inv.1.sizes);
        files = inv.1.files;
      },
      subst HaveRooms (sym frames) (rooms_fewer n (map items ws) inv.2),
    )
