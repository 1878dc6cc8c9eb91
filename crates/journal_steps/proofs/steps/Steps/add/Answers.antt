use Rattle.std.proofs.Common.{◌≡◌, ◌≤◌, ◌<◌, ◌^◌, ◌+◌, ◌∙◌, ◌++◌, ◌∷◌, [], List, ℕ, Vec, Global, ap, sym, subst, arith, length, map, true}
use Rattle.std.proofs.lemmas.List.{length-append, length-drop, map-append}
use Rattle.journal_steps.specs.Batch.{HaveRooms, HaveSizes, payload_in}
use Rattle.journal_steps.specs.Progress.{Progress, may_add, newest}
use Rattle.journal_steps.specs.contracts.steps.Steps.{the_view}
use Rattle.journal_steps.proofs.BatchLemmas.{added_is, may, rooms_more}
use Rattle.journal_steps.proofs.WishLemmas.{sizes_more}
use Rattle.journal_steps.proofs.steps.Steps.add.Goals as goal

pub returns-then-len-ge-PAYLOAD_LIMIT-clause-long : goal.returns-then-len-ge-PAYLOAD_LIMIT-clause-long
returns-then-len-ge-PAYLOAD_LIMIT-clause-long c long =
    omega (arith, c.if-len-ge-PAYLOAD_LIMIT.true, c.len.ensures, length-drop 28 c.args.frame.items)

pub invariant_of-self-2 : goal.invariant_of-self-2
invariant_of-self-2 c =
    let inv = c.self.invariant in
    let ws = c.self.inside.waiting.items in
    let f = c.args.frame in
    let items = λ (v : Vec ℕ Global). v.items in
    let payload = λ (v : Vec ℕ Global). payload_in v.items in
    let made : c.push.new.self.items ≡ ws ++ f ∷ [] = c.in_ok-push.ensures.items in
    let payloads : map payload c.push.new.self.items ≡ map payload ws ++ payload f ∷ [] = ap (map payload) made ∙ map-append payload ws (f ∷ []) in
    let frames : map items c.push.new.self.items ≡ map items ws ++ f.items ∷ [] = ap (map items) made ∙ map-append items ws (f ∷ []) in
    let short : length (payload_in f.items) < 2 ^ 32 =
    omega (arith, c.if-len-ge-PAYLOAD_LIMIT.false, c.len.ensures, length-drop 28 f.items) in (
      inv.0,
      record {
        header = inv.1.header;
        numbers =
            omega (
              arith,
              c.if-number-ge-NUMBER_LIMIT.false,
              c.newest-number.ensures,
              ap newest c.self.view_is,
              ap length payloads,
              length-append (map payload ws) (payload f ∷ []),
            );
        sizes = subst HaveSizes (sym payloads) (sizes_more (map payload ws) (payload f) inv.1.sizes short);
        files = inv.1.files;
      },
      subst HaveRooms (sym frames) (rooms_more (map items ws) f.items inv.2 c.requires.room),
    )

pub returns-clause-ok : goal.returns-clause-ok
returns-clause-ok c =
    let ws = c.self.inside.waiting.items in
    let f = c.args.frame in
    let p = c.args.self.now in
    let payload = λ (v : Vec ℕ Global). payload_in v.items in
    let made : c.push.new.self.items ≡ ws ++ f ∷ [] = c.in_ok-push.ensures.items in
    let short : length (payload_in f.items) < 2 ^ 32 =
    omega (arith, c.if-len-ge-PAYLOAD_LIMIT.false, c.len.ensures, length-drop 28 f.items) in
    let few : newest p + 1 < 2 ^ 63 = omega (arith, c.if-number-ge-NUMBER_LIMIT.false, c.newest-number.ensures) in
    let e : may_add (payload_in f.items) p ≡ true = may (payload_in f.items) p short few in (
      e,
      ap (λ (ps : List (List ℕ)). record (the_view c.self.inside) { waiting = ps })
          (ap (map payload) made ∙ map-append payload ws (f ∷ []))
          ∙ ap (λ (q : Progress). record q { waiting = q.waiting ++ payload_in f.items ∷ [] }) c.self.view_is
          ∙ sym (added_is (payload_in f.items) p e),
    )
