use Rattle.std.proofs.Common.{◌≡◌, ◌∙◌, ℕ, List, ◌-◌, ◌++◌, length, take, drop, sym, ap, arith}
use Rattle.std.proofs.lemmas.List.{length-append, length-drop, length-take, take_all}
use Rattle.blocks.proofs.RunLemmas.{run_bytes, run_bytes_add, take_filled}
use Rattle.blocks.proofs.bits.Bits.put_bytes.Goals as goal

pub loop-done-preserved : goal.loop-done-preserved
loop-done-preserved c =
    let inv = c.loop-done.invariant in
    let done = c.loop-done.done in
    let out = c.loop-done.out in
    let part = c.put_next-done.new.out in
    let more = c.put_next-done.result in
    let same = c.put_next-done.ensures.length in
    let few = c.put_next-done.ensures.few in
    let cut = length-take (length out - done) (drop done out) in
    let many : length part ≡ length out - done = omega (arith, same, length-drop done out, cut, inv.1) in
    let rest = drop (length out - done) (drop done out) in
    let whole : length (take done out ++ (part ++ rest)) ≡ length out =
    omega (
      arith,
      many,
      inv.1,
      length-append (take done out) (part ++ rest),
      length-append part rest,
      length-take done out,
      length-drop (length out - done) (drop done out),
      length-drop done out,
    ) in (
      whole ∙ inv.0,
      omega (arith, whole, few, many, same, inv.1),
      take_filled done more out part rest inv.1 (omega (arith, few, same))
          ∙ ap (λ (ns : List ℕ). ns ++ take more part) inv.2
          ∙ ap (λ (ns : List ℕ). run_bytes c.args.self.now c.args.first done ++ ns) c.put_next-done.ensures.truths
          ∙ sym (run_bytes_add c.args.self.now c.args.first done more),
    )

pub returns : goal.returns
returns c =
    let inv = c.loop-done.invariant in
    let done = c.loop-done.done in
    sym (take_all done c.loop-done.out c.loop-done-test.false)
    ∙ inv.2
    ∙ ap (run_bytes c.args.self.now c.args.first) (omega (arith, c.loop-done-test.false, inv.0, inv.1))
