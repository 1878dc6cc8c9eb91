use Rattle.std.proofs.Common.{◌≡◌, ◌∙◌, ◌+◌, ◌-◌, ◌≤◌, ◌++◌, List, length, map, pos, take, drop, sym, ap, arith}
use Rattle.std.specs.Prelude.{ℤ}
use Rattle.std.proofs.Math.Seq.{take-append_seam}
use Rattle.std.proofs.lemmas.List.{length-append, length-drop, length-take, take_all}
use Rattle.std.proofs.lemmas.Slice.{take-put_mid}
use Rattle.blocks.proofs.RunLemmas.{numbers_of_bytes, run_bytes, run_numbers, run_numbers_add}
use Rattle.blocks.proofs.bits.Bits.put_numbers.Goals.{After-widen}
use Rattle.blocks.proofs.bits.Bits.put_numbers.Goals as goal

-- so many truths go into the room of bytes
many : (c : After-widen) → length c.put_bytes.new.out ≡ c.min-more.result
many c =
    omega (arith, c.put_bytes.auto.out, length-take c.min-more.result c.loop-done.bytes, c.min-more.array_long, c.min-more.ensures)

-- the part of the room has the numbers of those truths
numbers : (c : After-widen) → c.widen.new.out ≡ run_numbers c.args.self.now (c.args.first + c.loop-done.done) c.min-more.result
numbers c =
    let truths = c.args.self.now in
    let from = c.args.first + c.loop-done.done in
    let more = c.min-more.result in
    let bytes = c.put_bytes.new.out in
    let rest = drop more c.loop-done.bytes in
    c.widen.ensures
    ∙ ap (map pos) (
    ap (λ n. take n (bytes ++ rest)) (sym (many c))
    ∙ take-append_seam bytes rest
    ∙ c.put_bytes.ensures
    ∙ ap (run_bytes truths from) (sym c.put_bytes.auto.out ∙ many c)
    )
    ∙ numbers_of_bytes (take more (drop from truths))

pub loop-done-preserved : goal.loop-done-preserved
loop-done-preserved c =
    let now = (goal.at.loop-done-preserved c).After-widen in
    let inv = c.loop-done.invariant in
    let done = c.loop-done.done in
    let more = c.min-more.result in
    let out = c.loop-done.out in
    let part = c.widen.new.out in
    let room = (done + more) - done in
    let cut = length-take room (drop done out) in
    let fits : done + more ≤ length out = omega (arith, c.min-more.ensures, inv.1) in
    let long : length part ≡ more = omega (arith, c.widen.auto.out, cut, length-drop done out, fits) in
    let rest = drop room (drop done out) in
    let whole : length (take done out ++ (part ++ rest)) ≡ length out =
    omega (
      arith,
      long,
      fits,
      length-append (take done out) (part ++ rest),
      length-append part rest,
      length-take done out,
      length-drop room (drop done out),
      length-drop done out,
    ) in (
      whole ∙ inv.0,
      omega (arith, whole, fits),
      take-put_mid done room out part (done + more) (omega (arith, long)) inv.1
          ∙ ap (λ (ns : List ℤ). ns ++ part) inv.2
          ∙ ap (λ (ns : List ℤ). run_numbers c.args.self.now c.args.first done ++ ns) (numbers now)
          ∙ sym (run_numbers_add c.args.self.now c.args.first done more),
    )

pub returns : goal.returns
returns c =
    let inv = c.loop-done.invariant in
    let done = c.loop-done.done in
    sym (take_all done c.loop-done.out c.loop-done-test.false)
    ∙ inv.2
    ∙ ap (run_numbers c.args.self.now c.args.first) (omega (arith, c.loop-done-test.false, inv.0, inv.1))
