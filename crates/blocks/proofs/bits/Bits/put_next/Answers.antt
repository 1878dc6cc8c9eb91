use Rattle.std.proofs.Common.{◌≡◌, ◌∙◌, ℕ, ◌+◌, ◌++◌, ◌∷◌, [], take, drop, slice_get, sym, ap, arith}
use Rattle.std.proofs.lemmas.List.{take_more_set}
use Rattle.blocks.proofs.RunLemmas.{byte_is, run_bytes_more, run_bytes_of_byte}
use Rattle.blocks.proofs.bits.Bits.put_next.Goals as goal

pub returns-then-out-ge8-clause-truths : goal.returns-then-out-ge8-clause-truths
returns-then-out-ge8-clause-truths c =
    ap (λ bytes. take 8 (bytes ++ drop 8 c.args.out.now)) (c.copy_from_slice.ensures.after ∙ c.truths_in.ensures)
    ∙ run_bytes_of_byte c.args.self.now c.self.inside.bytes.items c.self.inside.count c.args.first c.index.result.now
    c.self.view_is c.if-first-eq0.true (omega (arith, c.requires.within, c.if-out-ge8.true)) c.index.ensures

pub returns-else-first-eq0-clause-truths : goal.returns-else-first-eq0-clause-truths
returns-else-first-eq0-clause-truths c =
    let truths = c.args.self.now in
    let here : c.args.first + 0 ≡ c.args.first = omega arith in
    take_more_set c.args.out.now 0 c.from.result (omega (arith, c.requires.some))
    ∙ ap (λ (n : ℕ). n ∷ []) (c.from.ensures ∙ byte_is c.get.result)
    ∙ sym (run_bytes_more truths c.args.first 0 c.get.result (ap (slice_get truths) here ∙ c.get.ensures))
