use Rattle.std.proofs.Common.{◌≡◌, ◌∙◌, ◌++◌, ℕ, List, length, drop, sym, ap, arith}
use Rattle.std.proofs.lemmas.List.{length-take-le, take_at}
use Rattle.journal.specs.Frame.{frame_bytes}
use Rattle.pdt_c.proofs.calls.journals.pdtr_frame_head.Goals as goal

pub copy_from_slice-requires : goal.copy_from_slice-requires
copy_from_slice-requires c =
    length-take-le 28 c.args.head.now (omega (arith, c.if-head-lt-HEAD_BYTES.false)) ∙ sym c.frame_head.ensures.length

pub returns-clause-put : goal.returns-clause-put
returns-clause-put c = λ done.
    let payload = c.args.payload.now in
    let put = c.copy_from_slice.new.self in
    let many : length put ≡ 28 = ap (λ (bytes : List ℕ). length bytes) c.copy_from_slice.ensures.after ∙ c.frame_head.ensures.length in
    ap (λ (bytes : List ℕ). bytes ++ payload) (take_at put (drop 28 c.args.head.now) 28 many ∙ c.copy_from_slice.ensures.after)
    ∙ c.frame_head.ensures.frame
    ∙ ap (λ (seed : ℕ). frame_bytes seed (record { number = c.args.number; synced = c.args.synced; payload = payload })) c.seed_of.ensures
