use Rattle.std.proofs.Common.{ℕ, List, ◌++◌, ap, ◌∙◌, append_assoc}
use Rattle.durable_sessions.proofs.frame_queue.put_frame.Goals as goal

pub returns : goal.returns
returns c =
    let old = c.args.bytes.now.items in
    let payload = c.args.frame.now.payload.now in
    c.in-Ok-extend_from_slice.ensures.items
    ∙ ap (λ (b : List ℕ). b ++ payload) c.in-Ok.ensures.items
    ∙ append_assoc old c.frame_head-head.result payload
    ∙ ap (λ (b : List ℕ). old ++ b) c.frame_head-head.ensures.frame
