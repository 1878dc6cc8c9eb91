use Rattle.std.proofs.Common.{◌≡◌, ◌∙◌, ◌++◌, ap, arith, length, map, List, ℕ, Vec, Global}
use Rattle.journal.specs.Frame.{journal_bytes}
use Rattle.journal_steps.specs.Batch.{batch_bytes, framed, header_part, payload_in, together}
use Rattle.journal_steps.proofs.BatchLemmas.{together-map, written_back}
use Rattle.journal_steps.proofs.batch.seal.Goals as goal

pub returns : goal.returns
returns c =
    let b = c.batch.inside in
    let front = header_part b.header in
    let payload = λ (v : Vec ℕ Global). payload_in v.items in
    let new = c.put_heads.new.frames in
    ap (λ (ws : List (Vec ℕ Global)). front ++ together (map (λ (v : Vec ℕ Global). v.items) ws))
    (written_back b.frames.len b.frames.items new (omega (arith, c.put_heads.auto.frames, ap length c.as_mut_slice.ensures.value)) (omega arith))
    ∙ ap (λ (fs : List (List ℕ)). front ++ together fs) c.put_heads.ensures
    ∙ ap (λ (bytes : List ℕ). front ++ bytes) (together-map b.seed b.first b.durable (map payload c.as_mut_slice.result.now))
    ∙ ap (λ (ws : List (Vec ℕ Global)). front ++ journal_bytes b.seed (framed b.first b.durable (map payload ws))) c.as_mut_slice.ensures.value
    ∙ ap batch_bytes c.batch.view_is
