use Rattle.std.proofs.Common.{◌≡◌, ◌+◌, ◌<◌, ◌∙◌, List, ℕ, Vec, Global, arith, drop, get_or, length, map, set, subst, sym}
use Rattle.std.proofs.lemmas.List.{drop-set-lt}
use Rattle.journal.specs.Frame.{frame_bytes}
use Rattle.journal_steps.specs.Batch.{HaveRooms, HaveSizes, payload_in}
use Rattle.journal_steps.proofs.BatchLemmas.{next_filled, next_frame}
use Rattle.journal_steps.proofs.batch.put_heads.Goals as goal

pub loop-frame-preserved : goal.loop-frame-preserved
loop-frame-preserved c =
    let i = c.loop-frame.frame-index in
    let fs = c.loop-frame.frames in
    let x = c.frame-item.result in
    let v = c.put_head.new.frame in
    let n = c.loop-frame.number in
    let s = c.args.durable in
    let seed = c.args.seed in
    let inv = c.loop-frame.invariant in
    let lt : i < length fs = omega (arith, c.loop-frame-test.true, c.loop-frame.auto.frames) in
    let cut = next_frame i fs x lt in
    let left : drop (i + 1) (set fs i v) ≡ drop (i + 1) fs = drop-set-lt (i + 1) fs i v (omega arith) in
    let rooms = subst (λ (ws : List (Vec ℕ Global)). HaveRooms (map (λ (w : Vec ℕ Global). w.items) ws)) cut inv.rooms in
    let sizes = subst (λ (ws : List (Vec ℕ Global)). HaveSizes (map (λ (w : Vec ℕ Global). payload_in w.items) ws)) cut inv.sizes in
    let spelt = λ (w : Vec ℕ Global). frame_bytes seed (record { number = n; synced = s; payload = payload_in w.items }) in
    let made : v.items ≡ spelt (get_or fs i x) = c.put_head.ensures in
    record {
      number = omega (arith, inv.number);
      rooms = subst (λ (ws : List (Vec ℕ Global)). HaveRooms (map (λ (w : Vec ℕ Global). w.items) ws)) (sym left) rooms.1;
      sizes = subst (λ (ws : List (Vec ℕ Global)). HaveSizes (map (λ (w : Vec ℕ Global). payload_in w.items) ws)) (sym left) sizes.1;
      all = next_filled seed n s i fs x v lt made ∙ inv.all;
    }
