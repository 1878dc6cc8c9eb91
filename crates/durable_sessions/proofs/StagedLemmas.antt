-- What is staged, and what waits.
use Rattle.std.proofs.Common.{◌≡◌, ℕ, ◌≤◌, List, [], ◌++◌, length, take, drop, Some, sym, ap, ◌∙◌, arith}
use Rattle.std.proofs.lemmas.List.{take_at, drop_at, length-drop, take_all}
use Rattle.model.specs.declared.write.CommitReply.{CommitReply}
use Rattle.model.specs.declared.write.CommitReply.TheVariants.{Committed, Conflict, TooOld, Full}
use Rattle.journal.specs.Frame.{frame_bytes}
use Rattle.txn.specs.Txn.{Transaction}
use Rattle.manager.specs.Managed.{Managed}
use Rattle.durable.specs.Spelled.{IsSpelled}
use Rattle.durable_sessions.specs.Staged.{Queued, staged_of}

-- nothing is staged: all of the bytes wait
all_wait : (len : ℕ) (old : List ℕ) → len ≤ length old → drop len old ≡ [] → length old ≡ len
all_wait len old le none =
    let rest = ap (λ (b : List ℕ). length b) none in
    let size = length-drop len old in
    omega (arith, le, rest, size)

module _ (len : ℕ) (old frame now : List ℕ) (le : len ≤ length old) (none : drop len old ≡ []) (is : now ≡ old ++ frame) where
  pub waits_on : take len now ≡ take len old
  waits_on =
      let whole = all_wait len old le none in
      ap (take len) is ∙ take_at old frame len whole ∙ sym (take_all len old (omega (arith, whole)))

  pub stages_it : drop len now ≡ frame
  stages_it = let whole = all_wait len old le none in ap (drop len) is ∙ drop_at old frame len whole

-- the frame is that of the reply
pub frame_is : (seed table : ℕ) (m : Managed) (txn : Transaction) (synced : ℕ) (reply : CommitReply) (number : ℕ) (payload : List ℕ)
    → IsSpelled m table txn reply (Some number) payload
    → frame_bytes seed (record { number = number; synced = synced; payload = payload }) ≡ staged_of seed table m txn synced reply
frame_is seed table m txn synced (Committed n) number payload h =
    let same : number ≡ n = cc (h.0) in
    (λ i. frame_bytes seed (record { number = same i; synced = synced; payload = h.1 i }))
frame_is seed table m txn synced (Conflict n) number payload h = absurd (cc (h))
frame_is seed table m txn synced (TooOld n) number payload h = absurd (cc (h))
frame_is seed table m txn synced (Full n) number payload h = absurd (cc (h))

pub staged_view : (m : Managed) (txn : Transaction) (synced : ℕ) (reply : CommitReply) (q : Queued) (len : ℕ) (old now frame : List ℕ) (seed table : ℕ)
    → (record { waiting = take len old; staged = drop len old; seed = seed; table = table }) ≡ q
    → len ≤ length old → q.staged ≡ [] → now ≡ old ++ frame → frame ≡ staged_of seed table m txn synced reply
    → (record { waiting = take len now; staged = drop len now; seed = seed; table = table })
    ≡ record q { staged = staged_of q.seed q.table m txn synced reply }
staged_view m txn synced reply q len old now frame seed table is le empty more spelt =
    let none : drop len old ≡ [] = ap (λ (p : Queued). p.staged) is ∙ empty in
    let one = waits_on len old frame now le none more in
    let two = stages_it len old frame now le none more ∙ spelt in
    (λ i. record { waiting = one i; staged = two i; seed = seed; table = table })
    ∙ ap (λ (p : Queued). record p { staged = staged_of p.seed p.table m txn synced reply }) is
