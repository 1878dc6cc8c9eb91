-- What a device leaves is what a crash leaves of a journal.
use Rattle.std.proofs.Common.{◌≡◌, ℕ, zero, suc, ◌+◌, ◌-◌, ◌≤◌, List, [], ◌∷◌, ◌++◌, length, take, refl, sym, ap, subst, ◌∙◌, inl, inr, arith}
use Rattle.std.proofs.lemmas.Bool.{cases_lt}
use Rattle.std.proofs.lemmas.Grind.{flat_map-append}
use Rattle.std.proofs.lemmas.List.{append-nil, length-append, length-take, take-append-le, take_at}
use Rattle.std.proofs.lemmas.List.Concat.{flat_map-cons}
use Rattle.std.proofs.Math.Seq.{take-append-add}
use Rattle.journal.specs.Frame.{Logged, frame_bytes, journal_bytes}
use Rattle.logging.specs.Laws.{ADeviceLeavesABatch, ADeviceLeavesAFrame}

shorter : (xs : List ℕ) (i j : ℕ) → i ≤ j → take i (take j xs) ≡ take i xs
shorter xs zero j lt = refl
shorter [] (suc i) zero lt = refl
shorter [] (suc i) (suc j) lt = refl
shorter (x ∷ xs) (suc i) zero lt = absurd (omega (arith, lt))
shorter (x ∷ xs) (suc i) (suc j) lt = ap (λ (ys : List ℕ). x ∷ ys) (shorter xs i j (omega (arith, lt)))

-- a beginning of what stands at the front is a beginning of the whole
front_of : (a b : List ℕ) (n size : ℕ) → size ≤ length (a ++ take n b) → take size (a ++ take n b) ≡ take size (a ++ b)
front_of a b n size le =
    elim (cases_lt size (length a)) [
      | inl lt ↦ take-append-le size a (take n b) (omega (arith, lt)) ∙ sym (take-append-le size a b (omega (arith, lt)))
      | inr past ↦
          let rest = size - length a in
          let k : size ≡ length a + rest = omega (arith, past) in
          let few : rest ≤ n = omega (arith, le, past, length-append a (take n b), length-take n b) in
          ap (λ s. take s (a ++ take n b)) k
          ∙ take-append-add a (take n b) rest
          ∙ ap (λ (x : List ℕ). a ++ x) (shorter b rest n few)
          ∙ sym (take-append-add a b rest)
          ∙ sym (ap (λ s. take s (a ++ b)) k)
    ]

pub a_device_leaves_a_batch : ADeviceLeavesABatch
a_device_leaves_a_batch seed next logged batch n safe bytes all left chance =
    let whole : journal_bytes seed (logged ++ batch) ≡ journal_bytes seed logged ++ journal_bytes seed batch =
    flat_map-append (frame_bytes seed) logged batch in
    let first : take (length logged) (logged ++ batch) ≡ logged = take_at logged batch (length logged) refl in
    record {
      few = omega (arith, length-append logged batch);
      size = left.size;
      other = left.other;
      kept = (let few : length (journal_bytes seed logged) ≤ left.size = omega (arith, all, left.kept) in
          subst (λ (ls : List Logged). length (journal_bytes seed ls) ≤ left.size) (sym first) few);
      spelt =
          left.spelt
          ∙ ap (λ (x : List ℕ). x ++ left.other)
          (front_of (journal_bytes seed logged) (journal_bytes seed batch) n left.size left.within ∙ ap (take left.size) (sym whole));
      torn = chance.torn;
      silent = chance.silent;
    }

-- a frame is a batch of one
alone : (seed : ℕ) (l : Logged) → journal_bytes seed (l ∷ []) ≡ frame_bytes seed l
alone seed l = flat_map-cons (frame_bytes seed) l [] ∙ append-nil (frame_bytes seed l)

pub a_device_leaves_a_frame : ADeviceLeavesAFrame
a_device_leaves_a_frame seed next logged l n safe bytes all left chance =
    let same : take n (frame_bytes seed l) ≡ take n (journal_bytes seed (l ∷ [])) = ap (take n) (sym (alone seed l)) in
    a_device_leaves_a_batch seed next logged (l ∷ []) n safe bytes all (record {
      size = left.size;
      other = left.other;
      kept = left.kept;
      within = subst (λ (x : List ℕ). left.size ≤ length (journal_bytes seed logged ++ x)) same left.within;
      spelt = left.spelt ∙ ap (λ (x : List ℕ). take left.size (journal_bytes seed logged ++ x) ++ left.other) same;
    }) chance
