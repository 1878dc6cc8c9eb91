-- Bytes that stay while others are appended.
use Rattle.std.proofs.Common.{◌≡◌, ◌∷◌, [], ◌++◌, List, ℕ, length, take, sym, ap, ◌∙◌, append_assoc, arith}
use Rattle.std.specs.List.{AllByRecursion}
use Rattle.std.proofs.lemmas.List.{length-append, take-take, flat_map_more}
use Rattle.std.proofs.Math.Seq.{take-append_seam}
use Rattle.model.specs.declared.entry.Entry.{Entry}
use Rattle.codec.specs.Fit.{ArePlainEntries, IsPlainChange}
use Rattle.codec.specs.Payload.{entry_bytes, entries_bytes}

-- what keeps bytes keeps their front
pub kept_more : (old more new whole : List ℕ) → whole ≡ old ++ more → take (length whole) new ≡ whole → take (length old) new ≡ old
kept_more old more new whole is kept =
    sym (take-take (length old) (length whole) new (omega (arith, ap length is, length-append old more)))
    ∙ ap (take (length old)) (kept ∙ is) ∙ take-append_seam old more

-- the same where bytes were appended twice before
pub kept_twice : (old a b new between whole : List ℕ) → between ≡ old ++ a → whole ≡ between ++ b → take (length whole) new ≡ whole
    → take (length old) new ≡ old
kept_twice old a b new between whole first second kept =
    kept_more old (a ++ b) new whole (second ∙ ap (λ xs. xs ++ b) first ∙ append_assoc old a b) kept

-- how far entries have been written: those before the ones that are left
pub record IsWritten (old now : List ℕ) (entries left : List Entry) : Type 0 where
  pub front : List Entry
  pub parts : entries ≡ front ++ left
  pub plain : ArePlainEntries front
  pub spelt : now ≡ old ++ entries_bytes front

all_push : {X : Type 0} (P : X → Type 0) (xs : List X) (x : X) → AllByRecursion P xs → P x → AllByRecursion P (xs ++ x ∷ [])
all_push P [] x all here = (here, tt)
all_push P (y ∷ xs) x all here = (all.0, all_push P xs x all.1 here)

-- an entry more
pub written_more : (old now new : List ℕ) (entries left rest : List Entry) (entry : Entry) → IsWritten old now entries left
    → left ≡ entry ∷ rest → new ≡ now ++ entry_bytes entry → IsPlainChange entry.change → IsWritten old new entries rest
written_more old now new entries left rest entry so_far steps spelt plain =
    record {
      front = so_far.front ++ entry ∷ [];
      parts =
          so_far.parts ∙ ap (λ es. so_far.front ++ es) steps ∙ sym (append_assoc so_far.front (entry ∷ []) rest);
      plain = all_push (λ e. IsPlainChange e.change) so_far.front entry so_far.plain plain;
      spelt =
          spelt ∙ ap (λ xs. xs ++ entry_bytes entry) so_far.spelt ∙ flat_map_more entry_bytes old so_far.front entry;
    }
