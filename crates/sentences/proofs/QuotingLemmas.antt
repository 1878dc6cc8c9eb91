-- Texts in quotes.
use Rattle.std.proofs.Common.{◌≡◌, ◌≤◌, ◌+◌, ◌-◌, ◌∷◌, ℕ, List, [], length, chars, ap, ◌∙◌, inl, inr, nat_lt, arith}
use Rattle.std.proofs.lemmas.Bool.{cases_Bool, ltb-false}
use Rattle.std.proofs.lemmas.List.{length-append, nil_from_length}
use Rattle.std.proofs.lemmas.Str.{chars-nil}
use Rattle.sentences.specs.Quoting.{cut}

-- an empty text has no character
pub chars_of_empty : (text : List ℕ) → length text ≡ 0 → chars text ≡ []
chars_of_empty text none = ap chars (nil_from_length text none) ∙ chars-nil

-- what is shown has no more bytes than there is room for, and an ellipsis
pub length-cut : (room : ℕ) (pieces : List (List ℕ)) → length (cut room pieces) ≤ room + 4
length-cut room [] = omega arith
length-cut room (piece ∷ pieces) = elim (cases_Bool (nat_lt room (length piece))) [
  | inl over ↦ rw over (omega arith)
  | inr fits ↦
      let more = length-cut (room - length piece) pieces in
      let whole = length-append piece (cut (room - length piece) pieces) in
      let below = ltb-false room (length piece) fits in
      rw fits (omega (arith, more, whole, below))
]
