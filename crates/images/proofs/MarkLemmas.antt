-- A payload that is a mark, and what frames say of a generation, one by one.
use Rattle.std.proofs.Common.{◌≡◌, ◌≢◌, ℕ, Bool, true, false, cond, eqb, Option, Some, None, List, ◌∷◌, length, refl, ap, ◌∙◌}
use Rattle.std.specs.Option.{option_or}
use Rattle.std.proofs.lemmas.Bool.{eq-eqb, ne_eqb}
use Rattle.std.proofs.lemmas.Nat.{from_be_bytes-to_be_bytes_4, from_be_bytes-to_be_bytes_8}
use Rattle.journal.specs.Frame.{Logged}
use Rattle.journal.specs.Reading.{long_at, word_at}
use Rattle.images.specs.Laws.{AMarkReadsBack}
use Rattle.images.specs.Mark.{bad_mark, mark_in, number_in, number_of}
use Rattle.images.specs.declared.mark.ImageMark.{ImageMark}

abbrev record_of : ℕ → ℕ → ImageMark
record_of generation number = record { generation = generation; number = number }

pub a_mark_reads_back : AMarkReadsBack
unfolding mark_in
a_mark_reads_back n mark fits =
    let generation = from_be_bytes-to_be_bytes_4 mark.generation fits.generation in
    let number = from_be_bytes-to_be_bytes_8 mark.number fits.number in
    λ i. Some (record_of (generation i) (number i))

abbrev found : List ℕ → ImageMark
found payload = record_of (word_at payload 0) (long_at payload 4)

-- a mark has 12 bytes
long_when : (b : Bool) (found mark : ImageMark) → cond b (Some found) None ≡ Some mark → b ≡ true
long_when true found mark e = refl
long_when false found mark e = absurd cc

short_when : (b : Bool) (found : ImageMark) → cond b (Some found) None ≡ None → b ≡ false
short_when true found e = absurd cc
short_when false found e = refl

is_long : (payload : List ℕ) (mark : ImageMark) → mark_in payload ≡ Some mark → eqb (length payload) 12 ≡ true
unfolding mark_in
is_long payload mark e = long_when (eqb (length payload) 12) (found payload) mark e

is_short : (payload : List ℕ) → mark_in payload ≡ None → eqb (length payload) 12 ≡ false
unfolding mark_in
is_short payload e = short_when (eqb (length payload) 12) (found payload) e

-- ---- a frame of the rest

or_or : (a b c : Option ℕ) → option_or (option_or a b) c ≡ option_or a (option_or b c)
or_or None b c = refl
or_or (Some n) b c = refl

module _ (generation : ℕ) (l : Logged) (rest : List Logged) (number : Option ℕ) where
  module _ (mark : ImageMark) (is : mark_in l.payload ≡ Some mark) where
    own : option_or (number_in generation (l ∷ rest)) number
        ≡ option_or (number_in generation rest) (option_or (number_of generation (Some mark)) number)
    own = ap (λ (m : Option ImageMark). option_or (option_or (number_in generation rest) (number_of generation m)) number) is
        ∙ or_or (number_in generation rest) (number_of generation (Some mark)) number

    -- a mark of the generation counts in place of those before it
    pub counts : mark.generation ≡ generation
        → option_or (number_in generation (l ∷ rest)) number ≡ option_or (number_in generation rest) (Some mark.number)
    counts same = own
        ∙ ap (λ (b : Bool). option_or (number_in generation rest) (option_or (cond b (Some mark.number) None) number))
        (eq-eqb mark.generation generation same)

    -- one of another generation doesn't
    pub counts_not : mark.generation ≢ generation
        → option_or (number_in generation (l ∷ rest)) number ≡ option_or (number_in generation rest) number
    counts_not other = own
        ∙ ap (λ (b : Bool). option_or (number_in generation rest) (option_or (cond b (Some mark.number) None) number))
        (ne_eqb mark.generation generation other)

    pub is_good : bad_mark (l ∷ rest) ≡ bad_mark rest
    is_good = ap (λ (b : Bool). cond b (bad_mark rest) (Some l.number)) (is_long l.payload mark is)

  -- the first that is no mark
  pub is_bad : mark_in l.payload ≡ None → bad_mark (l ∷ rest) ≡ Some l.number
  is_bad is = ap (λ (b : Bool). cond b (bad_mark rest) (Some l.number)) (is_short l.payload is)
