-- Texts of which one has copies.
use Rattle.std.proofs.Common.{◌≡◌, ◌∷◌, ◌++◌, ◌+◌, ◌-◌, ◌≤◌, ℕ, zero, suc, [], List, length, Some, slice_get, take, drop}
use Rattle.std.proofs.Common.{refl, sym, ap, subst, ◌∙◌, arith, rules}
use Rattle.std.specs.Prelude.{replicate}
use Rattle.std.specs.List.{AllByRecursion}
use Rattle.std.proofs.lemmas.List.{append-nil, length-append, length-replicate, drop-replicate, take-replicate, replicate-append-replicate}
use Rattle.blocks.specs.Copies.{AreTexts, texts_of}
use Rattle.blocks.specs.Cuts.{IsText}
use Rattle.std.proofs.lemmas.Grind.{common_steps}

-- the first of one text is that text
pub one_alone : (given : List (List ℕ)) (text : List ℕ) → length given ≡ 1 → slice_get given 0 ≡ Some text → given ≡ text ∷ []
one_alone [] text one is = search rules
one_alone (first ∷ []) text one is = grind (arith, common_steps)
one_alone (first ∷ other ∷ given) text one is = absurd (omega arith)

-- copies of a text are texts
copies_are : (n : ℕ) (text : List ℕ) → IsText text → AllByRecursion IsText (replicate n text)
copies_are zero text is = tt
copies_are (suc n) text is = (is, copies_are n text is)

-- so are the texts with them
pub texts_are : (given : List (List ℕ)) (copies : ℕ) → AreTexts given copies → AllByRecursion IsText (texts_of given copies)
texts_are [] zero are = tt
texts_are [] (suc n) are = absurd (omega (arith, are.one (omega arith)))
texts_are (text ∷ []) copies are = (are.texts.0, copies_are copies text are.texts.0)
texts_are (text ∷ other ∷ given) zero are =
    subst (λ (ts : List (List ℕ)). AllByRecursion IsText (text ∷ other ∷ ts)) (sym (append-nil given)) are.texts
texts_are (text ∷ other ∷ given) (suc n) are = absurd (omega (arith, are.one (omega arith)))

-- copies behind copies
pub more_copies : (text : List ℕ) (copies count : ℕ)
    → texts_of (text ∷ []) (copies + count) ≡ texts_of (text ∷ []) copies ++ replicate count text
more_copies text copies count = ap (λ (ts : List (List ℕ)). text ∷ ts) (sym (replicate-append-replicate copies count text))

-- a text and its copies
pub all_copies : (text : List ℕ) (count : ℕ) → 1 ≤ count → texts_of (text ∷ []) (count - 1) ≡ replicate count text
all_copies text zero some = absurd (omega arith)
all_copies text (suc n) some = search rules

-- a run of a text and its copies
pub run_of_copies : (text : List ℕ) (copies start count : ℕ) → start + count ≤ 1 + copies
    → take count (drop start (texts_of (text ∷ []) copies)) ≡ replicate count text
run_of_copies text copies start count within =
    ap (take count) (drop-replicate start (suc copies) text) ∙ take-replicate count (suc copies - start) text (omega arith)

-- how many texts there are with the copies
pub length-texts_of : (given : List (List ℕ)) (copies : ℕ) → length (texts_of given copies) ≡ length given + copies
length-texts_of given copies = grind (arith, common_steps, length-append, length-replicate)

-- where none is spelled out there are none
pub none_given : (given : List (List ℕ)) (copies : ℕ) → AreTexts given copies → length given ≡ 0
    → (given ≡ []) × (texts_of given copies ≡ [])
none_given [] zero are none = (refl, refl)
none_given [] (suc n) are none = absurd (omega (arith, are.one (omega arith)))
none_given (text ∷ given) copies are none = absurd (omega (arith, none))
