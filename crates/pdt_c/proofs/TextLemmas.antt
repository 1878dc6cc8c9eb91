-- Texts that are put into C's rooms, one by one.
use Rattle.std.proofs.Common.{◌≡◌, ◌∙◌, ℕ, ◌+◌, ◌<◌, pos, List, [], ◌∷◌, ◌++◌, append_assoc, length, take, drop, map, set, sym, ap, subst, arith}
use Rattle.std.specs.Prelude.{ℤ, Some, slice_get}
use Rattle.std.proofs.lemmas.List.{get_or-drop, length-drop, map-append, take_more, take_more_set}
use Rattle.std.proofs.lemmas.Option.{get_or_from_slice_get, slice_get_within}
use denote.RawPtr.{Ptr, InBlock}
use Rattle.std.proofs.lemmas.List.Elements.{AllWithin-more_set}
use Rattle.values.specs.declared.value.Value.TheVariants.{Text}
use Rattle.pdt_c.specs.Cells.{number_of, numbers_of}
use Rattle.pdt_c.specs.Texts.{AreThere}

-- how long so many texts of a block are, from one of them on
abbrev pub run_lengths : List (List ℕ) → ℕ → ℕ → List ℤ
run_lengths texts first count = numbers_of (map Text (take count (drop first texts)))

pub run_lengths_more : (texts : List (List ℕ)) (first i : ℕ) (text : List ℕ) → slice_get texts (first + i) ≡ Some text
    → run_lengths texts first (i + 1) ≡ run_lengths texts first i ++ pos (length text) ∷ []
run_lengths_more texts first i text is =
    ap (λ (ts : List (List ℕ)). numbers_of (map Text ts)) more
    ∙ ap numbers_of (map-append Text (take i (drop first texts)) (text ∷ []))
    ∙ map-append number_of (map Text (take i (drop first texts))) (Text text ∷ [])
  where
    within : i < length (drop first texts)
    within = omega (arith, length-drop first texts, slice_get_within texts (first + i) text is)

    more : take (i + 1) (drop first texts) ≡ take i (drop first texts) ++ text ∷ []
    more =
        take_more (drop first texts) i text within
        ∙ ap (λ t. take i (drop first texts) ++ t ∷ [])
        (get_or-drop first texts i text ∙ get_or_from_slice_get texts (first + i) text text is)

-- the length of the next text is put after those so far
pub length_put : (before lens : List ℤ) (texts : List (List ℕ)) (first i done : ℕ) (text : List ℕ) → done + i < length lens
    → slice_get texts (first + i) ≡ Some text
    → take (done + i) lens ≡ before ++ run_lengths texts first i
    → take (done + (i + 1)) (set lens (done + i) (pos (length text))) ≡ before ++ run_lengths texts first (i + 1)
length_put before lens texts first i done text within there is =
    ap (λ n. take n (set lens (done + i) (pos (length text)))) next
    ∙ take_more_set lens (done + i) (pos (length text)) within
    ∙ ap (λ (ns : List ℤ). ns ++ pos (length text) ∷ []) is
    ∙ append_assoc before (run_lengths texts first i) (pos (length text) ∷ [])
    ∙ ap (λ (ns : List ℤ). before ++ ns) (sym (run_lengths_more texts first i text there))
  where
    next : done + (i + 1) ≡ (done + i) + 1
    next = omega arith

-- the address of one more text is put after those so far
pub there_one : (at : ℕ) (texts after : List Ptr) (address : Ptr) → at < length texts → after ≡ set texts at address
    → InBlock address → AreThere at texts
    → AreThere (at + 1) after
there_one at texts after address within is lies before =
    subst (AreThere (at + 1)) (sym is) (AllWithin-more_set texts at address within InBlock before lies)

pub there_more : (done i : ℕ) (texts : List Ptr) (address : Ptr) (after : List Ptr) → done + i < length texts
    → after ≡ set texts (done + i) address → InBlock address
    → AreThere (done + i) texts → AreThere (done + (i + 1)) after
there_more done i texts address after within is lies before =
    subst (λ n. AreThere n after) next (there_one (done + i) texts after address within is lies before)
  where
    next : (done + i) + 1 ≡ done + (i + 1)
    next = omega arith
