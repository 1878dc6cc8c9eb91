-- Leaves that come one after another.
use Rattle.std.proofs.Common.{◌≡◌, ℕ, ◌+◌, ◌<◌, List, ◌∷◌, ◌++◌, length, take, drop, get_or, ap, sym, ◌∙◌, subst, arith, append_assoc}
use Rattle.std.specs.List.{All}
use Rattle.std.proofs.lemmas.List.{drop-append-le, drop-drop}
use Rattle.std.proofs.lemmas.List.Elements.{All-drop}
use Rattle.model.specs.declared.entry.Entry.{Entry}
use Rattle.counted.specs.declared.node.Child.{Child}
use Rattle.counted.specs.Shapes.{items_of, all_items, AreChildren}
use Rattle.counted.specs.Paths.{AreFrom, Begins, HasSome}
use Rattle.counted.proofs.Places.{child_some, drop-past, items_from, split_items}

pub begins-append : (xs ys zs : List Entry) → ys ≡ xs ++ zs → Begins xs ys
begins-append xs ys zs e =
    let rest : drop (length xs) ys ≡ zs = ap (drop (length xs)) e ∙ drop-past xs zs 0 (length xs) (omega arith) in
    e ∙ ap (λ es. xs ++ es) (sym rest)

pub begins-longer : (xs ys zs : List Entry) → Begins xs ys → Begins xs (ys ++ zs)
begins-longer xs ys zs h =
    begins-append xs (ys ++ zs) (drop (length xs) ys ++ zs) (ap (λ es. es ++ zs) h ∙ append_assoc xs (drop (length xs) ys) zs)

pub begins-front : (xs zs ys : List Entry) → Begins (xs ++ zs) ys → Begins xs ys
begins-front xs zs ys h = begins-append xs ys (zs ++ drop (length (xs ++ zs)) ys) (h ∙ append_assoc xs zs _)

-- the children behind the one that is gone into
pub some_behind : (children xs : List Child) (i : ℕ) → AreChildren children → xs ≡ drop (i + 1) children → All HasSome xs
some_behind children xs i h e =
    let each : All HasSome children = λ k d lt. child_some _ _ (h.each k d lt) in
    subst (All HasSome) (sym e) (All-drop HasSome (i + 1) children each)

pub along_rest : (children : List Child) (i : ℕ) (d : Child) (at rest : ℕ) → i < length children
    → rest + length (all_items (take i children)) ≡ at → rest < length (items_of (get_or children i d))
    → drop at (all_items children) ≡ drop rest (items_of (get_or children i d)) ++ all_items (drop (i + 1) children)
along_rest children i d at rest lt is le =
    let before = all_items (take i children) in
    let here = items_of (get_or children i d) in
    let after = all_items (drop (i + 1) children) in
    let split = split_items i children ∙ ap (λ ys. before ++ ys) (items_from children i d lt) in
    ap (drop at) split ∙ drop-past before (here ++ after) rest at (omega arith) ∙ drop-append-le rest here after (omega arith)

pub leaf_and_rest : (es xs ys : List Entry) (at : ℕ) → drop at es ≡ xs ++ ys → ys ≡ drop (at + length xs) es
leaf_and_rest es xs ys at e =
    sym (sym (drop-drop (length xs) at es) ∙ ap (drop (length xs)) e ∙ drop-past xs ys 0 (length xs) (omega arith))

-- the first of the entries from a place on, and what comes behind
pub leaf_at : (es xs : List Entry) (children : List Child) (at : ℕ) → Begins (xs ++ all_items children) (drop at es)
    → drop at es ≡ xs ++ drop (at + length xs) es
leaf_at es xs children at h =
    let e = h ∙ append_assoc xs (all_items children) _ in
    e ∙ ap (λ ys. xs ++ ys) (leaf_and_rest es xs _ at e)

pub from_behind : (es xs : List Entry) (children : List Child) (at : ℕ) → All HasSome children
    → Begins (xs ++ all_items children) (drop at es) → AreFrom es (at + length xs) children
from_behind es xs children at some h =
    let e = h ∙ append_assoc xs (all_items children) _ in
    record { some = some; begins = begins-append (all_items children) _ _ (sym (leaf_and_rest es xs _ at e)) }

-- by the first of the children at hand
pub begins-within : (es xs here : List Entry) (children others : List Child) (c : Child) (at : ℕ) → AreFrom es at children
    → children ≡ c ∷ others → here ≡ items_of c
    → Begins xs (here ++ all_items others) → Begins xs (drop at es)
begins-within es xs here children others c at h is same front =
    let all : all_items children ≡ here ++ all_items others = ap all_items is ∙ ap (λ ys. ys ++ all_items others) (sym same) in
    subst (Begins xs) (sym (h.begins
    ∙ ap (λ ys. ys ++ drop (length (all_items children)) (drop at es)) all))
    (begins-longer xs (here ++ all_items others) _ front)
