-- The first entries of children, and the entry at a place where lists meet.
use Rattle.std.proofs.Common.{◌≡◌, ℕ, zero, suc, ◌+◌, ◌<◌, ◌≤◌, List, [], ◌∷◌, ◌++◌, length, drop, get_or, refl, ap, sym, ◌∙◌, arith}
use Rattle.std.specs.Prelude.{Some, slice_get}
use Rattle.std.proofs.lemmas.List.{get_or_default}
use Rattle.model.specs.declared.entry.Entry.{Entry}
use Rattle.counted.specs.declared.entry.Lead.{Lead}
use Rattle.counted.specs.declared.node.Child.{Child}
use Rattle.counted.specs.Leads.{lead_of, lead_at}
use Rattle.counted.specs.Shapes.{items_of, all_items, AreChildren}
use Rattle.counted.proofs.Places.{child_some, items_from}

pub get-past : (xs ys : List Entry) (m k : ℕ) → k ≡ length xs + m → slice_get (xs ++ ys) k ≡ slice_get ys m
get-past [] ys m k is = ap (slice_get ys) (let e : k ≡ m = omega arith in e)
get-past (x ∷ xs) ys m zero is = absurd (omega arith)
get-past (x ∷ xs) ys m (suc k) is = get-past xs ys m k (omega arith)

pub leaf_lead : (xs : List Entry) (d : Entry) → 1 ≤ length xs → slice_get xs 0 ≡ Some (get_or xs 0 d)
leaf_lead [] d some = absurd (omega arith)
leaf_lead (x ∷ xs) d some = refl

-- the first entry of a child that was read
pub first_entry : (children : List Child) (i : ℕ) (x d : Child) (e : Entry) → AreChildren children → i < length children
    → x ≡ get_or children i x → slice_get (items_of x) 0 ≡ Some (get_or (items_of (get_or children i d)) 0 e)
first_entry children i x d e h lt is =
    ap (λ (y : Child). slice_get (items_of y) 0) (is ∙ get_or_default children i x d lt)
    ∙ leaf_lead (items_of (get_or children i d)) e (child_some _ _ (h.each i d lt))

lead_front : (es rest : List Entry) (h : Lead) → 1 ≤ length es → ((e : Entry) → slice_get es 0 ≡ Some e → h ≡ lead_of e)
    → lead_at (es ++ rest) 0 ≡ Some h
lead_front [] rest h some is = absurd (omega arith)
lead_front (x ∷ es) rest h some is = ap Some (sym (is x refl))

-- the lead of the first entry from a child on
pub lead_from : (children : List Child) (i : ℕ) (d : Child) → AreChildren children → i < length children
    → lead_at (all_items (drop i children)) 0 ≡ Some (get_or children i d).lead
lead_from children i d h lt =
    let c = get_or children i d in
    let is = h.each i d lt in
    ap (λ (es : List Entry). lead_at es 0) (items_from children i d lt)
    ∙ lead_front (items_of c) (all_items (drop (i + 1) children)) c.lead (child_some _ _ is) is.lead
