-- Edits of nodes where they stand.
use Rattle.std.proofs.Common.{◌≡◌, ℕ, zero, suc, ◌+◌, ◌-◌, ◌^◌, ◌<◌, ◌≤◌, List, [], ◌∷◌, ◌++◌, length, take, drop, get_or, refl, ap, sym}
use Rattle.std.proofs.Common.{subst, ◌∙◌, arith, append_assoc, length-set, to_z, of_z, w64}
use Rattle.std.specs.Prelude.{Result, Ok, Err, IfOk, IfErr, ℤ, pos, ◌+ℤ◌, ◌-ℤ◌, Option, Some, None, slice_get, slice_set}
use Rattle.std.proofs.lemmas.Int.{ints}
use Rattle.std.proofs.lemmas.List.{drop_more, drop-set, take-set, take-append-drop}
use Rattle.std.specs.List.{All}
use Rattle.std.proofs.lemmas.List.Elements.{All-set}
use Rattle.model.specs.declared.entry.Entry.{Entry}
use Rattle.counted.specs.declared.node.TheConstants.{MAX_WIDTH, MIN_WIDTH}
use Rattle.counted.specs.declared.node.Body.{Body}
use Rattle.counted.specs.declared.node.Body.TheVariants.{Leaf, Inner}
use Rattle.counted.specs.declared.node.Child.{Child}
use Rattle.counted.specs.Edits.{IsEdit, IsEditedNode, put_items, edited}
use Rattle.counted.specs.Grown.{IsSized}
use Rattle.counted.specs.Leads.{lead_of}
use Rattle.counted.specs.Shapes.{items_of, all_items, depth_of, view_of, IsChild, AreChildren, IsBalanced}
use Rattle.counted.specs.Splits.{IsSplit}
use Rattle.counted.specs.Sums.{weight_of, total}
use Rattle.counted.specs.Views.{View}
use Rattle.counted.proofs.Leaves.{gone_within, put_items-le}
use Rattle.counted.proofs.BulkLemmas.{group_of}
use Rattle.counted.proofs.Places.{depth_all, edited_in_child, length-edited, split_items, items_from, many_below, most_below, most_law}
use Rattle.counted.proofs.Runs.{insert_is}
use Rattle.counted.proofs.Totals.{IsWithin, total-append, total_within, weight_within}

abbrev pub leaf_view : List Entry → View
leaf_view es = record { depth = 1; width = length es; items = es }

abbrev pub inner_view : List Child → View
inner_view cs = record { depth = suc (depth_of cs); width = length cs; items = all_items cs }

-- ---- in a leaf

slice_set_is : (xs : List Entry) (at : ℕ) (e : Entry) → at < length xs → slice_set xs at e ≡ take at xs ++ e ∷ drop (at + 1) xs
slice_set_is xs at e lt = sym (take-append-drop at (slice_set xs at e)) ∙ ap (λ ys. ys ++ drop at (slice_set xs at e)) (take-set xs at e)
    ∙ ap (λ ys. take at xs ++ ys) (drop-set xs at e lt)

-- the entries around an index, and what they add
total_around : (xs : List Entry) (at : ℕ) (d : Entry) → at < length xs
    → total xs ≡ total (take at xs) +ℤ (weight_of (get_or xs at d).change +ℤ total (drop (at + 1) xs))
total_around xs at d lt =
    let both = sym (ap total (take-append-drop at xs)) ∙ total-append (take at xs) (drop at xs) in
    let here = ap total (drop_more xs at d lt) in
    omega (arith, ints)

-- an entry written over another
pub put_over : (xs : List Entry) (at : ℕ) (e d : Entry) → at < length xs
    → IsEdit at 1 (Some e) xs (slice_set xs at e) (weight_of e.change -ℤ weight_of (get_or xs at d).change)
put_over xs at e d lt =
    let old = total_around xs at d lt in
    let new = ap total (slice_set_is xs at e lt) ∙ total-append (take at xs) (e ∷ drop (at + 1) xs) in
    record { items = slice_set_is xs at e lt; net = omega (arith, ints) }

pub put_between : (xs : List Entry) (at : ℕ) (e : Entry) → IsEdit at 0 (Some e) xs (take at xs ++ e ∷ drop at xs) (weight_of e.change)
put_between xs at e =
    let old = sym (ap total (take-append-drop at xs)) ∙ total-append (take at xs) (drop at xs) in
    let new = total-append (take at xs) (e ∷ drop at xs) in
    record { items = sym (insert_is xs at e); net = omega (arith, ints) }

pub taken : (xs : List Entry) (at : ℕ) (d : Entry) → at < length xs
    → IsEdit at 1 None xs (take at xs ++ drop (at + 1) xs) (pos 0 -ℤ weight_of (get_or xs at d).change)
taken xs at d lt =
    let old = total_around xs at d lt in
    let new = total-append (take at xs) (drop (at + 1) xs) in
    record { items = refl; net = omega (arith, ints) }

-- the same, however it is written
pub edit_same : (at gone gone' : ℕ) (put : Option Entry) (old old' new new' : List Entry) (added added' : ℤ) → gone ≡ gone' → old ≡ old'
    → new' ≡ new → added ≡ added' → IsEdit at gone put old new added → IsEdit at gone' put old' new' added'
edit_same at gone gone' put old old' new new' added added' g o n a h = record {
  items = n ∙ h.items ∙ ap (λ k. edited at k (put_items put) old) g ∙ ap (edited at gone' (put_items put)) o;
  net = ap total n ∙ h.net ∙ ap (λ z. total old +ℤ z) a ∙ ap (λ xs. total xs +ℤ added') o;
}

pub leaf_edit : (at gone least : ℕ) (put : Option Entry) (old new : List Entry) (r : Result ℤ (Option Entry))
    → (least ≤ length old → least ≤ length new) → IfOk r (IsEdit at gone put old new) → IfErr r (λ back. (new ≡ old) × (back ≡ put))
    → IsEditedNode at gone least put (leaf_view old) (leaf_view new) r
leaf_edit at gone least put old new (Ok added) enough ok err = record {
  depth = refl;
  enough = enough;
  root = λ h deep. absurd (omega arith);
  ok = ok;
  err = tt;
}
leaf_edit at gone least put old new (Err back) enough ok err = record {
  depth = refl;
  enough = enough;
  root = λ h deep. absurd (omega arith);
  ok = tt;
  err = (ap leaf_view err.0, err.1);
}

-- ---- in a child

-- a node that is at least half full
pub sized_law : (b : Body) (v : View) → view_of b ≡ v → IsBalanced b → MIN_WIDTH ≤ v.width → IsSized v
sized_law (Leaf entries) v is h full =
    let P : View → Type 0 = λ w. MIN_WIDTH ≤ w.width → IsSized w in
    let most = most_law (Leaf entries) (view_of (Leaf entries)) refl h in
    subst P is (λ wide. record { many = wide; most = most; deep = omega arith }) full
sized_law (Inner children) v is h full =
    let P : View → Type 0 = λ w. MIN_WIDTH ≤ w.width → IsSized w in
    let most = most_below children.items h in
    subst P is (λ wide. record { many = many_below children.items h wide; most = most; deep = omega arith }) full

-- a child whose node was edited, and what is kept of it with it
pub child_edit : (depth at gone : ℕ) (put : Option Entry) (added : ℤ) (c x : Child) → IsChild depth c → at + gone ≤ length (items_of c)
    → IsEdit at gone put (items_of c) (items_of x) added
    → x.node.value.depth ≡ c.node.value.depth → MIN_WIDTH ≤ x.node.value.width → IsSized x.node.value
    → ((e : Entry) → slice_get (items_of x) 0 ≡ Some e → x.lead ≡ lead_of e)
    → x.count + gone ≡ c.count + length (put_items put) → x.net ≡ c.net +ℤ added → IsChild depth x
child_edit depth at gone put added c x h within edit level full sized first count net =
    let long = length-edited at gone (put_items put) (items_of c) within in
    let e = ap length edit.items in
    let n = edit.net in
    let same = level ∙ h.level in
    record {
      level = same;
      full = full;
      deep = h.deep;
      many = let P : ℕ → Type 0 = λ d. MIN_WIDTH ^ d ≤ length (items_of x) in subst P same sized.many;
      most = let P : ℕ → Type 0 = λ d. length (items_of x) ≤ MAX_WIDTH ^ d in subst P same sized.most;
      count = omega (arith, h.count);
      net = omega (arith, ints, h.net);
      lead = first;
    }

-- the depth of children of which one is written over by another as deep
depth_set : (children : List Child) (i : ℕ) (c x : Child) → i < length children → c ≡ get_or children i c
    → x.node.value.depth ≡ c.node.value.depth → depth_of (slice_set children i x) ≡ depth_of children
depth_set [] i c x lt at e = refl
depth_set (y ∷ ys) zero c x lt at e = e ∙ ap (λ (z : Child). z.node.value.depth) at
depth_set (y ∷ ys) (suc i) c x lt at e = refl

-- children of which one is written over by another
pub record AreSet (children : List Child) (i : ℕ) (x : Child) : Type 0 where
  pub depth : depth_of (slice_set children i x) ≡ depth_of children
  pub each : AreChildren (slice_set children i x)
  pub items : all_items (slice_set children i x) ≡ all_items (take i children) ++ (items_of x ++ all_items (drop (i + 1) children))

pub children_set : (children : List Child) (i : ℕ) (c x : Child) → AreChildren children → i < length children → c ≡ get_or children i c
    → IsChild c.node.value.depth x → AreSet children i x
children_set children i c x h lt at is =
    let level : c.node.value.depth ≡ depth_of children = ap (λ (y : Child). y.node.value.depth) at ∙ (h.each i c lt).level in
    let deep = depth_set children i c x lt at is.level in
    let one = subst (λ d. IsChild d x) level is in
    let all = All-set (IsChild (depth_of children)) children i x one h.each in
    let n = length-set children i x in
    let P : ℕ → Type 0 = λ d. All (IsChild d) (slice_set children i x) in
    record {
      depth = deep;
      each = record { some = omega (arith, h.some); room = omega (arith, h.room); each = subst P (sym deep) all };
      items = split_items i (slice_set children i x)
          ∙ ap (λ cs. all_items cs ++ all_items (drop i (slice_set children i x))) (take-set children i x)
          ∙ ap (λ cs. all_items (take i children) ++ all_items cs) (drop-set children i x lt);
    }

-- the entries around a child
items_around : (children : List Child) (i : ℕ) (c : Child) → i < length children → c ≡ get_or children i c
    → all_items children ≡ all_items (take i children) ++ (items_of c ++ all_items (drop (i + 1) children))
items_around children i c lt at =
    split_items i children ∙ ap (λ xs. all_items (take i children) ++ xs)
    (items_from children i c lt ∙ ap (λ (y : Child). items_of y ++ all_items (drop (i + 1) children)) (sym at))

children_edit : (children : List Child) (i at gone rest : ℕ) (put : Option Entry) (added : ℤ) (c x : Child) → i < length children
    → c ≡ get_or children i c
    → rest + length (all_items (take i children)) ≡ at → rest + gone ≤ length (items_of c) → AreSet children i x
    → IsEdit rest gone put (items_of c) (items_of x) added
    → IsEdit at gone put (all_items children) (all_items (slice_set children i x)) added
children_edit children i at gone rest put added c x lt is starts fits set edit =
    let before = all_items (take i children) in
    let after = all_items (drop (i + 1) children) in
    let e : items_of c ≡ items_of (get_or children i c) = ap items_of is in
    let long = ap length e in
    let put_in = edited_in_child children i c at gone rest (put_items put) lt starts (omega arith) in
    let new_total = ap total set.items ∙ total-append before (items_of x ++ after) in
    let old_total = ap total (items_around children i c lt is) ∙ total-append before (items_of c ++ after) in
    let x_total = total-append (items_of x) after in
    let c_total = total-append (items_of c) after in
    let net = edit.net in
    record {
      items = set.items ∙ ap (λ xs. before ++ (xs ++ after)) (edit.items ∙ ap (edited rest gone (put_items put)) e)
          ∙ sym (append_assoc before (edited rest gone (put_items put) (items_of (get_or children i c))) after) ∙ put_in;
      net = omega (arith, ints);
    }

inner_node : (children : List Child) (i at gone rest least : ℕ) (put : Option Entry) (c x : Child) (r : Result ℤ (Option Entry))
    → i < length children → c ≡ get_or children i c → rest + length (all_items (take i children)) ≡ at
    → rest + gone ≤ length (items_of c) → AreSet children i x
    → IfOk r (IsEdit rest gone put (items_of c) (items_of x)) → IfErr r (λ back. (items_of x ≡ items_of c) × (back ≡ put))
    → IsEditedNode at gone least put (inner_view children) (inner_view (slice_set children i x)) r
inner_node children i at gone rest least put c x (Ok added) lt is starts fits set ok err =
    let n = length-set children i x in
    record {
      depth = ap suc set.depth;
      enough = λ enough. omega arith;
      root = λ h deep. let wide = h (omega (arith, set.depth)) in omega arith;
      ok = children_edit children i at gone rest put added c x lt is starts fits set ok;
      err = tt;
    }
inner_node children i at gone rest least put c x (Err back) lt is starts fits set ok err =
    let n = length-set children i x in
    let same = set.items ∙ ap (λ xs. all_items (take i children) ++ (xs ++ all_items (drop (i + 1) children))) err.0
    ∙ sym (items_around children i c lt is) in
    record {
      depth = ap suc set.depth;
      enough = λ enough. omega arith;
      root = λ h deep. let wide = h (omega (arith, set.depth)) in omega arith;
      ok = tt;
      err = ((let deep = set.depth in cc), err.1);
    }

-- an inner node, by the child at which what goes ends
pub inner_edit : (children : List Child) (i at gone end least : ℕ) (put : Option Entry) (c x : Child) (r : Result ℤ (Option Entry))
    → gone ≤ 1 → AreChildren children → i < length children → c ≡ get_or children i c
    → end + length (all_items (take i children)) ≡ at + gone → end ≤ length (items_of (get_or children i c))
    → (1 ≤ at + gone → 1 ≤ end) → IsChild c.node.value.depth x → IfOk r (IsEdit (end - gone) gone put (items_of c) (items_of x))
    → IfErr r (λ back. (items_of x ≡ items_of c) × (back ≡ put))
    → IsEditedNode at gone least put (inner_view children) (inner_view (slice_set children i x)) r
inner_edit children i at gone end least put c x r one h lt is starts room some child ok err =
    let set = children_set children i c x h lt is child in
    let own = gone_within at gone end one some in
    let long = ap (λ (y : Child). length (items_of y)) is in
    inner_node children i at gone (end - gone) least put c x r lt is (omega arith) (omega arith) set ok err

-- a child that is one of the children, by its own depth
pub own_child : (depth : ℕ) (c y : Child) → c ≡ y → IsChild depth y → IsChild c.node.value.depth c
own_child depth c y is h =
    let here = subst (IsChild depth) (sym is) h in
    subst (λ d. IsChild d c) (sym here.level) here

-- what all add after an edit, which is one entry more at most
pub edit_within : (at gone : ℕ) (put : Option Entry) (old new : List Entry) (added : ℤ) → at + gone ≤ length old
    → IsEdit at gone put old new added → IsWithin (total old +ℤ added) (length old + 1)
edit_within at gone put old new added le edit =
    let long = length-edited at gone (put_items put) old le in
    let some = put_items-le put in
    let n = ap length edit.items in
    let net = edit.net in
    let within = total_within new in
    record { above = omega (arith, ints); below = omega (arith, ints) }

-- ---- a node that is copied

pub record IsCopied (new : List Child) (v : View) : Type 0 where
  pub each : AreChildren new
  pub view : inner_view new ≡ v

pub copied_children : (children source new : List Child) (v : View) → AreChildren children → inner_view children ≡ v → source ≡ children
    → all_items new ≡ all_items source → length new ≡ length source
    → ((depth : ℕ) → All (IsChild depth) source → All (IsChild depth) new) → IsCopied new v
copied_children children source new v h is same items count each =
    let depth = depth_of children in
    let P : List Child → Type 0 = All (IsChild depth) in
    let all = each depth (subst P (sym same) h.each) in
    let long : length new ≡ length children = omega (arith, ap length same) in
    let deep = depth_all depth new all (omega (arith, h.some)) in
    let entries : all_items new ≡ all_items children = items ∙ ap all_items same in
    let view : inner_view new ≡ inner_view children = cc in
    record { each = group_of depth new all (omega (arith, h.some)) (omega (arith, h.room)); view = view ∙ is }

-- ---- a leaf that becomes two

pub leaf_split : (children new : List Child) (i at gone : ℕ) (put : Option Entry) (e : Entry) (entries : List Entry) (c : Child) (added : ℤ)
    → AreChildren children → i < length children → put ≡ Some e → items_of (get_or children i c) ≡ entries
    → (get_or children i c).node.value.depth ≡ 1 → gone ≡ 0 → length children < MAX_WIDTH → added ≡ weight_of e.change
    → all_items new ≡ all_items (take i children) ++ edited at 0 (e ∷ []) entries ++ all_items (drop (i + 1) children)
    → length new ≤ length children + 1 → length children ≤ length new → All (IsChild 1) new → IsSplit children i at gone put new added
leaf_split children new i at gone put e entries c added h lt put_is items_is leaf none room net items more wide all =
    let level : depth_of children ≡ 1 = sym (h.each i c lt).level ∙ leaf in
    let some : 1 ≤ length new = omega (arith, h.some) in
    let split : IsSplit children i at gone (Some e) new added = record {
      keeps = none;
      some = refl;
      net = net;
      each = group_of 1 new all some (omega arith);
      depth = depth_all 1 new all some ∙ sym level;
      wide = wide;
      child = c;
      items = items
          ∙ ap (λ xs. all_items (take i children) ++ edited at 0 (e ∷ []) xs ++ all_items (drop (i + 1) children)) (sym items_is);
    } in
    subst (λ (o : Option Entry). IsSplit children i at gone o new added) (sym put_is) split

-- what a node's entries are once one was put into a full leaf
split_items_edit : (children new : List Child) (i at whole gone : ℕ) (put : Option Entry) (added : ℤ) → i < length children
    → at + length (all_items (take i children)) ≡ whole → ((d : Child) → at ≤ length (items_of (get_or children i d)))
    → IsSplit children i at gone put new added → IsEdit whole gone put (all_items children) (all_items new) added
split_items_edit children new i at whole gone None added lt starts room split = let h = split.some in cc
split_items_edit children new i at whole gone (Some e) added lt starts room split =
    let le = room split.child in
    let put_in = split.items ∙ edited_in_child children i split.child whole 0 at (e ∷ []) lt starts (omega arith) in
    let all = all_items children in
    let here = put_between all whole e in
    let net = ap total (put_in ∙ sym here.items) ∙ here.net ∙ ap (λ z. total all +ℤ z) (sym split.net) in
    record {
      items = put_in ∙ ap (λ n. edited whole n (e ∷ []) all) (sym split.keeps);
      net = net;
    }

pub split_edit : (children new : List Child) (i at gone end least : ℕ) (put : Option Entry) (added : ℤ) → gone ≤ 1
    → i < length children → end + length (all_items (take i children)) ≡ at + gone
    → ((d : Child) → end ≤ length (items_of (get_or children i d))) → IsSplit children i (end - gone) gone put new added
    → IsEditedNode at gone least put (inner_view children) (inner_view new) (Ok added)
split_edit children new i at gone end least put added one lt starts room split =
    let none = split.keeps in
    let depth = split.depth in
    let wide = split.wide in
    record {
      depth = ap suc depth;
      enough = λ enough. omega arith;
      root = λ h deep. let two = h (omega (arith, depth)) in omega arith;
      ok = split_items_edit children new i (end - gone) at gone put added lt (omega arith)
          (λ d. let le = room d in omega arith) split;
      err = tt;
    }

-- what an entry adds is a small number
pub split_small : (children new : List Child) (i at gone : ℕ) (put : Option Entry) (added : ℤ) → IsSplit children i at gone put new added
    → to_z w64 (of_z w64 added) ≡ added
split_small children new i at gone None added split = let h = split.some in cc
split_small children new i at gone (Some e) added split =
    let net = split.net in
    let small = weight_within e.change in
    omega (arith, ints)
