-- Children, and the places of their entries.
use Rattle.std.proofs.Common.{Vec, Global, ◌≡◌, ℕ, zero, suc, ◌+◌, ◌*◌, ◌^◌, ◌<◌, ◌≤◌, List, [], ◌∷◌, ◌++◌, length, take, drop}
use Rattle.std.proofs.Common.{get_or, refl, ap, sym, ◌∙◌, subst, arith, append_assoc, length-append, length-take, length-drop, ◌-◌}
use Rattle.std.specs.Prelude.{◌+ℤ◌}
use Rattle.std.specs.List.{All}
use Rattle.std.specs.Prelude.{Result, Ok, Err, IfOk, slice_get}
use Rattle.std.specs.declared.alloc.AllocError.{AllocError}
use Rattle.std.proofs.lemmas.Int.{ints}
use Rattle.std.proofs.lemmas.List.{append-nil, take_more, drop_more, take-append-drop}
use Rattle.std.proofs.Math.Nat.{mul-le-mul_right, pow-succ'}
use Rattle.std.proofs.lemmas.List.Concat.{flat_map-append}
use Rattle.model.specs.declared.entry.Entry.{Entry}
use Rattle.counted.specs.Edits.{edited}
use Rattle.counted.specs.declared.node.TheConstants.{MAX_WIDTH, MIN_WIDTH}
use Rattle.counted.specs.declared.node.Child.{Child}
use Rattle.counted.specs.Sums.{total}
use Rattle.counted.specs.Shapes.{items_of, all_items, depth_of, view_of, IsChild, AreChildren, IsBalanced}
use Rattle.counted.specs.Trees.{IsDepth, IsRoot}
use Rattle.counted.specs.Views.{View}
use Rattle.counted.specs.Grown.{IsSameChild, IsGrown, grown_items}
use Rattle.counted.specs.declared.node.grown.Grown.{Grown}
use Rattle.counted.specs.declared.node.grown.Grown.TheVariants.{One, Two}
use Rattle.std.proofs.lemmas.List.Elements.{All-head, All-tail, All-drop}
use Rattle.std.proofs.lemmas.List.{take-append-le, drop-append-le}
use Rattle.counted.specs.declared.node.Body.{Body}
use Rattle.counted.specs.declared.node.Body.TheVariants.{Leaf, Inner}
use Rattle.counted.proofs.Totals.{IsWithin, total_within, total-append}

pub power_some : (d : ℕ) → 1 ≤ MIN_WIDTH ^ d
power_some zero = omega arith
power_some (suc d) = let h = power_some d in grind arith

-- from a bound on a product to one on a smaller product
many_by : (m p n b : ℕ) → m ≤ n → n * p ≤ b → m * p ≤ b
many_by m p n b full le = let more = mul-le-mul_right p full in omega arith

most_by : (m p n b : ℕ) → n ≤ m → b ≤ n * p → b ≤ m * p
most_by m p n b full le = let more = mul-le-mul_right p full in omega arith

pub child_some : (depth : ℕ) (c : Child) → IsChild depth c → 1 ≤ length (items_of c)
child_some depth c h = omega (arith, power_some depth, h.many)

-- a child that was read
pub child_read : (children : List Child) (i : ℕ) (x : Child) → AreChildren children → i < length children → x ≡ get_or children i x
    → IsChild (depth_of children) x
child_read children i x h lt is = subst (IsChild (depth_of children)) (sym is) (h.each i x lt)

pub split_items : (i : ℕ) (children : List Child) → all_items children ≡ all_items (take i children) ++ all_items (drop i children)
split_items i children = ap all_items (sym (take-append-drop i children)) ∙ flat_map-append items_of (take i children) (drop i children)

-- the entries from a child on
pub items_from : (children : List Child) (i : ℕ) (d : Child) → i < length children
    → all_items (drop i children) ≡ items_of (get_or children i d) ++ all_items (drop (i + 1) children)
items_from children i d h = ap all_items (drop_more children i d h)

-- what the children so far add
pub total_items-more : (children : List Child) (i : ℕ) (d : Child) → AreChildren children → i < length children
    → total (all_items (take (i + 1) children)) ≡ total (all_items (take i children)) +ℤ (get_or children i d).net
total_items-more children i d h lt =
    let c = get_or children i d in
    let net = (h.each i d lt).net in
    let e = ap (λ cs. total (all_items cs)) (take_more children i d lt) ∙ ap total (flat_map-append items_of (take i children) (c ∷ [])) in
    let both = total-append (all_items (take i children)) (items_of c ++ []) in
    let one = total-append (items_of c) [] in
    omega (arith, ints)

pub total_items_within : (children : List Child) (i : ℕ) → IsWithin (total (all_items (take i children))) (length (all_items children))
total_items_within children i =
    let w = total_within (all_items (take i children)) in
    let both = ap length (split_items i children) ∙ length-append (all_items (take i children)) (all_items (drop i children)) in
    record { above = omega (arith, ints); below = omega (arith, ints) }

pub child_few : (children : List Child) (i : ℕ) (d : Child) → i < length children
    → length (items_of (get_or children i d)) ≤ length (all_items children)
child_few children i d lt =
    let here = ap length (items_from children i d lt)
    ∙ length-append (items_of (get_or children i d)) (all_items (drop (i + 1) children)) in
    let all = ap length (split_items i children) ∙ length-append (all_items (take i children)) (all_items (drop i children)) in
    omega arith

-- what is known of an opened inner node
pub record AtInner (children : List Child) (v : View) : Type 0 where
  pub each : AreChildren children
  pub depth : v.depth ≡ suc (depth_of children)
  pub width : v.width ≡ length children
  pub items : v.items ≡ all_items children

pub at_inner : {b : Body} {v : View} {children : Vec Child Global} → view_of b ≡ v → IsBalanced b → b ≡ Inner children
    → AtInner children.items v
at_inner view balanced is =
    let e = sym view ∙ ap view_of is in
    record {
      each = subst IsBalanced is balanced;
      depth = ap (λ v. v.depth) e;
      width = ap (λ v. v.width) e;
      items = ap (λ v. v.items) e;
    }

-- ---- children one after another

pub items-push : (children : List Child) (c : Child) → all_items (children ++ c ∷ []) ≡ all_items children ++ items_of c
items-push children c = flat_map-append items_of children (c ∷ []) ∙ ap (λ xs. all_items children ++ xs) (append-nil (items_of c))

pub items-more : (children : List Child) (i : ℕ) (d : Child) → i < length children
    → all_items (take (i + 1) children) ≡ all_items (take i children) ++ items_of (get_or children i d)
items-more children i d lt = ap all_items (take_more children i d lt) ∙ items-push (take i children) (get_or children i d)

pub count-more : (children : List Child) (i : ℕ) (d : Child) → AreChildren children → i < length children
    → length (all_items (take (i + 1) children)) ≡ length (all_items (take i children)) + (get_or children i d).count
count-more children i d h lt =
    let is = (h.each i d lt).count in
    omega (arith, ap length (items-more children i d lt), length-append (all_items (take i children)) (items_of (get_or children i d)))

pub count_within : (children : List Child) (i : ℕ) → length (all_items (take i children)) ≤ length (all_items children)
count_within children i =
    let both = ap length (split_items i children) ∙ length-append (all_items (take i children)) (all_items (drop i children)) in
    omega arith

-- a copy has the same entries and the same counts
pub same_items : (c x : Child) → IsSameChild c x → items_of x ≡ items_of c
same_items c x same = ap (λ v. v.items) same.node

pub same_is_child : (depth : ℕ) (c x : Child) → IsSameChild c x → IsChild depth c → IsChild depth x
same_is_child depth c x same h = record {
  level = ap (λ v. v.depth) same.node ∙ h.level;
  full = let e = ap (λ v. v.width) same.node in let f = h.full in omega arith;
  deep = h.deep;
  many = let e = ap (λ v. length v.items) same.node in let f = h.many in omega arith;
  most = let e = ap (λ v. length v.items) same.node in let f = h.most in omega arith;
  count = same.count ∙ h.count ∙ sym (ap (λ v. length v.items) same.node);
  net = same.net ∙ h.net ∙ sym (ap (λ v. total v.items) same.node);
  lead = λ e is. same.lead ∙ h.lead e (sym (ap (λ v. slice_get v.items 0) same.node) ∙ is);
}

-- ---- depths and numbers of entries

pub depth_all : (depth : ℕ) (children : List Child) → All (IsChild depth) children → 1 ≤ length children → depth_of children ≡ depth
depth_all depth [] h some = absurd (omega arith)
depth_all depth (c ∷ children) h some = (All-head (IsChild depth) c children h).level

pub many_items : (depth : ℕ) (children : List Child) → All (IsChild depth) children
    → length children * MIN_WIDTH ^ depth ≤ length (all_items children)
many_items depth [] h = omega arith
many_items depth (c ∷ children) h =
    let here = (All-head (IsChild depth) c children h).many in
    let rest = many_items depth children (All-tail (IsChild depth) c children h) in
    omega (arith, length-append (items_of c) (all_items children))

pub many_below : (children : List Child) → AreChildren children → MIN_WIDTH ≤ length children
    → MIN_WIDTH ^ suc (depth_of children) ≤ length (all_items children)
many_below children h full =
    let all = many_items (depth_of children) children h.each in
    let more = many_by MIN_WIDTH (MIN_WIDTH ^ depth_of children) (length children) _ full all in
    omega (arith, pow-succ' MIN_WIDTH (depth_of children))

pub most_items : (depth : ℕ) (children : List Child) → All (IsChild depth) children
    → length (all_items children) ≤ length children * MAX_WIDTH ^ depth
most_items depth [] h = omega arith
most_items depth (c ∷ children) h =
    let here = (All-head (IsChild depth) c children h).most in
    let rest = most_items depth children (All-tail (IsChild depth) c children h) in
    omega (arith, length-append (items_of c) (all_items children))

pub most_below : (children : List Child) → AreChildren children → length (all_items children) ≤ MAX_WIDTH ^ suc (depth_of children)
most_below children h =
    let all = most_items (depth_of children) children h.each in
    let more = most_by MAX_WIDTH (MAX_WIDTH ^ depth_of children) (length children) _ h.room all in
    omega (arith, pow-succ' MAX_WIDTH (depth_of children))

-- an inner root
pub many_at_root : (children : List Child) → AreChildren children → 2 ≤ length children
    → 2 * MIN_WIDTH ^ depth_of children ≤ length (all_items children)
many_at_root children h wide =
    let all = many_items (depth_of children) children h.each in
    many_by 2 (MIN_WIDTH ^ depth_of children) (length children) _ wide all

-- the second half of many children
pub are_children_after : (children : List Child) (n : ℕ) → All (IsChild (depth_of children)) children → length children ≤ n + MAX_WIDTH
    → n < length children → AreChildren (drop n children)
are_children_after children n each most lt =
    let all = All-drop (IsChild (depth_of children)) n children each in
    let long = length-drop n children in
    let e = depth_all (depth_of children) (drop n children) all (omega arith) in
    record {
      some = omega arith;
      room = omega arith;
      each = let P : ℕ
          → Type 0 = λ depth. All (IsChild depth) (drop n children) in subst P (sym e) all;
    }

-- ---- an edit in one child

pub take-past : (xs ys : List Entry) (n m : ℕ) → m ≡ length xs + n → take m (xs ++ ys) ≡ xs ++ take n ys
take-past [] ys n m e = ap (λ k. take k ys) (let f : m ≡ n = omega arith in f)
take-past (x ∷ xs) ys n zero e = absurd (omega arith)
take-past (x ∷ xs) ys n (suc m) e = ap (λ zs. x ∷ zs) (take-past xs ys n m (omega arith))

pub drop-past : (xs ys : List Entry) (n m : ℕ) → m ≡ length xs + n → drop m (xs ++ ys) ≡ drop n ys
drop-past [] ys n m e = ap (λ k. drop k ys) (let f : m ≡ n = omega arith in f)
drop-past (x ∷ xs) ys n zero e = absurd (omega arith)
drop-past (x ∷ xs) ys n (suc m) e = drop-past xs ys n m (omega arith)

pub edited-between : (before here after put : List Entry) (at gone rest : ℕ) → rest + length before ≡ at → rest + gone ≤ length here
    → before ++ (edited rest gone put here ++ after) ≡ edited at gone put (before ++ (here ++ after))
edited-between before here after put at gone rest is le =
    let t1 : take at (before ++ (here ++ after)) ≡ before ++ take rest here =
    take-past before (here ++ after) rest at (omega arith) ∙ ap (λ xs. before ++ xs) (take-append-le rest here after (omega arith)) in
    let d1 : drop (at + gone) (before ++ (here ++ after)) ≡ drop (rest + gone) here ++ after =
    drop-past before (here ++ after) (rest + gone) (at + gone) (omega arith) ∙ drop-append-le (rest + gone) here after le in
    sym (ap (λ xs. xs ++ (put ++ drop (at + gone) (before ++ (here ++ after)))) t1 ∙ ap (λ xs. (before ++ take rest here) ++ (put ++ xs)) d1
    ∙ simp append_assoc)

pub edited_in_child : (children : List Child) (i : ℕ) (d : Child) (at gone rest : ℕ) (put : List Entry) → i < length children
    → rest + length (all_items (take i children)) ≡ at → rest + gone ≤ length (items_of (get_or children i d))
    → all_items (take i children) ++ edited rest gone put (items_of (get_or children i d)) ++ all_items
    (drop (i + 1) children) ≡ edited at gone put (all_items children)
edited_in_child children i d at gone rest put lt is le =
    let before = all_items (take i children) in
    let here = items_of (get_or children i d) in
    let after = all_items (drop (i + 1) children) in
    let split = split_items i children ∙ ap (λ xs. before ++ xs) (items_from children i d lt) in
    append_assoc before (edited rest gone put here) after ∙ edited-between before here after put at gone rest is le
    ∙ ap (edited at gone put) (sym split)

pub length-edited : (at gone : ℕ) (put items : List Entry) → at + gone ≤ length items
    → length (edited at gone put items) + gone ≡ length items + length put
length-edited at gone put items le =
    omega (
      arith,
      length-append (take at items) (put ++ drop (at + gone) items),
      length-append put
          (drop (at + gone) items),
      length-take at items,
      length-drop (at + gone) items,
    )

-- the entries from an index on, where a child's leaf gives the first of them
pub drop_in_child : (children : List Child) (i : ℕ) (d : Child) (at rest n : ℕ) (xs : List Entry) → i < length children
    → rest + length (all_items (take i children)) ≡ at → rest + n ≤ length (items_of (get_or children i d))
    → drop rest (items_of (get_or children i d)) ≡ xs ++ drop (rest + n) (items_of (get_or children i d))
    → drop at (all_items children) ≡ xs ++ drop (at + n) (all_items children)
drop_in_child children i d at rest n xs lt is le e =
    let before = all_items (take i children) in
    let here = items_of (get_or children i d) in
    let after = all_items (drop (i + 1) children) in
    let split = split_items i children ∙ ap (λ ys. before ++ ys) (items_from children i d lt) in
    let one : drop at (all_items children) ≡ drop rest here ++ after =
    ap (drop at) split ∙ drop-past before (here ++ after) rest at (omega arith) ∙ drop-append-le rest here after (omega arith) in
    let two : drop (at + n) (all_items children) ≡ drop (rest + n) here ++ after =
    ap (drop (at + n)) split ∙ drop-past before (here ++ after) (rest + n) (at + n) (omega arith)
    ∙ drop-append-le (rest + n) here after le in
    one ∙ ap (λ ys. ys ++ after) e ∙ append_assoc xs (drop (rest + n) here) after ∙ ap (λ ys. xs ++ ys) (sym two)

-- a child has a level of its own
pub deep_children : (children : List Child) → AreChildren children → 1 ≤ depth_of children
deep_children [] h = absurd (omega (arith, h.some))
deep_children (c ∷ children) h = (All-head (IsChild (depth_of (c ∷ children))) c children h.each).deep

pub grown_is : (depth width : ℕ) (items : List Entry) (g : Grown) → IsGrown depth width items g → grown_items g ≡ items
grown_is depth width items (One node) h = h.2
grown_is depth width items (Two left right) h = h.4

pub grown_same : (depth depth' width width' : ℕ) (items items' : List Entry) (g : Grown) → depth ≡ depth' → width' ≤ width
    → items ≡ items' → IsGrown depth width items g → IsGrown depth' width' items' g
grown_same depth depth' width width' items items' (One node) e le same h = (h.0 ∙ e, omega (arith, h.1), h.2 ∙ same)
grown_same depth depth' width width' items items' (Two left right) e le same h = (h.0 ∙ e, h.1 ∙ e, h.2, h.3, h.4 ∙ same)

pub record AtLeaf (entries : List Entry) (v : View) : Type 0 where
  pub room : length entries ≤ MAX_WIDTH
  pub depth : v.depth ≡ 1
  pub width : v.width ≡ length entries
  pub items : v.items ≡ entries

pub at_leaf : {b : Body} {v : View} {entries : Vec Entry Global} → view_of b ≡ v → IsBalanced b → b ≡ Leaf entries → AtLeaf entries.items v
at_leaf view balanced is =
    let e = sym view ∙ ap view_of is in
    record {
      room = subst IsBalanced is balanced;
      depth = ap (λ v. v.depth) e;
      width = ap (λ v. v.width) e;
      items = ap (λ v. v.items) e;
    }

pub grown_result_same : (depth depth' width width' : ℕ) (items items' : List Entry) (r : Result Grown AllocError) → depth ≡ depth'
    → width' ≤ width → items ≡ items' → IfOk r (IsGrown depth width items) → IfOk r (IsGrown depth' width' items')
grown_result_same depth depth' width width' items items' (Ok g) e le same h =
    grown_same depth depth' width width' items items' g e le same h
grown_result_same depth depth' width width' items items' (Err x) e le same h = h

pub regrown : (children new : List Child) (depth : ℕ) → AreChildren children → depth ≡ depth_of children → All (IsChild depth) new
    → 1 ≤ length new → All (IsChild (depth_of new)) new
regrown children new depth h e each some =
    let P : ℕ → Type 0 = λ n. All (IsChild n) new in
    subst P (sym (depth_all depth new each some)) each

pub below_power : (d : ℕ) → d < MIN_WIDTH ^ d
below_power zero = omega arith
below_power (suc d) = let h = below_power d in let p = pow-succ' MIN_WIDTH d in omega arith

-- two nodes in place of one hold one entry more
pub grown_length : (depth width : ℕ) (items : List Entry) (g : Grown) → IsGrown depth width items g → length (grown_items g) ≡ length items
grown_length depth width items g h = ap length (grown_is depth width items g h)

pub child_fits : (children : List Child) (i : ℕ) (d : Child) → i < length children
    → length (all_items (take i children)) + length (items_of (get_or children i d)) ≤ length (all_items children)
child_fits children i d lt =
    let here = ap length (items_from children i d lt)
    ∙ length-append (items_of (get_or children i d)) (all_items (drop (i + 1) children)) in
    let all = ap length (split_items i children) ∙ length-append (all_items (take i children)) (all_items (drop i children)) in
    omega arith

pub deep_law : (b : Body) (v : View) → view_of b ≡ v → IsBalanced b → 2 ≤ v.depth → 2 ≤ v.width
    → 2 * MIN_WIDTH ^ (v.depth - 1) ≤ length v.items
deep_law (Leaf entries) v is h deep wide = let e = ap (λ (w : View). w.depth) is in absurd (omega arith)
deep_law (Inner children) v is h deep wide =
    let P : View → Type 0 = λ w. 2 ≤ w.width → 2 * MIN_WIDTH ^ (w.depth - 1) ≤ length w.items in
    let less : depth_of children.items ≡ suc (depth_of children.items) - 1 = omega arith in
    let Q : ℕ → Type 0 = λ n. 2 * MIN_WIDTH ^ n ≤ length (all_items children.items) in
    subst P is (λ many. subst Q less (many_at_root children.items h many)) wide

pub most_law : (b : Body) (v : View) → view_of b ≡ v → IsBalanced b → length v.items ≤ MAX_WIDTH ^ v.depth
most_law (Leaf entries) v is h =
    let P : View → Type 0 = λ w. length w.items ≤ MAX_WIDTH ^ w.depth in
    let one : MAX_WIDTH ^ 1 ≡ MAX_WIDTH = refl in subst P is (omega (arith, h, one))
most_law (Inner children) v is h =
    let P : View → Type 0 = λ w. length w.items ≤ MAX_WIDTH ^ w.depth in subst P is (most_below children.items h)

some_law : (b : Body) (v : View) → view_of b ≡ v → 1 ≤ v.depth
some_law (Leaf entries) v is = let e = ap (λ (w : View). w.depth) is in omega arith
some_law (Inner children) v is = let e = ap (λ (w : View). w.depth) is in omega arith

-- how many levels a node has, by its entries
pub levels_law : (b : Body) (v : View) → view_of b ≡ v → IsBalanced b → IsRoot v → IsDepth v.depth (length v.items)
levels_law b v is h root = record {
  some = some_law b v is;
  many = λ deep. deep_law b v is h deep (root deep);
  most = most_law b v is h;
}
