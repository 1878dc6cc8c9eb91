-- Branches down to a leaf and up again, and what lies around what they lead to.
use Rattle.std.proofs.Common.{◌≡◌, ℕ, zero, suc, ◌+◌, ◌-◌, ◌^◌, ◌<◌, ◌≤◌, inl, inr, List, [], ◌∷◌, ◌++◌, length, take, drop, get_or}
use Rattle.std.proofs.Common.{refl, ap, sym, ◌∙◌, subst, arith, append_assoc, length-append}
use Rattle.std.specs.List.{All}
use Rattle.std.proofs.lemmas.Bool.{cases_lt}
use Rattle.std.proofs.lemmas.List.{append-nil}
use Rattle.model.specs.declared.entry.Entry.{Entry}
use Rattle.counted.specs.declared.node.Child.{Child}
use Rattle.counted.specs.declared.node.grown.Grown.{Grown}
use Rattle.counted.specs.declared.node.TheConstants.{MIN_WIDTH}
use Rattle.counted.specs.declared.node.path.Path.{Path}
use Rattle.counted.specs.declared.node.path.Branch.{Branch}
use Rattle.counted.specs.Edits.{edited}
use Rattle.counted.specs.Few.{IsCountable, IsFew}
use Rattle.counted.specs.Grown.{IsGrown, grown_items}
use Rattle.counted.specs.Branches.{AreBranches, IsPath, IsBranch, around, before, behind, least_width}
use Rattle.counted.specs.Shapes.{AreChildren, IsChild, all_items, depth_of, items_of}
use Rattle.counted.specs.Trees.{IsDepth, IsRoot}
use Rattle.counted.specs.Views.{View}
use Rattle.counted.proofs.Places.{AtInner, AtLeaf, deep_children, depth_all, edited-between, grown_is, grown_same, items_from}
use Rattle.std.proofs.Math.Nat.{pow-succ'}
use Rattle.counted.proofs.Places.{split_items}

-- ---- one branch more

before-push : (branches : List Branch) (s : Branch)
    → before (branches ++ s ∷ []) ≡ before branches ++ all_items (take s.index s.children.now)
before-push [] s = append-nil (all_items (take s.index s.children.now))
before-push (x ∷ branches) s =
    let own = all_items (take x.index x.children.now) in
    ap (λ es. own ++ es) (before-push branches s) ∙ sym (append_assoc own (before branches) (all_items (take s.index s.children.now)))

behind-push : (branches : List Branch) (s : Branch)
    → behind (branches ++ s ∷ []) ≡ all_items (drop (s.index + 1) s.children.now) ++ behind branches
behind-push [] s = sym (append-nil (all_items (drop (s.index + 1) s.children.now)))
behind-push (x ∷ branches) s =
    let own = all_items (drop (x.index + 1) x.children.now) in
    ap (λ es. es ++ own) (behind-push branches s) ∙ append_assoc (all_items (drop (s.index + 1) s.children.now)) (behind branches) own

around-push : (branches : List Branch) (s : Branch) (inner : List Entry) → around (branches ++ s ∷ []) inner
    ≡ around branches (all_items (take s.index s.children.now) ++ inner ++ all_items (drop (s.index + 1) s.children.now))
around-push branches s inner =
    let front = all_items (take s.index s.children.now) in
    ap (λ es. es ++ (inner ++ behind (branches ++ s ∷ []))) (before-push branches s)
    ∙ ap (λ es. (before branches ++ front) ++ (inner ++ es)) (behind-push branches s)
    ∙ simp append_assoc

around-length : (branches : List Branch) (inner : List Entry)
    → length (around branches inner) ≡ length (before branches) + (length inner + length (behind branches))
around-length branches inner =
    length-append (before branches) (inner ++ behind branches) ∙ ap (λ n. length (before branches) + n) (length-append inner (behind branches))

-- how wide a node that the branches lead to is at least, where the first one is so wide
abbrev width_at : ℕ → List Branch → ℕ
width_at least [] = least
width_at least (s ∷ branches) = MIN_WIDTH

width-at_least : (branches : List Branch) → width_at MIN_WIDTH branches ≡ MIN_WIDTH
width-at_least [] = refl
width-at_least (s ∷ branches) = refl

longer : (depth : ℕ) (branches : List Branch) (s : Branch) → suc depth + length branches ≡ depth + length (branches ++ s ∷ [])
longer depth branches s = omega (arith, length-append branches (s ∷ []))

branches-push : (depth least : ℕ) (branches : List Branch) (s : Branch) → AreBranches (suc depth) least branches
    → IsBranch depth (width_at least branches) s
    → AreBranches depth least (branches ++ s ∷ [])
branches-push depth least [] s h is = let e : depth ≡ depth + 0 = omega arith in (subst (λ n. IsBranch n least s) e is, tt)
branches-push depth least (x ∷ branches) s h is = (
  subst (λ n. IsBranch n least x) (longer depth branches s) h.0,
  branches-push depth MIN_WIDTH branches s h.1 (subst (λ n. IsBranch depth n s) (sym (width-at_least branches)) is),
)

-- what is known of the last branch, and of those before it
record IsLast (depth least : ℕ) (branches : List Branch) (s : Branch) : Type 0 where
  pub last : IsBranch depth (width_at least branches) s
  pub rest : AreBranches (suc depth) least branches

branches-pop : (depth least : ℕ) (branches : List Branch) (s : Branch) → AreBranches depth least (branches ++ s ∷ [])
    → IsLast depth least branches s
branches-pop depth least [] s h =
    let e : depth + 0 ≡ depth = omega arith in record { last = subst (λ n. IsBranch n least s) e h.0; rest = tt }
branches-pop depth least (x ∷ branches) s h =
    let more = branches-pop depth MIN_WIDTH branches s h.1 in
    record {
      last = subst (λ n. IsBranch depth n s) (width-at_least branches) more.last;
      rest = (subst (λ n. IsBranch n least x) (sym (longer depth branches s)) h.0, more.rest);
    }

-- ---- down

-- the branches so far lead to a node, of whose entries so many come before the end that is looked for
pub record IsAlong (v : View) (whole : ℕ) (node : View) (end : ℕ) (branches : List Branch) : Type 0 where
  pub levels : AreBranches node.depth 2 branches
  pub root : IsRoot node
  pub full : 1 ≤ length branches → MIN_WIDTH ≤ node.width
  pub within : end ≤ length node.items
  pub index : end + length (before branches) ≡ whole
  pub some : 1 ≤ whole → 1 ≤ end
  pub items : around branches node.items ≡ v.items
  pub room : length branches + node.depth ≤ 21

power_from : (m n : ℕ) → MIN_WIDTH ^ m ≤ MIN_WIDTH ^ (n + m)
power_from m zero = let e = ap (λ k. MIN_WIDTH ^ k) (let f : 0 + m ≡ m = omega arith in f) in omega arith
power_from m (suc n) =
    let rest = power_from m n in
    let more = pow-succ' MIN_WIDTH (n + m) in
    let e = ap (λ k. MIN_WIDTH ^ k) (let f : suc n + m ≡ suc (n + m) = omega arith in f) in
    omega arith

depth_few : (d n : ℕ) → IsDepth d n → IsFew n → d ≤ 21
depth_few d n is few =
    elim (cases_lt d 22) [
      | inl lt ↦ omega arith
      | inr le ↦
          let least = power_from 21 (d - 22) in
          let e = ap (λ k. MIN_WIDTH ^ k) (let f : (d - 22) + 21 ≡ d - 1 = omega arith in f) in
          let h = is.many (omega arith) in
          absurd (omega arith)
    ]

pub begun : (v : View) (end : ℕ) (branches : List Branch) → branches ≡ [] → IsRoot v → (IsRoot v → IsDepth v.depth (length v.items))
    → end ≤ length v.items → IsFew (length v.items) → IsAlong v end v end branches
begun v end branches none root levels within few =
    subst (IsAlong v end v end) (sym none) (record {
      levels = tt;
      root = root;
      full = λ some. absurd (omega arith);
      within = within;
      index = omega arith;
      some = λ some. some;
      items = append-nil v.items;
      room = let h = depth_few v.depth (length v.items) (levels root) few in omega arith;
    })

pub along_few : (v node : View) (whole end : ℕ) (branches : List Branch) → IsAlong v whole node end branches
    → length node.items ≤ length v.items
along_few v node whole end branches h = omega (arith, ap length h.items, around-length branches node.items)

-- a node that is gone on from is as wide as it has to be
wide_here : (branches : List Branch) (node : View) → IsRoot node → 2 ≤ node.depth → (1 ≤ length branches → MIN_WIDTH ≤ node.width)
    → width_at 2 branches ≤ node.width
wide_here [] node root deep full = root deep
wide_here (s ∷ branches) node root deep full = full (omega arith)

-- a branch taken from an inner node
pub goes_down : (v node w : View) (children : List Child) (whole end rest : ℕ) (branches new : List Branch) (s : Branch) (d : Child)
    → IsAlong v whole node end branches → IsFew (length v.items) → AtInner children node → s.children.now ≡ children
    → s.index < length children → rest + length (all_items (take s.index children)) ≡ end
    → rest ≤ length (items_of (get_or children s.index d))
    → (1 ≤ end → 1 ≤ rest) → new ≡ branches ++ s ∷ [] → w ≡ (get_or children s.index d).node.value → IsAlong v whole w rest new
goes_down v node w children whole end rest branches new s d h few at same lt past fits some pushed is =
    let i = s.index in
    let c = get_or children i d in
    let child = at.each.each i d lt in
    let front = all_items (take i children) in
    let back = all_items (drop (i + 1) children) in
    let front_same = ap (λ cs. all_items (take i cs)) same in
    let back_same = ap (λ cs. all_items (drop (i + 1) cs)) same in
    let count = ap length same in
    let here : w.items ≡ items_of c = ap (λ (x : View). x.items) is in
    let long = ap length here in
    let deep : w.depth ≡ depth_of children = ap (λ (x : View). x.depth) is ∙ child.level in
    let wide : MIN_WIDTH ≤ w.width = let e = ap (λ (x : View). x.width) is in omega (arith, child.full) in
    let split : front ++ w.items ++ back ≡ node.items = ap (λ es. front ++ es ++ back) here ∙ append_assoc front (items_of c) back
    ∙ sym (split_items i children ∙ ap (λ es. front ++ es) (items_from children i d lt)) ∙ sym at.items in
    let last : IsBranch (depth_of children) (width_at 2 branches) s = record {
      children = subst AreChildren (sym same) at.each;
      index = omega arith;
      level = ap depth_of same;
      wide = omega (arith, wide_here branches node h.root (omega (arith, at.depth, deep_children children at.each)) h.full, at.width);
      few = omega (arith, ap (λ cs. length (all_items cs)) same, ap length at.items, along_few v node whole end branches h);
    } in
    let pushed_levels = branches-push (depth_of children) 2 branches s (subst (λ n. AreBranches n 2 branches) at.depth h.levels) last in
    record {
      levels = subst (AreBranches w.depth 2) (sym pushed) (subst (λ n. AreBranches n 2 (branches ++ s ∷ [])) (sym deep) pushed_levels);
      root = λ _. omega arith;
      full = λ _. wide;
      within = omega arith;
      index = omega (
        arith,
        h.index,
        ap (λ xs. length (before xs)) pushed,
        ap length (before-push branches s),
        length-append (before branches) (all_items (take i s.children.now)),
        ap length front_same,
      );
      some = λ more. some (h.some more);
      items = ap (λ xs. around xs w.items) pushed ∙ around-push branches s w.items
          ∙ ap (λ es. around branches (es ++ w.items ++ all_items (drop (i + 1) s.children.now))) front_same
          ∙ ap (λ es. around branches (front ++ w.items ++ es)) back_same ∙ ap (around branches) split ∙ h.items;
      room = omega (arith, h.room, at.depth, ap length pushed, length-append branches (s ∷ []));
    }

-- a leaf is where the branches end
pub at_end : (v node : View) (whole end : ℕ) (path : Path) (entries : List Entry) → IsAlong v whole node end path.branches.items
    → AtLeaf entries node → path.leaf.now ≡ entries → path.end ≡ end → IsPath v whole path
at_end v node whole end path entries h at same here =
    let long = ap length same in
    let all = ap length at.items in
    record {
      branches = subst (λ n. AreBranches n 2 path.branches.items) at.depth h.levels;
      full = λ some. omega (arith, h.full some, at.width);
      room = omega (arith, at.room);
      within = omega (arith, h.within);
      index = ap (λ n. n + length (before path.branches.items)) here ∙ h.index;
      some = λ some. omega (arith, h.some some);
      items = ap (around path.branches.items) (same ∙ sym at.items) ∙ h.items;
    }

-- ---- up

-- what the branches that are left lead to has grown to this, and all entries are those around it
pub record IsClimbed (all : List Branch) (leaf : List Entry) (left : List Branch) (g : Grown) : Type 0 where
  pub fewer : length left ≤ length all
  pub levels : AreBranches (1 + (length all - length left)) 2 left
  pub grown : IsGrown (1 + (length all - length left)) (least_width left) (grown_items g) g
  pub items : around left (grown_items g) ≡ around all leaf

pub climb_begun : (branches : List Branch) (g : Grown) → AreBranches 1 2 branches → IsGrown 1 (least_width branches) (grown_items g) g
    → IsClimbed branches (grown_items g) branches g
climb_begun branches g h grown =
    let e : 1 ≡ 1 + (length branches - length branches) = omega arith in
    record {
      fewer = omega arith;
      levels = subst (λ n. AreBranches n 2 branches) e h;
      grown = subst (λ n. IsGrown n (least_width branches) (grown_items g) g) e grown;
      items = refl;
    }

-- what is known of the branch that is gone up
pub record IsUp (s : Branch) (g : Grown) : Type 0 where
  pub children : AreChildren s.children.now
  pub index : s.index < length s.children.now
  pub two : 2 ≤ length s.children.now
  pub grown : IsGrown (depth_of s.children.now) (MIN_WIDTH - 1) (grown_items g) g
  pub few : IsCountable (length (all_items s.children.now) + length (grown_items g))

two_at : (branches : List Branch) → 2 ≤ width_at 2 branches
two_at [] = omega arith
two_at (s ∷ branches) = omega arith

least_width-push : (branches : List Branch) (s : Branch) → least_width (branches ++ s ∷ []) ≡ MIN_WIDTH - 1
least_width-push [] s = refl
least_width-push (x ∷ branches) s = refl

-- a node may lose one of what it holds
less_by_one : (branches : List Branch) → least_width branches + 1 ≤ width_at 2 branches
less_by_one [] = omega arith
less_by_one (s ∷ branches) = omega arith

pub popped : (all : List Branch) (leaf : List Entry) (left rest : List Branch) (g : Grown) (s : Branch) → left ≡ rest ++ s ∷ []
    → IsFew (length (around all leaf)) → IsClimbed all leaf left g → IsUp s g
popped all leaf left rest g s split few h =
    let depth = 1 + (length all - length left) in
    let last = (branches-pop depth 2 rest s (subst (AreBranches depth 2) split h.levels)).last in
    record {
      children = last.children;
      index = last.index;
      two = omega (arith, last.wide, two_at rest);
      grown = grown_same depth _ _ (MIN_WIDTH - 1) _ _ g (sym last.level) (omega (arith, ap least_width split, least_width-push rest s)) refl h.grown;
      few = omega (arith, last.few, ap length h.items, around-length left (grown_items g));
    }

-- a node made anew over what the child became
pub climbed : (all : List Branch) (leaf : List Entry) (left rest : List Branch) (g g' : Grown) (s : Branch) (new : List Child)
    → left ≡ rest ++ s ∷ [] → IsClimbed all leaf left g
    → all_items new ≡ all_items (take s.index s.children.now) ++ grown_items g ++ all_items (drop (s.index + 1) s.children.now)
    → length s.children.now ≤ length new + 1 → All (IsChild (depth_of s.children.now)) new
    → IsGrown (1 + depth_of new) (length new) (all_items new) g' → IsClimbed all leaf rest g'
climbed all leaf left rest g g' s new split h items not_fewer each grown =
    let depth = 1 + (length all - length left) in
    let own = branches-pop depth 2 rest s (subst (AreBranches depth 2) split h.levels) in
    let wide = own.last.wide in
    let two = two_at rest in
    let one = less_by_one rest in
    let count = ap length split ∙ length-append rest (s ∷ []) in
    let fewer = h.fewer in
    let up : suc depth ≡ 1 + (length all - length rest) = omega arith in
    let deep : 1 + depth_of new ≡ 1 + (length all - length rest) =
    let e = depth_all (depth_of s.children.now) new each (omega arith) in let f = own.last.level in omega arith in
    let same = grown_is _ _ _ _ grown in
    record {
      fewer = omega arith;
      levels = subst (λ n. AreBranches n 2 rest) up own.rest;
      grown = grown_same _ _ _ _ _ _ g' deep (omega arith) (sym same) grown;
      items = ap (around rest) (same ∙ items) ∙ sym (around-push rest s (grown_items g)) ∙ ap (λ xs. around xs (grown_items g)) (sym split)
          ∙ h.items;
    }

-- ---- an edit of the leaf

pub edited_around : (v : View) (at gone : ℕ) (put : List Entry) (path : Path) → IsPath v (at + gone) path → gone ≤ path.end
    → around path.branches.items (edited (path.end - gone) gone put path.leaf.now) ≡ edited at gone put v.items
edited_around v at gone put path h own =
    let within = h.within in
    let index = h.index in
    edited-between (before path.branches.items) path.leaf.now (behind path.branches.items) put at gone (path.end - gone)
    (omega arith) (omega arith)
    ∙ ap (edited at gone put) h.items

-- what the node at the top of the path grows to has that edit
pub edited_along : (v : View) (at gone depth wide : ℕ) (put new : List Entry) (path : Path) (leaf g : Grown) → IsPath v (at + gone) path
    → gone ≤ path.end → new ≡ edited (path.end - gone) gone put path.leaf.now → IsGrown 1 (length new) new leaf
    → IsGrown depth wide (around path.branches.items (grown_items leaf)) g → grown_items g ≡ edited at gone put v.items
edited_along v at gone depth wide put new path leaf g h own is grown made =
    grown_is _ _ _ _ made ∙ ap (around path.branches.items) (grown_is _ _ _ _ grown ∙ is) ∙ edited_around v at gone put path h own
