-- Levels of children, and the groups that they are cut into.
use Rattle.std.proofs.Common.{ℕ, ◌≤◌, List, [], ◌∷◌, ◌++◌, length, sym, subst}
use Rattle.std.specs.List.{All}
use Rattle.std.proofs.lemmas.List.Elements.{All-nil, All-cons, All-head, All-tail}
use Rattle.counted.specs.declared.node.TheConstants.{MAX_WIDTH}
use Rattle.counted.specs.declared.node.Child.{Child}
use Rattle.counted.specs.Shapes.{IsChild, AreChildren, depth_of}
use Rattle.counted.proofs.Places.{depth_all}

pub all-front : (depth : ℕ) (xs ys : List Child) → All (IsChild depth) (xs ++ ys) → All (IsChild depth) xs
all-front depth [] ys h = All-nil (IsChild depth)
all-front depth (x ∷ xs) ys h =
    All-cons (IsChild depth) x xs (All-head (IsChild depth) x (xs ++ ys) h)
    (all-front depth xs ys (All-tail (IsChild depth) x (xs ++ ys) h))

pub all-back : (depth : ℕ) (xs ys : List Child) → All (IsChild depth) (xs ++ ys) → All (IsChild depth) ys
all-back depth [] ys h = h
all-back depth (x ∷ xs) ys h = all-back depth xs ys (All-tail (IsChild depth) x (xs ++ ys) h)

-- children of some depth are of that of the first
pub level_of : (depth : ℕ) (children : List Child) → All (IsChild depth) children → 1 ≤ length children
    → All (IsChild (depth_of children)) children
level_of depth children each some =
    let P : ℕ → Type 0 = λ n. All (IsChild n) children in
    subst P (sym (depth_all depth children each some)) each

pub group_of : (depth : ℕ) (group : List Child) → All (IsChild depth) group → 1 ≤ length group → length group ≤ MAX_WIDTH
    → AreChildren group
group_of depth group each some room = record { some = some; room = room; each = level_of depth group each some }
