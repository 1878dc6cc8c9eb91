-- Where something stands among entries.
use Rattle.std.specs.Prelude.{◌≡◌, ℕ, ◌+◌, ◌<◌, ◌≤◌, ◌^◌, ℤ, pos, ◌+ℤ◌, ◌≤ℤ◌, Bool, true, false, List, length, take, slice_index_or}
use Rattle.std.proofs.Common.{Ordering}
use Rattle.std.specs.Ordering.{nat_cmp, int_cmp, is_gt, ordering_then}
use Rattle.std.specs.List.{AllByRecursion}
use Rattle.model.specs.declared.entry.Entry.{Entry}
use Rattle.model.specs.declared.entry.Change.{Change}
use Rattle.counted.specs.declared.node.Child.{Child}
use Rattle.counted.specs.declared.search.Target.{Target}
use Rattle.counted.specs.declared.search.Target.TheVariants.{Sid, Rid}
use Rattle.counted.specs.Shapes.{all_items, items_of}
use Rattle.counted.specs.Sums.{total}

-- how the target stands to an entry at the SID that is so far above the rows below
abbrev pub order : Target → ℕ → ℤ → Ordering
order (Sid to) sid up = nat_cmp to sid
order (Rid to) sid up = int_cmp (pos to) (pos sid +ℤ up)

-- whether an entry stands before what is looked for, which stands so to a change at the target
abbrev pub is_before : (Change → Ordering) → Target → Entry → ℤ → Bool
is_before cmp target e up = is_gt (ordering_then (order target e.sid up) (cmp e.change))

-- the entry before this place, if there is one, passes the test, and the one at it, if there is one, does not, each by how far
-- above the rows below it is
pub record IsPlace (test : Entry → ℤ → Bool) (shift : ℤ) (entries : List Entry) (n : ℕ) : Type 0 where
  pub within : n ≤ length entries
  pub low : (m : ℕ) (d : Entry) → m + 1 ≡ n → test (slice_index_or entries m d) (total (take m entries) +ℤ shift) ≡ true
  pub high : (d : Entry) → n < length entries → test (slice_index_or entries n d) (total (take n entries) +ℤ shift) ≡ false

-- what the test says of the first entry of a child
abbrev pub Begins : (Entry → ℤ → Bool) → ℤ → List Child → ℕ → Bool → Type 0
Begins test shift children n b = (d : Child) (e : Entry)
    → test (slice_index_or (items_of (slice_index_or children n d)) 0 e) (total (all_items (take n children)) +ℤ shift) ≡ b

-- the first entry of this child passes the test, unless it is the first one, and that of the next, if there is one, does not
pub record IsChildPlace (test : Entry → ℤ → Bool) (shift : ℤ) (children : List Child) (n : ℕ) : Type 0 where
  pub within : n < length children
  pub low : 1 ≤ n → Begins test shift children n true
  pub high : n + 1 < length children → Begins test shift children (n + 1) false

-- ---- what a position asks for, and a SID doesn't

-- the entries stand at places below 2^32
abbrev pub ArePlaced : List Entry → Type 0
ArePlaced entries = AllByRecursion (λ e. e.sid < 2 ^ 32) entries

abbrev pub MayMeet : Target → List Entry → Type 0
MayMeet (Sid to) entries = Unit {0}
MayMeet (Rid to) entries = (to < 2 ^ 63) × ArePlaced entries

-- so far above the rows below, so many entries come to no number that is too large
pub record IsNear (up : ℤ) (count : ℕ) : Type 0 where
  pub above : (up +ℤ pos count) ≤ℤ pos (2 ^ 61)
  pub below : pos count ≤ℤ (up +ℤ pos (2 ^ 61))

-- the row of an entry at the SID is a number
abbrev pub IsReached : Target → ℕ → ℤ → Type 0
IsReached (Sid to) sid up = Unit {0}
IsReached (Rid to) sid up = (to < 2 ^ 63) × (sid < 2 ^ 32) × IsNear up 0

-- a number is how far above the rows below something is
abbrev pub IsUp : Target → ℤ → ℤ → Type 0
IsUp (Sid to) up there = Unit {0}
IsUp (Rid to) up there = up ≡ there
