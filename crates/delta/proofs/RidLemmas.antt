-- What stands before a position, and what behind it.
use Rattle.std.proofs.Common.{◌≡◌, ℕ, ◌+◌, ◌<◌, ◌≤◌, ◌⊎◌, Bool, true, false, Ordering, is_gt, rules}
use Rattle.std.proofs.Common.{List, length, take, get_or, refl}
use Rattle.std.specs.Prelude.{ℤ, pos, ◌+ℤ◌, ◌<ℤ◌}
use Rattle.model.specs.declared.entry.Entry.{Entry}
use Rattle.model.specs.declared.entry.Change.{Change}
use Rattle.counted.specs.declared.search.Target.TheVariants.{Rid}
use Rattle.counted.specs.Search.{is_before, IsPlace}
use Rattle.counted.specs.Sums.{total}
use Rattle.delta.specs.Positions.{past_where}

-- an entry `up` above the rows below stands before what comes to the position, after such changes as stand there
abbrev pub Leads : (Change → Bool) → ℤ → Entry → ℤ → Type 0
Leads after rid e up = ((pos e.sid +ℤ up) <ℤ rid) ⊎ (((pos e.sid +ℤ up) ≡ rid) × (after e.change ≡ true))

-- or behind it
abbrev pub Follows : (Change → Bool) → ℤ → Entry → ℤ → Type 0
Follows after rid e up = (rid <ℤ (pos e.sid +ℤ up)) ⊎ (((pos e.sid +ℤ up) ≡ rid) × (after e.change ≡ false))

-- the entry before this place, if there is one, stands before it, and the one at it, if there is one, behind
pub record IsGap (after : Change → Bool) (rid shift : ℤ) (entries : List Entry) (n : ℕ) : Type 0 where
  pub within : n ≤ length entries
  pub low : (m : ℕ) (d : Entry) → m + 1 ≡ n → Leads after rid (get_or entries m d) (total (take m entries) +ℤ shift)
  pub high : (d : Entry) → n < length entries → Follows after rid (get_or entries n d) (total (take n entries) +ℤ shift)

pub past-where : (b : Bool) → is_gt (past_where b) ≡ b
past-where true = refl
past-where false = refl

module _ (cmp : Change → Ordering) (after : Change → Bool) (told : (c : Change) → is_gt (cmp c) ≡ after c) (rid : ℕ) where
  -- where a search by position ends
  pub gap_from : (es : List Entry) (n : ℕ) → IsPlace (is_before cmp (Rid rid)) (pos 0) es n → IsGap after (pos rid) (pos 0) es n
  gap_from es n place = search rules
