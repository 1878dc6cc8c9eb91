-- What the passes of a watermark know.
use Rattle.std.specs.Prelude.{◌≡◌, ℕ, ◌≤◌, List, [], slice_index, true, false}
use mathlib.Core.Option.{some}
use lib.ListN.{get_elem?}
use Rattle.atomic_table.specs.Seated.{TableId}
use Rattle.watermark.specs.declared.cell.View.{View}

-- the name of no watermark
abbrev pub no_table : TableId
no_table = record { words = 0; slots = 0; views_name = 0; atom = 0; block = 0; offset = 0; slot_names = [] }

-- the writer's pass at a watermark
abbrev pub writer_at : ℕ → View
writer_at n = record { writes = true; number = n; claim = 0 }

-- a reader's pass that has loaded this number
abbrev pub reader_at : ℕ → View
reader_at n = record { writes = false; number = n; claim = 0 }

-- the first pass, with the number of the second to compare
abbrev pub with_claim : View → View → View
with_claim v w = record { writes = v.writes; number = v.number; claim = w.number }

-- what the rule says of one view, at a watermark, where the pass at this seat writes
abbrev pub Fits : ℕ → ℕ → ℕ → View → Type 0
Fits seat watermark by v = (v.writes ≡ true → (by ≡ seat) × (v.number ≡ watermark)) × (v.number ≤ watermark) × (v.claim ≤ watermark)

-- at most one pass writes, and knows the watermark; none has loaded a greater number
abbrev pub IsHighest : List ℕ → List View → Type 0
IsHighest words views =
    (seat : ℕ) × ((by : ℕ) (v : View) → get_elem? views by ≡ some v → Fits seat (slice_index words 0) by v)

-- the writer knows the number that it wrote
abbrev pub Advanced : View → List ℕ → List ℕ → View → Type 0
Advanced v before after w = w ≡ writer_at (slice_index after 0)

-- a reader has loaded the watermark, which is no lower than before
abbrev pub Loaded : View → List ℕ → List ℕ → View → Type 0
Loaded v before after w = (w ≡ reader_at (slice_index after 0)) × (v.number ≤ slice_index after 0)

-- the writer finds that a retired reader isn't ahead of it
abbrev pub Compared : View → List ℕ → List ℕ → View → Type 0
Compared v before after w = (w ≡ writer_at v.number) × (v.claim ≤ v.number)
