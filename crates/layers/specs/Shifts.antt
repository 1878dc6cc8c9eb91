-- Entries in blocks, each with how far its entries have moved.
use Rattle.std.specs.Prelude.{ℕ, suc, ◌+◌, ◌-◌, ◌/◌, cond, List, [], ◌∷◌, get_or}
use Rattle.std.specs.Prelude.{nat_lt}
use Rattle.model.specs.declared.entry.Entry.{Entry}
use Rattle.model.specs.Entries.{entry_at}
use Rattle.layers.specs.declared.shift.Shift.{Shift}
use Rattle.layers.specs.declared.blocks.TheConstants.{BLOCK}

-- the entry, so many rows down and so many up
abbrev pub shifted_by : Shift → Entry → Entry
shifted_by shift e = entry_at ((e.sid - shift.down) + shift.up) e.change

abbrev pub no_shift : Shift
no_shift = record { down = 0; up = 0 }

-- the shift of the block in which an index stands
abbrev pub shift_at : List Shift → ℕ → Shift
shift_at shifts index = get_or shifts (index / BLOCK) no_shift

-- the entries, of which the first has this index, each as its index moves it
abbrev pub moved_from : (ℕ → Entry → Entry) → ℕ → List Entry → List Entry
moved_from move index [] = []
moved_from move index (e ∷ entries) = move index e ∷ moved_from move (suc index) entries

-- the entries, each moved as far as its block
abbrev pub shifted_entries : List Shift → List Entry → List Entry
shifted_entries shifts entries = moved_from (λ index. shifted_by (shift_at shifts index)) 0 entries

-- moves an entry whose index is one of these
abbrev pub move_between : ℕ → ℕ → (Entry → Entry) → ℕ → Entry → Entry
move_between start end move index e = cond (nat_lt index start) e (cond (nat_lt index end) (move e) e)

-- the entries, of which those of these indices are moved
abbrev pub moved_between : ℕ → ℕ → (Entry → Entry) → List Entry → List Entry
moved_between start end move entries = moved_from (move_between start end move) 0 entries
