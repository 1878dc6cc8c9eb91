-- Positions in the image: how far the entries move a row, and the row at a position.
use Rattle.std.specs.Prelude.{◌≡◌, ℕ, ℤ, pos, int_lt, ◌+◌, ◌≤◌, ◌==◌, nat_lt, Bool, true, false, ◌&&◌, ◌||◌, cond, IsTrue, IsFalse}
use Rattle.std.specs.Prelude.{Option, Some, None, List, [], ◌∷◌, length, map, filter, take, slice_get}
use Rattle.std.proofs.Common.{Ordering, Less, Greater}
use Rattle.std.specs.Option.{IsSomeAnd}
use Rattle.std.specs.Ordering.{is_lt}
use Rattle.std.specs.List.{list_all}
use Rattle.values.specs.Orders.{key_cmp}
use Rattle.values.specs.declared.row.Key.{Key}
use Rattle.model.specs.declared.entry.Entry.{Entry}
use Rattle.model.specs.declared.entry.Change.{Change}
use Rattle.model.specs.declared.entry.Change.TheVariants.{Ins, Del, Mod}
use Rattle.model.specs.Entries.{is_insert}
use Rattle.model.specs.Places.{insert_count, delete_count, rid_of_insert, rid_of_base, deleted_keys}
use Rattle.delta.specs.declared.places.Place.{Place}
use Rattle.delta.specs.declared.places.Place.TheVariants.{Inserted, Base}
use Rattle.delta.specs.Lookups.{total_of, has_delete}

-- inserts less deletes of the entries below the SID
abbrev pub shift_before : ℕ → List Entry → ℤ
shift_before sid entries = total_of (filter (λ e. nat_lt e.sid sid) entries)

-- the row of the place stands at the position: that of an insert, or that of a base row which isn't deleted
abbrev pub IsAtRid : List Entry → ℕ → Place → Type 0
IsAtRid entries rid (Inserted place) =
    IsSomeAnd (slice_get entries place) (λ e. IsTrue (is_insert e.change) × (rid_of_insert (take place entries) e.sid ≡ rid))
IsAtRid entries rid (Base sid) = IsFalse (has_delete sid entries) × (rid_of_base entries sid ≡ rid)

-- ---- where an insert stands whose row comes to a position

-- whether a change deletes a row of a smaller key
abbrev pub deletes_below : Key → Change → Bool
deletes_below key (Ins row) = false
deletes_below key (Del gone) = is_lt (key_cmp gone key)
deletes_below key (Mod col value) = false

-- whether a change that stands at `next` stands before an insert of the key that comes before what stands at `row`
abbrev pub is_passed : Key → ℕ → ℕ → Change → Bool
is_passed key next row change = nat_lt next row || ((next == row) && deletes_below key change)

-- whether keys ascend
abbrev pub keys_ascend : List Key → Bool
keys_ascend [] = true
keys_ascend (key ∷ keys) = list_all (λ other. is_lt (key_cmp key other)) keys && keys_ascend keys

-- whether the keys of the deleted rows do
abbrev pub deletes_ascend : List Entry → Bool
deletes_ascend entries = keys_ascend (deleted_keys (map (λ e. e.change) entries))

-- an insert of the key at the SID, behind so many entries, brings its row to the position: the entry before it, if there is
-- one, stands at a lower position, or there and deletes a row of a smaller key, and the one behind it, if there is one, does not
pub record IsGapAt (rid : ℕ) (key : Key) (entries : List Entry) (sid index : ℕ) : Type 0 where
  pub within : index ≤ length entries
  pub row : sid + insert_count (take index entries) ≡ rid + delete_count (take index entries)
  pub before : (m : ℕ) (e : Entry) → m + 1 ≡ index → slice_get entries m ≡ Some e
      → is_passed key (e.sid + insert_count (take m entries)) (rid + delete_count (take m entries)) e.change ≡ true
  pub after : (e : Entry) → slice_get entries index ≡ Some e
      → is_passed key (e.sid + insert_count (take index entries)) (rid + delete_count (take index entries)) e.change ≡ false

-- ---- how something stands to a change at its position

abbrev pub past_where : Bool → Ordering
past_where behind = cond behind Greater Less

-- the same by what the change adds alone, where that tells
abbrev pub past_deletes : ℤ → Option Ordering
past_deletes weight = Some (past_where (int_lt weight (pos 0)))

abbrev pub past_some_deletes : ℤ → Option Ordering
past_some_deletes weight = cond (int_lt weight (pos 0)) None (Some Less)
