-- Where a walk over the image begins that shows the row at a position first.
use Rattle.std.specs.Prelude.{◌≡◌, ℕ, ◌≤◌, ◌==◌, ◌&&◌, cond, not, T, IsFalse, Option, Some, None, List, length, take, drop, slice_get}
use Rattle.std.specs.List.{list_all}
use Rattle.model.specs.declared.entry.Entry.{Entry}
use Rattle.model.specs.Entries.{is_insert}
use Rattle.model.specs.Places.{rid_of_insert}
use Rattle.delta.specs.declared.places.Place.{Place}
use Rattle.delta.specs.declared.places.Place.TheVariants.{Inserted, Base}
use Rattle.delta.specs.Changes.{is_delete_at}
use Rattle.delta.specs.Search.{base_cmp, first_cmp, stands_before}

-- so many entries, and all base rows below the SID, come before the position: no entry of the base row at the SID is among
-- them, all others are at that SID or past it, and the first of those does not delete the base row
pub record IsWalk (entries : List Entry) (rid sid index : ℕ) : Type 0 where
  pub within : index ≤ length entries
  pub before : T (list_all (stands_before base_cmp sid) (take index entries))
  pub after : T (list_all (λ e. not (stands_before first_cmp sid e)) (drop index entries))
  pub live : (e : Entry) → slice_get entries index ≡ Some e → IsFalse (is_delete_at sid e)
  pub position : rid_of_insert (take index entries) sid ≡ rid

-- the row there, by the entry there: that of an insert at the SID, or else the base row
abbrev pub place_at : ℕ → ℕ → Option Entry → Place
place_at index sid None = Base sid
place_at index sid (Some e) = cond ((e.sid == sid) && is_insert e.change) (Inserted index) (Base sid)
