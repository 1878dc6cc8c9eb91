-- One layer of entries over rows.
use Rattle.std.specs.Prelude.{◌≡◌, ◌<◌, ◌≤◌, ◌^◌, ℕ, nat_lt, nat_le, Bool, ◌&&◌, cond, T, List, length}
use Rattle.std.specs.List.{list_all}
use Rattle.model.specs.declared.entry.Entry.{Entry}
use Rattle.model.specs.Entries.{is_insert, are_ordered, IsLawful}
use Rattle.values.specs.declared.limits.TheConstants.{MAX_ROWS}
use Rattle.delta.specs.Tree.{Tree}
use Rattle.stable.specs.Stable.{Stable}
use Rattle.merge.specs.Image.{AreStacked, stack_of, read_rows, write_rows, image_rows}

-- whether an entry stands at place n or past it, and before the end: an insert may stand after the last row
abbrev pub stands_within : ℕ → ℕ → Entry → Bool
stands_within n end e = nat_le n e.sid && cond (is_insert e.change) (nat_le e.sid end) (nat_lt e.sid end)

-- entries in order over the rows from place n up to the end
pub record IsOver (key_cols n end : ℕ) (entries : List Entry) : Type 0 where
  pub ordered : T (are_ordered key_cols entries)
  pub within : T (list_all (stands_within n end) entries)

-- what layers keep beside their rows: lawful trees, so many rows in the image, and not too many at any level
pub record AreKept (stable : Stable) (read write trans : Tree) (len : ℕ) : Type 0 where
  pub stacked : AreStacked stable read write trans
  pub read_lawful : IsLawful read.key_cols read.entries
  pub write_lawful : IsLawful write.key_cols write.entries
  pub trans_lawful : IsLawful trans.key_cols trans.entries
  pub few : length stable.rows ≤ MAX_ROWS
  pub read_few : length (read_rows (stack_of stable read write trans)) < 2 ^ 61
  pub write_few : length (write_rows (stack_of stable read write trans)) < 2 ^ 61
  pub image_few : len < 2 ^ 61
  pub counted : len ≡ length (image_rows (stack_of stable read write trans))
