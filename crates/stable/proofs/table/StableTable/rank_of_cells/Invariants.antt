use Rattle.std.proofs.Common.{◌≡◌, ℕ, ◌-◌, ◌<◌, ◌≤◌, true, false, [], length, get_or}
use Rattle.stable.specs.Spans.{HasCells, is_row_below}
use Rattle.stable.proofs.table.StableTable.rank_of_cells.Given as goal

-- the rows before `low` are below the key, those from `high` on are not, and so many cells of the row before and of the row
-- after the others are the key's
abbrev pub invariant-loop-low : goal.invariant-loop-low
invariant-loop-low l = record {
  ordered : l.low ≤ l.high;
  within : l.high ≤ length l.self.rows;
  below : (k : ℕ) → k < l.low → is_row_below l.self.schema.key_cols l.key l.self.rows k ≡ true;
  above : (k : ℕ) → l.high ≤ k → k < length l.self.rows → is_row_below l.self.schema.key_cols l.key l.self.rows k ≡ false;
  few : l.tied_before ≤ l.self.schema.key_cols;
  short : l.tied_before ≤ length l.key;
  some : 0 < l.tied_before → 0 < l.low;
  before : HasCells l.tied_before l.key (get_or l.self.rows (l.low - 1) []);
  more : 0 < l.tied_after → l.high < length l.self.rows;
  after : HasCells l.tied_after l.key (get_or l.self.rows l.high []);
}

abbrev pub decreases-loop-low : goal.decreases-loop-low
decreases-loop-low l = l.high - l.low
