use Rattle.std.proofs.Common.{◌≤◌, length}
use Rattle.codec.specs.Tables.{tables_in}
use Rattle.codec.proofs.TablesLemmas.{AreListedTo}
use Rattle.codec.proofs.parts.tables_in.Given as goal

abbrev pub invariant-loop-rest : goal.invariant-loop-rest
invariant-loop-rest l = record {
  left : length l.rest ≤ length l.payload;
  read : AreListedTo (length l.payload) l.low l.rest l.tables.items (tables_in l.payload);
}

abbrev pub decreases-loop-rest : goal.decreases-loop-rest
decreases-loop-rest l = length l.rest
