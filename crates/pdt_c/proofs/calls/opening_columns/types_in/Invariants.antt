use Rattle.std.proofs.Common.{◌≡◌, take, length}
use Rattle.pdt_c.specs.Columns.{HaveTypes}
use Rattle.pdt_c.proofs.calls.opening_columns.types_in.Given as goal

abbrev pub invariant-loop-number : goal.invariant-loop-number
invariant-loop-number l = record {
  have : HaveTypes (take l.number-index l.numbers) l.types.items;
  counted : length l.types.items ≡ l.number-index;
}
