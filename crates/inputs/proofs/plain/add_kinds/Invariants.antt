use Rattle.std.proofs.Common.{◌≡◌, ◌++◌, take, drop, length}
use Rattle.csv.specs.Records.{fields_of}
use Rattle.inputs.specs.Plain.{joined}
use Rattle.inputs.proofs.plain.add_kinds.Given as goal

-- the types so far, and what the cells that are left make of the others
abbrev pub invariant-loop-i : goal.invariant-loop-i
invariant-loop-i l = record {
  wide : length l.kinds.items ≡ length l.fn.kinds.items;
  end : l.i-end ≡ length l.fn.kinds.items;
  so : joined l.fn.kinds.items (fields_of l.fields)
      ≡ take l.i l.kinds.items ++ joined (drop l.i l.kinds.items) (drop l.i (fields_of l.fields));
}
