use Rattle.std.proofs.Common.{◌≡◌, ◌+◌, drop}
use Rattle.csv.specs.Records.{fields_of}
use Rattle.inputs.specs.Cells.{prepend}
use Rattle.inputs.specs.Calls.{values_of}
use Rattle.inputs.proofs.arguments.read_values.Given as goal

-- the values so far, and then those of what is left, are those of all
abbrev pub invariant-loop-i : goal.invariant-loop-i
invariant-loop-i l =
    values_of l.number 2 l.types (drop 2 (fields_of l.fields))
    ≡ prepend l.values.items (values_of l.number (2 + l.i) (drop l.i l.types) (drop (2 + l.i) (fields_of l.fields)))
