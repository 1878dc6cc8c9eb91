use Rattle.std.proofs.Common.{◌≡◌, drop}
use Rattle.std.specs.List.{list_any}
use Rattle.csv.specs.Records.{fields_of}
use Rattle.inputs.specs.Plain.{has_type}
use Rattle.inputs.proofs.plain.some_type.Given as goal

-- whatever is found stands in what is left
abbrev pub invariant-loop-i : goal.invariant-loop-i
invariant-loop-i l = list_any has_type (fields_of l.header) ≡ list_any has_type (drop l.i (fields_of l.header))
