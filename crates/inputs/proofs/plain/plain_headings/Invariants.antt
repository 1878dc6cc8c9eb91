use Rattle.std.proofs.Common.{◌≡◌, drop}
use Rattle.csv.specs.Records.{fields_of}
use Rattle.inputs.specs.Cells.{prepend}
use Rattle.inputs.specs.Plain.{plain_headings}
use Rattle.inputs.proofs.plain.plain_headings.Given as goal

-- the columns so far, and then those of what is left, are those of all
abbrev pub invariant-loop-i : goal.invariant-loop-i
invariant-loop-i l =
    plain_headings 0 (fields_of l.header) l.types
    ≡ prepend l.headings.items (plain_headings l.i (drop l.i (fields_of l.header)) (drop l.i l.types))
