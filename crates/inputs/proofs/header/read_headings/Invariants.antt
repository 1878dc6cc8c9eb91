use Rattle.std.proofs.Common.{◌≡◌, drop, true}
use Rattle.csv.specs.Records.{fields_of}
use Rattle.inputs.specs.Cells.{prepend}
use Rattle.inputs.specs.Header.{headings_of}
use Rattle.inputs.proofs.header.read_headings.Given as goal

-- the columns so far, and then those of what is left, are those of all
abbrev pub invariant-loop-i : goal.invariant-loop-i
invariant-loop-i l =
    headings_of 0 true (fields_of l.fields) ≡ prepend l.headings.items (headings_of l.i l.in_key (drop l.i (fields_of l.fields)))
