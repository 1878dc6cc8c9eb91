use Rattle.std.proofs.Common.{◌≡◌, drop}
use Rattle.csv.specs.Records.{fields_of}
use Rattle.sentences.specs.Scripts.{first_bad}
use Rattle.sentences.proofs.script_faults.first_bad.Given as goal

-- each field so far is text
abbrev pub invariant-loop-at : goal.invariant-loop-at
invariant-loop-at l = first_bad (drop l.at (fields_of l.fields)) ≡ first_bad (fields_of l.fields)
