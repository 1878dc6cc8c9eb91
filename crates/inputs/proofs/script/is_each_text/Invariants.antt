use Rattle.std.proofs.Common.{◌≡◌, drop}
use Rattle.std.specs.List.{list_all}
use Rattle.std.specs.Str.{is_utf8}
use Rattle.csv.specs.Records.{fields_of}
use Rattle.inputs.proofs.script.is_each_text.Given as goal

-- each field so far is text
abbrev pub invariant-loop-i : goal.invariant-loop-i
invariant-loop-i l = list_all is_utf8 (fields_of l.fields) ≡ list_all is_utf8 (drop l.i (fields_of l.fields))
