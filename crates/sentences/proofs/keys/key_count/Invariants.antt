use Rattle.std.proofs.Common.{◌≡◌, ◌+◌, ◌≤◌, drop}
use Rattle.csv.specs.Records.{fields_of}
use Rattle.sentences.specs.Keys.{key_count}
use Rattle.sentences.proofs.keys.key_count.Given as goal

-- those that are left come to those that were counted
abbrev pub invariant-loop-at : goal.invariant-loop-at
invariant-loop-at l = record {
  few : l.count ≤ l.at;
  counted : l.count + key_count (drop l.at (fields_of l.header)) ≡ key_count (fields_of l.header);
}
