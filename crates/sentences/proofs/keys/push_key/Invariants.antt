use Rattle.std.proofs.Common.{◌≡◌, ◌++◌, drop, string_bytes}
use Rattle.csv.specs.Records.{fields_of}
use Rattle.sentences.specs.Keys.{key_parts}
use Rattle.sentences.proofs.keys.push_key.Given as goal

-- the parts that are left go behind those that were added
abbrev pub invariant-loop-at : goal.invariant-loop-at
invariant-loop-at l =
    string_bytes l.text ++ key_parts l.at (drop l.at (fields_of l.header)) (drop l.at (fields_of l.fields))
    ≡ string_bytes l.fn.text ++ key_parts 0 (fields_of l.header) (fields_of l.fields)
