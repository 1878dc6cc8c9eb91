use Rattle.std.proofs.Common.{◌≡◌, ◌++◌, drop}
use Rattle.csv.specs.Writing.{default_writer, escaped}
use Rattle.headers.proofs.spelling.push_escaped.Given as goal

abbrev pub invariant-loop-byte : goal.invariant-loop-byte
invariant-loop-byte l =
    l.text.items ++ escaped default_writer (drop l.byte-index l.bytes) ≡ l.fn.text.items ++ escaped default_writer l.bytes
