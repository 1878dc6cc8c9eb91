use Rattle.std.proofs.Common.{◌≡◌, ◌++◌, ◌∷◌, drop, map, string_bytes}
use Rattle.sentences.specs.Quoting.{cut, escaped_byte}
use Rattle.sentences.proofs.quoting.quoted_bytes.Given as goal

-- what is left goes behind what was added
abbrev pub invariant-loop-byte : goal.invariant-loop-byte
invariant-loop-byte l =
    string_bytes l.shown ++ cut l.left (map escaped_byte (drop l.byte-index l.bytes)) ≡ 34 ∷ cut l.fn.room (map escaped_byte l.fn.bytes)
