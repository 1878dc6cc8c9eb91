use Rattle.std.proofs.Common.{◌≡◌, ◌++◌, ◌∷◌, IsUtf8, chars, map, string_bytes}
use Rattle.std.specs.Str.Iter.{chars_rest}
use Rattle.sentences.specs.Quoting.{cut, escaped}
use Rattle.sentences.proofs.quoting.quoted_text.Given as goal

-- what is left goes behind what was added
abbrev pub invariant-loop-c : goal.invariant-loop-c
invariant-loop-c l = IsUtf8 (chars_rest l.c-iterator)
    × (string_bytes l.shown ++ cut l.left (map escaped (chars (chars_rest l.c-iterator)))
    ≡ 34 ∷ cut l.fn.room (map escaped (chars l.fn.text)))
