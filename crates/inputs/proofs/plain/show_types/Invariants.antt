use Rattle.std.proofs.Common.{◌≡◌, ◌∷◌, ℕ, List, [], length}
use Rattle.inputs.specs.Plain.{seen, unseen}
use Rattle.inputs.specs.Reading.{Fields, IsReading}
use Rattle.inputs.proofs.plain.show_types.Given as goal

-- the records so far lead to where the reader stands, and show these types
abbrev pub invariant-loop : goal.invariant-loop
invariant-loop l =
    (read : List Fields) × (length read ≡ l.counter)
    × ((text : List ℕ) (header : Fields) → IsReading text (header ∷ []) l.fn.reader → IsReading text (header ∷ read) l.reader)
    × (l.kinds.items ≡ seen (unseen l.width) read)
