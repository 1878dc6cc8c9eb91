use Rattle.std.proofs.Common.{◌≡◌, ℕ, ◌<◌, List, [], ◌∷◌, Ok, length, refl, arith}
use Rattle.values.specs.Shape.{Columns}
use Rattle.codec.specs.Payload.{part_bytes}
use Rattle.codec.specs.Reading.{entries_in, spans_up}
use Rattle.model.specs.declared.entry.Entry.{Entry}
use Rattle.durable.specs.Durable.{payload_for}
use Rattle.durable.proofs.spelling.spell.Goals.{then-len-gt0+in_ok-write_part, else-len-gt0}
use Rattle.durable.proofs.spelling.spell.Goals as goal

-- some entries are a part
some_part : (schema : Columns) (table : ℕ) (es : List Entry) → 0 < length es → entries_in schema table (part_bytes table es) ≡ Ok es
    → entries_in schema table (payload_for table es) ≡ Ok es
some_part schema table [] some again = absurd (omega (arith, some))
some_part schema table (e ∷ es) some again = again

-- and none are nothing
no_part : (schema : Columns) (table : ℕ) (es : List Entry) → length es ≡ 0 → entries_in schema table (payload_for table es) ≡ Ok es
unfolding spans_up
no_part schema table [] none = refl
no_part schema table (e ∷ es) none = absurd (omega (arith, none))

pub returns-clause-again : goal.returns-clause-again
returns-clause-again c =
    let es = c.args.tree.now.entries in
    elim c.if-len-gt0.branch [
      | then-len-gt0+in_ok-write_part w ↦ some_part c.args.schema.now c.args.table es (omega (arith, c.len.ensures, w.if-len-gt0.true))
          w.in_ok-write_part.ensures.again
      | else-len-gt0 w ↦ no_part c.args.schema.now c.args.table es (omega (arith, c.len.ensures, w.if-len-gt0.false))
    ]
