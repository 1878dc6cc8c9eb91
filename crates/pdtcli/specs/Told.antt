-- How a reply tells why a write's shape is refused.
use Rattle.std.specs.Prelude.{◌≡◌, Option, Some, None}
use Rattle.values.specs.declared.fault.ShapeFault.{ShapeFault}
use Rattle.values.specs.declared.fault.ShapeFault.TheVariants as shape
use Rattle.pdtcli.specs.declared.reply.Reply.{Reply}
use Rattle.pdtcli.specs.declared.reply.Reply.TheVariants as answer

-- the reply that tells a fault, and none where there is none; no reply tells a wrong count, a wrong type or a missing column
abbrev pub IsToldAs : Option ShapeFault → Option Reply → Type 0
IsToldAs None told = told ≡ None
IsToldAs (Some shape.WrongCount) told = ⊥
IsToldAs (Some (shape.WrongType col)) told = ⊥
IsToldAs (Some (shape.TextTooLong cell)) told = told ≡ Some (answer.TextTooLong cell)
IsToldAs (Some shape.NoSuchColumn) told = ⊥
IsToldAs (Some shape.KeyColumn) told = told ≡ Some answer.KeyColumn
