use Rattle.std.proofs.Common.{◌≡◌, Some, None, Option, Err, ap, sym, ◌∙◌}
use Rattle.values.specs.Shape.{key_fault, answer_of}
use Rattle.values.specs.declared.fault.ShapeFault.{ShapeFault}
use Rattle.pdtcli.proofs.ToldLemmas.{key_long}
use Rattle.pdtcli.proofs.reads.long_text.Goals as goal

pub unreachable-requires : goal.unreachable-requires
unreachable-requires c =
    let told =
    key_long c.args.schema.now c.args.key.now c.in-Err.fault c.requires.typed
    (fault_of (key_fault c.args.schema.now c.args.key.now) c.in-Err.fault (sym c.check_key.ensures ∙ c.in-Err.is)) in
    c.in_default.not-TextTooLong told.0 told.1
  where
    fault_of : (o : Option ShapeFault) (f : ShapeFault) → answer_of o ≡ Err f → o ≡ Some f
    fault_of None f e = cc e
    fault_of (Some g) f e = ap Some (cc e)
