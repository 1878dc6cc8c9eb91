use Rattle.std.proofs.Common.{◌∙◌, sym}
use Rattle.std.proofs.lemmas.List.{length-take-le}
use Rattle.pdt_c.proofs.calls.steps.put_header.Goals as goal

pub copy_from_slice-requires : goal.copy_from_slice-requires
copy_from_slice-requires c = length-take-le 36 c.args.out.now c.requires ∙ sym c.in-Some.ensures.length
