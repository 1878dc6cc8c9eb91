use Rattle.std.proofs.Common.{◌∙◌, ℕ, List, length, sym, ap, arith}
use Rattle.std.proofs.lemmas.List.{length-take-le}
use Rattle.pdt_c.proofs.calls.journals.pdtr_journal_header.Goals as goal

pub copy_from_slice-requires : goal.copy_from_slice-requires
copy_from_slice-requires c =
    length-take-le 36 c.args.out.now (omega (arith, c.if-out-lt-HEADER_BYTES.false))
    ∙ sym (ap (λ (bytes : List ℕ). length bytes) c.spelt_header.ensures)
