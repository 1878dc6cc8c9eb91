use Rattle.std.proofs.Common.{sym, subst, ◌∙◌, arith}
use Rattle.std.proofs.lemmas.Result.{err_from_is_err_and}
use Rattle.blocks.specs.Cells.{column_of}
use Rattle.blocks.specs.Column.{AllFit}
use Rattle.blocks.specs.Laws.{IsPayload}
use Rattle.blocks.proofs.LawsLemmas.{is_payload, payload_reads}
use Rattle.blocks.proofs.reading.read_block.Goals.{In_ok-cells}
use Rattle.blocks.proofs.reading.read_block.Goals as goal
use Rattle.std.proofs.lemmas.Grind.{common_steps}

pub returns-in_err-cells-clause-only : goal.returns-in_err-cells-clause-only
returns-in_err-cells-clause-only c =
    grind (arith, common_steps, c.from_residual.ensures.1, c.in_err-cells.ensures.first, err_from_is_err_and, payload_reads)

-- the bytes are the payload of what was read
payload : (c : In_ok-cells) → IsPayload c.args.ty c.args.count c.args.bytes.now (column_of c.in_ok-cells.cells).values
payload c =
    is_payload c.args.ty c.args.count c.args.bytes.now (column_of c.in_ok-cells.cells).values
    (λ i. omega (arith, c.type_inv.bytes i)) c.in_ok-cells.ensures.first

pub invariant_of-result : goal.invariant_of-result
invariant_of-result c =
    let values = (column_of c.in_ok-cells.cells).values in
    let p = payload c in
    record { few = omega (arith, p.counted, c.requires); fit = subst (λ ty. AllFit ty values) (sym c.in_ok-cells.ensures.ty) p.fit }

pub returns-clause-found : goal.returns-clause-found
returns-clause-found c = (c.in_ok-cells.ensures.ty, payload c)

pub returns-clause-only : goal.returns-clause-only
returns-clause-only c = λ values p. sym (payload_reads c.args.ty c.args.count c.args.bytes.now values p) ∙ c.in_ok-cells.ensures.first
