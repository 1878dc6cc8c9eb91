use Rattle.std.proofs.Common.{ℕ, List, map}
use Rattle.pdt_c.specs.Reopening.{IsRefusal, IsUnmade}
use Rattle.pdt_c.specs.declared.calls.reopening.Refusal.{Refusal}
use Rattle.pdt_c.proofs.ReopeningLemmas.{err_then, refusal_of}
use Rattle.pdt_c.proofs.calls.reopening.reopen.Goals as goal

pub returns-clause-err : goal.returns-clause-err
returns-clause-err c =
    let header = c.args.header.now in
    let columns : List (List ℕ) = map (λ b. b.now) c.args.columns.now in
    let image = c.in-Ok.image in
    let limits = c.args.limits in
    let read = c.args.read.now in
    err_then
    (λ (e : Refusal). IsUnmade image limits.row_limit limits.recent c.args.number c.args.table read.seed read.base read.bytes e.code e.commit)
    (λ (e : Refusal). IsRefusal header columns limits.row_limit limits.recent c.args.number c.args.table read.seed read.base read.bytes e.code e.commit)
    (λ e h. refusal_of header columns image limits.row_limit limits.recent c.args.number c.args.table read.seed read.base read.bytes
    e.code e.commit c.in-Ok.ensures.ok h)
    c.remade.result c.remade.ensures.err
