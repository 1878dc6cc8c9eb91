use Rattle.std.proofs.Common.{◌≡◌, ◌∙◌, ℕ, List, Vec, Global, Option, ap, drop, map, subst, sym}
use Rattle.std.proofs.lemmas.List.{drop-map}
use Rattle.journal_steps.specs.Batch.{SealedFields}
use Rattle.pdt_c.specs.Steps.{AppendingFields, ArePieces, frames_of}
use Rattle.pdt_c.proofs.calls.steps.show_frames.Goals as goal

pub returns-in-Some-clause-pieces : goal.returns-in-Some-clause-pieces
returns-in-Some-clause-pieces c =
    let from = c.args.from in
    let items = λ (v : Vec ℕ Global). v.items in
    let left : map items c.rest_of.result.now ≡ drop from (frames_of c.args.room.now.sealed) =
    ap (map items) c.rest_of.ensures ∙ sym (drop-map items from c.frames.result.now) ∙ ap (drop from) c.frames.ensures
    ∙ ap (λ (o : Option SealedFields). drop from (frames_of o)) (sym c.in-Some.is)
    ∙ ap (λ (a : AppendingFields). drop from (frames_of a.sealed)) c.room.view_is in
    subst (ArePieces c.show_all.result c.show_all.new.pieces) left c.show_all.ensures.pieces
