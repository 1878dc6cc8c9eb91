use Rattle.std.proofs.Common.{ap, sym, ◌∙◌, subst, arith}
use Rattle.model.proofs.CallerLemmas.{rows_of-table_of}
use Rattle.delta.specs.Tree.{Tree}
use Rattle.stable.specs.Stable.{Stable}
use Rattle.merge.specs.Image.{AreBothStacked, image_rows, image_table, stack_below}
use Rattle.txn.specs.Version.{Lower, lower_rows}
use Rattle.txn.proofs.VersionLemmas.{image_table-below}
use Rattle.txn.proofs.version.Base.image.Goals as goal
use Rattle.merge.proofs.CallerLemmas.{merged_rows-nothing}
use Rattle.std.proofs.lemmas.Grind.{common_steps}

pub committed-requires : goal.committed-requires
committed-requires c =
    let inside = c.self.inside in
    subst (λ (e : Stable × (Tree × Tree)). AreBothStacked e.0 e.1.0 e.1.1)
    (sym (λ i. (c.deref.ensures i, ((c.tree.ensures ∙ c.deref-2.ensures) i, c.deref-3.ensures i))))
    (record { lower = c.self.invariant.lower; middle = c.self.invariant.middle })

pub returns-clause-rows : goal.returns-clause-rows
returns-clause-rows c = grind (arith, common_steps, c.deref.ensures, c.tree.ensures, c.deref-2.ensures, c.deref-3.ensures, c.committed.ensures, merged_rows-nothing, rows_of-table_of)

pub returns-clause-table : goal.returns-clause-table
returns-clause-table c =
    let l = c.args.self.now in
    let same =
    (λ i. stack_below (c.deref.ensures i) ((c.tree.ensures ∙ c.deref-2.ensures) i) (c.deref-3.ensures i))
    ∙ ap (λ (m : Lower). stack_below m.stable m.read m.write) c.self.view_is in
    ap image_table (c.committed.ensures ∙ same) ∙ image_table-below l
