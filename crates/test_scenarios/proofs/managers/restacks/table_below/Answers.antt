use Rattle.std.proofs.Common.{◌≡◌, ◌∙◌, List, [], ◌∷◌, length, refl, ap, arith}
use Rattle.model.specs.declared.entry.Entry.{Entry}
use Rattle.model.specs.Merging.{merged_rows}
use Rattle.model.proofs.CallerLemmas.{merged_rows_from_nothing}
use Rattle.stable.specs.Stable.{Stable}
use Rattle.delta.specs.Tree.{Tree}
use Rattle.merge.specs.Image.{Stack, image_rows}
use Rattle.test_scenarios.proofs.managers.restacks.table_below.Goals as goal

-- a list of no length has nothing
empty : (es : List Entry) → length es ≡ 0 → es ≡ []
empty [] none = refl
empty (e ∷ es) none = absurd (omega (arith, none))

pub returns : goal.returns
returns c =
    let l = c.args.manager.now.layers in
    let none : l.write.entries ≡ [] =
    empty l.write.entries (omega (arith, c.if-len-gt0.false, c.len.ensures, ap (λ (t : Tree). length t.entries) c.write_tree.ensures)) in
    c.in_ok-new.ensures.ok
    ∙ c.in_ok-table.ensures
    ∙ ap (λ (s : Stack). record { schema = s.schema; rows = image_rows s }) c.newest.ensures.layers
    ∙ (λ i. record { schema = l.stable.schema; rows = merged_rows (merged_rows (merged_rows l.stable.rows l.read.entries) (none i)) [] })
    ∙ (λ i. record {
      schema = l.stable.schema;
      rows = (merged_rows_from_nothing 0 (merged_rows (merged_rows l.stable.rows l.read.entries) [])
          ∙ merged_rows_from_nothing 0 (merged_rows l.stable.rows l.read.entries)) i;
    })
