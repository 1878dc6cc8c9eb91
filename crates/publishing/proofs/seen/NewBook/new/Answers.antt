use Rattle.std.proofs.Common.{List, [], length, sym, ap, ◌∙◌}
use Rattle.txn.specs.Version.{TableVersion}
use Rattle.manager.specs.Managed.{Managed}
use Rattle.publishing.specs.declared.item.Item.{Item}
use Rattle.publishing.specs.Lists.{manager_in, items_in, number_in}
use Rattle.publishing.proofs.ListedLemmas.{listed_at_opening, number_is}
use Rattle.publishing.proofs.seen.NewBook.new.Goals as goal

pub invariant_of-result : goal.invariant_of-result
invariant_of-result c =
    let m = c.args.manager.now in
    let log = c.open_row-seen.ensures.1 in (
      ap (λ (l : List Item). length l) log,
      c.number.ensures
          ∙ ap (λ (v : TableVersion). v.number) c.version.ensures.table
          ∙ number_is m [] m (listed_at_opening m)
          ∙ sym (ap (λ (l : List Item). number_in (manager_in l) (items_in l)) log ∙ ap (λ (o : Managed). number_in o []) c.of.ensures),
    )
