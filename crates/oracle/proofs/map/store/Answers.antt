use Rattle.std.proofs.Common.{◌∙◌, sym, ap}
use Rattle.model.specs.Maps.{store}
use Rattle.oracle.proofs.OrderedMapLemmas.{remove_entry-without, is_sorted-ordered}
use Rattle.oracle.proofs.map.store.Goals as goal

pub returns-in-None-clause-ok : goal.returns-in-None-clause-ok
returns-in-None-clause-ok g c =
    c.remove.ensures.entries
    ∙ remove_entry-without g.K.Ord.cmp g.met.K.Ord.total c.args.map.now.entries c.args.key
    (is_sorted-ordered g.K.Ord.cmp c.args.map.now.entries c.len-len.ensures.ordered)
    ∙ ap (λ v. store g.K.Ord.cmp c.args.key v c.args.map.now.entries) (sym c.in-None.is)
