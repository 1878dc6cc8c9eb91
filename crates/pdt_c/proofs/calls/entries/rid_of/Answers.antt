use Rattle.std.proofs.Common.{ℕ, subst}
use Rattle.std.specs.Bool.{passes}
use Rattle.model.specs.declared.entry.Change.{Change}
use Rattle.model.specs.Entries.{are_ordered, change_cmp}
use Rattle.delta.specs.Search.{stands_before, IsSplit}
use Rattle.pdt_c.proofs.EntryLemmas.{found_index}
use Rattle.pdt_c.proofs.calls.entries.rid_of.Goals as goal

-- the place of the entry's change is its index
pub prove-unreachable-requires : goal.prove-unreachable-requires
prove-unreachable-requires c =
    let tree = c.args.tree.now in
    let place = c.find-place.result in
    let order = passes (are_ordered tree.key_cols tree.entries) c.requires.lawful.ordered in
    let split = subst (λ (e : Change × ℕ). IsSplit (stands_before (change_cmp tree.key_cols e.0) e.1) tree.entries place.index)
    (λ i. (c.change.ensures i, c.sid.ensures i)) c.find-place.ensures.split in
    c.if-prove.true (found_index tree.key_cols tree.entries c.args.index place.index c.args.entry.now order c.requires.there split)
