use Rattle.delta.specs.Lent.{change_of}
use Rattle.std.proofs.Common.{ℕ, take, ap, ◌∙◌, subst}
use Rattle.model.specs.declared.clash.ConflictRule.TheVariants.{ByColumn}
use Rattle.model.specs.declared.entry.Change.{Change}
use Rattle.model.specs.Entries.{change_cmp}
use Rattle.model.specs.Places.{rid_of_insert}
use Rattle.delta.specs.Search.{stands_before, IsSplit}
use Rattle.layers.proofs.ClashLemmas.{rebased_place}
use Rattle.layers.proofs.beside.find_beside.Goals as goal

pub returns-clause-rid : goal.returns-clause-rid
returns-clause-rid c =
    let y = c.args.other.now in
    let e = c.args.entry.now in
    let i = c.find-place.result.index in
    let found = c.find-place.ensures.split in
    let here = subst (λ (s : ℕ). IsSplit (stands_before (change_cmp y.key_cols (change_of c.change.result)) s) y.entries i) c.sid.ensures
    found in
    let split = subst (λ (d : Change). IsSplit (stands_before (change_cmp y.key_cols d) e.sid) y.entries i) c.change.ensures here in
    c.find-place.ensures.rid ∙ ap (rid_of_insert (take i y.entries)) c.sid.ensures ∙ rebased_place ByColumn y.key_cols e y.entries i split
