use Rattle.std.proofs.Common.{◌≤◌, Bool, is_some, sym, ap, ◌∙◌, subst, arith}
use Rattle.std.specs.Prelude.{slice_get}
use Rattle.std.specs.Option.{option_copied}
use Rattle.model.proofs.CallerLemmas.{rank-le-length}
use Rattle.delta.specs.BySid.{base_change}
use Rattle.delta.specs.Lookups.{inserted_row}
use Rattle.delta.specs.Search.{insert_cmp, past_cmp, stands_before, IsSplit}
use Rattle.delta.specs.Tree.{Tree}
use Rattle.txn.specs.Edit.{is_inserted, is_there}
use Rattle.txn.specs.Txn.{Transaction, transaction_at, entries_of, IsFound}
use Rattle.txn.proofs.ReadsLemmas.{found, ends_there}
use Rattle.txn.specs.Version.{lower_table, table_version}
use Rattle.txn.proofs.transaction.Txn.find.Goals as goal

pub find-place-requires : goal.find-place-requires
find-place-requires c = omega (arith, c.self.invariant.0, c.locate-sid.ensures.rank, rank-le-length)

pub returns-clause-found : goal.returns-clause-found
returns-clause-found c =
    let inside = c.self.inside in
    let txn : Transaction = transaction_at (table_version inside.version) inside.row_limit inside.client inside.writes.items in
    let key = c.args.key.now in
    let sid = c.locate-sid.result.0 in
    let place = c.find-place in
    let tree_is = c.self.invariant.1 in
    let split = subst (λ (t : Tree). IsSplit (stands_before (insert_cmp t.key_cols key) sid) t.entries place.result.index) tree_is
    place.ensures.split in
    let inserted = ap is_some place.ensures.row ∙ ap (λ (t : Tree). is_some (inserted_row t.key_cols sid key t.entries)) tree_is in
    let base = place.ensures.base ∙ ap (λ (t : Tree). base_change sid (slice_get t.entries place.result.index)) tree_is in
    let here = found txn c.self.invariant.0 key sid place.result.index c.locate-sid.result.1 (is_some (option_copied place.result.row))
    place.result.base
    c.locate-sid.ensures.rank split c.locate-sid.ensures.there inserted base in
    let row = c.at.ensures in
    subst (λ (t : Transaction). IsFound t key sid (is_there c.at.result) (is_inserted c.at.result)) c.self.view_is
    (subst (λ (e : Bool × Bool). IsFound txn key sid e.0 e.1) (sym (λ i. (row.there i, row.inserted i))) here)

pub returns-clause-kept : goal.returns-clause-kept
returns-clause-kept c = λ yes.
    let inside = c.self.inside in
    let txn : Transaction = transaction_at (table_version inside.version) inside.row_limit inside.client inside.writes.items in
    let key = c.args.key.now in
    let sid = c.locate-sid.result.0 in
    let place = c.find-place in
    let n = place.result.index in
    let tree_is = c.self.invariant.1 in
    let split = subst (λ (t : Tree). IsSplit (stands_before (insert_cmp t.key_cols key) sid) t.entries n) tree_is place.ensures.split in
    let row = place.ensures.row ∙ ap (λ (t : Tree). inserted_row t.key_cols sid key t.entries) tree_is in
    let base = place.ensures.base ∙ ap (λ (t : Tree). base_change sid (slice_get t.entries n)) tree_is in
    let kept = c.at.ensures.kept yes in
    subst (λ (t : Transaction). IsSplit (stands_before past_cmp sid) (entries_of t) n) c.self.view_is
    (ends_there txn c.self.invariant.0 key sid n c.locate-sid.result.1 (option_copied place.result.row) place.result.base
    c.locate-sid.ensures.rank split c.locate-sid.ensures.there row base kept.0 kept.1 kept.2)
