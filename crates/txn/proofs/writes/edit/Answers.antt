use Rattle.std.proofs.Common.{◌≡◌, List, get_or, set, sym, ap, ◌∙◌, subst}
use Rattle.std.specs.Prelude.{OnOk}
use Rattle.std.proofs.lemmas.Option.{slice_get-get_or}
use Rattle.std.proofs.lemmas.Result.{on_ok_weaker}
use Rattle.values.specs.declared.value.Value.{Value}
use Rattle.model.specs.declared.entry.Entry.{Entry}
use Rattle.model.specs.Edits.{change_with_cell}
use Rattle.model.specs.Entries.{entry_at}
use Rattle.model.specs.Writes.{key_of_write}
use Rattle.delta.proofs.CallerLemmas.{nothing, run-del, run-mod}
use Rattle.txn.specs.Edit.{is_inserted}
use Rattle.txn.proofs.EditLemmas.{taken, taken_is, found, cell_there, set_is}
use Rattle.txn.proofs.writes.edit.Goals as goal

pub take_at-requires : goal.take_at-requires
take_at-requires c =
    let t = c.args.tree.now in
    let f = c.args.found in
    let done = sym c.is_done.ensures ∙ c.if-not-is_done.false in
    let yes = sym c.is_inserted-inserted.ensures ∙ c.if-inserted.true in
    (taken t.key_cols f.sid f.index t.entries c.requires.ordered (is_inserted f.row) yes c.args.write.now c.requires.place
    (c.requires.may done) _ done c.in-Delete.field-0 c.in-Delete.is).short

pub returns-in-Delete-clause-ok : goal.returns-in-Delete-clause-ok
returns-in-Delete-clause-ok c =
    let t = c.args.tree.now in
    let f = c.args.found in
    let done = sym c.is_done.ensures ∙ c.if-not-is_done.false in
    let yes = sym c.is_inserted-inserted.ensures ∙ c.if-inserted.true in
    let is = taken_is t.key_cols f.sid f.index t.entries c.requires.ordered
    (is_inserted f.row) yes c.args.write.now c.requires.place (c.requires.may done) _ done c.in-Delete.field-0 c.in-Delete.is in
    subst (λ (es : List Entry). OnOk c.take_at.result (c.take_at.new.self ≡ record t { entries = es })) is c.take_at.ensures.ok

pub set_at-requires-clause-within : goal.set_at-requires-clause-within
set_at-requires-clause-within c =
    let t = c.args.tree.now in
    let f = c.args.found in
    let done = sym c.is_done.ensures ∙ c.if-not-is_done.false in
    let yes = sym c.is_inserted-inserted.ensures ∙ c.if-inserted-2.true in
    (found t.key_cols f.sid f.index t.entries c.requires.ordered (is_inserted f.row) yes c.args.write.now c.requires.place
    (c.requires.may done) _ done c.in-Set.field-0 c.in-Set.col c.in-Set.value c.in-Set.is).short

pub set_at-requires-clause-there : goal.set_at-requires-clause-there
set_at-requires-clause-there c =
    let t = c.args.tree.now in
    let f = c.args.found in
    let done = sym c.is_done.ensures ∙ c.if-not-is_done.false in
    let yes = sym c.is_inserted-inserted.ensures ∙ c.if-inserted-2.true in
    cell_there t.key_cols f.sid f.index t.entries c.requires.ordered (is_inserted f.row) yes c.args.write.now c.requires.place
    (c.requires.may done) _ done c.in-Set.field-0 c.in-Set.col c.in-Set.value c.in-Set.is

pub returns-in_ok-copy-in-Set-clause-ok : goal.returns-in_ok-copy-in-Set-clause-ok
returns-in_ok-copy-in-Set-clause-ok c =
    let t = c.args.tree.now in
    let f = c.args.found in
    let done = sym c.is_done.ensures ∙ c.if-not-is_done.false in
    let yes = sym c.is_inserted-inserted.ensures ∙ c.if-inserted-2.true in
    let short =
    (found t.key_cols f.sid f.index t.entries c.requires.ordered (is_inserted f.row) yes c.args.write.now c.requires.place
    (c.requires.may done) _ done c.in-Set.field-0 c.in-Set.col c.in-Set.value c.in-Set.is).short in
    let is = set_is t.key_cols f.sid f.index t.entries c.requires.ordered (is_inserted f.row) yes c.args.write.now c.requires.place
    (c.requires.may done) _ done c.in-Set.field-0 c.in-Set.col c.in-Set.value c.in-Set.is in
    let y = get_or t.entries f.index nothing in
    let copied = c.in_ok-copy-in-Set.ensures.same in
    on_ok_weaker c.set_at.result
    (λ made. made y (slice_get-get_or t.entries f.index nothing short)
    ∙ ap (λ (es : List Entry). record t { entries = es })
    (ap (λ (v : Value). set t.entries f.index (entry_at y.sid (change_with_cell c.in-Set.col v y.change))) copied ∙ is))
    c.set_at.ensures.ok

pub put_at-requires-in-Delete-2-clause-run : goal.put_at-requires-in-Delete-2-clause-run
put_at-requires-in-Delete-2-clause-run c =
    let t = c.args.tree.now in
    let f = c.args.found in
    let end = c.requires.kept (sym c.is_kept-kept.ensures ∙ c.if-kept.true) in
    let key = key_of_write t.key_cols c.args.write.now in
    run-del t.key_cols f.sid c.in_ok-copy-in-Delete-2.field-0 key t.entries f.index c.requires.place end

pub put_at-requires-in-Set-2-clause-run : goal.put_at-requires-in-Set-2-clause-run
put_at-requires-in-Set-2-clause-run c =
    let t = c.args.tree.now in
    let f = c.args.found in
    let end = c.requires.kept (sym c.is_kept-kept.ensures ∙ c.if-kept-2.true) in
    let key = key_of_write t.key_cols c.args.write.now in
    run-mod t.key_cols f.sid c.in-Set-2.col c.in_ok-copy-in-Set-2.field-0 key t.entries f.index c.requires.place end
