use Rattle.std.proofs.Common.{List, sym, ap, ◌∙◌, subst, suc}
use Rattle.std.specs.Option.{option_copied}
use Rattle.values.specs.Shape.{Columns}
use Rattle.model.specs.declared.entry.Entry.{Entry}
use Rattle.codec.specs.Fit.{EntriesFit}
use Rattle.delta.specs.Tree.{Tree}
use Rattle.txn.specs.Txn.{IsTransaction, effects_of}
use Rattle.manager.specs.Managed.{newest_number, newest_table}
use Rattle.pdt_c.specs.Marks.{Opened}
use Rattle.manager.proofs.CallerLemmas.{grant_is, granted, granted_over, newest_few}
use Rattle.pdt_c.proofs.calls.journals.write_decided.Goals as goal

-- the tree is that of the effects, which are over the newest table
pub write_tree-requires : goal.write_tree-requires
write_tree-requires c =
    let m = c.args.manager.now in
    let txn = c.args.begun.now.txn in
    let p = c.args.prepared.now in
    let is = c.requires.prepared in
    let found = granted m txn p is c.in-Some.tree.now (sym c.tree.ensures ∙ ap option_copied c.in-Some.is) in
    let grant = grant_is m txn p is found.0 found.1 in
    let tree_is = ap (λ (t : Tree). t.entries) (sym found.2 ∙ grant.1.tree_is) in
    let lawful = subst IsTransaction (ap (λ (o : Opened). o.txn) c.begun.view_is) c.begin-begin.ensures.lawful in
    let h = c.history-history.ensures.lawful in
    let due = sym grant.0 ∙ is.due in
    let fits = c.commit_entries_fit.ensures m.schema (newest_table m) (effects_of txn) h.lawful
    (granted_over m txn h lawful c.requires.own (suc (newest_number m)) due) (newest_few m h) in
    record {
      fits = subst (λ (e : Columns × List Entry). EntriesFit e.0 e.1)
          (sym (λ i. ((c.schema.ensures ∙ c.newest.ensures.schema) i, tree_is i))) fits;
    }
