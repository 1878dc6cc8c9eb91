use Rattle.std.proofs.Common.{◌≡◌, suc, List, sym, ap, ◌∙◌, subst}
use Rattle.std.specs.Option.{option_copied}
use Rattle.values.specs.Shape.{Columns}
use Rattle.model.specs.declared.entry.Entry.{Entry}
use Rattle.model.specs.declared.write.CommitReply.TheVariants.{Committed}
use Rattle.model.specs.Entries.{canonical_entries}
use Rattle.codec.specs.Fit.{EntriesFit}
use Rattle.delta.specs.Tree.{Tree}
use Rattle.txn.specs.Txn.{effects_of}
use Rattle.manager.specs.Managed.{newest_number, newest_table}
use Rattle.manager.proofs.CallerLemmas.{grant_is, granted, granted_over, newest_few, same_number}
use Rattle.durable.proofs.spelling.spell_prepared.Goals.{After-schema-schema}
use Rattle.durable.proofs.spelling.spell_prepared.Goals as goal

module _ (c : After-schema-schema) where
  reply_is : c.args.prepared.now.reply ≡ Committed c.in-Committed.number
  reply_is = sym c.reply.ensures ∙ c.in-Committed.is

  -- the tree is that of the transaction's effects, and the commit has the next number
  tree_is : (c.in-Some.tree.now.entries ≡ canonical_entries (newest_table c.args.manager.now) (effects_of c.args.txn.now))
      × (c.in-Committed.number ≡ suc (newest_number c.args.manager.now))
  tree_is =
      let m = c.args.manager.now in
      let txn = c.args.txn.now in
      let p = c.args.prepared.now in
      let is = c.requires.prepared in
      let found = granted m txn p is c.in-Some.tree.now (sym c.tree.ensures ∙ ap option_copied c.in-Some.is) in
      let grant = grant_is m txn p is found.0 found.1 in (
        ap (λ (t : Tree). t.entries) (sym found.2 ∙ grant.1.tree_is),
        same_number c.in-Committed.number (suc (newest_number m)) (sym reply_is ∙ grant.0),
      )

  fitting : EntriesFit c.schema-schema.result.now c.in-Some.tree.now.entries
  fitting =
      let m = c.args.manager.now in
      let txn = c.args.txn.now in
      let h = c.history-history.ensures.lawful in
      let due = sym reply_is ∙ c.requires.prepared.due in
      let fits =
      c.commit_entries_fit.ensures m.schema (newest_table m) (effects_of txn) h.lawful
      (granted_over m txn h c.begin-begin.ensures.lawful c.requires.own c.in-Committed.number due) (newest_few m h) in
      subst (λ (e : Columns × List Entry). EntriesFit e.0 e.1)
      (sym (λ i. ((c.schema-schema.ensures ∙ c.newest.ensures.schema) i, tree_is.0 i))) fits

pub spell-requires : goal.spell-requires
spell-requires c = record { fits = fitting (goal.at.spell-requires c).After-schema-schema }
