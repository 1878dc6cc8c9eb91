use Rattle.std.proofs.Common.{sym, ap, ◌∙◌, subst, arith}
use Rattle.model.specs.Entries.{IsLawful}
use Rattle.delta.specs.Tree.{Tree}
use Rattle.delta.specs.Changes.{entries_with}
use Rattle.delta.proofs.LawfulLemmas.{IsEdited, edited}
use Rattle.delta.proofs.PutLemmas.{entries_with-run, run_within, IsLawful-entries_with}
use Rattle.delta.proofs.tree.DeltaTree.put_run.Goals.{In_ok-replace_shared}
use Rattle.delta.proofs.tree.DeltaTree.put_run.Goals as goal
use Rattle.delta.proofs.Words.{with_run}

pub replace_shared-requires-clause-start_le_end : goal.replace_shared-requires-clause-start_le_end
replace_shared-requires-clause-start_le_end c = omega (arith, c.requires.run, run_within)

-- the tree with the entry in place of the run
put : (c : In_ok-replace_shared) → IsEdited c.self.inside.key_cols c.replace_shared.new.self.entries c.args.self.now
    (entries_with c.args.self.now.key_cols c.args.entry.sid c.args.entry.change c.args.self.now.entries)
put c =
    let t = c.args.self.now in
    let e = c.args.entry in
    edited c.self.inside.key_cols c.self.inside.tree.entries c.replace_shared.new.self.entries
    (entries_with t.key_cols e.sid e.change t.entries) t c.self.view_is
    (c.in_ok-replace_shared.ensures.ok ∙ ap (λ (w : Tree). with_run w.entries c.args.start c.args.end e) c.self.view_is
    ∙ sym (entries_with-run t.key_cols e.sid e.change t.entries c.args.start c.args.end c.requires.run c.requires.free))
    (IsLawful-entries_with t.key_cols e.sid e.change t.entries c.args.start c.args.end
    (subst (λ (w : Tree). IsLawful w.key_cols w.entries) c.self.view_is c.self.invariant) c.requires.run c.requires.free
    c.requires.small c.requires.room)

pub returns-clause-ok : goal.returns-clause-ok
returns-clause-ok c = (put c).shows

pub invariant_of-self-2 : goal.invariant_of-self-2
invariant_of-self-2 c = (put c).lawful
