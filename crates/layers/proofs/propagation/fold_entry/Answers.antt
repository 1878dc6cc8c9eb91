use Rattle.values.specs.Lent.{value_of}
use Rattle.delta.specs.Lent.{change_of}
use Rattle.std.proofs.Common.{◌≡◌, ℕ, ◌<◌, ◌^◌, sym, ap, ◌∙◌, subst, arith}
use Rattle.std.proofs.lemmas.Result.{on_ok_weaker}
use Rattle.std.specs.Prelude.{set}
use Rattle.values.specs.declared.value.Value.{Value}
use Rattle.model.specs.declared.entry.Entry.{Entry}
use Rattle.model.specs.declared.entry.Change.{Change}
use Rattle.model.specs.declared.entry.Change.TheVariants.{Del, Mod}
use Rattle.model.specs.Entries.{entry_at}
use Rattle.model.specs.Edits.{change_with_cell}
use Rattle.delta.specs.Changes.{entries_with}
use Rattle.delta.specs.Folds.{IsOnlyFold}
use Rattle.delta.specs.declared.folds.Fold.{Fold}
use Rattle.layers.specs.Propagation.{IsNext, next_tree}
use Rattle.layers.proofs.StepLemmas.{small_rid, ascending, with_change, told, put_may, put_next}
use Rattle.layers.proofs.StepLemmas.{take_within, take_next, set_within, set_there, set_outside, set_next}
use Rattle.layers.proofs.propagation.fold_entry.Goals as goal
use Rattle.std.proofs.lemmas.Grind.{common_steps}

pub find_fold-requires-clause-rid : goal.find_fold-requires-clause-rid
find_fold-requires-clause-rid c =
    subst (λ (n : ℕ). n < 2 ^ 63) (sym c.sid.ensures) (small_rid c.args.tree.now c.args.entry.now c.requires)

pub find_fold-requires-clause-ascending : goal.find_fold-requires-clause-ascending
find_fold-requires-clause-ascending c = ascending c.args.tree.now c.args.entry.now c.requires

pub put_run-requires : goal.put_run-requires
put_run-requires c = grind (arith, common_steps, c.sid.ensures, c.change-change.ensures, c.in-Put.is, c.find_fold.ensures.fold, c.find_fold.ensures.only, c.in_ok-with_sid-in-Put.ensures, c.requires, put_may)

pub returns-in_ok-with_sid-in-Put : goal.returns-in_ok-with_sid-in-Put
returns-in_ok-with_sid-in-Put c =
    let t = c.args.tree.now in
    let e = c.args.entry.now in
    let s = c.in-Put.sid in
    let n = c.in-Put.start in
    let m = c.in-Put.end in
    let only =
    subst (λ (p : ℕ × Change × Fold). IsOnlyFold t.key_cols t.entries p.0 p.1 p.2)
    (λ i. (c.sid.ensures i, c.change-change.ensures i, c.in-Put.is i)) c.find_fold.ensures.only in
    let with_entry = λ (x : Entry). record t { entries = entries_with t.key_cols x.sid x.change t.entries } in
    record {
      ok = on_ok_weaker c.put_run.result
          (λ new_is. put_next t e.sid e.change s n m only c.put_run.new.self (new_is ∙ ap with_entry c.in_ok-with_sid-in-Put.ensures))
          c.put_run.ensures.ok;
    }

pub take_at-requires : goal.take_at-requires
take_at-requires c =
    let t = c.args.tree.now in
    let e = c.args.entry.now in
    let change = sym c.change-change.ensures ∙ ap change_of c.in-Del.is in
    let only =
    subst (λ (p : ℕ × Change × Fold). IsOnlyFold t.key_cols t.entries p.0 p.1 p.2)
    (λ i. (c.sid.ensures i, ap change_of c.in-Del.is i, c.in-Into.is i))
    c.find_fold.ensures.only in
    take_within t e.sid c.in-Del.field-0.now (with_change t e (Del c.in-Del.field-0.now) change c.requires) c.in-Into.index only

pub returns-in-Del : goal.returns-in-Del
returns-in-Del c =
    let t = c.args.tree.now in
    let e = c.args.entry.now in
    let key = c.in-Del.field-0.now in
    let change = sym c.change-change.ensures ∙ ap change_of c.in-Del.is in
    let only =
    subst (λ (p : ℕ × Change × Fold). IsOnlyFold t.key_cols t.entries p.0 p.1 p.2)
    (λ i. (c.sid.ensures i, ap change_of c.in-Del.is i, c.in-Into.is i))
    c.find_fold.ensures.only in
    let new = c.take_at.new.self in
    let after = λ (d : Change) (v : IsNext t (entry_at e.sid d)). new ≡ next_tree t (entry_at e.sid d) v in
    record {
      ok = on_ok_weaker c.take_at.result
          (λ new_is. told t e.sid e.change (Del key) change after (λ v. take_next t e.sid key v c.in-Into.index only new new_is))
          c.take_at.ensures.ok;
    }

pub set_at-requires : goal.set_at-requires
set_at-requires c =
    let t = c.args.tree.now in
    let e = c.args.entry.now in
    let col = c.in-Mod.col in
    let value = value_of c.in-Mod.value in
    let change = sym c.change-change.ensures ∙ ap change_of c.in-Mod.is in
    let w = with_change t e (Mod col value) change c.requires in
    let only =
    subst (λ (p : ℕ × Change × Fold). IsOnlyFold t.key_cols t.entries p.0 p.1 p.2)
    (λ i. (c.sid.ensures i, ap change_of c.in-Mod.is i, c.in-Into.is i))
    c.find_fold.ensures.only in
    record {
      within = set_within t e.sid col value w c.in-Into.index only;
      there = set_there t e.sid col value w c.in-Into.index only;
      outside_key = set_outside t e.sid col value w c.in-Into.index only;
    }

pub returns-in_ok-copy-in-Mod : goal.returns-in_ok-copy-in-Mod
returns-in_ok-copy-in-Mod c =
    let t = c.args.tree.now in
    let e = c.args.entry.now in
    let col = c.in-Mod.col in
    let value = value_of c.in-Mod.value in
    let change = sym c.change-change.ensures ∙ ap change_of c.in-Mod.is in
    let only =
    subst (λ (p : ℕ × Change × Fold). IsOnlyFold t.key_cols t.entries p.0 p.1 p.2)
    (λ i. (c.sid.ensures i, ap change_of c.in-Mod.is i, c.in-Into.is i))
    c.find_fold.ensures.only in
    let n = c.in-Into.index in
    let new = c.set_at.new.self in
    let cell = λ (r : Entry) (x : Value). record t { entries = set t.entries n (entry_at r.sid (change_with_cell col x r.change)) } in
    let after = λ (d : Change) (v : IsNext t (entry_at e.sid d)). new ≡ next_tree t (entry_at e.sid d) v in
    record {
      ok = on_ok_weaker c.set_at.result
          (λ new_is. told t e.sid e.change (Mod col value) change after
          (λ v. set_next t e.sid col value v n only new (λ r there. new_is r there ∙ ap (cell r) c.in_ok-copy-in-Mod.ensures.same)))
          c.set_at.ensures.ok;
    }
