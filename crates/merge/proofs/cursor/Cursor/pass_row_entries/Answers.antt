use Rattle.std.proofs.Common.{◌≡◌, ◌∙◌, suc, ◌<◌, Some, T, take, sym, ap, subst, arith}
use Rattle.std.specs.Prelude.{slice_get}
use Rattle.std.specs.List.{list_all}
use Rattle.std.specs.Option.{option_copied}
use Rattle.delta.specs.Tree.{Tree}
use Rattle.merge.specs.Cursor.{TreeCursor, entries_left, entries_past, is_past}
use Rattle.merge.proofs.CursorLemmas.{one_past, below_past, entries_past-at, entries_past-other, entries_past-none}
use Rattle.merge.proofs.cursor.Cursor.pass_row_entries.Goals as goal
use Rattle.std.proofs.lemmas.Grind.{common_steps}

pub loop-entry-preserved : goal.loop-entry-preserved
loop-entry-preserved c =
    let old = c.args.self.now in
    let here = c.loop-entry.self in
    let inv = c.loop-entry.invariant in
    let x = c.in-Some.entry.now in
    let at = sym c.next_entry.ensures ∙ ap option_copied c.in-Some.is in
    let same : x.sid ≡ old.sid = omega (arith, c.if-sid.false, c.sid.ensures, c.sid-in-Some.ensures, inv.sid) in
    let below : x.sid < suc old.sid = omega (arith, same) in
    let next = c.advance.ensures in
    record {
      tree = ap (λ (v : TreeCursor). v.tree) next ∙ inv.tree;
      sid = ap (λ (v : TreeCursor). v.sid) next ∙ inv.sid;
      rest =
          ap (λ (v : TreeCursor). entries_past old.sid (entries_left v)) next
          ∙ sym (entries_past-at old.sid here.index here.tree.entries x at same)
          ∙ inv.rest;
      past = λ p.
          let there = subst (λ (t : Tree). slice_get t.entries here.index ≡ Some x) inv.tree at in
          let passed = one_past (suc old.sid) here.index old.tree.entries x there (below_past (suc old.sid) x below) (inv.past p) in
          subst (λ n. T (list_all (is_past (suc old.sid)) (take n old.tree.entries))) (sym (ap (λ (v : TreeCursor). v.index) next)) passed;
    }

pub returns-then-sid-clause-rest : goal.returns-then-sid-clause-rest
returns-then-sid-clause-rest c = grind (arith, common_steps, c.loop-entry.invariant, c.next_entry.ensures, c.in-Some.is, c.if-sid.true, c.sid.ensures, c.sid-in-Some.ensures, entries_past-other)

pub returns-in_default-clause-rest : goal.returns-in_default-clause-rest
returns-in_default-clause-rest c =
    grind (arith, common_steps, c.next_entry.ensures, c.in_default.is, c.loop-entry.invariant.rest, entries_past-none)
