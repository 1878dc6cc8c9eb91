use Rattle.std.proofs.Common.{◌≡◌, ◌∙◌, suc, ◌+◌, ◌<◌, T, drop, take, sym, ap, subst, arith}
use Rattle.std.specs.List.{list_all}
use Rattle.std.proofs.lemmas.Option.{slice_get_within}
use Rattle.delta.specs.Tree.{Tree}
use Rattle.merge.specs.Cursor.{TreeCursor, entries_left, entries_past, is_past}
use Rattle.merge.proofs.CursorLemmas.{below_past, entries_past-at, one_past}
use Rattle.merge.proofs.StepLemmas.{modifies_next}
use Rattle.merge.proofs.cursor.Cursor.pass_row.Goals as goal
use Rattle.std.proofs.lemmas.Grind.{common_steps}

pub advance-requires-clause-some : goal.advance-requires-clause-some
advance-requires-clause-some c = grind (arith, common_steps, c.requires.next.0, c.requires.next.1.next, slice_get_within)

pub returns-clause-passed : goal.returns-clause-passed
returns-clause-passed c =
    let old = c.args.self.now in
    let x = c.requires.next.0 in
    let h = c.requires.next.1 in
    let is = c.advance.ensures in
    let row = c.pass_row_entries.new.self in
    let passed = c.pass_row_entries.ensures in
    let tree : row.tree ≡ old.tree = passed.tree ∙ ap (λ (v : TreeCursor). v.tree) is in
    let sid : row.sid ≡ old.sid = passed.sid ∙ ap (λ (v : TreeCursor). v.sid) is in
    let left : drop row.index old.tree.entries ≡ entries_past old.sid (entries_left old) =
    ap (λ (t : Tree). drop row.index t.entries) (sym tree)
    ∙ passed.rest
    ∙ ap (λ (v : TreeCursor). entries_past v.sid (entries_left v)) is
    ∙ sym (entries_past-at old.sid old.index old.tree.entries x h.next h.here) in
    let low : x.sid < suc old.sid = omega (arith, h.here) in
    let further = subst (λ (v : TreeCursor). T (list_all (is_past (suc v.sid)) (take v.index v.tree.entries))
    → T (list_all (is_past (suc v.sid)) (take row.index v.tree.entries))) is passed.past in
    modifies_next old x h c.requires.undeleted c.pass.new.self row.index left
    (λ p. further (one_past (suc old.sid) old.index old.tree.entries x h.next (below_past (suc old.sid) x low) p))
    (c.pass.ensures ∙ (λ i. record { tree = tree i; index = row.index; sid = sid i + 1 }))
