use Rattle.std.proofs.Common.{ℕ, T, take, sym, ap, ◌∙◌, subst, arith}
use Rattle.std.specs.List.{list_all}
use Rattle.std.specs.Option.{option_copied}
use Rattle.delta.specs.Tree.{Tree}
use Rattle.delta.specs.Search.{IsSplit}
use Rattle.layers.proofs.PassLemmas.{ahead_at, is_before, before_more, split_some, split_none}
use Rattle.layers.proofs.cursor.Cursor.pass_before.Goals as goal
use Rattle.std.proofs.lemmas.Grind.{common_steps}

pub pass-requires-clause-at : goal.pass-requires-clause-at
pass-requires-clause-at c = grind (arith, common_steps, c.loop-there.invariant.cursor, c.first.ensures, c.in-Some.is, ahead_at)

pub loop-there-preserved : goal.loop-there-preserved
loop-there-preserved c =
    let here = c.loop-there.self in
    let inv = c.loop-there.invariant in
    let e = c.args.entry.now in
    let y = c.in-Some.there.now in
    let at = ahead_at here inv.cursor ∙ sym c.first.ensures ∙ ap option_copied c.in-Some.is in
    let tree = c.pass.ensures.tree in
    let passes = ap (λ (k : ℕ). is_before k c.args.rule e y) (sym inv.key_cols) ∙ sym c.stands_before.ensures
    ∙ c.if-not-stands_before.false in
    let more = before_more here.tree.now.key_cols c.args.rule e y here.tree.now.entries here.passed at passes inv.before in
    record {
      cursor = c.pass.ensures.cursor;
      before = subst (λ (p : Tree × ℕ). T (list_all (is_before p.0.key_cols c.args.rule e) (take p.1 p.0.entries)))
          (λ i. (sym tree i, sym c.pass.ensures.passed i)) more;
      tree = tree ∙ inv.tree;
      key_cols = inv.key_cols ∙ ap (λ (t : Tree). t.key_cols) (sym tree);
    }

pub returns-then-not-stands_before-clause-split : goal.returns-then-not-stands_before-clause-split
returns-then-not-stands_before-clause-split c = grind (arith, common_steps, c.loop-there.invariant, c.first.ensures, c.in-Some.is, c.stands_before.ensures, c.if-not-stands_before.true, ahead_at, is_before, split_some)

pub returns-in_default-clause-split : goal.returns-in_default-clause-split
returns-in_default-clause-split c =
    let here = c.loop-there.self in
    let inv = c.loop-there.invariant in
    let e = c.args.entry.now in
    let none = ahead_at here inv.cursor ∙ sym c.first.ensures ∙ ap option_copied c.in_default.is in
    subst (λ (t : Tree). IsSplit (is_before t.key_cols c.args.rule e) t.entries here.passed) inv.tree
    (split_none c.args.rule e here inv.cursor inv.before none)
