use Rattle.delta.specs.Lent.{change_of}
use Rattle.std.proofs.Common.{◌≡◌, ℕ, ◌<◌, ◌^◌, T, List, length, take, is_lt, sym, ap, ◌∙◌, subst, arith}
use Rattle.std.specs.List.{list_all, All}
use Rattle.std.proofs.lemmas.Bool.{eqb-true}
use Rattle.std.proofs.lemmas.List.Elements.{All-tail}
use Rattle.model.specs.declared.entry.Entry.{Entry}
use Rattle.model.specs.declared.entry.Change.{Change}
use Rattle.model.specs.Entries.{change_cmp, entry_cmp, are_ordered, is_modify}
use Rattle.model.specs.Rebasing.{rebased_entry, rebased_entries}
use Rattle.model.proofs.CallerLemmas.{second}
use Rattle.delta.specs.Search.{stands_before}
use Rattle.layers.proofs.SerialLemmas.{all_taken}
use Rattle.layers.proofs.StillLemmas.{past_modify, stand_still, moved_alike, none_move}
use Rattle.layers.proofs.rebase.moves_none.Goals as goal

pub returns-then-not-is_modify : goal.returns-then-not-is_modify
returns-then-not-is_modify c =
    let xs = c.args.x.now.entries in
    let y = c.args.y.now in
    let k = y.key_cols in
    let e = c.in-Some.entry.now in
    let rest = c.next.new.self in
    let n = c.find.result.index in
    let steps = c.in-Some.ensures.steps in
    let found = c.find.ensures.split.before in
    let change = c.change-then-not-is_modify in
    let at_sid = subst (λ (s : ℕ). T
    (list_all (stands_before (change_cmp c.args.x.now.key_cols (change_of change.result)) s) (take n xs))) c.sid.ensures found in
    let at_entry = subst (λ (d : Change). T (list_all (stands_before (change_cmp c.args.x.now.key_cols d) e.sid) (take n xs)))
    change.ensures at_sid in
    let before = subst (λ (m : ℕ). T (list_all (stands_before (change_cmp m e.change) e.sid) (take n xs))) c.requires at_entry in
    let ordered = subst (λ (es : List Entry). T (are_ordered k es)) steps c.loop-entry.invariant.ordered in
    λ test.
    let size : n ≡ length xs = eqb-true n c.len.result test ∙ c.len.ensures in
    let all = subst (λ (es : List Entry). T (list_all (stands_before (change_cmp k e.change) e.sid) es))
    (all_taken n xs (omega (arith, size))) before in
    sym (moved_alike k y.entries c.loop-entry.entry-iterator xs c.loop-entry.invariant.alike
    ∙ ap (λ (es : List Entry). rebased_entries k es xs) steps
    ∙ stand_still k e rest xs ordered all)

pub loop-entry-preserved : goal.loop-entry-preserved
loop-entry-preserved c =
    let k = c.args.y.now.key_cols in
    let e = c.in-Some.entry.now in
    let rest = c.next.new.self in
    let steps = c.in-Some.ensures.steps in
    let inv = c.loop-entry.invariant in
    let modifies = ap is_modify (sym c.change.ensures) ∙ sym c.is_modify.ensures ∙ c.if-not-is_modify.false in
    let P = λ (z : Entry). z.sid < 2 ^ 32 in
    record {
      ordered = second (list_all (λ z. is_lt (entry_cmp k e z)) rest) (are_ordered k rest)
          (subst (λ (es : List Entry). T (are_ordered k es)) steps inv.ordered);
      placed = All-tail P e rest (subst (All P) steps inv.placed);
      alike = λ (z : Entry). inv.alike z ∙ ap (λ (es : List Entry). rebased_entry k es z) steps ∙ past_modify k e rest z modifies;
    }

pub returns : goal.returns
returns c =
    let xs = c.args.x.now.entries in
    let y = c.args.y.now in
    λ test.
    sym (moved_alike y.key_cols y.entries c.loop-entry.entry-iterator xs c.loop-entry.invariant.alike
    ∙ ap (λ (es : List Entry). rebased_entries y.key_cols es xs) c.in-None.ensures.steps.0
    ∙ none_move y.key_cols xs)
