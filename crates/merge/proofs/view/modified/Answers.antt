use Rattle.std.proofs.Common.{◌∙◌, T, not, None, List, take, drop, ap, sym, subst, take-append-drop, arith}
use Rattle.std.specs.Bool.{passes}
use Rattle.std.specs.List.{list_all}
use Rattle.std.specs.Option.{option_map}
use Rattle.values.specs.Lent.{value_of}
use Rattle.model.specs.declared.entry.Entry.{Entry}
use Rattle.model.specs.Entries.{are_ordered}
use Rattle.delta.specs.Search.{base_cmp, stands_before}
use Rattle.delta.proofs.CallerLemmas.{ordered_right}
use Rattle.model.proofs.CallerLemmas.{first, second}
use Rattle.merge.specs.View.{cells_at, last_cell}
use Rattle.merge.proofs.ViewLemmas.{cells_at-split, cells_at-end, last_cell-here}
use Rattle.merge.proofs.view.modified.Goals as goal
use Rattle.std.proofs.lemmas.Grind.{common_steps}

pub loop-entry-init : goal.loop-entry-init
loop-entry-init c =
    let t = c.args.tree.now in
    let n = c.find-entry-items.result.index in
    let test = stands_before base_cmp c.args.sid in
    let is = c.into_iter-entry-iterator.ensures.into_iter_gives ∙ c.find-entry-items.ensures.rest in
    let ordered : T (are_ordered t.key_cols (drop n t.entries)) =
    ordered_right t.key_cols (take n t.entries) (drop n t.entries)
    (subst (λ (es : List Entry). T (are_ordered t.key_cols es)) (sym (take-append-drop n t.entries))
    (passes (are_ordered t.key_cols t.entries) c.find-entry-items.ensures.lawful.ordered)) in (
      subst (λ (es : List Entry). T (are_ordered t.key_cols es)) (sym is) ordered,
      subst (λ (es : List Entry). T (list_all (λ e. not (test e)) es)) (sym is) c.find-entry-items.ensures.split.after,
      ap (λ (es : List Entry). last_cell c.args.col None (cells_at c.args.sid es)) is
          ∙ ap (last_cell c.args.col None) (cells_at-split c.args.sid t.entries n c.find-entry-items.ensures.split),
    )

-- nothing is left to find past an entry at another SID
pub returns-then-sid : goal.returns-then-sid
returns-then-sid c =
    grind (arith, common_steps, c.in-Some.ensures.steps, c.loop-entry.invariant, c.if-sid.true, c.sid.ensures, cells_at-end, first)

pub loop-entry-preserved : goal.loop-entry-preserved
loop-entry-preserved c =
    let t = c.args.tree.now in
    let sid = c.args.sid in
    let col = c.args.col in
    let x = c.in-Some.entry.now in
    let rest = c.next.new.self in
    let is = c.in-Some.ensures.steps in
    let inv = c.loop-entry.invariant in
    let found = option_map value_of c.loop-entry.found in (
      second _ (are_ordered t.key_cols rest) (subst (λ (es : List Entry). T (are_ordered t.key_cols es)) is inv.0),
      second (not (stands_before base_cmp sid x)) _
          (subst (λ (es : List Entry). T (list_all (λ e. not (stands_before base_cmp sid e)) es)) is inv.1),
      ap (λ o. last_cell col (option_map value_of o) (cells_at sid rest)) c.or-found.ensures
          ∙ last_cell-here col sid x rest c.given.result c.loop-entry.found (sym c.sid.ensures ∙ c.if-sid.false) c.given.ensures
          ∙ ap (λ (es : List Entry). last_cell col found (cells_at sid es)) (sym is)
          ∙ inv.2,
    )
