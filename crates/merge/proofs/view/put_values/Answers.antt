use Rattle.std.proofs.Common.{◌∙◌, T, not, List, take, drop, ap, sym, subst, take-append-drop, arith}
use Rattle.std.specs.Bool.{passes}
use Rattle.std.specs.List.{list_all}
use Rattle.model.specs.declared.entry.Entry.{Entry}
use Rattle.model.specs.Entries.{are_ordered}
use Rattle.delta.specs.Search.{base_cmp, stands_before}
use Rattle.delta.proofs.CallerLemmas.{ordered_right}
use Rattle.model.proofs.CallerLemmas.{first, second}
use Rattle.merge.specs.View.{cells_at, values_of, with_cells}
use Rattle.merge.proofs.ViewLemmas.{cells_at-split, cells_at-end, with_cells-here}
use Rattle.merge.proofs.view.put_values.Goals as goal
use Rattle.std.proofs.lemmas.Grind.{common_steps}

pub loop-entry-init : goal.loop-entry-init
loop-entry-init c =
    let t = c.args.tree.now in
    let n = c.find-entry-items.result.index in
    let test = stands_before base_cmp c.args.sid in
    let values = values_of c.args.values.now.items in
    let is = c.into_iter-entry-iterator.ensures.into_iter_gives ∙ c.find-entry-items.ensures.rest in
    let ordered : T (are_ordered t.key_cols (drop n t.entries)) =
    ordered_right t.key_cols (take n t.entries) (drop n t.entries)
    (subst (λ (es : List Entry). T (are_ordered t.key_cols es)) (sym (take-append-drop n t.entries))
    (passes (are_ordered t.key_cols t.entries) c.find-entry-items.ensures.lawful.ordered)) in (
      subst (λ (es : List Entry). T (are_ordered t.key_cols es)) (sym is) ordered,
      subst (λ (es : List Entry). T (list_all (λ e. not (test e)) es)) (sym is) c.find-entry-items.ensures.split.after,
      ap (λ (es : List Entry). with_cells (cells_at c.args.sid es) values) is
          ∙ ap (λ cells. with_cells cells values) (cells_at-split c.args.sid t.entries n c.find-entry-items.ensures.split),
    )

-- nothing is left to put in past an entry at another SID
pub returns-then-sid : goal.returns-then-sid
returns-then-sid c =
    grind (arith, common_steps, c.in-Some.ensures.steps, c.loop-entry.invariant, c.if-sid.true, c.sid.ensures, cells_at-end, first)

pub loop-entry-preserved : goal.loop-entry-preserved
loop-entry-preserved c =
    let t = c.args.tree.now in
    let sid = c.args.sid in
    let x = c.in-Some.entry.now in
    let rest = c.next.new.self in
    let is = c.in-Some.ensures.steps in
    let inv = c.loop-entry.invariant in
    let values = values_of c.loop-entry.values.items in (
      second _ (are_ordered t.key_cols rest) (subst (λ (es : List Entry). T (are_ordered t.key_cols es)) is inv.0),
      second (not (stands_before base_cmp sid x)) _
          (subst (λ (es : List Entry). T (list_all (λ e. not (stands_before base_cmp sid e)) es)) is inv.1),
      ap (with_cells (cells_at sid rest)) c.put_value.ensures
          ∙ with_cells-here sid x rest values (sym c.sid.ensures ∙ c.if-sid.false)
          ∙ ap (λ (es : List Entry). with_cells (cells_at sid es) values) (sym is)
          ∙ inv.2,
    )
