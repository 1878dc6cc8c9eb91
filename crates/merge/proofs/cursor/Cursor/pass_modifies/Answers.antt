use Rattle.std.proofs.Common.{◌≡◌, ◌∙◌, ◌+◌, List, ◌∷◌, drop, map, take, sym, ap, subst, arith}
use Rattle.std.specs.Option.{option_copied}
use Rattle.model.specs.declared.entry.Entry.{Entry}
use Rattle.model.specs.Effects.{Cells}
use Rattle.merge.specs.Cursor.{ModifiesNext}
use Rattle.merge.specs.View.{modified_cells}
use Rattle.merge.proofs.CursorLemmas.{drop-at, place_fits, placed_at}
use Rattle.merge.proofs.StepLemmas.{cells_at-passed}
use Rattle.merge.proofs.cursor.Cursor.pass_modifies.Goals as goal
use Rattle.std.proofs.lemmas.Grind.{common_steps}

pub overflow_cast-sid : goal.overflow_cast-sid
overflow_cast-sid c =
    grind (arith, common_steps, c.sid-sid.ensures, c.requires.next.here, c.requires.is.1.lawful, c.requires.next.next, placed_at)

pub overflow_add-first : goal.overflow_add-first
overflow_add-first c = grind (arith, common_steps, c.index-first.ensures, c.requires.is.1.lawful, c.requires.next.next, place_fits)

pub overflow_add-first-in-Some-1 : goal.overflow_add-first-in-Some-1
overflow_add-first-in-Some-1 c =
    grind (arith, common_steps, c.index-first.ensures, c.requires.is.1.lawful, c.requires.next.next, place_fits)

pub returns-then-last-first-clause-passed : goal.returns-then-last-first-clause-passed
returns-then-last-first-clause-passed c =
    let old = c.args.self.now in
    let x = c.args.entry.now in
    let new = c.pass_row-second.new.self in
    let passed = c.pass_row-second.ensures.passed in
    let one : new.index ≡ old.index + 1 = omega (arith, c.index-first.ensures, c.index-last.ensures, c.if-last-first.true) in
    let cells = cells_at-passed old 1 c.requires.is.1 ((λ i. drop (sym one i) (sym c.pass_row-second.ensures.tree i).entries)
    ∙ passed.left) in
    subst (λ (cells : Cells). ModifiesNext cells old new)
    (cells
    ∙ ap (λ (es : List Entry). modified_cells (map (λ e. e.change) (take 1 es)))
    (drop-at old.tree.entries old.index x c.requires.next.next)) passed

pub returns-in-Some-clause-passed : goal.returns-in-Some-clause-passed
returns-in-Some-clause-passed c =
    let old = c.args.self.now in
    let es = old.tree.entries in
    let x = c.args.entry.now in
    let y = c.in-Some.other.now in
    let new = c.pass_row-second.new.self in
    let passed = c.pass_row-second.ensures.passed in
    let at = sym c.pass_row-second.ensures.second ∙ ap option_copied c.in-Some.is in
    let two : new.index ≡ old.index + 2 = omega (arith, c.index-first.ensures, c.index-last.ensures, c.if-last-first-2.true) in
    let cells = cells_at-passed old 2 c.requires.is.1 ((λ i. drop (sym two i) (sym c.pass_row-second.ensures.tree i).entries)
    ∙ passed.left) in
    let both = drop-at es old.index x c.requires.next.next ∙ ap (λ (ys : List Entry). x ∷ ys) (drop-at es (old.index + 1) y at) in
    subst (λ (cells : Cells). ModifiesNext cells old new) (cells
    ∙ ap (λ (ys : List Entry). modified_cells (map (λ e. e.change) (take 2 ys))) both) passed
