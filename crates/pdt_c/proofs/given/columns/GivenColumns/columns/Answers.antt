use Rattle.std.proofs.Common.{◌∙◌, ◌+◌, ◌∷◌, ◌++◌, [], ℕ, List, get_or, length, map, ap, sym, subst, arith}
use Rattle.std.proofs.lemmas.List.{length_push, map-append, take_more}
use Rattle.values.specs.declared.value.ColumnType.TheVariants as column
use Rattle.blocks.specs.Column.{Column}
use Rattle.pdt_c.specs.Filling.{given_at, Given, IsFilled}
use Rattle.pdt_c.proofs.FillingLemmas.{EachFilled, filled_more}
use Rattle.pdt_c.proofs.given.columns.GivenColumns.columns.Goals as goal

pub loop-col-preserved : goal.loop-col-preserved
loop-col-preserved c =
    let types = c.args.types.now in
    let all = c.args.self.now in
    let rows = c.args.rows in
    let col = c.loop-col.col in
    let columns = c.loop-col.columns.items in
    let made = c.in-Ok.column in
    let so_far = c.loop-col.invariant in
    let grown = c.in_ok-push-in-Ok.ensures.items in
    let own : IsFilled (get_or types col column.Int) (given_at all col) rows made =
    subst (λ (g : Given). IsFilled (get_or types col column.Int) g rows made) c.column.ensures c.in-Ok.ensures.ok in
    let here = subst (λ (n : ℕ). IsFilled (get_or types n column.Int) (given_at all n) rows made) (sym so_far.0) own in (
      ap (λ (cs : List Column). length cs) grown ∙ length_push columns made ∙ ap (λ n. n + 1) so_far.0,
      ap (map (λ (x : Column). x.ty)) grown ∙ map-append (λ (x : Column). x.ty) columns (made ∷ [])
          ∙ (λ i. so_far.1 i ++ own.typed i ∷ [])
          ∙ sym (take_more types col column.Int (omega (arith, c.loop-col-test.true, c.loop-col.auto.col-end))),
      subst (EachFilled types all rows) (sym grown) (filled_more types all rows columns made so_far.2 here),
    )
