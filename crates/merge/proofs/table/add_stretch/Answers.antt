use Rattle.std.proofs.Common.{◌≡◌, ◌∷◌, [], ◌++◌, length, take, drop, sym, ap, subst, ◌∙◌, arith}
use Rattle.std.specs.List.{All}
use Rattle.std.proofs.lemmas.Result.{on_ok_weaker}
use Rattle.values.specs.Lent.{value_of}
use Rattle.values.specs.Shape.{Columns}
use Rattle.blocks.specs.Column.{Column}
use Rattle.stable.specs.Rows.{column_values}
use Rattle.merge.specs.Fitting.{StandsAt}
use Rattle.merge.specs.Stretches.{IsStretch, stretch_rows}
use Rattle.merge.specs.declared.stretch.Stretch.{Stretch}
use Rattle.merge.proofs.TableLemmas.{has_column, column_type, stretch_values, view_typed, view_short, view_values}
use Rattle.merge.proofs.table.add_stretch.Goals as goal

pub prove-unreachable-requires : goal.prove-unreachable-requires
prove-unreachable-requires c =
    let has =
    has_column c.args.column.now.ty c.args.col c.in-Stable.stretch (subst (IsStretch 3) c.in-Stable.is c.requires.is)
    c.schema.ensures.lawful
    (subst (λ (r : Stretch). All (StandsAt c.args.column.now.ty c.args.col) (stretch_rows r)) c.in-Stable.is
    c.requires.stand)
    in
    omega (arith, has, c.if-prove.true, c.width-width.ensures.columns, ap (λ (s : Columns). length s.types) c.schema.ensures.columns)

pub extend_from-requires-clause-typed : goal.extend_from-requires-clause-typed
extend_from-requires-clause-typed c =
    let ty = c.args.column.now.ty in
    ap (λ (x : Column). x.ty) c.column.ensures
    ∙ column_type ty c.args.col c.in-Stable.stretch (subst (IsStretch 3) c.in-Stable.is c.requires.is) c.schema.ensures.lawful
    (subst (λ (r : Stretch). All (StandsAt ty c.args.col) (stretch_rows r)) c.in-Stable.is c.requires.stand)

pub push-requires-clause-typed : goal.push-requires-clause-typed
push-requires-clause-typed c =
    let ty = c.args.column.now.ty in
    view_typed ty c.args.col c.in-Row.view (value_of c.value.result)
    (subst (λ (r : Stretch). All (StandsAt ty c.args.col) (stretch_rows r)) c.in-Row.is c.requires.stand) c.value.ensures

pub push-requires-clause-short : goal.push-requires-clause-short
push-requires-clause-short c =
    let ty = c.args.column.now.ty in
    view_short ty c.args.col c.in-Row.view (value_of c.value.result)
    (subst (λ (r : Stretch). All (StandsAt ty c.args.col) (stretch_rows r)) c.in-Row.is c.requires.stand) c.value.ensures

pub returns-in-Stable : goal.returns-in-Stable
returns-in-Stable c =
    let ty = c.args.column.now.ty in
    let col = c.args.col in
    let stretch = c.in-Stable.stretch in
    let old = c.args.column.now.values in
    let stand = subst (λ (r : Stretch). All (StandsAt ty col) (stretch_rows r)) c.in-Stable.is c.requires.stand in
    let same : take stretch.len (drop stretch.sid c.column.result.now.values) ≡ column_values col (stretch_rows c.args.stretch) =
    ap (λ (x : Column). take stretch.len (drop stretch.sid x.values)) c.column.ensures
    ∙ stretch_values ty col stretch (subst (IsStretch 3) c.in-Stable.is c.requires.is) c.schema.ensures.lawful stand
    ∙ ap (λ (r : Stretch). column_values col (stretch_rows r)) (sym c.in-Stable.is) in
    on_ok_weaker c.extend_from.result (λ e. e ∙ ap (λ more. record { ty = ty; values = old ++ more }) same) c.extend_from.ensures.ok

pub returns-in-Row : goal.returns-in-Row
returns-in-Row c =
    let ty = c.args.column.now.ty in
    let col = c.args.col in
    let old = c.args.column.now.values in
    let v = value_of c.value.result in
    let same : v ∷ [] ≡ column_values col (stretch_rows c.args.stretch) =
    view_values ty col c.in-Row.view v
    (subst (λ (r : Stretch). All (StandsAt ty col) (stretch_rows r)) c.in-Row.is c.requires.stand) c.value.ensures
    ∙ ap (λ (r : Stretch). column_values col (stretch_rows r)) (sym c.in-Row.is) in
    on_ok_weaker c.push.result (λ e. e ∙ ap (λ more. record { ty = ty; values = old ++ more }) same) c.push.ensures.ok
