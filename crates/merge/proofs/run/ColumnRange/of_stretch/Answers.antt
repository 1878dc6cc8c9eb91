use Rattle.std.proofs.Common.{take, drop, length, ap, ◌∙◌, arith}
use Rattle.values.specs.Shape.{Columns}
use Rattle.blocks.specs.Column.{Column}
use Rattle.merge.proofs.TableLemmas.{has_column, column_type, stretch_values}
use Rattle.merge.proofs.run.ColumnRange.of_stretch.Goals as goal

pub prove-unreachable-requires : goal.prove-unreachable-requires
prove-unreachable-requires c =
    let stand = c.requires.stand in
    let has = has_column stand.0 c.args.col c.args.stretch c.requires.is c.schema.ensures.lawful stand.1 in
    omega (arith, has, c.if-prove.true, c.width-width.ensures.columns, ap (λ (s : Columns). length s.types) c.schema.ensures.columns)

pub returns-clause-values : goal.returns-clause-values
returns-clause-values c =
    let stand = c.requires.stand in
    ap (λ (x : Column). take c.args.stretch.len (drop c.args.stretch.sid x.values)) c.column.ensures
    ∙ stretch_values stand.0 c.args.col c.args.stretch c.requires.is c.schema.ensures.lawful stand.1

pub returns-clause-typed : goal.returns-clause-typed
returns-clause-typed c =
    λ ty stand.
    ap (λ (x : Column). x.ty) c.column.ensures
    ∙ column_type ty c.args.col c.args.stretch c.requires.is c.schema.ensures.lawful stand
