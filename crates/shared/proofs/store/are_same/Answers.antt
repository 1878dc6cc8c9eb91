use Rattle.std.proofs.Common.{◌≡◌, rules, refl, sym, ◌∙◌, arith}
use Rattle.shared.proofs.SchemaLemmas.{same_so_far, same_columns}
use Rattle.shared.proofs.store.are_same.Goals as goal

pub loop-col-init : goal.loop-col-init
loop-col-init c = (refl, refl)

pub loop-col-preserved : goal.loop-col-preserved
loop-col-preserved c =
    let one = c.args.one.now in
    let other = c.args.other.now in
    let k = c.loop-col.col in
    let kind : c.column_type.result ≡ c.column_type-in-loop-col.result = search rules in
    let name : c.name.result.now ≡ c.name-else-ne.result.now = search rules in (
      same_so_far one.types other.types k _ _ c.column_type.ensures c.column_type-in-loop-col.ensures kind c.loop-col.invariant.0,
      same_so_far one.names other.names k _ _ c.name.ensures c.name-else-ne.ensures name c.loop-col.invariant.1,
    )

pub returns : goal.returns
returns c =
    let one = c.width.ensures in
    let other = c.width-2.ensures in
    let end = c.width-col-end.ensures.columns in
    let wide = c.if-width.false in
    let past = c.loop-col-test.false in
    let a = one.lawful.named in
    let b = other.lawful.named in
    let keyed = sym c.key_cols.ensures.count ∙ c.if-key_cols.false ∙ c.key_cols-else-width.ensures.count in
    same_columns c.args.one.now c.args.other.now c.loop-col.col
    (omega (arith, a, end, past)) (omega (arith, b, end, past, one.columns, other.columns, wide)) (omega (arith, end, past))
    (omega (arith, end, past, one.columns, other.columns, wide)) keyed c.loop-col.invariant.0 c.loop-col.invariant.1
