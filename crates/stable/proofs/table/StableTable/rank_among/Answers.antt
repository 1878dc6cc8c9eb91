use Rattle.std.proofs.Common.{◌<◌, false, length, ap, ◌∙◌, sym, subst, arith}
use Rattle.std.proofs.lemmas.List.{get_or_default}
use Rattle.values.specs.declared.value.Value.TheVariants.{Bool as Truth}
use Rattle.blocks.specs.Column.{Column}
use Rattle.stable.specs.Bounds.{IsBracket, IsParted, value_at}
use Rattle.stable.specs.Rows.{column_values}
use Rattle.stable.proofs.SpanLemmas.{column_parted, rank-bound, wide_rows}
use Rattle.stable.proofs.StableLemmas.{stable_sorted}
use Rattle.stable.proofs.table.StableTable.rank_among.Goals as goal

pub bound-requires-clause-parted : goal.bound-requires-clause-parted
bound-requires-clause-parted c =
    let s = c.args.self.now in
    let key = c.args.key.now in
    let col = c.args.col in
    let inside = c.self.inside in
    let wide =
    wide_rows inside.schema inside.count inside.columns.items c.self.invariant c.key_cols-key_cols.ensures.lawful.key_within s
    c.self.view_is in
    let sorted = stable_sorted s c.len-rows.ensures.lawful in
    let values = ap (λ (b : Column). b.values) c.column.ensures in
    let there : col < length key = omega (arith, c.requires.last) in
    let cell = c.index-key-col.is ∙ get_or_default key col c.index-key-col.result (Truth false) there in
    subst (λ v. IsParted v c.column.result.now.values c.args.low c.args.high) (sym cell)
    (subst (λ vs. IsParted (value_at key col) vs c.args.low c.args.high) (sym values)
    (column_parted s.schema.key_cols key s.rows wide sorted col c.requires.column c.requires.last c.args.low c.args.high c.requires.span))

pub returns-clause-rank : goal.returns-clause-rank
returns-clause-rank c =
    let s = c.args.self.now in
    let key = c.args.key.now in
    let col = c.args.col in
    let inside = c.self.inside in
    let wide =
    wide_rows inside.schema inside.count inside.columns.items c.self.invariant c.key_cols-key_cols.ensures.lawful.key_within s
    c.self.view_is in
    let sorted = stable_sorted s c.len-rows.ensures.lawful in
    let values = ap (λ (b : Column). b.values) c.column.ensures in
    let there : col < length key = omega (arith, c.requires.last) in
    let cell = c.index-key-col.is ∙ get_or_default key col c.index-key-col.result (Truth false) there in
    let r = c.bound.result in
    let at =
    subst (λ v. IsBracket v (column_values col s.rows) c.args.low c.args.high r r) cell
    (subst (λ vs. IsBracket c.index-key-col.result vs c.args.low c.args.high r r) values c.bound.ensures) in
    rank-bound s.schema.key_cols key s.rows wide sorted col c.requires.column c.requires.last c.args.low c.args.high c.requires.span r
    at
