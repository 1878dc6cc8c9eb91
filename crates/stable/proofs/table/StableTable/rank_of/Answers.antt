use Rattle.std.proofs.Common.{◌≡◌, ◌<◌, ◌≤◌, T, true, false, length, sym, ap, ◌∙◌, subst, w64, FitsSigned, List, arith, rules}
use Rattle.std.specs.List.Sorted.{IsPartitionedBy, IsPartitionPoint}
use Rattle.std.proofs.lemmas.Int.{to_z-of_z}
use Rattle.values.specs.declared.row.Key.{Key}
use Rattle.values.specs.declared.value.Value.{Value}
use Rattle.values.specs.Orders.{key_cmp}
use Rattle.blocks.specs.Column.{Column}
use Rattle.model.specs.Maps.{is_sorted}
use Rattle.model.specs.Table.{rank, table_of}
use Rattle.stable.specs.Column.{is_below}
use Rattle.stable.specs.Rows.{rows_of}
use Rattle.stable.specs.Stable.{Stable, table_in}
use Rattle.stable.proofs.NumberLemmas.{as_many, column_parted, rank-column, rows_filled}
use Rattle.stable.proofs.RowsLemmas.{finds_column, length_rows, width}
use Rattle.stable.proofs.StableLemmas.{stable_sorted}
use Rattle.stable.proofs.table.StableTable.rank_of.Goals as goal
use Rattle.std.proofs.lemmas.Grind.{common_steps}

pub index-requires : goal.index-requires
index-requires c = grind (arith, common_steps, c.in-Some.ensures.there, c.self.invariant, width)

pub count_below-requires-clause-parted : goal.count_below-requires-clause-parted
count_below-requires-clause-parted c =
    let inside = c.self.inside in
    let rows = rows_of inside.count inside.columns.items in
    let number = c.in-Some.number in
    let fits : FitsSigned w64 number = search rules in
    let some : 0 < length inside.schema.types =
    omega (arith, c.in-Some.ensures.there, ap (λ (s : Stable). length s.schema.types) c.self.view_is) in
    let found =
    ap (λ (x : Column). x.values)
    (finds_column inside.schema inside.count inside.columns.items c.self.invariant 0 c.index.result.now c.index.ensures some)
    in
    let filled = rows_filled inside.schema inside.count inside.columns.items c.self.invariant some in
    let one : inside.schema.key_cols ≡ 1 = ap (λ (s : Stable). s.schema.key_cols) c.self.view_is ∙ c.in-Some.ensures.one in
    let sorted =
    subst (λ n. T (is_sorted key_cmp (table_of n rows))) one
    (stable_sorted (record { schema = inside.schema; rows = rows }) c.self.invariant.stable) in
    subst (λ n. IsPartitionedBy (is_below n) c.index.result.now.values) (sym (to_z-of_z w64 number fits))
    (subst (λ vs. IsPartitionedBy (is_below number) vs) (sym found) (column_parted number rows filled sorted))

pub returns-in-Some-clause-rank : goal.returns-in-Some-clause-rank
returns-in-Some-clause-rank c =
    let inside = c.self.inside in
    let rows = rows_of inside.count inside.columns.items in
    let number = c.in-Some.number in
    let fits : FitsSigned w64 number = search rules in
    let r = c.count_below.result in
    let some : 0 < length inside.schema.types =
    omega (arith, c.in-Some.ensures.there, ap (λ (s : Stable). length s.schema.types) c.self.view_is) in
    let found =
    ap (λ (x : Column). x.values)
    (finds_column inside.schema inside.count inside.columns.items c.self.invariant 0 c.index.result.now c.index.ensures some)
    in
    let filled = rows_filled inside.schema inside.count inside.columns.items c.self.invariant some in
    let point =
    subst (λ n. IsPartitionPoint (λ v. is_below n v ≡ true) (λ v. is_below n v ≡ false) c.index.result.now.values r)
    (to_z-of_z w64 number fits) c.count_below.ensures.point in
    let there = subst (λ vs. IsPartitionPoint (λ v. is_below number v ≡ true) (λ v. is_below number v ≡ false) vs r) found point in
    let few : r ≤ length rows =
    omega (arith, c.count_below.ensures.few, ap (λ (vs : List Value). length vs) found, as_many number rows filled) in
    let one : inside.schema.key_cols ≡ 1 = ap (λ (s : Stable). s.schema.key_cols) c.self.view_is ∙ c.in-Some.ensures.one in
    rank-column number rows filled r few there
    ∙ ap (λ (key : Key). rank key (table_of 1 rows)) (sym c.in-Some.ensures.is)
    ∙ ap (λ n. rank c.args.key.now (table_of n rows)) (sym one)
    ∙ ap (λ s. rank c.args.key.now (table_in s)) c.self.view_is

pub returns-in-Some-clause-few : goal.returns-in-Some-clause-few
returns-in-Some-clause-few c = grind (arith, common_steps, c.self.invariant.stable.few, c.in-Some.ensures.there, c.self.invariant.filled, c.self.invariant, c.count_below.ensures.few, c.index.ensures, width, length_rows)
