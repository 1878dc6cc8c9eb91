use Rattle.std.proofs.Common.{◌≡◌, ℕ, ◌+◌, ◌<◌, ◌^◌, List, [], ◌++◌, length, drop, get_or, take, refl, sym, ap, subst, ◌∙◌, arith, rules}
use Rattle.std.proofs.Common.{append_assoc, length-append}
use Rattle.std.specs.List.{All}
use Rattle.std.proofs.lemmas.List.{length-map}
use Rattle.std.proofs.lemmas.List.FromFn.{length-map-range_with_len, get_or-map-range_with_len}
use Rattle.values.specs.Shape.{Columns}
use Rattle.values.specs.declared.row.Row.{Row}
use Rattle.values.specs.declared.value.ColumnType.TheVariants as column
use Rattle.blocks.specs.Column.{Column}
use Rattle.stable.specs.Rows.{column_at, first_columns, row_count, rows_of}
use Rattle.stable.specs.Stable.{IsStable}
use Rattle.merge.specs.Fitting.{StandsAt}
use Rattle.merge.specs.Image.{image_rows}
use Rattle.merge.specs.Stretches.{stretch_rows}
use Rattle.stable.proofs.CallerLemmas.{whole, all_typed, all_even, all_rows, all_stable}
use Rattle.merge.proofs.BetweenLemmas.{between_stable}
use Rattle.merge.proofs.ColumnsLemmas.{grown-columns}
use Rattle.merge.proofs.TableLemmas.{rows_stand, left_stand, right_stand}
use Rattle.merge.proofs.layers.Layers.table_between.Goals as goal
use Rattle.std.proofs.lemmas.Grind.{common_steps}

-- the rows of a stretch stand in each column of those so far, and fit beside them
module _ (schema : Columns) (rows seen own rest : List Row) (columns : List Column)
    (table : IsStable (record { schema = schema; rows = rows }))
    (is : seen ++ (own ++ rest) ≡ rows) (at : columns ≡ first_columns schema.types seen (length schema.types)) where
  column_is : (col : ℕ) (d : Column) → col < length columns → get_or columns col d ≡ column_at schema.types seen col
  column_is col d lt = grind (arith, common_steps, get_or-map-range_with_len, length-map-range_with_len)

  stands : (col : ℕ) (d : Column) → col < length columns → All (StandsAt (get_or columns col d).ty col) own
  stands col d lt =
      let short : col < length schema.types =
      omega (arith, ap length at, length-map-range_with_len (column_at schema.types seen) 0 (length schema.types)) in
      let all = rows_stand schema rows col table short in
      let ty = get_or schema.types col column.Int in
      let right = right_stand ty col seen (own ++ rest) rows (sym is) all in
      subst (λ (x : Column). All (StandsAt x.ty col) own) (sym (column_is col d lt))
      (left_stand ty col own rest (own ++ rest) refl right)

  fits : (col : ℕ) (d : Column) → col < length columns → length (get_or columns col d).values + length own < 2 ^ 63
  fits col d lt = grind (arith, common_steps, column_is, length-map, length-append)

pub add_to_each-requires-clause-stand : goal.add_to_each-requires-clause-stand
add_to_each-requires-clause-stand c =
    let inv = c.loop-stretch.invariant in
    stands c.args.self.now.schema (drop c.args.from (take c.args.to (image_rows c.args.self.now))) inv.0 (stretch_rows c.in-Some.stretch)
    c.next.new.self
    c.loop-stretch.columns.items
    (between_stable c.args.self.now.schema c.args.from c.args.to (image_rows c.args.self.now)
    (record { table = c.len-rows.ensures.table; few = c.requires }))
    (ap (λ (rs : List Row). inv.0 ++ rs) (sym c.in-Some.ensures.steps.0) ∙ inv.1) inv.2

pub add_to_each-requires-clause-room : goal.add_to_each-requires-clause-room
add_to_each-requires-clause-room c =
    let inv = c.loop-stretch.invariant in
    fits c.args.self.now.schema (drop c.args.from (take c.args.to (image_rows c.args.self.now))) inv.0 (stretch_rows c.in-Some.stretch)
    c.next.new.self
    c.loop-stretch.columns.items
    (between_stable c.args.self.now.schema c.args.from c.args.to (image_rows c.args.self.now)
    (record { table = c.len-rows.ensures.table; few = c.requires }))
    (ap (λ (rs : List Row). inv.0 ++ rs) (sym c.in-Some.ensures.steps.0) ∙ inv.1) inv.2

pub loop-stretch-preserved : goal.loop-stretch-preserved
loop-stretch-preserved c = grind (arith, common_steps, c.loop-stretch.invariant, c.in-Some.ensures.steps.0, c.in_ok-add_to_each.ensures, append_assoc, grown-columns)

-- the columns are those of all rows
abbrev IsAll : Columns → List Row → List Column → Type 0
IsAll schema rows columns = columns ≡ first_columns schema.types rows (length schema.types)

ended : (rows seen rest : List Row) (schema : Columns) (columns : List Column) → rest ≡ [] → seen ++ rest ≡ rows
    → columns ≡ first_columns schema.types seen (length schema.types) → IsAll schema rows columns
ended rows seen rest schema columns none is at = search rules

pub of_columns-requires-clause-typed : goal.of_columns-requires-clause-typed
of_columns-requires-clause-typed c =
    let schema = c.args.self.now.schema in
    let rows = drop c.args.from (take c.args.to (image_rows c.args.self.now)) in
    let columns = c.loop-stretch.columns.items in
    let inv = c.loop-stretch.invariant in
    let same = ap (λ (x : Columns). length x.types) c.schema-schema.ensures in
    let all = whole schema c.schema-schema.result.now rows columns c.width-width.result (length schema.types) c.schema-schema.ensures
    c.width-width.ensures.columns c.width-width.ensures.lawful
    (omega (arith, same, c.width-width.ensures.columns)) (omega (arith, same, c.width-width.ensures.columns))
    (between_stable schema c.args.from c.args.to (image_rows c.args.self.now)
    (record { table = c.len-rows.ensures.table; few = c.requires }))
    (ended rows inv.0 c.loop-stretch.stretch-iterator schema columns c.in-None.ensures.steps.0 inv.1 inv.2) in
    all_typed schema rows columns all ∙ ap (λ (x : Columns). x.types) (sym (c.in_ok-copy.ensures ∙ c.schema-schema.ensures))

pub of_columns-requires-clause-even : goal.of_columns-requires-clause-even
of_columns-requires-clause-even c =
    let schema = c.args.self.now.schema in
    let rows = drop c.args.from (take c.args.to (image_rows c.args.self.now)) in
    let columns = c.loop-stretch.columns.items in
    let inv = c.loop-stretch.invariant in
    let same = ap (λ (x : Columns). length x.types) c.schema-schema.ensures in
    let all = whole schema c.schema-schema.result.now rows columns c.width-width.result (length schema.types) c.schema-schema.ensures
    c.width-width.ensures.columns c.width-width.ensures.lawful
    (omega (arith, same, c.width-width.ensures.columns)) (omega (arith, same, c.width-width.ensures.columns))
    (between_stable schema c.args.from c.args.to (image_rows c.args.self.now)
    (record { table = c.len-rows.ensures.table; few = c.requires }))
    (ended rows inv.0 c.loop-stretch.stretch-iterator schema columns c.in-None.ensures.steps.0 inv.1 inv.2) in
    all_even schema rows columns all

pub of_columns-requires-clause-table : goal.of_columns-requires-clause-table
of_columns-requires-clause-table c =
    let schema = c.args.self.now.schema in
    let rows = drop c.args.from (take c.args.to (image_rows c.args.self.now)) in
    let columns = c.loop-stretch.columns.items in
    let inv = c.loop-stretch.invariant in
    let same = ap (λ (x : Columns). length x.types) c.schema-schema.ensures in
    let all = whole schema c.schema-schema.result.now rows columns c.width-width.result (length schema.types) c.schema-schema.ensures
    c.width-width.ensures.columns c.width-width.ensures.lawful
    (omega (arith, same, c.width-width.ensures.columns)) (omega (arith, same, c.width-width.ensures.columns))
    (between_stable schema c.args.from c.args.to (image_rows c.args.self.now)
    (record { table = c.len-rows.ensures.table; few = c.requires }))
    (ended rows inv.0 c.loop-stretch.stretch-iterator schema columns c.in-None.ensures.steps.0 inv.1 inv.2) in
    subst (λ (x : Columns). IsStable (record { schema = x; rows = rows_of (row_count columns) columns }))
    (sym (c.in_ok-copy.ensures ∙ c.schema-schema.ensures)) (all_stable schema rows columns all)

pub returns : goal.returns
returns c =
    let schema = c.args.self.now.schema in
    let rows = drop c.args.from (take c.args.to (image_rows c.args.self.now)) in
    let columns = c.loop-stretch.columns.items in
    let inv = c.loop-stretch.invariant in
    let same = ap (λ (x : Columns). length x.types) c.schema-schema.ensures in
    let all = whole schema c.schema-schema.result.now rows columns c.width-width.result (length schema.types) c.schema-schema.ensures
    c.width-width.ensures.columns c.width-width.ensures.lawful
    (omega (arith, same, c.width-width.ensures.columns)) (omega (arith, same, c.width-width.ensures.columns))
    (between_stable schema c.args.from c.args.to (image_rows c.args.self.now)
    (record { table = c.len-rows.ensures.table; few = c.requires }))
    (ended rows inv.0 c.loop-stretch.stretch-iterator schema columns c.in-None.ensures.steps.0 inv.1 inv.2) in
    c.of_columns.ensures
    ∙ (λ i. record { schema = (c.in_ok-copy.ensures ∙ c.schema-schema.ensures) i; rows = all_rows schema rows columns all i })
