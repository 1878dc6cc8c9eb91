use Rattle.std.proofs.Common.{◌≡◌, false, T, Option, Some, None, is_some, refl, sym, ap, ◌∙◌}
use Rattle.std.specs.Bool.{passes}
use Rattle.std.specs.Option.{option_map}
use Rattle.values.specs.Orders.{key_cmp}
use Rattle.values.specs.declared.row.Row.{Row}
use Rattle.model.specs.Maps.{is_sorted}
use Rattle.model.specs.Table.{row_at, is_keyed_table}
use Rattle.model.proofs.CallerLemmas.{first, rows_of-table_of}
use Rattle.stable.specs.Stable.{table_in}
use Rattle.merge.specs.View.{row_of}
use Rattle.merge.proofs.KeyRowLemmas.{get_or-rank}
use Rattle.merge.proofs.key_row.find_in.Goals as goal
use Rattle.merge.proofs.key_row.find_in.Goals.{then-is_there, else-is_there}

none_of : (o : Option Row) → is_some o ≡ false → None ≡ o
none_of None e = refl
none_of (Some row) e = cc

pub returns-clause-row : goal.returns-clause-row
returns-clause-row c =
    let stable = c.args.table.now in
    let t = table_in stable in
    let key = c.args.key.now in
    let there = c.locate-rank.ensures.there in
    let sorted : T (is_sorted key_cmp t) =
    first (is_sorted key_cmp t) _ (passes (is_keyed_table stable.schema.key_cols t) c.requires.keyed) in
    elim c.if-is_there.branch [
      | then-is_there w ↦
          ap (option_map row_of) w.row-is
          ∙ ap (λ (row : Row). Some row) w.stable.ensures.row
          ∙ get_or-rank key t stable.rows c.locate-rank.result.0 (sym (rows_of-table_of stable.schema.key_cols stable.rows))
          c.locate-rank.ensures.rank sorted (passes (is_some (row_at t key)) (sym there ∙ w.if-is_there.true))
      | else-is_there w ↦ ap (option_map row_of) w.row-is ∙ none_of (row_at t key) (sym there ∙ w.if-is_there.false)
    ]
