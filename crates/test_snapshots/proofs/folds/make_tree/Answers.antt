use Rattle.std.proofs.Common.{◌∙◌, ◌≤◌, ◌<◌, ◌^◌, length, sym, subst, arith}
use Rattle.model.specs.Effects.{AreOver}
use Rattle.model.specs.Table.{IsTable}
use Rattle.model.proofs.CallerLemmas.{leaves}
use Rattle.test_snapshots.specs.declared.images.TheConstants.{AMPLE}
use Rattle.test_snapshots.proofs.LayerLemmas.{lawful_layer, over_writes}
use Rattle.test_snapshots.proofs.FoldLemmas.{is_tree}
use Rattle.test_snapshots.proofs.folds.make_tree.Goals as goal

pub from_sorted-requires : goal.from_sorted-requires
from_sorted-requires c =
    let schema = c.args.schema.now in
    let t = c.args.table.now in
    let x = c.write_all.new.effects in
    let over : AreOver schema t x =
    over_writes schema t x c.args.writes.now AMPLE c.key_cols-key_cols.result c.new-effects.result c.requires
    (sym c.all_fit.ensures ∙ c.if-not-all_fit.false) c.key_cols-key_cols.ensures.count c.in_ok-write_all.ensures.ok
    c.new-effects.ensures in
    let few : length t < 2 ^ 32 = omega (arith, c.if-rows-ge-MANY.false, c.len-rows.ensures.count) in
    let short : length c.in_ok-entries.entries.items ≤ 2 ^ 40 = omega (arith, c.if-count-ge-MANY.false, c.len-count.ensures) in
    lawful_layer schema t x over c.in_ok-entries.entries.items c.key_cols-key_cols.result c.key_cols-key_cols.ensures.count
    c.in_ok-entries.ensures few short

pub returns : goal.returns
returns c =
    let schema = c.args.schema.now in
    let t = c.args.table.now in
    let x = c.write_all.new.effects in
    let over : AreOver schema t x =
    over_writes schema t x c.args.writes.now AMPLE c.key_cols-key_cols.result c.new-effects.result c.requires
    (sym c.all_fit.ensures ∙ c.if-not-all_fit.false) c.key_cols-key_cols.ensures.count c.in_ok-write_all.ensures.ok
    c.new-effects.ensures in
    let short : length c.in_ok-entries.entries.items < 1000000 = omega (arith, c.if-count-ge-MANY.false, c.len-count.ensures) in
    let rows : length t ≤ 2147483647 = omega (arith, c.if-rows-ge-MANY.false, c.len-rows.ensures.count) in (
      x,
      is_tree schema t x over c.in_ok-entries.entries.items c.key_cols-key_cols.result c.in_ok-from_sorted.field-0
          c.key_cols-key_cols.ensures.count c.in_ok-entries.ensures short c.in_ok-from_sorted.ensures,
      c.in_ok-with.ensures,
      subst (IsTable schema) (sym c.in_ok-with.ensures) (leaves schema t x over),
      record { lawful = c.key_cols-key_cols.ensures.lawful; rows = rows },
    )
