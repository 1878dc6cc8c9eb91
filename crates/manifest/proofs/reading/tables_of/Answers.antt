use Rattle.std.proofs.Common.{◌≡◌, ◌<◌, ◌++◌, ◌∷◌, [], length, map, arith, sym, ◌∙◌}
use Rattle.std.proofs.lemmas.Bool.{eqb-true, eqb-false}
use Rattle.std.proofs.lemmas.List.{map_push}
use Rattle.std.proofs.lemmas.Result.{err_from_is_err_and}
use Rattle.manifest.specs.Manifest.{table_now}
use Rattle.manifest.specs.Reading.{tables_at}
use Rattle.manifest.proofs.LineLemmas.{table_shorter}
use Rattle.manifest.proofs.LoopLemmas.{table_fails, table_more, tables_end}
use Rattle.manifest.proofs.reading.tables_of.Goals as goal

pub returns-in_err-table : goal.returns-in_err-table
returns-in_err-table c =
    let some : 0 < length c.loop-rest.rest.now = omega (arith, eqb-false _ _ (sym c.is_empty.ensures ∙ c.loop-rest-test.true)) in
    let p = err_from_is_err_and c.from_residual.result c.from_residual.ensures.1 in
    rw (p.1, p.2)
    (table_fails c.loop-rest.rest.now (map table_now c.loop-rest.tables.items) (tables_at (length c.args.bytes.now) c.args.bytes.now)
    c.loop-rest.invariant c.in_err-table.field-0.0 some c.in_err-table.ensures)

pub loop-rest-smaller : goal.loop-rest-smaller
loop-rest-smaller c =
    table_shorter c.loop-rest.rest.now (table_now c.in_ok-table.table) c.in_ok-table.after.now c.in_ok-table.ensures

pub loop-rest-preserved : goal.loop-rest-preserved
loop-rest-preserved c =
    let some : 0 < length c.loop-rest.rest.now = omega (arith, eqb-false _ _ (sym c.is_empty.ensures ∙ c.loop-rest-test.true)) in
    let t = c.in_ok-table.table in
    let e : map table_now c.push.new.self.items ≡ map table_now c.loop-rest.tables.items ++ table_now t ∷ [] =
    rw c.in_ok-push.ensures.items (map_push _ c.loop-rest.tables.items t) in
    rw e
    (table_more c.loop-rest.rest.now (map table_now c.loop-rest.tables.items) (tables_at (length c.args.bytes.now) c.args.bytes.now)
    c.loop-rest.invariant (table_now t) c.in_ok-table.after.now some c.in_ok-table.ensures)

pub returns : goal.returns
returns c =
    tables_end c.loop-rest.rest.now (map table_now c.loop-rest.tables.items) (tables_at (length c.args.bytes.now) c.args.bytes.now)
    c.loop-rest.invariant (eqb-true _ _ (sym c.is_empty.ensures ∙ c.loop-rest-test.false))
