use Rattle.std.proofs.Common.{◌++◌, List, ℕ, map, take, subst, sym, ap, ◌∙◌, append_assoc, add-one}
use Rattle.std.specs.List.{flat_map}
use Rattle.std.proofs.lemmas.Result.{err_from_is_err_and}
use Rattle.manifest.specs.Manifest.{IsTable, table_now, table_text}
use Rattle.manifest.specs.declared.entries.TableEntry.{TableEntry}
use Rattle.manifest.proofs.WritingLemmas.{all_at, all_more, text_more}
use Rattle.manifest.proofs.writing.put_tables.Goals as goal

pub returns-in_err-put_table-clause-only : goal.returns-in_err-put_table-clause-only
returns-in_err-put_table-clause-only c = λ all unlawful.
    let item = c.table-item.result in
    let p = err_from_is_err_and c.from_residual.result c.from_residual.ensures.1 in
    let lawful : IsTable (table_now item) =
    subst (λ (t : TableEntry). IsTable (table_now t)) (sym c.table-item.is)
    (all_at IsTable table_now c.args.tables.now c.loop-table.table-index item c.loop-table-test.true all) in
    c.in_err-put_table.ensures.only lawful (cc (p.1, p.2, unlawful))

pub loop-table-preserved : goal.loop-table-preserved
loop-table-preserved c =
    let item = c.table-item.result in
    let tables = c.args.tables.now in
    let at = c.loop-table.table-index in
    let old = c.args.out.now.items in
    let put = flat_map table_text (map table_now (take at tables)) in
    let more = text_more table_text table_now tables at item c.loop-table-test.true in
    let same = ap (λ (t : TableEntry). put ++ table_text (table_now t)) c.table-item.is in
    rw add-one record {
      spelt = c.in_ok-put_table.ensures.spelt ∙ ap (λ (front : List ℕ). front ++ table_text (table_now item)) c.loop-table.invariant.spelt
          ∙ append_assoc old put (table_text (table_now item)) ∙ ap (λ (back : List ℕ). old ++ back) (same ∙ sym more);
      lawful =
          all_more IsTable table_now tables at item c.loop-table-test.true c.loop-table.invariant.lawful
          (subst (λ (t : TableEntry). IsTable (table_now t)) c.table-item.is c.in_ok-put_table.ensures.lawful);
    }
