use Rattle.std.proofs.Common.{◌∙◌, ◌++◌, ◌∷◌, [], List, ℕ, add-one, nat_lt, refl, sym}
use Rattle.inputs.specs.Reading.{Fields}
use Rattle.pdtcli.specs.Output.{kind_text}
use Rattle.pdtcli.proofs.OutputLemmas.{header_cells-more}
use Rattle.pdtcli.proofs.RecordsLemmas.{TakesFields-none, TakesFields-trans}
use Rattle.pdtcli.proofs.image.push_header.Goals as goal

pub loop-col-init : goal.loop-col-init
loop-col-init c = record {
  added = ([], TakesFields-none c.args.records.now, refl);
  within = c.width-col-end.ensures.columns;
}

pub loop-col-preserved : goal.loop-col-preserved
loop-col-preserved c =
    let inv = c.loop-col.invariant in
    let cells : Fields = inv.added.0 in
    let name : List ℕ = c.name.result.now in
    let key_cols = c.args.schema.now.key_cols in
    let cell : List ℕ = name ++ kind_text c.column_type.result (nat_lt c.loop-col.col key_cols) in
    let names = c.args.schema.now.names in
    let types = c.args.schema.now.types in
    let more = header_cells-more cells key_cols c.loop-col.col names types name c.column_type.result c.name.ensures c.column_type.ensures in
    let taken = rw (c.as_slice.ensures.value, c.in_ok-cell.ensures, c.kind_word-kind.ensures, c.key_cols.ensures.count)
    at c.in_ok-push_field.ensures in
    record {
      added = (cells ++ cell ∷ [], TakesFields-trans _ _ _ cells (cell ∷ []) inv.added.1 taken, rw add-one (sym more ∙ inv.added.2));
      within = inv.within;
    }
