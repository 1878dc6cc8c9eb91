use Rattle.std.proofs.Common.{◌≡◌, ◌∙◌, ◌+◌, ◌-◌, ◌∷◌, ◌++◌, [], true, false, List, sym, ap, subst, arith, rules}
use Rattle.csv.specs.Records.{fields_of}
use Rattle.blocks.specs.Column.{Column}
use Rattle.inputs.specs.Cells.{prepend}
use Rattle.inputs.specs.Filling.{rows_in, extended}
use Rattle.inputs.specs.Input.{Numbered}
use Rattle.inputs.specs.Input as said
use Rattle.inputs.specs.Reading.{Fields}
use Rattle.inputs.proofs.ReadLemmas.{passed-up, prepend-nil}
use Rattle.inputs.proofs.RowLemmas.{numbered_rows-step}
use Rattle.inputs.proofs.TableLemmas.{all_rows, rows-bad_row}
use Rattle.inputs.proofs.FillingLemmas.{AreLong-empty, AreLong-extended, rows_in-extended, types_in-empty, types_in-extended}
use Rattle.inputs.proofs.loading.read_rows.Goals as goal

pub loop-number-init : goal.loop-number-init
loop-number-init c =
    let types = c.args.types.now in
    rw c.in_ok-columns.ensures (record {
      some = omega arith;
      few = omega arith;
      typed = types_in-empty types;
      long = AreLong-empty types;
      reading = ([], λ text header start. start, λ more. sym (prepend-nil _));
    })

pub next_record-requires : goal.next_record-requires
next_record-requires c =
    let at = c.loop-number.invariant.reading in
    (c.requires.0, c.requires.1 ∷ at.0, at.1 c.requires.0 c.requires.1 c.requires.2)

pub returns-then-not-more-clause-ok : goal.returns-then-not-more-clause-ok
returns-then-not-more-clause-ok c text header start =
    let at = c.loop-number.invariant.reading in
    let none : c.in_ok-more.more ≡ false = search rules in
    record {
      records = at.0;
      are = rw none at (c.in_ok-more.ensures text (header ∷ at.0) (at.1 text header start));
      said = all_rows c.args.types.now at.0 _ c.loop-number.number at.2;
    }

pub returns-in_err-add_record-clause-err : goal.returns-in_err-add_record-clause-err
returns-in_err-add_record-clause-err c =
    let inv = c.loop-number.invariant in
    let at = inv.reading in
    let one : c.in_ok-more.more ≡ true = search rules in
    passed-up c.from_residual-in_err-add_record.result _ _ c.from_residual-in_err-add_record.ensures.1
    (λ ne text header start records g.
    rows-bad_row text header _ at.0 records c.args.types.now (rows_in (c.loop-number.number - 2) c.loop-number.columns.items)
    c.loop-number.number _ _ (rw one at (c.in_ok-more.ensures text (header ∷ at.0) (at.1 text header start))) at.2
    (rw inv.typed at (c.in_err-add_record.ensures.err ne)) g)

pub loop-number-preserved : goal.loop-number-preserved
loop-number-preserved c =
    let inv = c.loop-number.invariant in
    let at = inv.reading in
    let number = c.loop-number.number in
    let columns = c.loop-number.columns.items in
    let one : c.in_ok-more.more ≡ true = search rules in
    let added = c.in_ok-add_record.ensures.ok in
    let back : number - 2 + 2 ≡ number = omega (arith, inv.some) in
    let next : number - 2 + 1 ≡ number + 1 - 2 = omega (arith, inv.some) in
    let rows = rows_in-extended (number - 2) columns added.cells inv.long added.wide in
    let told = rw inv.typed at added.said in
    let made : List Column = extended columns added.cells in
    let newer : rows_in (number - 2) columns ++ record { number = number; row = added.cells } ∷ [] ≡ rows_in (number + 1 - 2) made =
    ap (λ n. rows_in (number - 2) columns ++ record { number = n; row = added.cells } ∷ []) (sym back)
    ∙ sym rows
    ∙ ap (λ n. rows_in n made) next in
    let read = at.0 ++ fields_of c.next_record.new.fields ∷ [] in
    let types = c.args.types.now in
    let step =
    subst (λ (rs : List Numbered). (more : List Fields)
    → said.numbered_rows types 2 (read ++ more) ≡ prepend rs (said.numbered_rows types (number + 1) more)) newer
    (numbered_rows-step types at.0 number _ (record { number = number; row = added.cells }) (rows_in (number - 2) columns) at.2 told) in
    rw added.filled (record {
      some = omega (arith, inv.some);
      few = omega (arith, added.few);
      typed = types_in-extended columns added.cells ∙ inv.typed;
      long = rw next at (AreLong-extended (number - 2) columns added.cells inv.long added.wide);
      reading = (read, λ text header start. rw one at (c.in_ok-more.ensures text (header ∷ at.0) (at.1 text header start)), step);
    })

pub unreachable-requires : goal.unreachable-requires
unreachable-requires c =
    let few = c.loop-number.invariant.few in
    let last = c.loop-number-test.false in
    omega (arith, few, last)
