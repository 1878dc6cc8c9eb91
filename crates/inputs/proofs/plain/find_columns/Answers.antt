use Rattle.std.proofs.Common.{◌≡◌, ◌∙◌, [], false, Bor, List, ℕ, map, sym, subst, rules}
use Rattle.csv.specs.Records.{fields_of}
use Rattle.inputs.specs.Reading.{IsReading}
use Rattle.inputs.proofs.ReadLemmas.{then-err, then-ok}
use Rattle.inputs.proofs.PlainLemmas.{plain_columns-first, plain_columns-none}
use Rattle.inputs.proofs.plain.find_columns.Goals as goal

pub returns-then-not-branch-clause-err : goal.returns-then-not-branch-clause-err
returns-then-not-branch-clause-err c ne records g =
    let text = c.args.text.now in
    let start = subst (IsReading text []) (sym c.as_mut.ensures.value) c.in_ok-reader.ensures in
    let none : c.in_ok-next_record.field-0 ≡ false = search rules in
    let names = map (λ (it : Bor (List ℕ)). it.now) c.args.key.now in
    plain_columns-none names c.args.sample text records (rw none at (c.in_ok-next_record.ensures text [] start)) g

pub show_types-requires : goal.show_types-requires
show_types-requires c =
    let text = c.args.text.now in
    let start = subst (IsReading text []) (sym c.as_mut.ensures.value) c.in_ok-reader.ensures in
    let first = rw c.if-not-branch.false at (c.in_ok-next_record.ensures text [] start) in
    (text, fields_of c.next_record.new.fields, rw c.as_mut-2.ensures.value first)

pub header_columns-requires : goal.header_columns-requires
header_columns-requires c = c.in_ok-types.ensures.wide ∙ c.len.ensures

pub returns-clause-ok : goal.returns-clause-ok
returns-clause-ok c =
    let text = c.args.text.now in
    let names = map (λ (it : Bor (List ℕ)). it.now) c.args.key.now in
    let header = fields_of c.next_record.new.fields in
    let start = subst (IsReading text []) (sym c.as_mut.ensures.value) c.in_ok-reader.ensures in
    let first = rw c.if-not-branch.false at (c.in_ok-next_record.ensures text [] start) in
    let shown = rw (c.len.ensures, c.as_mut-2.ensures.value) at c.in_ok-types.ensures.shown in
    then-ok c.header_columns.result _ _
    (λ found is records g.
    plain_columns-first names c.args.sample text header c.in_ok-types.types.items records _ first
    (λ rest at. shown text header rest first at) g
    ∙ is)
    c.header_columns.ensures.ok

pub returns-clause-err : goal.returns-clause-err
returns-clause-err c =
    let text = c.args.text.now in
    let names = map (λ (it : Bor (List ℕ)). it.now) c.args.key.now in
    let header = fields_of c.next_record.new.fields in
    let start = subst (IsReading text []) (sym c.as_mut.ensures.value) c.in_ok-reader.ensures in
    let first = rw c.if-not-branch.false at (c.in_ok-next_record.ensures text [] start) in
    let shown = rw (c.len.ensures, c.as_mut-2.ensures.value) at c.in_ok-types.ensures.shown in
    then-err c.header_columns.result _ _
    (λ fault is ne records g.
    plain_columns-first names c.args.sample text header c.in_ok-types.types.items records _ first
    (λ rest at. shown text header rest first at) g
    ∙ is ne)
    c.header_columns.ensures.err
