use Rattle.std.proofs.Common.{◌≡◌, ◌∙◌, [], false, sym, subst, rules}
use Rattle.csv.specs.Records.{fields_of}
use Rattle.inputs.specs.Reading.{IsReading}
use Rattle.inputs.proofs.ReadLemmas.{then-ok}
use Rattle.inputs.proofs.PlainLemmas.{types_found-first, types_found-none}
use Rattle.inputs.proofs.plain.find_types.Goals as goal

pub returns-then-not-branch : goal.returns-then-not-branch
returns-then-not-branch c records g =
    let text = c.args.text.now in
    let start = subst (IsReading text []) (sym c.as_mut.ensures.value) c.in_ok-reader.ensures in
    let none : c.in_ok-next_record.field-0 ≡ false = search rules in
    c.new.ensures.items ∙ sym (types_found-none c.args.sample text records (rw none at (c.in_ok-next_record.ensures text [] start)) g)

pub show_types-requires : goal.show_types-requires
show_types-requires c =
    let text = c.args.text.now in
    let start = subst (IsReading text []) (sym c.as_mut.ensures.value) c.in_ok-reader.ensures in
    let first = rw c.if-not-branch.false at (c.in_ok-next_record.ensures text [] start) in
    (text, fields_of c.next_record.new.fields, rw c.as_mut-2.ensures.value first)

pub returns : goal.returns
returns c =
    let text = c.args.text.now in
    let header = fields_of c.next_record.new.fields in
    let start = subst (IsReading text []) (sym c.as_mut.ensures.value) c.in_ok-reader.ensures in
    let first = rw c.if-not-branch.false at (c.in_ok-next_record.ensures text [] start) in
    then-ok c.show_types.result _ _
    (λ types is records g.
    types_found-first c.args.sample text header types.items records _ first
    (λ rest at. (rw (c.len.ensures, c.as_mut-2.ensures.value) at is) text header rest first at) g)
    c.show_types.ensures.shown
