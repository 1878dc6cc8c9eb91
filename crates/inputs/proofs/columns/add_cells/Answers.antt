use Rattle.std.proofs.Common.{◌≡◌, ◌∙◌, ◌∷◌, ◌++◌, ◌+◌, [], List, length, get_or, set, refl, sym, ap, arith}
use Rattle.std.proofs.lemmas.List.{length-map, length_push}
use Rattle.csv.specs.Records.{fields_of}
use Rattle.blocks.specs.Column.{Column}
use Rattle.inputs.specs.Filling.{types_in}
use Rattle.inputs.specs.Input.{cells_of}
use Rattle.inputs.proofs.ReadLemmas.{field-drop, field-there, passed-up, prepend-nil}
use Rattle.inputs.proofs.RowLemmas.{cells_of-step, cells_of-fault}
use Rattle.inputs.proofs.FillingLemmas.{extended-none, extended-at, extended-set, length-extended, all-cells, type-drop}
use Rattle.inputs.proofs.columns.add_cells.Goals as goal

pub loop-i-init : goal.loop-i-init
loop-i-init c =
    let old = c.args.columns.now.items in
    ([], refl, sym (extended-none old), sym (prepend-nil (cells_of c.args.number 0 (types_in old) (fields_of c.args.fields.now))))

pub unreachable-requires : goal.unreachable-requires
unreachable-requires c =
    let here = c.loop-i-test.true in
    let count = c.requires.count in
    let wide = ap (λ (cs : List Column). length cs) c.loop-i.invariant.2 in
    field-there (fields_of c.args.fields.now) c.loop-i.i (rw c.in-None.is at c.get.ensures.value) (omega (arith, count, here, wide))

pub add_cell-requires : goal.add_cell-requires
add_cell-requires c =
    let old = c.args.columns.now.items in
    let i = c.loop-i.i in
    let mine = c.index_mut.result.now in
    let inv = c.loop-i.invariant in
    let lt = c.loop-i-test.true in
    let wide : length c.loop-i.columns.items ≡ length old = ap (λ (cs : List Column). length cs) inv.2 ∙ length-extended old inv.0 in
    let is : mine ≡ get_or old i mine =
    c.index_mut.ensures.value ∙ ap (λ (cs : List Column). get_or cs i mine) inv.2 ∙ extended-at old inv.0 i mine inv.1 in
    let short = c.requires.room i mine (omega (arith, lt, wide)) in
    rw (sym is) at short

pub returns-in_err-add_cell-clause-err : goal.returns-in_err-add_cell-clause-err
returns-in_err-add_cell-clause-err c =
    let old = c.args.columns.now.items in
    let i = c.loop-i.i in
    let mine = c.index_mut.result.now in
    let inv = c.loop-i.invariant in
    let lt = c.loop-i-test.true in
    let wide : length c.loop-i.columns.items ≡ length old = ap (λ (cs : List Column). length cs) inv.2 ∙ length-extended old inv.0 in
    let is : mine ≡ get_or old i mine =
    c.index_mut.ensures.value ∙ ap (λ (cs : List Column). get_or cs i mine) inv.2 ∙ extended-at old inv.0 i mine inv.1 in
    let f = field-drop (fields_of c.args.fields.now) i c.in-Some.bytes.now (rw c.in-Some.is at c.get.ensures.value) in
    let k = type-drop old i mine (omega (arith, lt, wide)) is in
    passed-up c.from_residual.result _ _ c.from_residual.ensures.1
    (λ ne. inv.3 ∙ cells_of-fault _ _ _ _ _ _ _ inv.0 k f (c.in_err-add_cell.ensures.err ne))

pub loop-i-preserved : goal.loop-i-preserved
loop-i-preserved c =
    let old = c.args.columns.now.items in
    let i = c.loop-i.i in
    let mine = c.index_mut.result.now in
    let inv = c.loop-i.invariant in
    let lt = c.loop-i-test.true in
    let wide : length c.loop-i.columns.items ≡ length old = ap (λ (cs : List Column). length cs) inv.2 ∙ length-extended old inv.0 in
    let is : mine ≡ get_or old i mine =
    c.index_mut.ensures.value ∙ ap (λ (cs : List Column). get_or cs i mine) inv.2 ∙ extended-at old inv.0 i mine inv.1 in
    let f = field-drop (fields_of c.args.fields.now) i c.in-Some.bytes.now (rw c.in-Some.is at c.get.ensures.value) in
    let k = type-drop old i mine (omega (arith, lt, wide)) is in
    let added = c.in_ok-add_cell.ensures.ok in (
      inv.0 ++ added.0 ∷ [],
      length_push inv.0 added.0 ∙ ap (λ n. n + 1) inv.1,
      (λ j. set (inv.2 j) i (added.2 j)) ∙ extended-set old inv.0 i mine added.0 inv.1 (omega (arith, lt, wide)) is,
      inv.3 ∙ cells_of-step _ _ _ _ _ _ _ inv.0 k f added.1,
    )

pub returns-clause-ok : goal.returns-clause-ok
returns-clause-ok c =
    let old = c.args.columns.now.items in
    let i = c.loop-i.i in
    let inv = c.loop-i.invariant in
    let wide : length c.loop-i.columns.items ≡ length old = ap (λ (cs : List Column). length cs) inv.2 ∙ length-extended old inv.0 in
    let types = length-map old (λ (x : Column). x.ty) in
    let all : i ≡ length old = omega (arith, c.loop-i-test.false, c.loop-i.auto.i-end, wide) in (
      inv.0,
      inv.3 ∙ all-cells c.args.number i (types_in old) (fields_of c.args.fields.now) inv.0 (omega (arith, all, types)),
      inv.1 ∙ all,
      inv.2,
    )
