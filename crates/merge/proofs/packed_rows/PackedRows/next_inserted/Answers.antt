use Rattle.std.proofs.lemmas.Int.{to_z-of_z}
use Rattle.std.proofs.Common.{rules, w64, ◌≡◌, ◌∙◌, [], ◌∷◌, List, length, map, take, get_or, sym, ap, arith, length-take}
use Rattle.std.specs.Prelude.{ℤ, pos}
use Rattle.merge.specs.Packed.{number_at, rows_in}
use Rattle.merge.specs.PackedLeft.{cursor_of}
use Rattle.merge.proofs.PackedFillLemmas.{inserted_number}
use Rattle.merge.proofs.PackedLemmas.{rows_in-le}
use Rattle.merge.proofs.packed_rows.PackedRows.next_inserted.Goals as goal

pub offset_bounds-self-row : goal.offset_bounds-self-row
offset_bounds-self-row c =
    let p = c.args.self.now in
    let next = c.requires.next in
    let before = take (cursor_of p).index p.tree.now.entries in
    omega (
      arith,
      next.numbered,
      rows_in-le before,
      length-take (cursor_of p).index p.tree.now.entries,
      c.requires.lawful.cursor.lawful.counted,
    )

pub bounds-self-row : goal.bounds-self-row
bounds-self-row c =
    let p = c.args.self.now in
    let next = c.requires.next in
    let column = c.requires.column.2 in
    let numbers = inserted_number c.requires.column.1 p.sid (cursor_of p).index p.tree.now.entries next.inserted (pos 0) next.there in
    omega (arith, numbers.0, next.numbered, ap (λ (ns : List ℤ). length ns) column.inserted_are)

pub returns-clause-number : goal.returns-clause-number
returns-clause-number c = λ ty col column.
    let p = c.args.self.now in
    let next = c.requires.next in
    let numbers = inserted_number col p.sid (cursor_of p).index p.tree.now.entries next.inserted (pos 0) next.there in
    let value = get_or p.inserted.now c.args.row (pos 0) in
    let one : number_at col next.inserted ≡ value =
    sym numbers.1
    ∙ ap (λ n. get_or (map (number_at col) (rows_in p.tree.now.entries)) n (pos 0)) (sym next.numbered)
    ∙ ap (λ (ns : List ℤ). get_or ns c.args.row (pos 0)) (sym column.inserted_are) in
    record {
      passed = next.inserted ∷ [];
      rows = c.pass_inserted.ensures.rows c.args.row next;
      numbers_are = ap (λ (n : ℤ). n ∷ []) (to_z-of_z w64 value (search rules) ∙ sym one);
    }
