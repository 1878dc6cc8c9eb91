use Rattle.std.proofs.Common.{◌≡◌, ◌∙◌, ◌++◌, Bool, true, List, [], append_assoc, length, take, drop, refl, ap, sym, subst, arith}
use Rattle.std.specs.Prelude.{ℤ, cond}
use Rattle.std.proofs.lemmas.List.{length-append, length-map, length-set, take_more_set}
use Rattle.model.specs.Table.{rows_of}
use Rattle.stable.specs.Rows.{column_values}
use Rattle.txn.specs.Txn.{image_of}
use Rattle.merge.specs.Filling.{numbers_in}
use Rattle.pdt_c.specs.Cells.{numbers_of}
use Rattle.pdt_c.specs.Numbers.{has_numbers, column_between, numbers_between, AreShown}
use Rattle.pdt_c.specs.declared.calls.pieces.Piece.{Piece}
use Rattle.pdt_c.proofs.NumberLemmas.{handed, length-between, numbers_int, shown_more, take_cut}
use Rattle.pdt_c.proofs.calls.pieces.read_pieces.Goals as goal

pub loop-run-init : goal.loop-run-init
loop-run-init c =
    let runs = c.number_runs-run-items.result in (
      refl,
      omega arith,
      [],
      refl,
      refl,
      c.into_iter-run-iterator.ensures.into_iter_gives ∙ sym (numbers_int runs) ∙ ap numbers_of c.number_runs-run-items.ensures,
    )

pub returns-then-filled-out : goal.returns-then-filled-out
returns-then-filled-out c =
    let txn = c.args.txn.now in
    let col = c.args.col in
    let from = c.args.from in
    let rows = rows_of (image_of txn) in
    let many = length-map (image_of txn) (λ e. e.1) in
    let inv = c.loop-run.invariant in
    let has : has_numbers txn col ≡ true = sym c.is_of_numbers.ensures ∙ c.if-not-is_of_numbers.false in
    let cut = take_cut c.args.to c.min-end.result rows
    (λ le. omega (arith, le, many, c.len.ensures, c.min-end.ensures))
    (λ le. omega (arith, le, many, c.len.ensures, c.min-end.ensures)) in
    handed (numbers_between txn col from c.args.to) inv.2 c.loop-run.run-iterator (length c.args.out.now)
    c.loop-run.filled.pieces c.loop-run.filled.rows
    c.loop-run.out inv.1 inv.3 inv.4
    (inv.5
    ∙ ap (λ rs. numbers_of (column_values col (drop from rs))) cut
    ∙ ap (λ (b : Bool). cond b (numbers_of (column_between txn col from c.args.to)) []) (sym has))
    (λ lt. absurd (omega (arith, lt, inv.0, c.if-filled-out.true)))

pub overflow_add-filled-in-loop-run : goal.overflow_add-filled-in-loop-run
overflow_add-filled-in-loop-run c =
    let txn = c.args.txn.now in
    let inv = c.loop-run.invariant in
    record {
      fits = omega (
        arith,
        inv.3,
        c.piece_of-piece.ensures.counted,
        c.len.ensures,
        c.len.type_inv,
        length-map (image_of txn) (λ e. e.1),
        length-between c.args.col c.args.from c.min-end.result (rows_of (image_of txn)),
        ap (λ (ns : List ℤ). length ns) inv.5,
        length-append inv.2 c.loop-run.run-iterator,
        ap (λ (ns : List ℤ). length ns) c.in-Some.ensures.steps.0,
        length-append (numbers_in c.in-Some.run') c.next.new.self,
      );
    }

pub loop-run-preserved : goal.loop-run-preserved
loop-run-preserved c =
    let inv = c.loop-run.invariant in
    let at = c.loop-run.filled.pieces in
    let out = c.loop-run.out in
    let piece = c.piece_of-piece.result in
    let own = numbers_in c.in-Some.run' in
    let rest = c.next.new.self in (
      length-set out at piece ∙ inv.0,
      omega (arith, inv.0, c.if-filled-out.false),
      inv.2 ++ own,
      omega (arith, inv.3, c.piece_of-piece.ensures.counted, length-append inv.2 own),
      subst (λ (ps : List Piece). AreShown ps (inv.2 ++ own))
          (sym (take_more_set out at piece (omega (arith, c.if-filled-out.false))))
          (shown_more (take at out) piece inv.2 own inv.4 c.piece_of-piece.ensures),
      append_assoc inv.2 own rest ∙ ap (λ (ns : List ℤ). inv.2 ++ ns) (sym c.in-Some.ensures.steps.0) ∙ inv.5,
    )
