use Rattle.std.proofs.Common.{◌≡◌, ◌∙◌, ℕ, ◌+◌, ◌-◌, ◌≤◌, ◌++◌, Bool, true, [], List, length, take, drop, get_or, ap, sym, arith}
use Rattle.std.specs.Prelude.{cond, false}
use Rattle.std.proofs.Math.Seq.{take-add}
use Rattle.std.proofs.lemmas.List.{drop_at, length-drop, length-map, length-take, take-take, take_at}
use Rattle.std.proofs.lemmas.Slice.{take-put_mid}
use borrow.Rule.Slice.PartMut.{put_mid}
use Rattle.values.specs.declared.row.Row.{Row}
use Rattle.values.specs.declared.value.Value.TheVariants.{Bool as Truth}
use Rattle.model.specs.Table.{rows_of}
use Rattle.stable.specs.Rows.{column_values}
use Rattle.txn.specs.Txn.{image_of}
use Rattle.pdt_c.specs.Reads.{column_from}
use Rattle.pdt_c.specs.Truths.{byte_of, has_truths, truths_of}
use Rattle.pdt_c.proofs.NumberLemmas.{take_least}
use Rattle.pdt_c.proofs.TruthLemmas.{truths_more}
use Rattle.pdt_c.proofs.calls.bools.read_bools.Goals as goal

pub loop-done-preserved : goal.loop-done-preserved
loop-done-preserved c =
    let txn = c.args.txn.now in
    let col = c.args.col in
    let from = c.args.from in
    let done = c.loop-done.done in
    let more = c.fill_some-done.result in
    let count = c.min-count.result in
    let out = c.loop-done.out in
    let part = c.fill_some-done.new.out in
    let room = count - done in
    let before = take done out in
    let front : length before ≡ done =
    omega (arith, length-take done out, c.loop-done-test.true, c.min-count.ensures, c.loop-done.auto.out) in
    let many : length part ≡ room = omega (
      arith,
      c.fill_some-done.ensures.length,
      c.loop-done-test.true,
      c.min-count.ensures,
      c.loop-done.auto.out,
      length-take room (drop done out),
      length-drop done out,
    ) in
    let within : done + more ≤ count = omega (arith, c.fill_some-done.ensures.few, c.fill_some-done.ensures.length, many, c.loop-done-test.true) in
    let filled = put_mid done room out part in
    let whole : take count filled ≡ before ++ part =
    take-put_mid done room out part count (omega (arith, many, c.loop-done-test.true))
    (omega (arith, c.loop-done-test.true, c.min-count.ensures, c.loop-done.auto.out)) in
    let so_far : List ℕ = take done (truths_of (column_from txn col from)) in (
      within,
      sym (take-take (done + more) count filled within)
          ∙ ap (take (done + more)) whole
          ∙ take-add done more (before ++ part)
          ∙ ap (λ (bs : List ℕ). bs ++ take more (drop done (before ++ part))) (take_at before part done front ∙ c.loop-done.invariant.1)
          ∙ ap (λ (bs : List ℕ). so_far ++ take more bs) (drop_at before part done front)
          ∙ ap (λ (bs : List ℕ). so_far ++ bs) c.fill_some-done.ensures.truths
          ∙ sym (truths_more col from done more (rows_of (image_of txn))),
    )

pub returns-clause-truths : goal.returns-clause-truths
returns-clause-truths c =
    let txn = c.args.txn.now in
    let col = c.args.col in
    let from = c.args.from in
    let room = length c.args.out.now in
    let count = c.min-count.result in
    let rows : List Row = rows_of (image_of txn) in
    let cells = column_values col (drop from rows) in
    let all = truths_of cells in
    let has : has_truths txn col ≡ true = sym c.is_of_truths.ensures ∙ c.if-not-is_of_truths.false in
    let done : count ≡ c.loop-done.done = omega (arith, c.loop-done-test.false, c.loop-done.invariant.0) in
    ap (λ n. take n c.loop-done.out) done
    ∙ c.loop-done.invariant.1
    ∙ ap (λ n. take n all) (sym done)
    ∙ take_least room count all
    (omega (
      arith,
      c.min-count.ensures,
      c.saturating_sub-rows.ensures,
      c.len.ensures,
      length-map (image_of txn) (λ e. e.1),
      length-map cells byte_of,
      length-map (drop from rows) (λ (row : Row). get_or row col (Truth false)),
      length-drop from rows,
    ))
    ∙ ap (λ (b : Bool). take room (cond b all [])) (sym has)
