use Rattle.std.proofs.Common.{◌≡◌, ◌∙◌, ◌++◌, [], ℕ, List, ap, sym, subst, append_assoc, arith}
use Rattle.std.proofs.KnownBytes.{Appends-nil}
use Rattle.std.proofs.lemmas.List.{append-nil, take_all}
use Rattle.values.specs.declared.row.Row.{Row}
use Rattle.merge.specs.Image.{image_rows}
use Rattle.merge.specs.View.{row_of}
use Rattle.pdtcli.specs.Output.{rows_text}
use Rattle.pdtcli.specs.Records.{HasGone, record_text}
use Rattle.pdtcli.specs.Shown.{row_fields}
use Rattle.pdtcli.proofs.BatchLemmas.{Goes-record, HasGone-more, all_gone, handed_on}
use Rattle.pdtcli.proofs.output.show_rows.Goals as goal

pub loop-row-init : goal.loop-row-init
loop-row-init g c = record {
  can_next = tt;
  finite = tt;
  gone = (
    [],
    handed_on _ _ _ _ (Appends-nil (g.W.Write.contents c.args.out.now)) c.in_ok-batch.ensures,
    ap rows_text (c.into_iter-row-iterator.ensures.into_iter_gives
        ∙ c.scan-row-items.ensures
        ∙ take_all c.len.result (image_rows c.args.newest.now) (omega (arith, c.len.ensures))),
  );
}

pub loop-row-preserved : goal.loop-row-preserved
loop-row-preserved g c =
    let inv = c.loop-row.invariant in
    let row : Row = row_of c.in-Some.row in
    let rest : List Row = c.next.new.self in
    let done : List ℕ = inv.gone.0 in
    record {
      can_next = tt;
      finite = tt;
      gone = (
        done ++ record_text (row_fields row),
        HasGone-more _ _ _ _ _ _ _ inv.gone.1
            (Goes-record _ _ _ _ _ (row_fields row) c.in_ok-push_row.ensures c.in_ok-batch-2.ensures),
        append_assoc done (record_text (row_fields row)) (rows_text rest)
            ∙ ap (λ (rows : List Row). done ++ rows_text rows) (sym c.in-Some.ensures.steps)
            ∙ inv.gone.2,
      );
    }

pub returns : goal.returns
returns g c =
    let inv = c.loop-row.invariant in
    let done : List ℕ = inv.gone.0 in
    let whole : done ≡ rows_text (image_rows c.args.newest.now) =
    sym (append-nil done) ∙ ap (λ (rows : List Row). done ++ rows_text rows) (sym c.in-None.ensures.steps.0) ∙ inv.gone.2 in
    all_gone _ _ _ _ _ c.finish.result (subst (HasGone _ _ _) whole inv.gone.1) c.finish.ensures
