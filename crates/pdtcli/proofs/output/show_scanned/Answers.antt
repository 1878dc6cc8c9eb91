use Rattle.std.proofs.Common.{◌<◌, ◌∙◌, [], List, length, get_or, map, sym, ap, subst, take, arith}
use Rattle.std.proofs.lemmas.List.{take_all, take_more}
use Rattle.values.specs.declared.row.Row.{Row}
use Rattle.pdtcli.specs.Output.{records_text}
use Rattle.pdtcli.specs.Records.{Goes}
use Rattle.pdtcli.specs.Replies.{shown_fields}
use Rattle.pdtcli.proofs.BatchLemmas.{Goes-none, Goes-record, Goes-trans}
use Rattle.pdtcli.proofs.OutputLemmas.{shown_text-more}
use Rattle.pdtcli.proofs.output.show_scanned.Goals as goal

pub loop-at-init : goal.loop-at-init
loop-at-init g c = Goes-none (g.W.Write.contents c.args.out.now) c.args.batch.records

pub loop-at-preserved : goal.loop-at-preserved
loop-at-preserved g c =
    let rows : List Row = c.args.rows.now in
    let at = c.loop-at.at in
    let row : Row = get_or rows at [] in
    let clients = c.args.clients.now in
    let line = c.args.line.now in
    let inside : at < length rows = omega (arith, c.loop-at-test.true, c.len-at-end.ensures) in
    let one = Goes-record _ _ _ _ _ (shown_fields clients line row) c.in_ok-push_shown.ensures c.in_ok-batch.ensures in
    subst (Goes (g.W.Write.contents c.args.out.now) _ c.args.batch.records _)
    (shown_text-more clients line (take at rows) row
    ∙ ap (λ (rs : List Row). records_text (map (shown_fields clients line) rs)) (sym (take_more rows at [] inside)))
    (Goes-trans _ _ _ _ _ _ _ _ c.loop-at.invariant one)

pub returns : goal.returns
returns g c =
    let rows : List Row = c.args.rows.now in
    subst (λ (rs : List Row). Goes (g.W.Write.contents c.args.out.now) (g.W.Write.contents c.loop-at.out)
    c.args.batch.records c.loop-at.batch.records
    (records_text (map (shown_fields c.args.clients.now c.args.line.now) rs)))
    (take_all c.loop-at.at rows (omega (arith, c.len-at-end.ensures, c.loop-at-test.false))) c.loop-at.invariant
