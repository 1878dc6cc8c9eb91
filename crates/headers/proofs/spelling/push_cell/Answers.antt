use Rattle.headers.specs.Spelling.{comma_before}
use Rattle.headers.proofs.EscapeLemmas.{cell_step}
use Rattle.headers.proofs.spelling.push_cell.Goals as goal

pub returns : goal.returns
returns c =
    cell_step c.args.text.now.items (comma_before c.args.col) c.args.name.now c.args.kind.now _ _ _ _ _ _ c.in_ok-push_comma.ensures
    c.in_ok-push.ensures.items (rw (← c.as_bytes.ensures.value) c.in_ok-push_escaped.ensures) c.in_ok-push-2.ensures.items
    (rw (← c.as_bytes-2.ensures.value) c.in_ok-push_escaped-2.ensures) c.in_ok-push-3.ensures.items
