use Rattle.std.proofs.Common.{◌++◌, List, ℕ, sym, ap, ◌∙◌}
use Rattle.std.proofs.lemmas.List.{append-nil}
use Rattle.csv.specs.Writing.{default_writer, escaped}
use Rattle.headers.proofs.EscapeLemmas.{escaped_done, step}
use Rattle.headers.proofs.spelling.push_escaped.Goals as goal

pub loop-byte-preserved : goal.loop-byte-preserved
loop-byte-preserved c =
    step c.loop-byte.text.items c.push_escaped_byte.new.text.items (c.args.text.now.items ++ escaped default_writer c.args.bytes.now)
    c.args.bytes.now c.loop-byte.byte-index 0 c.loop-byte-test.true c.in_ok-push_escaped_byte.ensures c.loop-byte.invariant

pub returns : goal.returns
returns c =
    sym (append-nil c.loop-byte.text.items)
    ∙ ap (λ (r : List ℕ). c.loop-byte.text.items ++ r) (sym (escaped_done c.args.bytes.now c.loop-byte.byte-index c.loop-byte-test.false))
    ∙ c.loop-byte.invariant
