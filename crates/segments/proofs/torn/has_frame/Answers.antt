use Rattle.std.proofs.Common.{sym, ap, ◌∙◌, ◌&&◌}
use Rattle.std.specs.Option.{is_some}
use Rattle.journal.specs.Reading.{frame_at}
use Rattle.segments.proofs.TornLemmas.{found_later, short}
use Rattle.segments.proofs.torn.has_frame.Goals as goal

pub returns-then-bytes-lt-HEAD_BYTES : goal.returns-then-bytes-lt-HEAD_BYTES
returns-then-bytes-lt-HEAD_BYTES c = sym (short c.args.seed c.args.newest c.args.bytes.now c.if-bytes-lt-HEAD_BYTES.true)

pub returns-then-is_near : goal.returns-then-is_near
returns-then-is_near c =
    c.is_whole.ensures
    ∙ ap (λ b. b && is_some (frame_at c.args.seed c.args.bytes.now)) (sym c.if-is_near.true ∙ c.is_near.ensures)
    ∙ sym (found_later c.args.seed c.args.newest c.args.bytes.now)

pub returns-else-is_near : goal.returns-else-is_near
returns-else-is_near c =
    c.if-is_near.false
    ∙ ap (λ b. b && is_some (frame_at c.args.seed c.args.bytes.now)) (sym c.if-is_near.false ∙ c.is_near.ensures)
    ∙ sym (found_later c.args.seed c.args.newest c.args.bytes.now)
