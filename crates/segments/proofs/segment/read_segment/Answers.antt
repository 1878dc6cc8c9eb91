use Rattle.segments.proofs.EndLemmas.{same_piece}
use Rattle.segments.proofs.segment.read_segment.Goals as goal

pub returns-clause-piece : goal.returns-clause-piece
returns-clause-piece c = rw c.segment_in.ensures (same_piece c.args.salt c.args.store c.args.bytes.now)
