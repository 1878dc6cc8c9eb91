use Rattle.std.proofs.Common.{refl, arith}
use Rattle.pdtcli.proofs.seat.cut.Goals as goal

-- the history that was handed out has as many records as are told
pub returns-in-Ok : goal.returns-in-Ok
returns-in-Ok g c seat =
    record {
      answers = ((c.in-Ok.history, c.in-Ok.ensures.opening, c.in-Ok.ensures.legal, c.len.ensures), refl);
      counted = omega arith;
      client = refl;
    }
