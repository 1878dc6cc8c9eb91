use Rattle.std.proofs.Common.{Ok, Err, ap, arith, inl}
use Rattle.shared.specs.Sessions.{Seat}
use Rattle.journaled_clients.proofs.seat.checkpoint.Goals as goal

pub returns-in-Ok-clause-step : goal.returns-in-Ok-clause-step
returns-in-Ok-clause-step g c =
    record {
      answers = (inl (Ok c.in-Ok.image.generation, c.reply_of.ensures), c.checkpoint.ensures.session);
      counted = omega (arith, ap (λ (seat : Seat). seat.count) c.checkpoint.ensures.session);
      client = ap (λ (seat : Seat). seat.client) c.checkpoint.ensures.session;
    }

pub returns-in-Err-Unstored-clause-step : goal.returns-in-Err-Unstored-clause-step
returns-in-Err-Unstored-clause-step g c =
    record {
      answers = (inl (Err c.in-Err-Unstored.fault, c.reply_of-in-Err-Unstored.ensures), c.checkpoint.ensures.session);
      counted = omega (arith, ap (λ (seat : Seat). seat.count) c.checkpoint.ensures.session);
      client = ap (λ (seat : Seat). seat.client) c.checkpoint.ensures.session;
    }
