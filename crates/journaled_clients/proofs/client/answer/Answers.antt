use Rattle.std.proofs.Common.{refl, sym, subst}
use Rattle.shared.specs.Sessions.{Seat}
use Rattle.pdtcli.specs.Run.{line_of}
use Rattle.journaled_clients.specs.Clients.{DurableStep}
use Rattle.journaled_clients.proofs.client.answer.Goals as goal

-- the line is that of the call's reply
pub returns : goal.returns
returns g c =
    let o = g.O.Opening.opened.manager in
    let asked = c.args.asked.now in
    let reply = c.serve-reply.result in
    record {
      served = (
        line_of asked reply,
        record {
          reply = reply;
          step =
              subst (λ (seat : Seat). DurableStep o asked.call c.args.client.now.session reply seat) (sym c.reader-reader.ensures.same.0)
              c.serve-reply.ensures.step;
          reported = refl;
        },
      );
    }
