use Rattle.publishing.specs.Lists.{number_in}
use Rattle.journaled_clients.proofs.TranscriptLemmas.{AreReported-later}
use Rattle.journaled_clients.proofs.laws.a_crash_leaves_what_is_written_out.Goals as goal

-- what the lines report is in the journal
pub returns-clause-written : goal.returns-clause-written
returns-clause-written c o m table script front seed lines counts device bytes ran seeded few left =
    let ended = ran.closed.ended in
    let durable = number_in o ended.written in
    let crash =
    c.a_crash_leaves_what_is_acknowledged.ensures.crash o table front seed device ended.written ended.tried bytes ended.lasts ended.spelt
    seeded few left in (
      durable,
      AreReported-later o ran.safe durable lines ran.closed.durable ran.reported,
      crash.0,
      crash.1,
      crash.2,
      crash.3,
      crash.4,
    )
