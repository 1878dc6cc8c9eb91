use Rattle.std.proofs.Common.{◌≡◌, ◌∙◌, ◌++◌, ◌∷◌, [], List, subst}
use Rattle.std.specs.Io.KnownBytes.{Appends}
use Rattle.std.proofs.KnownBytes.{Appends-trans}
use Rattle.manager.specs.Managed.{Managed, rebuilt_of}
use Rattle.pdtcli.specs.Output.{image_text, lines_text}
use Rattle.pdtcli.specs.declared.reply.ReplyLine.{ReplyLine}
use Rattle.journaled_clients.specs.Run.{IsDurableRunOfClients}
use Rattle.journaled_clients.proofs.run.run_journaled_on_threads.Goals as goal

-- the opening is over the table that was stored, and the image is written behind the lines
pub returns-clause-ran : goal.returns-clause-ran
returns-clause-ran g c =
    let script = c.args.opened.script in
    let log = c.args.commits.log in
    let ran = c.in_ok-ran.ran in
    let made = c.in_ok-ran.ensures.ran in
    let lines : List ReplyLine = made.0 in
    let contents = g.W.Write.contents in
    let opened : c.new-fresh.result.book.list.opening.manager ≡ rebuilt_of c.args.opened.manager =
    c.new-fresh.ensures.manager ∙ c.in_default.ensures.manager in
    let written =
    Appends-trans (contents c.args.out) (contents ran.out) (contents c.show_newest.new.out) _ _ made.2 c.in_ok-show_newest.ensures in (
      lines,
      subst (λ (o : Managed). IsDurableRunOfClients o 0 script log.device.appended log.seed lines ran.manager ran.counts.items ran.journal.device)
          opened made.1,
      subst (Appends (contents c.args.out) (contents c.show_newest.new.out))
          (λ i. lines_text script.clients lines ++ (10 ∷ [] ++ image_text (c.newest.ensures.schema i) (c.newest.ensures.rows i))) written,
      made.3,
    )
