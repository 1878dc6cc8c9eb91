use Rattle.pdtcli.proofs.BatchLemmas.{Goes-none}
use Rattle.pdtcli.proofs.OutputLemmas.{no_row_shown}
use Rattle.pdtcli.proofs.output.show_shown.Goals as goal

pub returns-in_default : goal.returns-in_default
returns-in_default g c =
    rw (no_row_shown c.args.line.now.reply c.in_default.not-Scanned) (Goes-none (g.W.Write.contents c.args.out.now) c.args.batch.records)
