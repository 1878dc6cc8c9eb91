use Rattle.inputs.proofs.CallerLemmas.{not_utf8}
use Rattle.headers.proofs.HeaderLemmas.{no_name}
use Rattle.headers.proofs.naming.name_of.Goals as goal

pub returns-in-Err-clause-none : goal.returns-in-Err-clause-none
returns-in-Err-clause-none c =
    let cases = rw c.in-Err.is at c.from_utf8.ensures.cases in λ e. no_name c.args.bytes.now (not_utf8 _ cases.0)
