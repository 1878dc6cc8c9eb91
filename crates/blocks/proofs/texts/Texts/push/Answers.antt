use Rattle.blocks.proofs.CopiesLemmas.{texts_are}
use Rattle.blocks.proofs.texts.Texts.push.Goals as goal

pub returns-in_err-spell_out-clause-fit : goal.returns-in_err-spell_out-clause-fit
returns-in_err-spell_out-clause-fit c =
    let same = c.in_err-spell_out.ensures.err in
    rw (same.1, same.0) (texts_are c.self.inside.given c.self.inside.copies c.self.invariant)
