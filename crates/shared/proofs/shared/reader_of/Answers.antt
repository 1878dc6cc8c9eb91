use Rattle.std.proofs.Common.{sym, ◌∙◌}
use Rattle.publishing.proofs.CallerLemmas.{forks, merges}
use Rattle.shared.proofs.shared.reader_of.Goals as goal

pub tell-note-requires : goal.tell-note-requires
tell-note-requires c = forks _ _

pub learn-requires : goal.learn-requires
learn-requires c =
    let note = c.tell-note.ensures.given in
    record { own = (note.0 ∙ sym c.in_ok-reader.ensures.reader.1, note.2); rule = merges _ _ _ _ }

pub returns-clause-writer : goal.returns-clause-writer
returns-clause-writer c = let kept = c.tell-note.ensures.kept in (kept.0, kept.3)

pub returns-clause-reader : goal.returns-clause-reader
returns-clause-reader c = c.learn.ensures.1 ∙ c.tell-note.ensures.given.1
