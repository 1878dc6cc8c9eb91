use Rattle.std.proofs.Common.{◌∙◌, sym, ap}
use Rattle.merge.specs.Cursor.{moved}
use Rattle.merge.proofs.CursorLemmas.{deletes_test}
use Rattle.merge.proofs.cursor.Cursor.skip_delete.Goals as goal

pub returns-then-is_deleted-clause-skipped : goal.returns-then-is_deleted-clause-skipped
returns-then-is_deleted-clause-skipped c = λ is.
    deletes_test c.args.self.now c.pass.new.self (sym c.stands_at_delete-is_deleted.ensures ∙ is)
    (c.pass.ensures ∙ ap (moved 1) c.advance.ensures)
