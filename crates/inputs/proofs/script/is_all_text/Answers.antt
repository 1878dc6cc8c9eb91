use Rattle.std.proofs.Common.{◌∙◌, sym}
use Rattle.inputs.proofs.CellLemmas.{list_all-ascii}
use Rattle.inputs.proofs.script.is_all_text.Goals as goal

-- each field of a record that is ASCII is text
pub returns-then-is_ascii : goal.returns-then-is_ascii
returns-then-is_ascii c = c.if-is_ascii.true ∙ sym (list_all-ascii 0 _ _ (rw c.as_slice.ensures at c.if-is_ascii.ensures.cases))
