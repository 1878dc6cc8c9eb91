use Rattle.codec.proofs.BackLemmas.{read_back, on_both}
use Rattle.codec.proofs.PartLemmas.{part_alone}
use Rattle.codec.proofs.spelling.write_part.Goals as goal

pub returns-else-is_err-clause-again : goal.returns-else-is_err-clause-again
returns-else-is_err-clause-again c =
    let written = c.append_part-written.ensures in
    on_both c.append_part-written.result written.plain written.short (λ plain short.
    part_alone c.args.schema.now c.args.table c.args.tree.now.entries c.ranges.table.fits short
    (read_back c.args.schema.now c.args.tree.now.entries c.requires.fits plain))

pub returns-else-is_err-clause-anywhere : goal.returns-else-is_err-clause-anywhere
returns-else-is_err-clause-anywhere c =
    let written = c.append_part-written.ensures in
    on_both c.append_part-written.result written.plain written.short (λ plain short.
    read_back c.args.schema.now c.args.tree.now.entries c.requires.fits plain)
