use Rattle.std.proofs.Common.{ap, ◌∙◌, arith}
use Rattle.codec.specs.Fit.{change_fits}
use Rattle.codec.proofs.FitLemmas.{row_typed, key_typed, cell_typed, cell_within, typed_short}
use Rattle.codec.proofs.KeptLemmas.{kept_twice}
use Rattle.std.specs.Prelude.{take}
use Rattle.codec.proofs.spelling.append_entry.Goals as goal

pub append_cells-requires : goal.append_cells-requires
append_cells-requires c =
    let schema = c.args.schema.now in
    let row = c.in-Ins.row.now in
    let fits = ap (change_fits schema) c.in-Ins.ensures ∙ c.requires.fits.shaped in
    record { short = rw c.cells.ensures (typed_short schema.types row (row_typed schema row fits)) }

pub append_cells-requires-in-Del : goal.append_cells-requires-in-Del
append_cells-requires-in-Del c =
    let schema = c.args.schema.now in
    let key = c.in-Del.key.now in
    let fits = ap (change_fits schema) c.in-Del.ensures ∙ c.requires.fits.shaped in
    record { short = rw c.cells-in-Del.ensures (typed_short (take schema.key_cols schema.types) key (key_typed schema key fits)) }

pub overflow_cast-col : goal.overflow_cast-col
overflow_cast-col c =
    let schema = c.args.schema.now in
    let fits = ap (change_fits schema) c.in-Mod.ensures ∙ c.requires.fits.shaped in
    let cell = cell_typed schema c.in-Mod.col _ fits in
    record { fits = omega (arith, cell_within schema c.in-Mod.col _ c.width.ensures.lawful cell) }

pub returns-in_ok-push-in-Ins-clause-kept : goal.returns-in_ok-push-in-Ins-clause-kept
returns-in_ok-push-in-Ins-clause-kept c =
    kept_twice c.args.out.now.items _ _ c.append_cells.new.out.items _ c.push.new.self.items c.in_ok-extend_from_slice.ensures.items
    c.in_ok-push-in-Ins.ensures.items c.append_cells.ensures.kept

pub returns-in_ok-push-in-Del-clause-kept : goal.returns-in_ok-push-in-Del-clause-kept
returns-in_ok-push-in-Del-clause-kept c =
    kept_twice c.args.out.now.items _ _ c.append_cells-in-Del.new.out.items _ c.push-in-Del.new.self.items
    c.in_ok-extend_from_slice.ensures.items c.in_ok-push-in-Del.ensures.items c.append_cells-in-Del.ensures.kept

pub returns-in_ok-extend_from_slice-in-Mod-clause-kept : goal.returns-in_ok-extend_from_slice-in-Mod-clause-kept
returns-in_ok-extend_from_slice-in-Mod-clause-kept c =
    kept_twice c.args.out.now.items _ _ c.append_cell.new.out.items _ c.extend_from_slice-in-Mod.new.self.items
    c.in_ok-extend_from_slice.ensures.items c.in_ok-extend_from_slice-in-Mod.ensures.items c.append_cell.ensures.kept
