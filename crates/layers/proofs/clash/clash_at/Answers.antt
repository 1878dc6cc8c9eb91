use Rattle.std.proofs.Common.{List, None, sym, ap, ◌∙◌}
use Rattle.std.specs.Option.{option_copied}
use Rattle.model.specs.declared.entry.Entry.{Entry}
use Rattle.model.specs.Rebasing.{or_clash}
use Rattle.layers.proofs.ClashLemmas.{clash_first, clash_none}
use Rattle.layers.proofs.clash.clash_at.Goals as goal

pub returns-in-Some : goal.returns-in-Some
returns-in-Some c =
    let x = c.args.entry.now in
    let found = c.in-Some.found.now in
    λ (es : List Entry) at.
    c.clash_of_kind.ensures
    ∙ ap (λ k. or_clash c.args.i c.args.j k None) c.clash_of_entries.ensures
    ∙ clash_first c.args.rule c.args.key_cols c.args.i c.args.j x found es (sym at ∙ ap option_copied c.in-Some.is)

pub returns-in-None : goal.returns-in-None
returns-in-None c =
    λ (es : List Entry) at.
    clash_none c.args.rule c.args.key_cols c.args.i c.args.j c.args.entry.now es (sym at ∙ ap option_copied c.in-None.is)
