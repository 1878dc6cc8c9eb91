use Rattle.std.proofs.Common.{◌≡◌, ◌<◌, ◌∙◌, List, [], length, get_or, sym, ap, subst}
use Rattle.values.specs.Shape.{Columns}
use Rattle.values.specs.declared.row.Row.{Row}
use Rattle.stable.specs.Stable.{Stable}
use Rattle.stable.proofs.CallerLemmas.{stable_width}
use Rattle.pdtcli.specs.ShownRows.{AreKept, kept_rows}
use Rattle.pdtcli.proofs.shown.ShownRows.width.Goals as goal

pub returns : goal.returns
returns c =
    let table = c.in-Some.table.value in
    let rows : c.args.self.now ≡ table.rows = sym c.self.view_is ∙ ap kept_rows c.in-Some.is in
    let there = subst (λ (rs : List Row). c.args.at < length rs) rows c.requires in
    c.width.ensures.columns
    ∙ ap (λ (s : Columns). length s.types) (c.schema.ensures.columns ∙ ap (λ (t : Stable). t.schema) c.deref.ensures)
    ∙ sym (stable_width table (subst AreKept c.in-Some.is c.self.invariant) c.args.at [] there)
    ∙ ap (λ (rs : List Row). length (get_or rs c.args.at [])) (sym rows)
