use Rattle.std.proofs.Common.{◌≡◌, ◌<◌, ◌∙◌, List, [], length, get_or, sym, ap, subst, arith}
use Rattle.values.specs.declared.row.Row.{Row}
use Rattle.stable.specs.Stable.{Stable}
use Rattle.stable.proofs.CallerLemmas.{stable_width}
use Rattle.pdtcli.specs.ShownRows.{AreKept, kept_rows}
use Rattle.pdtcli.proofs.shown.ShownRows.value.Goals as goal

pub value-requires-clause-column : goal.value-requires-clause-column
value-requires-clause-column c =
    let table = c.in-Some.table.value in
    let rows : c.args.self.now ≡ table.rows = sym c.self.view_is ∙ ap kept_rows c.in-Some.is in
    let there = subst (λ (rs : List Row). c.args.at < length rs) rows c.requires.there in
    let wide = ap (λ (rs : List Row). length (get_or rs c.args.at [])) rows in
    let same = ap (λ (t : Stable). length t.schema.types) c.deref.ensures in
    omega (arith, c.requires.within, wide, same, stable_width table (subst AreKept c.in-Some.is c.self.invariant) c.args.at [] there)
