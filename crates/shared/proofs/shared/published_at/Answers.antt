use Rattle.std.proofs.Common.{◌≡◌, [], sym, ap, ◌∙◌, length, arith}
use Rattle.txn.specs.Version.{TableVersion, table_version}
use Rattle.manager.specs.Managed.{Managed}
use Rattle.manager.proofs.CallerLemmas.{newest_within}
use Rattle.publishing.specs.Lists.{Known, shown_in, version_in}
use Rattle.publishing.proofs.CallerLemmas.{listed_at_opening, version_is}
use Rattle.shared.proofs.shared.published_at.Goals as goal

pub new-requires-clause-version : goal.new-requires-clause-version
new-requires-clause-version c =
    let m = c.args.manager.now in
    let same : c.again.result.opening.manager ≡ m = ap (λ (k : Known). k.opening.manager) c.again.ensures ∙ c.requires.0 in
    let none : c.again.result.list ≡ [] = ap (λ (k : Known). k.list) c.again.ensures ∙ c.requires.1 in
    ap table_version c.in_ok-copy.ensures
    ∙ c.version.ensures.table
    ∙ version_is m [] m (listed_at_opening m)
    ∙ sym (λ i. version_in (same i) (none i))

pub new-requires-clause-within : goal.new-requires-clause-within
new-requires-clause-within c =
    let m = c.args.manager.now in
    let same = ap (λ (k : Known). k.opening.manager.start.limit) c.again.ensures ∙ ap (λ (o : Managed). o.start.limit) c.requires.0 in
    let rows = ap (λ (v : TableVersion). length v.table) (ap table_version c.in_ok-copy.ensures ∙ c.version.ensures.table) in
    let within = newest_within m c.kept.ensures in
    omega (arith, same, rows, within)

pub new-requires-clause-shown : goal.new-requires-clause-shown
new-requires-clause-shown c =
    let m = c.args.manager.now in
    let same : c.again.result.opening.manager ≡ m = ap (λ (k : Known). k.opening.manager) c.again.ensures ∙ c.requires.0 in
    let none : c.again.result.list ≡ [] = ap (λ (k : Known). k.list) c.again.ensures ∙ c.requires.1 in
    c.in_ok-copy.ensures ∙ c.version.ensures.layers ∙ sym (λ i. shown_in (same i) (none i))
