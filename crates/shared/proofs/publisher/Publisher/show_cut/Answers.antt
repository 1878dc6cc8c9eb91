use Rattle.std.proofs.Common.{List, refl, sym, ap, ◌∙◌, length, subst, arith}
use Rattle.txn.specs.Version.{TableVersion, table_version}
use Rattle.manager.specs.Managed.{cut_of}
use Rattle.manager.proofs.CallerLemmas.{newest_within}
use Rattle.publishing.specs.declared.item.Item.{Item}
use Rattle.publishing.specs.declared.item.Item.TheVariants.{Cuts}
use Rattle.publishing.specs.Lists.{IsListed}
use Rattle.publishing.proofs.CallerLemmas.{listed_cut, version_cut, version_is}
use Rattle.shared.proofs.ShowLemmas.{ok_more, on_ok}
use Rattle.shared.proofs.publisher.Publisher.show_cut.Goals as goal

pub show-requires-clause-version : goal.show-requires-clause-version
show-requires-clause-version g c =
    let o = g.O.Opening.opened.manager in
    let m = c.args.manager.now in
    let list = c.args.self.now in
    ap table_version c.in_ok-version.ensures ∙ c.version.ensures.table ∙ version_is o list m c.requires
    ∙ version_cut o list c.number-base.result c.in_ok-version.version (Cuts c.number-base.result c.of-shown.result)
    (refl, c.of-shown.ensures)

pub show-requires-clause-within : goal.show-requires-clause-within
show-requires-clause-within g c =
    let rows = ap (λ (v : TableVersion). length v.table) (ap table_version c.in_ok-version.ensures ∙ c.version.ensures.table) in
    let limit = ap (λ s. s.limit) c.requires.start in
    let within = newest_within c.args.manager.now c.kept.ensures in
    omega (arith, rows, limit, within)

pub show-requires-clause-item : goal.show-requires-clause-item
show-requires-clause-item g c = sym c.of-shown.ensures

pub returns-clause-list : goal.returns-clause-list
returns-clause-list g c =
    let number =
    c.number-base.ensures
    ∙ ap (λ (v : TableVersion). v.number) (ap table_version c.in_ok-version.ensures ∙ c.version.ensures.table) in
    let version = c.of-shown.ensures ∙ c.in_ok-version.ensures ∙ c.version.ensures.layers in
    ok_more _ _ _ c.show.result c.show.ensures (λ more. (Cuts c.number-base.result c.of-shown.result, (number, version), more))

pub returns-clause-listed : goal.returns-clause-listed
returns-clause-listed g c =
    let o = g.O.Opening.opened.manager in
    let m = c.args.manager.now in
    let number =
    c.number-base.ensures
    ∙ ap (λ (v : TableVersion). v.number) (ap table_version c.in_ok-version.ensures ∙ c.version.ensures.table) in
    let item = Cuts c.number-base.result c.of-shown.result in
    let cut =
    listed_cut o c.args.self.now m c.requires c.number-base.result c.in_ok-version.version item (refl, c.of-shown.ensures)
    number in
    on_ok _ _ _ c.show.result c.show.ensures (λ more. subst (λ (l : List Item). IsListed o l (cut_of m)) (sym more) cut)
