use Rattle.std.proofs.Common.{List, sym, ap, ◌∙◌, length, subst, arith}
use Rattle.txn.specs.Version.{TableVersion, table_version}
use Rattle.manager.proofs.CallerLemmas.{newest_within}
use Rattle.publishing.specs.declared.item.Item.{Item}
use Rattle.publishing.specs.declared.item.Item.TheVariants.{Same}
use Rattle.publishing.specs.Lists.{IsListed}
use Rattle.publishing.proofs.CallerLemmas.{listed_same, version_is, version_same}
use Rattle.shared.proofs.ShowLemmas.{either_way, ok_more}
use Rattle.shared.proofs.publisher.Publisher.show_same.Goals as goal

pub show-requires-clause-version : goal.show-requires-clause-version
show-requires-clause-version g c =
    let o = g.O.Opening.opened.manager in
    let m = c.args.manager.now in
    let list = c.args.self.now in
    ap table_version c.in_ok-copy.ensures
    ∙ c.requires.version
    ∙ version_is o list m c.requires.listed
    ∙ version_same o list c.in_ok-copy.copy (Same c.of-shown.result) c.of-shown.ensures

pub show-requires-clause-within : goal.show-requires-clause-within
show-requires-clause-within g c =
    let rows = ap (λ (v : TableVersion). length v.table) (ap table_version c.in_ok-copy.ensures ∙ c.requires.version) in
    let limit = ap (λ s. s.limit) c.requires.listed.start in
    let within = newest_within c.args.manager.now c.kept.ensures in
    omega (arith, rows, limit, within)

pub returns-clause-listed : goal.returns-clause-listed
returns-clause-listed g c =
    let o = g.O.Opening.opened.manager in
    let m = c.args.manager.now in
    let l = c.requires.listed in
    let at = λ (list : List Item). IsListed o list m in
    either_way _ _ _ c.show.result c.show.ensures
    (λ more. subst at (sym more) (listed_same o c.args.self.now c.in_ok-copy.copy (Same c.of-shown.result) c.of-shown.ensures m l))
    (λ same. subst at (sym same) l)

pub show-requires-clause-item : goal.show-requires-clause-item
show-requires-clause-item g c = sym c.of-shown.ensures

pub returns-clause-list : goal.returns-clause-list
returns-clause-list g c =
    ok_more _ _ _ c.show.result c.show.ensures (λ more. (Same c.of-shown.result, c.of-shown.ensures ∙ c.in_ok-copy.ensures, more))
