use Rattle.std.proofs.Common.{◌≡◌, suc, ◌++◌, ◌∷◌, [], List, refl, sym, ap, ◌∙◌, length, subst, arith}
use Rattle.std.specs.Option.{option_copied}
use Rattle.model.specs.declared.write.CommitReply.{CommitReply}
use Rattle.manager.specs.Layers.{AreWritten}
use Rattle.txn.specs.Txn.{Transaction, effects_of}
use Rattle.txn.specs.Version.{LayeredVersion, TableVersion, table_version}
use Rattle.manager.specs.Managed.{newest_number, record_of, with_record}
use Rattle.publishing.specs.declared.item.Item.{Item}
use Rattle.publishing.specs.declared.item.Item.TheVariants.{Commits}
use Rattle.publishing.specs.Commits.{commit_of}
use Rattle.publishing.specs.Lists.{IsListed, shown_in}
use Rattle.publishing.proofs.CallerLemmas.{granted_within, listed_commit, listed_refused, shown_in-push, version_commit}
use Rattle.shared.specs.Stands.{IsGrown, IsShownAfter}
use Rattle.shared.proofs.ShowLemmas.{granted_when, leaves_none, leaves_when, on_ok, shown_none, written_when}
use Rattle.shared.proofs.publisher.Publisher.show_commit.Goals as goal

pub returns-in_default-clause-listed : goal.returns-in_default-clause-listed
returns-in_default-clause-listed g c =
    let m = c.args.manager.now in
    let txn = c.args.txn.now in
    let p = c.args.prepared.now in
    let none = sym c.version.ensures ∙ ap option_copied c.in_default.is in
    let leaves = leaves_when m txn p.reply p.granted c.requires.prepared.installed none in
    listed_refused g.O.Opening.opened.manager c.args.self.now m c.requires.listed c.kept.ensures txn c.begin.ensures.lawful c.requires.own
    p.reply c.requires.prepared.due (leaves_none (commit_of txn) p.reply leaves)

pub show-requires-clause-version : goal.show-requires-clause-version
show-requires-clause-version g c =
    let m = c.args.manager.now in
    let txn = c.args.txn.now in
    let p = c.args.prepared.now in
    let some = sym c.version.ensures ∙ ap option_copied c.in-Some.is in
    let granted = granted_when m txn p.reply p.granted c.in-Some.version.now c.requires.prepared.installed some in
    let is = ap (λ (t : Transaction). commit_of t ∷ []) c.of.ensures in
    version_commit g.O.Opening.opened.manager c.args.self.now m c.requires.listed (Commits c.of.result c.of-shown.result) txn is
    (table_version c.in_ok-copy.copy) (ap table_version c.in_ok-copy.ensures ∙ granted.1)

pub show-requires-clause-within : goal.show-requires-clause-within
show-requires-clause-within g c =
    let m = c.args.manager.now in
    let txn = c.args.txn.now in
    let p = c.args.prepared.now in
    let some = sym c.version.ensures ∙ ap option_copied c.in-Some.is in
    let granted = granted_when m txn p.reply p.granted c.in-Some.version.now c.requires.prepared.installed some in
    let due = sym granted.0 ∙ c.requires.prepared.due in
    let within = granted_within m c.kept.ensures txn c.begin.ensures.lawful c.requires.own (suc (newest_number m)) due in
    let rows = ap (λ (v : TableVersion). length v.table) (ap table_version c.in_ok-copy.ensures ∙ granted.1) in
    let limit = ap (λ s. s.limit) c.requires.listed.start in
    omega (arith, within, rows, limit)

pub returns-clause-listed : goal.returns-clause-listed
returns-clause-listed g c =
    let o = g.O.Opening.opened.manager in
    let m = c.args.manager.now in
    let txn = c.args.txn.now in
    let p = c.args.prepared.now in
    let list = c.args.self.now in
    let item = Commits c.of.result c.of-shown.result in
    let some = sym c.version.ensures ∙ ap option_copied c.in-Some.is in
    let granted = granted_when m txn p.reply p.granted c.in-Some.version.now c.requires.prepared.installed some in
    let due = sym granted.0 ∙ c.requires.prepared.due in
    let is = ap (λ (t : Transaction). commit_of t ∷ []) c.of.ensures in
    let next =
    listed_commit o list m c.requires.listed c.kept.ensures txn c.begin.ensures.lawful c.requires.own item refl is
    (suc (newest_number m)) due in
    let now = subst (λ (r : CommitReply). IsListed o (list ++ item ∷ []) (with_record m (record_of txn r))) (sym granted.0) next in
    on_ok _ _ _ c.show.result c.show.ensures
    (λ more. subst (λ (l : List Item). IsListed o l (with_record m (record_of txn p.reply))) (sym more) now)

pub returns-clause-grown : goal.returns-clause-grown
returns-clause-grown g c =
    let m = c.args.manager.now in
    let txn = c.args.txn.now in
    let p = c.args.prepared.now in
    let list = c.args.self.now in
    let new = c.show.new.self in
    let some = sym c.version.ensures ∙ ap option_copied c.in-Some.is in
    let granted = granted_when m txn p.reply p.granted c.in-Some.version.now c.requires.prepared.installed some in
    let is = ap (λ (t : Transaction). commit_of t ∷ []) c.of.ensures in
    let item = Commits c.of.result c.of-shown.result in
    let grown = λ (more : new ≡ list ++ item ∷ []). subst (IsGrown list new txn) (sym granted.0) (item, more, is) in
    on_ok _ _ _ c.show.result c.show.ensures grown

pub show-requires-clause-item : goal.show-requires-clause-item
show-requires-clause-item g c = sym c.of-shown.ensures

pub returns-in_default-clause-shown : goal.returns-in_default-clause-shown
returns-in_default-clause-shown g c =
    let m = c.args.manager.now in
    let txn = c.args.txn.now in
    let p = c.args.prepared.now in
    let none = sym c.version.ensures ∙ ap option_copied c.in_default.is in
    shown_none g.O.Opening.opened.manager m.layers (effects_of txn) c.args.self.now p.reply
    (leaves_when m txn p.reply p.granted c.requires.prepared.installed none)

pub returns-clause-shown : goal.returns-clause-shown
returns-clause-shown g c =
    let o = g.O.Opening.opened.manager in
    let m = c.args.manager.now in
    let txn = c.args.txn.now in
    let p = c.args.prepared.now in
    let list = c.args.self.now in
    let item = Commits c.of.result c.of-shown.result in
    let some = sym c.version.ensures ∙ ap option_copied c.in-Some.is in
    let granted = granted_when m txn p.reply p.granted c.in-Some.version.now c.requires.prepared.installed some in
    let written = written_when m txn p.reply p.granted c.in-Some.version.now c.requires.prepared.installed some in
    let last =
    λ (more : c.show.new.self ≡ list ++ item ∷ []). ap (shown_in o) more ∙ shown_in-push o list item ∙ c.of-shown.ensures ∙ c.in_ok-copy.ensures in
    let shown = λ (more : c.show.new.self ≡ list ++ item ∷ []).
    subst (λ (r : CommitReply). IsShownAfter o m.layers (effects_of txn) r c.show.new.self) (sym granted.0)
    (subst (AreWritten m.layers (effects_of txn)) (sym (ap (λ (v : LayeredVersion). v.layers) (last more))) written) in
    on_ok _ _ _ c.show.result c.show.ensures shown
