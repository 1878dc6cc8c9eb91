use Rattle.std.proofs.Common.{◌≡◌, ℕ, List, take, drop, sym, ap, ◌∙◌, subst}
use Rattle.std.proofs.lemmas.Float.{T_from_true}
use Rattle.model.specs.declared.entry.Entry.{Entry}
use Rattle.model.specs.Entries.{IsLawful}
use Rattle.counted.specs.Sums.{total}
use Rattle.delta.specs.Tree.{Tree}
use Rattle.delta.specs.Search.{stands_before, IsClosed, IsSplit}
use Rattle.delta.proofs.SearchLemmas.{parted}
use Rattle.delta.proofs.CountedLemmas.{split_from_place}
use Rattle.delta.proofs.tree.DeltaTree.place.Goals as goal

pub returns : goal.returns
returns g c =
    let k = c.self.inside.key_cols in
    let xs = c.self.inside.tree.entries in
    let cmp = g.P.Probe.stand c.args.probe.now in
    let n = c.place.result.index in
    let whole : xs ≡ c.args.self.now.entries = ap (λ (t : Tree). t.entries) c.self.view_is in
    let width : k ≡ c.args.self.now.key_cols = ap (λ (t : Tree). t.key_cols) c.self.view_is in
    let closed : IsClosed k cmp = subst (λ (w : ℕ). IsClosed w cmp) (sym width) c.requires in
    let split = split_from_place (stands_before cmp c.args.sid) xs n
    (parted k cmp closed c.args.sid xs (T_from_true _ c.self.invariant.ordered)) c.place.ensures.place in
    record {
      lawful = subst (λ (w : Tree). IsLawful w.key_cols w.entries) c.self.view_is c.self.invariant;
      split = subst (λ (es : List Entry). IsSplit (stands_before cmp c.args.sid) es n) whole split;
      shift = c.place.ensures.shift ∙ ap (λ (es : List Entry). total (take n es)) whole;
      rest = c.place.ensures.rest ∙ ap (λ (es : List Entry). drop n es) whole;
    }
