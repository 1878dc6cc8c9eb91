use Rattle.std.proofs.Common.{◌≡◌, ℕ, ◌≤◌, List, map, length, sym, ap, ◌∙◌, subst, arith}
use Rattle.model.specs.declared.entry.Entry.{Entry}
use Rattle.model.specs.Entries.{IsLawful, entry_cmp}
use Rattle.model.specs.Rebasing.{first_clash_from, rebased_entry}
use Rattle.delta.specs.Tree.{Tree}
use Rattle.layers.specs.Over.{AreAligned}
use Rattle.layers.specs.Passing.{put_entries}
use Rattle.layers.specs.Serialization.{IsClashBeside}
use Rattle.layers.proofs.PassLemmas.{ready_next}
use Rattle.layers.proofs.SerialLemmas.{is_at, none_dropped, clear_next, clash_here, moved_next, none_left, all_taken, small_sid, clash_is}
use Rattle.layers.proofs.SerialLemmas.{in_order}
use Rattle.layers.proofs.SerialLemmas.{none_if, some_if, put_all, conflicting, unconflicting, rebased_is, lawful}
use Rattle.layers.proofs.rebase.serialize.Goals as goal
use Rattle.std.proofs.lemmas.Grind.{common_steps}

pub find-found-requires-clause-ready : goal.find-found-requires-clause-ready
find-found-requires-clause-ready c =
    grind (arith, common_steps, c.loop-entry.invariant.left, c.in-Some.ensures.steps, c.loop-entry.invariant.ready, is_at)

pub find-found-requires-clause-sid : goal.find-found-requires-clause-sid
find-found-requires-clause-sid c =
    let x = c.args.x.now in
    let e = c.in-Some.entry.now in
    let here = is_at c.loop-entry.index x.entries c.next.new.self e (sym c.loop-entry.invariant.left ∙ c.in-Some.ensures.steps) in
    small_sid c.args.rule x c.args.y.now c.requires c.loop-entry.index e here.at

pub returns-in-Some-clash : goal.returns-in-Some-clash
returns-in-Some-clash c =
    let x = c.args.x.now in
    let y = c.args.y.now in
    let n = c.loop-entry.index in
    let e = c.in-Some.entry.now in
    let here = is_at n x.entries c.next.new.self e (sym c.loop-entry.invariant.left ∙ c.in-Some.ensures.steps) in
    let beside =
    subst (λ (t : Tree). IsClashBeside c.args.rule t.key_cols n e t.entries c.find-found.result.clash) c.loop-entry.invariant.tree
    c.find-found.ensures.clash in
    let clash = c.in-Some-clash.clash in
    let own = clash_is c.args.rule x y c.requires n e beside.0 here.at beside.1 ∙ sym beside.2 ∙ c.in-Some-clash.is in
    let found = c.loop-entry.invariant.clear ∙ clash_here c.args.rule y.key_cols n x.entries y.entries e clash here.at own in
    λ (w : AreAligned x y). conflicting c.args.rule x y w clash found

pub put-requires : goal.put-requires
put-requires c = grind (arith, common_steps, c.loop-entry.invariant.left, c.in-Some.ensures.steps, is_at)

pub loop-entry-preserved : goal.loop-entry-preserved
loop-entry-preserved c =
    let x = c.args.x.now in
    let y = c.args.y.now in
    let n = c.loop-entry.index in
    let e = c.in-Some.entry.now in
    let inv = c.loop-entry.invariant in
    let found = c.find-found.ensures in
    let here = is_at n x.entries c.next.new.self e (sym inv.left ∙ c.in-Some.ensures.steps) in
    let beside =
    subst (λ (t : Tree). IsClashBeside c.args.rule t.key_cols n e t.entries c.find-found.result.clash) inv.tree found.clash in
    let own = clash_is c.args.rule x y c.requires n e beside.0 here.at beside.1 ∙ sym beside.2 ∙ c.in_default.is in
    let rid = found.rid ∙ ap (λ (t : Tree). (rebased_entry t.key_cols t.entries e).sid) inv.tree in
    let tree = found.tree ∙ inv.tree in
    let out = put_entries n x.entries c.loop-entry.entries.items in
    record {
      left = here.left_is;
      within = here.within;
      tree = tree;
      ready = λ (z : Entry) next.
          let below = in_order c.args.rule x y c.requires n e z here.at next in
          ready_next c.args.rule c.find-found.new.self e z (ap (λ (t : Tree). entry_cmp t.key_cols e z) tree ∙ below) found.ready;
      moved = c.in_ok-put.ensures ∙ moved_next y.key_cols n c.find-found.result.rid x.entries y.entries out e here.at rid inv.moved;
      clear = inv.clear ∙ clear_next c.args.rule y.key_cols n x.entries y.entries e here.at own;
    }

pub returns-then-is_empty : goal.returns-then-is_empty
returns-then-is_empty c =
    let x = c.args.x.now in
    let y = c.args.y.now in
    let n = c.loop-entry.index in
    let inv = c.loop-entry.invariant in
    let end : length x.entries ≤ n = none_dropped n x.entries (sym inv.left ∙ c.in-None.ensures.steps.0) in
    let rest = ap (λ (es : List Entry). first_clash_from c.args.rule y.key_cols n es y.entries) (none_left n x.entries end) in
    let none = inv.clear ∙ rest in
    let whole = all_taken n x.entries end in
    let still = none_if c.loop-entry.entries.len c.loop-entry.entries.items c.loop-entry.entries.ok.0
    (sym c.is_empty.ensures ∙ c.if-is_empty.true) in
    let all = sym whole ∙ ap (put_entries n x.entries) (sym still) ∙ inv.moved ∙ ap (map (rebased_entry y.key_cols y.entries)) whole in
    λ (w : AreAligned x y).
    (unconflicting c.args.rule x y w none, rebased_is c.args.rule x y w c.in_ok-copy.field-0 x.entries none all c.in_ok-copy.ensures)

pub from_shared-requires : goal.from_shared-requires
from_shared-requires c =
    let x = c.args.x.now in
    let y = c.args.y.now in
    let n = c.loop-entry.index in
    let inv = c.loop-entry.invariant in
    let out = c.loop-entry.entries.items in
    let end : length x.entries ≤ n = none_dropped n x.entries (sym inv.left ∙ c.in-None.ensures.steps.0) in
    let rest = ap (λ (es : List Entry). first_clash_from c.args.rule y.key_cols n es y.entries) (none_left n x.entries end) in
    let none = inv.clear ∙ rest in
    let moved = put_all n x.entries out
    (some_if c.loop-entry.entries.len out c.loop-entry.entries.ok.0 (sym c.is_empty.ensures ∙ c.if-is_empty.false)) in
    let all = moved ∙ inv.moved ∙ ap (map (rebased_entry y.key_cols y.entries)) (all_taken n x.entries end) in
    let law = lawful c.args.rule x y c.requires out none all in
    subst (λ (k : ℕ). IsLawful k out) (sym c.key_cols.ensures) law

pub returns : goal.returns
returns c =
    let x = c.args.x.now in
    let y = c.args.y.now in
    let n = c.loop-entry.index in
    let inv = c.loop-entry.invariant in
    let out = c.loop-entry.entries.items in
    let end : length x.entries ≤ n = none_dropped n x.entries (sym inv.left ∙ c.in-None.ensures.steps.0) in
    let rest = ap (λ (es : List Entry). first_clash_from c.args.rule y.key_cols n es y.entries) (none_left n x.entries end) in
    let none = inv.clear ∙ rest in
    let moved = put_all n x.entries out
    (some_if c.loop-entry.entries.len out c.loop-entry.entries.ok.0 (sym c.is_empty.ensures ∙ c.if-is_empty.false)) in
    let all = moved ∙ inv.moved ∙ ap (map (rebased_entry y.key_cols y.entries)) (all_taken n x.entries end) in
    let tree = c.in_ok-from_shared.field-0 in
    let tree_is : tree ≡ record { key_cols = x.key_cols; entries = out } =
    c.in_ok-from_shared.ensures ∙ (λ i. record { key_cols = c.key_cols.ensures i; entries = out }) in
    λ (w : AreAligned x y). (unconflicting c.args.rule x y w none, rebased_is c.args.rule x y w tree out none all tree_is)
