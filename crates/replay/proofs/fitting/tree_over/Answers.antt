use Rattle.std.proofs.Common.{◌≡◌, ℕ, ◌<◌, ◌≤◌, ◌^◌, true, T, List, length, sym, ap, ◌∙◌, subst, arith}
use Rattle.std.specs.Bool.{passes}
use Rattle.std.proofs.lemmas.List.{length-map}
use Rattle.std.proofs.lemmas.List.Elements.{All-weaker}
use Rattle.values.specs.Shape.{Columns}
use Rattle.model.specs.declared.entry.Entry.{Entry}
use Rattle.model.specs.Effects.{Effects, AreOver}
use Rattle.model.specs.Entries.{IsLawful, canonical_entries}
use Rattle.model.proofs.CallerLemmas.{ordered}
use Rattle.merge.specs.Image.{image_rows, image_table}
use Rattle.delta.specs.Tree.{Tree}
use Rattle.replay.specs.Fitting.{are_over}
use Rattle.replay.proofs.FittingLemmas.{effects_of_entries, entries_of_effects}
use Rattle.replay.proofs.fitting.tree_over.Goals.{After-are_over}
use Rattle.replay.proofs.fitting.tree_over.Goals as goal

-- the test is of the entries
tested : (c : After-are_over) → c.are_over.result ≡ are_over c.args.layers.now.schema (image_table c.args.layers.now) c.args.entries.items
tested c =
    c.are_over.ensures
    ∙ ap (are_over c.args.layers.now.schema (image_table c.args.layers.now)) c.as_slice.ensures.value

-- entries that pass are those of effects
found : (c : After-are_over) → c.are_over.result ≡ true → (x : Effects) × AreOver c.args.layers.now.schema (image_table c.args.layers.now) x
    × (c.args.entries.items ≡ canonical_entries (image_table c.args.layers.now) x)
found c yes_it =
    effects_of_entries c.args.layers.now.schema (image_table c.args.layers.now) c.len-count.ensures.table c.args.entries.items
    (passes (are_over c.args.layers.now.schema (image_table c.args.layers.now) c.args.entries.items)
    (sym (tested c) ∙ yes_it))

pub returns-then-not-are_over-clause-none : goal.returns-then-not-are_over-clause-none
returns-then-not-are_over-clause-none c = λ same x over is.
    let schema = c.args.layers.now.schema in
    let t = image_table c.args.layers.now in
    let may : T (are_over schema t c.args.entries.items) =
    subst (λ (es : List Entry). T (are_over schema t es)) (sym is) (entries_of_effects schema t x over) in
    let not_so = sym (tested (goal.at.returns-then-not-are_over-clause-none c).After-are_over) ∙ c.if-not-are_over.true in
    subst T not_so may

pub from_sorted-requires : goal.from_sorted-requires
from_sorted-requires c =
    let schema = c.args.layers.now.schema in
    let t = image_table c.args.layers.now in
    let x = found (goal.at.from_sorted-requires c).After-are_over c.if-not-are_over.false in
    let entries = ordered schema t x.0 x.1 in
    let few : length t ≡ length (image_rows c.args.layers.now) = length-map _ _ in
    let law : IsLawful schema.key_cols (canonical_entries t x.0) = record {
      ordered = entries.ordered;
      placed = All-weaker (λ e. e.sid ≤ length t) (λ e. e.sid < 2 ^ 32) (λ e le. omega (arith, le, few, c.requires.few))
          (canonical_entries t x.0) entries.placed;
      counted = subst (λ (es : List Entry). length es ≤ 2 ^ 40) x.2 c.requires.count;
    } in
    let cols = c.key_cols-key_cols.ensures.count ∙ ap (λ (s : Columns). s.key_cols) c.schema.ensures in
    subst (λ (e : ℕ × List Entry). IsLawful e.0 e.1) (sym (λ i. (cols i, x.2 i))) law

pub returns-clause-layer : goal.returns-clause-layer
returns-clause-layer c =
    let x = found (goal.at.returns-clause-layer c).After-are_over c.if-not-are_over.false in
    let cols = c.key_cols-key_cols.ensures.count ∙ ap (λ (s : Columns). s.key_cols) c.schema.ensures in
    record {
      key_cols = ap (λ (t : Tree). t.key_cols) c.in_ok-from_sorted.ensures ∙ cols;
      effects = x.0;
      over = x.1;
      entries = ap (λ (t : Tree). t.entries) c.in_ok-from_sorted.ensures ∙ x.2;
    }
