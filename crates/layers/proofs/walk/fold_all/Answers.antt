use Rattle.std.proofs.Common.{◌≡◌, ℕ, ◌<◌, ◌^◌, ◌∷◌, [], ◌++◌, List, length, ap, ◌∙◌, sym, subst, arith}
use Rattle.std.specs.List.{All}
use Rattle.std.proofs.lemmas.List.Elements.{All-tail}
use Rattle.model.specs.declared.entry.Entry.{Entry}
use Rattle.model.specs.Entries.{IsLawful}
use Rattle.model.specs.Folding.{fold_from, folded_entries}
use Rattle.layers.specs.Over.{AreConsecutive}
use Rattle.layers.proofs.WalkLemmas.{is_composed, is_lawful}
use Rattle.layers.proofs.walk.fold_all.Goals as goal

pub loop-entry-preserved : goal.loop-entry-preserved
loop-entry-preserved c =
    let inv = c.loop-entry.invariant in
    let old = c.loop-entry.walk in
    let new = c.fold.new.self in
    let e = c.in-Some.entry.now in
    let left = c.next.new.self in
    let steps : c.loop-entry.entry-iterator ≡ e ∷ left = c.in-Some.ensures.steps in
    let key_cols : new.key_cols ≡ c.args.lower.now.key_cols = c.fold.ensures.key_cols ∙ inv.key_cols in
    record {
      folded =
          ap (λ (k : ℕ). new.out.items ++ fold_from k left new.added new.gone new.uppers) (sym key_cols)
          ∙ c.in_ok-fold.ensures.folded left
          ∙ (λ i. old.out.items ++ fold_from (inv.key_cols i) (sym steps i) old.added old.gone old.uppers)
          ∙ inv.folded;
      lowers =
          All-tail (λ (x : Entry). x.sid < 2 ^ 32) e left (subst (λ (es : List Entry). All (λ x. x.sid < 2 ^ 32) es) steps inv.lowers);
      uppers = c.in_ok-fold.ensures.placed;
      few = omega (arith, inv.few, c.in_ok-fold.ensures.few, ap length steps);
      key_cols = key_cols;
    }

pub from_shared-requires : goal.from_shared-requires
from_shared-requires c =
    let lower = c.args.lower.now in
    let upper = c.args.upper.now in
    let inv = c.loop-entry.invariant in
    let here = c.loop-entry.walk in
    let out = c.put_rest.new.self.out.items in
    let none : c.loop-entry.entry-iterator ≡ [] = c.in-None.ensures.steps.0 in
    let rest : fold_from here.key_cols [] here.added here.gone here.uppers
    ≡ fold_from lower.key_cols c.loop-entry.entry-iterator here.added here.gone here.uppers =
    λ i. fold_from (inv.key_cols i) (sym none i) here.added here.gone here.uppers in
    let is : out ≡ folded_entries lower.key_cols lower.entries upper.entries =
    c.in_ok-put_rest.ensures ∙ ap (λ (es : List Entry). here.out.items ++ es) rest ∙ inv.folded in
    let law = is_lawful lower upper c.requires (c.folds_to_composed.ensures c.requires.schema) out is in
    subst (λ (n : ℕ). IsLawful n out) (sym c.key_cols-2.ensures) law

pub returns : goal.returns
returns c =
    let lower = c.args.lower.now in
    let upper = c.args.upper.now in
    let inv = c.loop-entry.invariant in
    let here = c.loop-entry.walk in
    let out = c.put_rest.new.self.out.items in
    let none : c.loop-entry.entry-iterator ≡ [] = c.in-None.ensures.steps.0 in
    let rest : fold_from here.key_cols [] here.added here.gone here.uppers
    ≡ fold_from lower.key_cols c.loop-entry.entry-iterator here.added here.gone here.uppers =
    λ i. fold_from (inv.key_cols i) (sym none i) here.added here.gone here.uppers in
    let is : out ≡ folded_entries lower.key_cols lower.entries upper.entries =
    c.in_ok-put_rest.ensures ∙ ap (λ (es : List Entry). here.out.items ++ es) rest ∙ inv.folded in
    let tree = c.in_ok-from_shared.field-0 in
    let made : tree ≡ record { key_cols = lower.key_cols; entries = out } =
    c.in_ok-from_shared.ensures ∙ (λ i. record { key_cols = c.key_cols-2.ensures i; entries = out }) in
    λ (w : AreConsecutive lower upper). is_composed lower upper w (c.folds_to_composed.ensures w.schema) out is tree made
