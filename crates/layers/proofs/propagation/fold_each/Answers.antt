use Rattle.std.proofs.Common.{Bor, is_some, false, true, inl, inr, ◌≡◌, ℕ, suc, List, Option, Some, [], ◌∷◌, ◌++◌, length, map}
use Rattle.std.proofs.Common.{take, ap, sym, ◌∙◌, refl, arith}
use Rattle.std.specs.Prelude.{slice_get}
use Rattle.std.specs.Option.{option_copied}
use Rattle.std.proofs.Common.{length-append}
use Rattle.std.proofs.lemmas.Bool.{cases_lt}
use Rattle.std.proofs.lemmas.List.{length-map, map-append, take_all}
use Rattle.delta.specs.declared.SharedEntry.{SharedEntry}
use Rattle.model.specs.declared.entry.Entry.{Entry}
use Rattle.layers.specs.Over.{AreConsecutive}
use Rattle.layers.proofs.RestLemmas.{tree_from, walk_is, step}
use Rattle.layers.proofs.propagation.fold_each.Goals as goal

-- the last of the first entries is there, and stands at the index of their number less one
last_of : (xs : List (Option Entry)) (o : Option Entry) (es : List Entry)
    → xs ++ o ∷ [] ≡ map (λ x. Some x) (take (suc (length xs)) es)
    → (xs ≡ map (λ x. Some x) (take (length xs) es)) × (slice_get es (length xs) ≡ o) × (is_some o ≡ true)
last_of [] o [] h = cc
last_of [] o (y ∷ es) h = let same : Some y ≡ o = cc in (refl, same, sym (ap is_some same))
last_of (x ∷ xs) o [] h = cc
last_of (x ∷ xs) o (y ∷ es) h =
    let first : x ≡ Some y = cc in
    let others : xs ++ o ∷ [] ≡ map (λ x. Some x) (take (suc (length xs)) es) = cc in
    let rest = last_of xs o es others in
    ((λ i. first i ∷ rest.0 i), rest.1, rest.2)

-- what is known of the entry that comes next, and of those that are left
record IsLast (es : List Entry) (n : ℕ) (left : List (Option (Bor SharedEntry))) (o : Option Entry) : Type 0 where
  pub count : n ≡ suc (length left)
  pub uppers : map option_copied left ≡ map (λ x. Some x) (take (length left) es)
  pub at : slice_get es (length left) ≡ o
  pub some : is_some o ≡ true

popped : (es : List Entry) (all left : List (Option (Bor SharedEntry))) (last : Option (Bor SharedEntry)) → all ≡ left ++ last ∷ []
    → map option_copied all ≡ map (λ x. Some x) (take (length all) es) → IsLast es (length all) left (option_copied last)
popped es all left last split h =
    let xs : List (Option Entry) = map option_copied left in
    let short : length xs ≡ length left = length-map left option_copied in
    let count : length all ≡ suc (length left) = omega (arith, ap length split, length-append left (last ∷ [])) in
    let whole = sym (map-append option_copied left (last ∷ [])) ∙ sym (ap (map option_copied) split) ∙ h
    ∙ ap (λ (n : ℕ). map (λ x. Some x) (take n es)) (count ∙ ap suc (sym short)) in
    let own = last_of xs (option_copied last) es whole in
    record {
      count = count;
      uppers = own.0 ∙ ap (λ (n : ℕ). map (λ x. Some x) (take n es)) short;
      at = ap (slice_get es) (sym short) ∙ own.1;
      some = own.2;
    }

pub loop-last-init : goal.loop-last-init
loop-last-init c =
    let lower = c.args.lower.now in
    let upper = c.args.upper.now in
    let copied : c.in_ok-tree.tree ≡ lower = c.in_ok-tree.ensures in
    let same = c.in_ok-uppers.ensures in
    let count : length c.in_ok-uppers.uppers.items ≡ length upper.entries =
    sym (length-map c.in_ok-uppers.uppers.items option_copied) ∙ ap length same ∙ length-map upper.entries (λ x. Some x) in
    record {
      uppers = same ∙ ap (λ (es : List Entry). map (λ x. Some x) es) (sym (take_all _ _ (omega (arith, count))));
      folded = λ (w : AreConsecutive lower upper). copied ∙ walk_is lower upper w ∙ ap (tree_from lower upper w) (sym count);
    }

pub unreachable-requires : goal.unreachable-requires
unreachable-requires c =
    let p = popped c.args.upper.now.entries c.loop-last.uppers.items c.pop.new.self.items c.in-Some.last c.in-Some.ensures.items
    c.loop-last.invariant.uppers in
    let none : is_some (option_copied c.in-Some.last) ≡ false = ap (λ o. is_some (option_copied {T = SharedEntry} o)) c.in_default-last.is
    in
    let no : false ≡ true = sym none ∙ p.some in
    cc

pub fold_entry-requires : goal.fold_entry-requires
fold_entry-requires c =
    let lower = c.args.lower.now in
    let upper = c.args.upper.now in
    let p = popped upper.entries c.loop-last.uppers.items c.pop.new.self.items c.in-Some.last c.in-Some.ensures.items
    c.loop-last.invariant.uppers in
    let at = p.at ∙ ap option_copied c.in-Some-last.is in
    (step lower upper c.requires _ c.loop-last.tree c.in-Some-last.upper.now
    (c.loop-last.invariant.folded c.requires ∙ ap (tree_from lower upper c.requires) p.count) at).0

pub loop-last-preserved : goal.loop-last-preserved
loop-last-preserved c =
    let lower = c.args.lower.now in
    let upper = c.args.upper.now in
    let p = popped upper.entries c.loop-last.uppers.items c.pop.new.self.items c.in-Some.last c.in-Some.ensures.items
    c.loop-last.invariant.uppers in
    let at = p.at ∙ ap option_copied c.in-Some-last.is in
    record {
      uppers = p.uppers;
      folded = λ (w : AreConsecutive lower upper).
          let made = step lower upper w _ c.loop-last.tree c.in-Some-last.upper.now
          (c.loop-last.invariant.folded w ∙ ap (tree_from lower upper w) p.count) at in
          c.in_ok-fold_entry.ensures.ok made.0 ∙ made.1;
    }

pub returns : goal.returns
returns c =
    let lower = c.args.lower.now in
    let upper = c.args.upper.now in
    let none : length c.loop-last.uppers.items ≡ 0 = elim (cases_lt 0 (length c.loop-last.uppers.items)) [
      | inl lt ↦ let no : false ≡ true = c.in_default.ensures.variant.1 lt in cc
      | inr le ↦ omega arith
    ] in
    λ (w : AreConsecutive lower upper). c.loop-last.invariant.folded w ∙ ap (tree_from lower upper w) none
