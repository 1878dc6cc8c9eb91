use Rattle.std.proofs.Common.{◌≡◌, ◌+◌, Bool, true, false, ◌&&◌, ◌||◌, List, [], ◌∷◌, ◌++◌, length, ap, ◌∙◌, refl}
use Rattle.std.specs.List.{list_all, list_any}
use Rattle.std.proofs.lemmas.List.{length_push}
use Rattle.values.specs.Shape.{has_type, is_too_long}
use Rattle.values.specs.declared.value.Value.{Value}
use Rattle.test_structures.proofs.payloads.samples.Goals as goal

all_push : (p : Value → Bool) (xs : List Value) (x : Value) → list_all p xs ≡ true → p x ≡ true → list_all p (xs ++ x ∷ []) ≡ true
all_push p [] x h px = rw px refl
all_push p (y ∷ xs) x h px = by (p y) h (λ e. all_push p xs x e px)
  where
    by : (b : Bool) → (b && list_all p xs) ≡ true → (list_all p xs ≡ true → list_all p (xs ++ x ∷ []) ≡ true)
        → (b && list_all p (xs ++ x ∷ [])) ≡ true
    by true h push = push h
    by false h push = absurd cc

any_push : (p : Value → Bool) (xs : List Value) (x : Value) → list_any p xs ≡ false → p x ≡ false → list_any p (xs ++ x ∷ []) ≡ false
any_push p [] x h px = rw px refl
any_push p (y ∷ xs) x h px = by (p y) h (λ e. any_push p xs x e px)
  where
    by : (b : Bool) → (b || list_any p xs) ≡ false → (list_any p xs ≡ false → list_any p (xs ++ x ∷ []) ≡ false)
        → (b || list_any p (xs ++ x ∷ [])) ≡ false
    by false h push = push h
    by true h push = absurd cc

pub loop-i-preserved : goal.loop-i-preserved
loop-i-preserved c =
    let so_far = c.loop-i.invariant in
    let items = c.loop-i.values.items in
    let value = c.in_ok-value.value in
    rw c.in_ok-push.ensures.items (record {
      counted = length_push items value ∙ ap (λ n. n + 1) so_far.counted;
      typed = all_push (has_type c.args.ty) items value so_far.typed c.in_ok-value.ensures.typed;
      short = any_push is_too_long items value so_far.short c.in_ok-value.ensures.short;
    })
