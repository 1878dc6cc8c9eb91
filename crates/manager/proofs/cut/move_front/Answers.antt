use Rattle.std.proofs.Common.{◌≡◌, ℕ, zero, suc, ◌+◌, ◌-◌, ◌≤◌, Some, List, [], ◌∷◌, ◌++◌, length, take, drop, sym, ap, ◌∙◌, arith}
use Rattle.std.specs.Prelude.{slice_get}
use Rattle.std.proofs.lemmas.List.{drop-drop, length-append, length-take-le}
use Rattle.circular_buffer.specs.Buffer.{Buffer, buffer, keep_last}
use Rattle.delta.specs.Tree.{Tree}
use Rattle.manager.proofs.cut.move_front.Goals as goal

-- the first elements, with the next one
take_next : (xs : List Tree) (k : ℕ) (x : Tree) → slice_get (drop k xs) 0 ≡ Some x → take (suc k) xs ≡ take k xs ++ x ∷ []
take_next [] zero x is = cc is
take_next [] (suc k) x is = cc is
take_next (y ∷ xs) zero x is = let same : y ≡ x = cc is in ap (λ z. z ∷ []) same
take_next (y ∷ xs) (suc k) x is = ap (λ ys. y ∷ ys) (take_next xs k x is)

-- where there is room for all of them all are kept
keep_all : (xs : List Tree) (n : ℕ) → length xs ≤ n → keep_last n xs ≡ xs
keep_all xs n few = let none : length xs - n ≡ 0 = omega (arith, few) in ap (λ m. drop m xs) none

pub loop-moved-preserved : goal.loop-moved-preserved
loop-moved-preserved c =
    let xs = c.args.from.now.items in
    let room = c.args.from.now.capacity in
    let k = c.loop-moved.moved in
    let tree = c.unwrap-tree.result in
    let before = c.loop-moved.invariant in
    let one : suc k ≡ k + 1 = omega arith in
    let from : c.loop-moved.from.items ≡ drop k xs = ap (λ (b : Buffer Tree). b.items) before.left in
    let to : c.loop-moved.to.items ≡ take k xs = ap (λ (b : Buffer Tree). b.items) before.moved in
    let wide : c.loop-moved.to.capacity ≡ room = ap (λ (b : Buffer Tree). b.capacity) before.moved in
    let found : slice_get (drop k xs) 0 ≡ Some tree =
    ap (λ (ts : List Tree). slice_get ts 0) (sym from) ∙ sym c.pop_front.ensures.value ∙ c.unwrap-tree.ensures in
    let next : take k xs ++ tree ∷ [] ≡ take (k + 1) xs = sym (take_next xs k tree found) ∙ ap (λ n. take n xs) one in
    let few = length-append (take k xs) (tree ∷ []) in
    let taken = length-take-le k xs (omega (arith, c.requires.few, c.loop-moved-test.true)) in
    record {
      moved =
          c.push_back.ensures.items
          ∙ (λ i. buffer (keep_last (wide i) (to i ++ tree ∷ [])) (wide i))
          ∙ ap (λ (ts : List Tree). buffer ts room)
          (keep_all (take k xs ++ tree ∷ []) room (omega (arith, few, taken, c.requires.room, c.loop-moved-test.true)) ∙ next);
      left =
          c.pop_front.ensures.items
          ∙ (λ i. buffer (drop 1 (from i)) ((before.left i).capacity))
          ∙ ap (λ (ts : List Tree). buffer ts room) (drop-drop 1 k xs);
    }
