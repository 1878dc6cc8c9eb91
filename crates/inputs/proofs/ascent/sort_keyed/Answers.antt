use Rattle.std.proofs.Common.{rules, is_lt}
use Rattle.std.proofs.lemmas.Fn.{always_returns_same}
use Rattle.std.proofs.lemmas.List.Sorted.{IsPermutation-trans}
use Rattle.inputs.specs.Filling.{keyed_cmp}
use Rattle.inputs.proofs.NumberLemmas.{key_number_cmp, keyed_cmp_weak, key_number_cmp_weak, keys-sorted}
use Rattle.inputs.proofs.ascent.sort_keyed.Goals as goal

pub returns-then-are_keys_apart-clause-sorted : goal.returns-then-are_keys_apart-clause-sorted
returns-then-are_keys_apart-clause-sorted c =
    let up =
    c.sort_unstable_by.ensures.sorted (λ a b. is_lt (key_number_cmp a b)) key_number_cmp_weak
    (always_returns_same _ _ _ (λ a r q k. search rules)) in
    keys-sorted c.sort_unstable_by.new.self.items up (rw c.as_slice.ensures.value at (c.are_keys_apart.ensures c.if-are_keys_apart.true))

pub returns-clause-each_once : goal.returns-clause-each_once
returns-clause-each_once c = IsPermutation-trans _ _ _ c.sort_unstable_by.ensures.permutation c.in_ok-sort_by.ensures.permutation

pub returns-clause-sorted : goal.returns-clause-sorted
returns-clause-sorted c =
    c.in_ok-sort_by.ensures.sorted (λ a b. is_lt (keyed_cmp a b)) keyed_cmp_weak (always_returns_same _ _ _ (λ a r q k. search rules))
