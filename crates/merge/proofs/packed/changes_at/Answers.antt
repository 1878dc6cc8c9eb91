use Rattle.std.proofs.Common.{◌≡◌, ◌∙◌, ◌+◌, true, false, List, length, take, drop, ltb, sym, ap, subst, arith, rules}
use Rattle.std.specs.List.Sorted.{IsNonDecreasingBy, IsPartitionPoint}
use Rattle.std.proofs.lemmas.List.Sorted.{IsPartitionedBy-ltb, IsPartitionPoint-from_clause}
use Rattle.merge.specs.Packed.{left_from, place_of, row_changes_from, rows_in}
use Rattle.merge.specs.declared.packed.RowChange.{RowChange}
use Rattle.merge.proofs.PackedLemmas.{changes_from_place, left_from-point, places_ascend, rest_of}
use Rattle.merge.proofs.packed.changes_at.Goals as goal

pub returns : goal.returns
returns c = λ entries is.
    let place = c.args.place in
    let xs = c.args.changes.now in
    let k = c.partition_point-passed.result in
    let sorted = subst (λ (ys : List RowChange). IsNonDecreasingBy place_of ys) (sym is) (places_ascend 0 0 entries) in
    let cut : IsPartitionPoint (λ x. ltb (place_of x) place ≡ true) (λ x. ltb (place_of x) place ≡ false) xs k =
    IsPartitionPoint-from_clause (λ x. ltb (place_of x) place) xs k c.partition_point-passed.ensures.partitioned
    (IsPartitionedBy-ltb place_of xs place sorted) (λ a r f k.
    search rules) in
    let none : 0 + length (rows_in (take place entries)) ≡ length (rows_in (take place entries)) = omega arith in
    let same : 0 + place ≡ place = omega arith in
    rest_of xs k
    ∙ sym (left_from-point place_of place xs k c.partition_point-passed.ensures.bound cut)
    ∙ ap (left_from place_of place) is
    ∙ ap (λ n. left_from place_of n (row_changes_from 0 0 entries)) (sym same)
    ∙ changes_from_place 0 0 place entries
    ∙ (λ i. row_changes_from (none i) (same i) (drop place entries))
