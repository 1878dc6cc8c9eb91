use Rattle.std.proofs.Common.{◌≡◌, ◌∙◌, ℕ, true, false, ltb, sym, rules}
use Rattle.std.specs.List.Sorted.{IsPartitionPoint}
use Rattle.std.proofs.lemmas.List.Sorted.{IsPartitionedBy-ltb, IsPartitionPoint-from_clause}
use Rattle.merge.specs.declared.packed.Patch.{Patch}
use Rattle.merge.proofs.PackedLemmas.{left_from-point, rest_of}
use Rattle.merge.proofs.packed.patches_at.Goals as goal

pub returns : goal.returns
returns c = λ sorted.
    let sid = c.args.sid in
    let xs = c.args.patches.now in
    let k = c.partition_point-passed.result in
    let sid_at : Patch → ℕ = λ p. p.sid in
    let cut : IsPartitionPoint (λ p. ltb (sid_at p) sid ≡ true) (λ p. ltb (sid_at p) sid ≡ false) xs k =
    IsPartitionPoint-from_clause (λ p. ltb (sid_at p) sid) xs k c.partition_point-passed.ensures.partitioned
    (IsPartitionedBy-ltb sid_at xs sid sorted) (λ a r f k.
    search rules) in
    rest_of xs k ∙ sym (left_from-point sid_at sid xs k c.partition_point-passed.ensures.bound cut)
