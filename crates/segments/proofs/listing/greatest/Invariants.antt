use Rattle.std.proofs.Common.{◌<◌, ◌≤◌, ◌⊎◌, ◌^◌, ℕ, drop, map}
use Rattle.std.specs.Option.{IfSome, IsSomeAnd}
use Rattle.segments.specs.Listing.{HasFile}
use Rattle.segments.proofs.listing.greatest.Given as goal

-- what was found is there, and each one that is there isn't greater, or is yet to come
abbrev pub invariant-loop-name : goal.invariant-loop-name
invariant-loop-name l = record {
  there : IfSome l.found (HasFile (map (λ n. n.now) l.names));
  so_far :
      (n : ℕ) → n < 2 ^ 64 → HasFile (map (λ n. n.now) l.names) n
      → IsSomeAnd l.found (λ m. n ≤ m) ⊎ HasFile (map (λ n. n.now) (drop l.name-index l.names)) n;
}
