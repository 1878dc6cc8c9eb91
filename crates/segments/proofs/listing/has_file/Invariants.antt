use Rattle.std.proofs.Common.{drop, map}
use Rattle.segments.specs.Listing.{HasFile}
use Rattle.segments.proofs.listing.has_file.Given as goal

-- where it is there, it is yet to come
abbrev pub invariant-loop-name : goal.invariant-loop-name
invariant-loop-name l = HasFile (map (λ n. n.now) l.names) l.number → HasFile (map (λ n. n.now) (drop l.name-index l.names)) l.number
