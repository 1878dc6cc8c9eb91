use Rattle.std.proofs.Common.{◌≡◌, ◌-◌, drop, length, map, Ok}
use Rattle.inputs.specs.Plain.{with_key}
use Rattle.inputs.proofs.plain.move_key.Given as goal

-- the last names' columns stand before the others
abbrev pub invariant-loop-i : goal.invariant-loop-i
invariant-loop-i l =
    with_key (length l.key - l.i) (drop (length l.key - l.i) (map (λ name. name.now) l.key)) l.fn.headings.items
    ≡ Ok (record { places = l.moved.items; headings = l.headings.items })
