-- The rule of what is published: it begins with all that each reader has seen.
use Rattle.std.specs.Prelude.{ℕ, ◌≡◌, List, Option, Some, None}
use mathlib.Core.Option.{some}
use mathlib.Core.List.{IsPrefix}
use lib.ListN.{get_elem?}
use Rattle.publishing.specs.Lists.{Opened, Known}

-- the same opening, and a list that begins with the other
abbrev pub Begins : Known → Known → Type 0
Begins known whole = (known.opening ≡ whole.opening) × IsPrefix known.list whole.list

-- of a reader that has seen nothing yet nothing is said
abbrev pub BeginsIf : Option Known → Known → Type 0
BeginsIf (Some known) whole = Begins known whole
BeginsIf None whole = Unit {0}

-- what is published begins with what each reader has seen
abbrev pub AllBegin : Known → List (Option Known) → Type 0
AllBegin whole views = (seat : ℕ) (view : Option Known) → get_elem? views seat ≡ some view → BeginsIf view whole

-- what a reader sees is what is then published, which begins with what it had seen
abbrev pub SeesAll : Option Known → Known → Known → Option Known → Type 0
SeesAll before old new after = BeginsIf before new × (after ≡ Some new)

-- a reader has seen a list of the opening
abbrev pub IsOf : Opened → Option Known → Type 0
IsOf opening (Some known) = opening ≡ known.opening
IsOf opening None = ⊥
