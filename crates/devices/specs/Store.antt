-- What devices have taken, one beside the other.
use Rattle.std.specs.Prelude.{◌≡◌, ◌≢◌, ℕ, ◌<◌, nat_lt, Bool, List, [], ◌∷◌, ◌++◌, take, get_or}
use Rattle.std.specs.List.{list_any}
use Rattle.devices.specs.declared.fault.StoreFault.{StoreFault}
use Rattle.devices.specs.declared.fault.StoreFault.TheVariants.{WrongCount, StoreFailed, GenerationsSpent, NoMemory, DeviceFailed}

-- whether any of the devices has failed, by how often each has
abbrev pub have_failed : List ℕ → Bool
have_failed failures = list_any (λ n. nat_lt 0 n) failures

-- each of the contents with its piece after it, where there is one
abbrev pub appended : List (List ℕ) → List (List ℕ) → List (List ℕ)
appended contents [] = contents
appended [] (p ∷ pieces) = []
appended (c ∷ contents) (p ∷ pieces) = (c ++ p) ∷ appended contents pieces

-- the devices before number i have taken their pieces, that one some beginning of its piece, and the others nothing
abbrev pub StopsAt : ℕ → List (List ℕ) → List (List ℕ) → List (List ℕ) → Type 0
StopsAt i old pieces new = (n : ℕ) × (new ≡ appended old (take i pieces ++ take n (get_or pieces i []) ∷ []))

-- over so many devices no store of so many columns is made: their counts differ; else memory is refused, or one of the devices fails
abbrev pub IsNotMade : ℕ → ℕ → StoreFault → Type 0
IsNotMade devices columns WrongCount = devices ≢ columns
IsNotMade devices columns NoMemory = devices ≡ columns
IsNotMade devices columns (DeviceFailed i) = (devices ≡ columns) × (i < devices)
IsNotMade devices columns StoreFailed = ⊥
IsNotMade devices columns GenerationsSpent = ⊥
