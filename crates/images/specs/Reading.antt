-- Why the number of an image isn't known.
use Rattle.std.specs.Prelude.{◌≡◌, ℕ, ◌+◌, None, Some, List, length}
use Rattle.journal.specs.Frame.{Logged}
use Rattle.journal.specs.Reading.{Read}
use Rattle.journal.specs.declared.frame.Ending.{Ending}
use Rattle.journal.specs.declared.frame.Ending.TheVariants.{End, Torn, Rot, Gap}
use Rattle.images.specs.Mark.{bad_mark, number_in}
use Rattle.images.specs.declared.fault.ImagesFault.{ImagesFault}
use Rattle.images.specs.declared.fault.ImagesFault.TheVariants as fault

-- a journal may end so after a crash
abbrev pub MayEnd : Ending → Type 0
MayEnd End = Unit {0}
MayEnd Torn = Unit {0}
MayEnd Rot = ⊥
MayEnd Gap = ⊥

-- a fault of frames that were read: the first of them that is no mark, or else there is no mark of the generation
abbrev pub IsLate : ImagesFault → ℕ → List Logged → Type 0
IsLate (fault.Rot n) generation logged = ⊥
IsLate (fault.Gap n) generation logged = ⊥
IsLate (fault.BadMark n) generation logged = bad_mark logged ≡ Some n
IsLate (fault.Unmarked g) generation logged = (g ≡ generation) × (bad_mark logged ≡ None) × (number_in generation logged ≡ None)
IsLate fault.NoMemory generation logged = ⊥

-- the first frame that isn't read is damaged though it was safe, or another one stands in its place; or what was read has a fault
abbrev pub IsUnknown : ImagesFault → ℕ → ℕ → Read → Type 0
IsUnknown (fault.Rot n) base generation read = (read.ending ≡ Rot) × (n ≡ base + 1 + length read.logged)
IsUnknown (fault.Gap n) base generation read = (read.ending ≡ Gap) × (n ≡ base + 1 + length read.logged)
IsUnknown (fault.BadMark n) base generation read = MayEnd read.ending × IsLate (fault.BadMark n) generation read.logged
IsUnknown (fault.Unmarked g) base generation read = MayEnd read.ending × IsLate (fault.Unmarked g) generation read.logged
IsUnknown fault.NoMemory base generation read = Unit {0}
