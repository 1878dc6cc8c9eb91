-- The rule of the book that keeps the published list, and what its one step tells.
use Rattle.std.specs.Prelude.{ℕ, ◌≡◌, ◌+◌, ◌==◌, true, List, [], ◌∷◌, ◌++◌, length, MatchBool}
use Rattle.logbook.specs.Pages.{Cell, Step, View, Book, Named}
use Rattle.publishing.specs.declared.item.Item.{Item}

-- the book's one word is the number of items after the opening
abbrev pub IsCounted : List Cell → List Item → Type 0
IsCounted cells log = (n : ℕ) × (length log ≡ n + 1) × (cells ≡ (n, true) ∷ [])

-- the word of a book
abbrev pub counter_of : Book → Named
counter_of book = record { tracked = true; key = 0; book = book }

-- the item was added to all that had been seen; or the list was longer
abbrev pub Adds : Step Item → View Item ℕ → ℕ → View Item ℕ → Type 0
Adds step before found after = MatchBool (found == step.old) (after.0 ≡ before.0 ++ step.ask ∷ []) (Unit {0})
