use Rattle.std.proofs.Common.{◌≡◌, ℕ, zero, suc, ◌<◌, false, [], ◌∷◌, length, ap, ◌∙◌, arith, w64}
use Rattle.std.specs.Prelude.{ℤ, ◌==◌}
use Rattle.std.proofs.lemmas.List.{take_more_set}
use Rattle.std.proofs.lemmas.Int.{to_z-of_z}
use Rattle.values.specs.Lent.{value_of}
use Rattle.pdt_c.specs.Cells.{number_of}
use Rattle.pdt_c.proofs.shown_cells.put_cell.Goals as goal

some : (n : ℕ) → false ≡ (n == 0) → 0 < n
some zero h = cc
some (suc n) h = omega arith

pub returns-then-needed-texts-clause-numbers : goal.returns-then-needed-texts-clause-numbers
returns-then-needed-texts-clause-numbers c = λ done.
    let numbers = c.args.numbers.now in
    let v = value_of c.args.value in
    let number : _ ≡ number_of v = to_z-of_z w64 c.number_of.result (record { sfits = c.number_of.type_inv }) ∙ c.number_of.ensures in
    take_more_set numbers 0 _ (some (length numbers) c.if-is_empty.ensures) ∙ ap (λ (x : ℤ). x ∷ []) number
