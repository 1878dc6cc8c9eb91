-- The text of a value.
use Rattle.std.specs.Prelude.{ℕ, Bool, true, false, List, codes}
use Rattle.std.specs.Fmt.{signed_decimal}
use Rattle.values.specs.declared.value.Value.{Value}
use Rattle.values.specs.declared.value.Value.TheVariants.{Int, Text, Bool as Truth}

abbrev pub truth_text : Bool → List ℕ
truth_text true = codes "true"
truth_text false = codes "false"

-- a number in decimal, a text as it stands, a truth by its name
abbrev pub cell_text : Value → List ℕ
cell_text (Int number) = signed_decimal number
cell_text (Text bytes) = bytes
cell_text (Truth truth) = truth_text truth
