-- What a lent value says.
use Rattle.values.specs.declared.value.Value.{Value}
use Rattle.values.specs.declared.value.Value.TheVariants.{Int, Text, Bool as Truth}
use Rattle.values.specs.declared.value.ValueRef.{ValueRef}
use Rattle.values.specs.declared.value.ValueRef.TheVariants as lent

-- the value that is lent
abbrev pub value_of : ValueRef → Value
value_of (lent.Int x) = Int x
value_of (lent.Text text) = Text text.now
value_of (lent.Bool x) = Truth x
