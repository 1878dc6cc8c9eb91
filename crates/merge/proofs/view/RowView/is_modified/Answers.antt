use Rattle.std.proofs.Common.{◌≡◌, ◌∙◌, false, Option, Some, None, is_some, refl, sym, ap, arith}
use Rattle.std.specs.Option.{option_map}
use Rattle.values.specs.Lent.{value_of}
use Rattle.values.specs.declared.value.ValueRef.{ValueRef}
use Rattle.merge.proofs.ModifiedLemmas.{kept_over, own_over}
use Rattle.merge.proofs.view.RowView.is_modified.Goals as goal
use Rattle.std.proofs.lemmas.Grind.{common_steps}

is_some-mapped : (o : Option ValueRef) → is_some o ≡ is_some (option_map value_of o)
is_some-mapped None = refl
is_some-mapped (Some value) = refl

none_mapped : (o : Option ValueRef) → is_some o ≡ false → option_map value_of o ≡ None
none_mapped None e = refl
none_mapped (Some value) e = cc

pub returns-clause-is : goal.returns-clause-is
returns-clause-is c = c.is_some.ensures ∙ is_some-mapped c.modified_value.result ∙ ap is_some c.modified_value.ensures

pub returns-clause-kept : goal.returns-clause-kept
returns-clause-kept c = grind (arith, common_steps, c.modified_value.ensures, c.is_some.ensures, kept_over, none_mapped)

pub returns-clause-own : goal.returns-clause-own
returns-clause-own c = λ so. own_over c.args.self.now c.args.col (sym (returns-clause-is c) ∙ so)
