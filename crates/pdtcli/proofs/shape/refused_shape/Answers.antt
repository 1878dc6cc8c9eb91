use Rattle.std.proofs.Common.{◌≡◌, ℕ, refl, sym, ◌∙◌}
use Rattle.values.specs.declared.fault.ShapeFault.{ShapeFault}
use Rattle.values.specs.declared.fault.ShapeFault.TheVariants.{WrongCount, WrongType, TextTooLong, NoSuchColumn, KeyColumn}
use Rattle.pdtcli.proofs.ToldLemmas.{IsToldShape, told_of}
use Rattle.pdtcli.proofs.shape.refused_shape.Goals as goal

-- no other fault is told
none_left : (fault : ShapeFault) → IsToldShape fault → (fault ≡ KeyColumn → ⊥) → ((cell : ℕ) → fault ≡ TextTooLong cell → ⊥) → ⊥
none_left WrongCount told not_key not_long = absurd told
none_left (WrongType col) told not_key not_long = absurd told
none_left (TextTooLong cell) told not_key not_long = not_long cell refl
none_left NoSuchColumn told not_key not_long = absurd told
none_left KeyColumn told not_key not_long = not_key refl

pub unreachable-requires : goal.unreachable-requires
unreachable-requires c =
    let told = told_of c.args.schema.now c.args.write.now c.in-Err.fault c.requires.typed (sym c.check_shape.ensures.fault ∙ c.in-Err.is) in
    none_left c.in-Err.fault told c.in_default.not-KeyColumn c.in_default.not-TextTooLong
