-- Words that serve proofs alone.
use Rattle.std.specs.Prelude.{ℕ, Option, Some, None, List, ◌∷◌, ◌++◌, take, drop}
use Rattle.model.specs.declared.entry.Entry.{Entry}
use Rattle.model.specs.declared.effect.Effect.{Effect}
use Rattle.model.specs.declared.effect.Effect.TheVariants as effect
use Rattle.delta.specs.declared.by_sid.BaseChange.{BaseChange}
use Rattle.delta.specs.declared.by_sid.BaseChange.TheVariants.{Kept, Modified, Deleted}

-- the entries with this one in the place of those from `start` up to `end`
abbrev pub with_run : List Entry → ℕ → ℕ → Entry → List Entry
with_run entries start end e = take start entries ++ e ∷ drop end entries

-- what an effect makes of the base row of its key, where it inserts none
abbrev pub effect_on_base : Option Effect → BaseChange
effect_on_base None = Kept
effect_on_base (Some (effect.Ins row)) = Kept
effect_on_base (Some effect.Del) = Deleted
effect_on_base (Some (effect.Mod cells)) = Modified
effect_on_base (Some (effect.Rep row)) = Deleted
