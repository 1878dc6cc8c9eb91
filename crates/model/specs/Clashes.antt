-- Which effects of two transactions can't both be kept.
use Rattle.std.specs.Prelude.{Bool, true, false, IsTrue, Option, Some, None, is_some}
use Rattle.std.specs.Ordering.{nat_cmp}
use Rattle.std.specs.List.{list_any}
use Rattle.values.specs.Orders.{key_cmp}
use Rattle.model.specs.declared.effect.Effect.{Effect}
use Rattle.model.specs.declared.effect.Effect.TheVariants.{Ins, Mod}
use Rattle.model.specs.declared.clash.ConflictRule.{ConflictRule}
use Rattle.model.specs.declared.clash.ConflictRule.TheVariants.{ByColumn, ByRow}
use Rattle.model.specs.Maps.{find}
use Rattle.model.specs.Effects.{Cells, Effects}

-- whether two modifies on one key clash: by column where they share one, by row always
abbrev pub modifies_clash : ConflictRule → Cells → Cells → Bool
modifies_clash ByColumn cells others = list_any (λ c. is_some (find nat_cmp c.0 others)) cells
modifies_clash ByRow cells others = true

module _ (rule : ConflictRule) where
  -- whether two effects on one key clash: two inserts do, an insert and another don't, two modifies do as the rule says,
  -- and two others always do
  abbrev pub clashes : Effect → Option Effect → Bool
  clashes x None = false
  clashes (Ins row) (Some (Ins other)) = true
  clashes (Ins row) (Some y) = false
  clashes x (Some (Ins row)) = false
  clashes (Mod cells) (Some (Mod others)) = modifies_clash rule cells others
  clashes x (Some y) = true

  -- whether they do on some key
  abbrev pub conflicts : Effects → Effects → Bool
  conflicts x y = list_any (λ e. clashes e.1 (find key_cmp e.0 y)) x

  abbrev pub Conflicts : Effects → Effects → Type 0
  Conflicts x y = IsTrue (conflicts x y)
