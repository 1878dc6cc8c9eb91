-- One transaction's effects after another's, as those of one transaction.
use Rattle.std.specs.Prelude.{Option, Some, None, [], ◌∷◌}
use Rattle.std.specs.Ordering.{nat_cmp}
use Rattle.values.specs.Orders.{key_cmp}
use Rattle.model.specs.declared.effect.Effect.{Effect}
use Rattle.model.specs.declared.effect.Effect.TheVariants.{Ins, Del, Mod, Rep}
use Rattle.model.specs.Maps.{put, alter_all}
use Rattle.model.specs.Effects.{Cells, set_cells, Effects}

-- the later cells, and the first where those say nothing
abbrev pub over_cells : Cells → Cells → Cells
over_cells cells [] = cells
over_cells cells (c ∷ later) = over_cells (put nat_cmp c.0 c.1 cells) later

-- the later effect after what was done to the key before, where anything was. The last line doesn't occur
abbrev pub composed_effect : Effect → Option Effect → Option Effect
composed_effect later None = Some later
composed_effect Del (Some (Ins row)) = None
composed_effect (Mod cells) (Some (Ins row)) = Some (Ins (set_cells cells row))
composed_effect (Rep row) (Some (Ins before)) = Some (Ins row)
composed_effect (Ins row) (Some Del) = Some (Rep row)
composed_effect Del (Some (Mod before)) = Some Del
composed_effect (Mod cells) (Some (Mod before)) = Some (Mod (over_cells before cells))
composed_effect (Rep row) (Some (Mod before)) = Some (Rep row)
composed_effect Del (Some (Rep before)) = Some Del
composed_effect (Mod cells) (Some (Rep row)) = Some (Rep (set_cells cells row))
composed_effect (Rep row) (Some (Rep before)) = Some (Rep row)
composed_effect later (Some before) = Some before

-- the effects of X and then of F, key by key
abbrev pub composed_effects : Effects → Effects → Effects
composed_effects x f = alter_all key_cmp composed_effect f x
