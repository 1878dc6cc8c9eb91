-- The writes of one transaction over its snapshot.
use Rattle.std.specs.Prelude.{ℕ, Bool, true, false, cond, ◌&&◌, is_some, nat_le, List, [], ◌∷◌, length}
use Rattle.values.specs.Orders.{key_cmp}
use Rattle.values.specs.Shape.{Columns, key_of, fits_schema, key_fits_schema, cell_fits_schema}
use Rattle.values.specs.declared.row.Key.{Key}
use Rattle.model.specs.declared.write.Write.{Write}
use Rattle.model.specs.declared.write.Write.TheVariants.{Insert, Delete, Set}
use Rattle.model.specs.declared.write.WriteReply.{WriteReply}
use Rattle.model.specs.declared.write.WriteReply.TheVariants.{Done, Duplicate, Full, Missing}
use Rattle.model.specs.declared.effect.Effect.{Effect}
use Rattle.model.specs.declared.effect.Effect.TheVariants.{Ins, Del, Mod}
use Rattle.model.specs.Maps.{alter}
use Rattle.model.specs.Table.{Table, row_at}
use Rattle.model.specs.Effects.{Effects, table_with}
use Rattle.model.specs.Composition.{composed_effect}

-- whether a write may be asked for under the schema: its row, key and cell fit
abbrev pub write_fits_schema : Columns → Write → Bool
write_fits_schema schema (Insert row) = fits_schema schema row
write_fits_schema schema (Delete key) = key_fits_schema schema key
write_fits_schema schema (Set key col value) = key_fits_schema schema key && cell_fits_schema schema col value

-- the key that a write is about
abbrev pub key_of_write : ℕ → Write → Key
key_of_write key_cols (Insert row) = key_of key_cols row
key_of_write key_cols (Delete key) = key
key_of_write key_cols (Set key col value) = key

-- what a write does to its key where it is done
abbrev pub effect_of_write : Write → Effect
effect_of_write (Insert row) = Ins row
effect_of_write (Delete key) = Del
effect_of_write (Set key col value) = Mod ((col, value) ∷ [])

-- the reply under a row limit, where the key is, or isn't, in a table of `count` rows
abbrev pub reply_where : ℕ → Bool → ℕ → Write → WriteReply
reply_where limit there count (Insert row) = cond there Duplicate (cond (nat_le limit count) Full Done)
reply_where limit there count (Delete key) = cond there Done Missing
reply_where limit there count (Set key col value) = cond there Done Missing

abbrev pub is_done : WriteReply → Bool
is_done Done = true
is_done Duplicate = false
is_done Full = false
is_done Missing = false

module _ (key_cols limit : ℕ) (t : Table) where
  -- the reply to a write after these effects
  abbrev pub reply_to : Effects → Write → WriteReply
  reply_to effects write =
      let image = table_with t effects in
      reply_where limit (is_some (row_at image (key_of_write key_cols write))) (length image) write

  -- the effects after a write: where it is done, it comes after what was done to its key
  abbrev pub effects_after : Effects → Write → Effects
  effects_after effects write =
      cond (is_done (reply_to effects write))
      (alter key_cmp (key_of_write key_cols write) (composed_effect (effect_of_write write)) effects) effects

  -- the replies to writes in order
  abbrev pub replies_to : Effects → List Write → List WriteReply
  replies_to effects [] = []
  replies_to effects (write ∷ writes) = reply_to effects write ∷ replies_to (effects_after effects write) writes

  -- and the effects that they leave
  abbrev pub effects_after_all : Effects → List Write → Effects
  effects_after_all effects [] = effects
  effects_after_all effects (write ∷ writes) = effects_after_all (effects_after effects write) writes
