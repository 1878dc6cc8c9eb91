use Rattle.std.proofs.Common.{◌≡◌, ℕ, true, false, cond, ◌&&◌, ◌||◌, List, [], ◌∷◌, filter, refl, sym, ap, ◌∙◌}
use Rattle.std.specs.Prelude.{◌==◌}
use Rattle.std.specs.List.{list_any}
use Rattle.model.specs.declared.entry.Entry.{Entry}
use Rattle.model.specs.Entries.{is_delete}
use Rattle.delta.specs.Lookups.{has_delete}
use Rattle.test_codec.proofs.trees.is_deleted.Goals as goal

-- a delete at a SID is one of the entries there
has_delete-filter : (sid : ℕ) (es : List Entry) → has_delete sid es ≡ list_any (λ e. is_delete e.change) (filter (λ e. e.sid == sid) es)
has_delete-filter sid [] = refl
has_delete-filter sid (e ∷ es) =
    let rest = has_delete-filter sid es in
    let others = filter (λ x. x.sid == sid) es in
    elim (e.sid == sid) as
    (λ b. ((b && is_delete e.change) || has_delete sid es) ≡ list_any (λ x. is_delete x.change) (cond b (e ∷ others) others)) [
      | true ↦ ap (λ r. is_delete e.change || r) rest
      | false ↦ rest
    ]

pub loop-entry-init : goal.loop-entry-init
loop-entry-init c =
    has_delete-filter c.args.sid c.args.tree.now.entries
    ∙ ap (list_any (λ (e : Entry). is_delete e.change))
    (sym (c.into_iter-entry-iterator.ensures.into_iter_gives ∙ c.entries_at-entry-items.ensures))
