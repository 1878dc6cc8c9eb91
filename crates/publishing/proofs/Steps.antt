-- The steps of the rule.
use Rattle.std.proofs.Common.{◌≡◌, ℕ, ◌≢◌, List, [], ◌∷◌, ◌++◌, fold, set, refl, sym, ap, ◌∙◌, subst, ⊎_elim, Option, Some, None}
use mathlib.Core.Option.{some}
use lib.ListN.{get_elem?}
use Rattle.crossbeam_utils.specs.Register.{Admits, TurnsAt, Forks, Merges}
use Rattle.atomic_table.proofs.Lists.{at_set, at_snoc}
use Rattle.publishing.specs.declared.item.Item.{Item}
use Rattle.publishing.specs.Lists.{Known}
use Rattle.publishing.specs.Views.{AllBegin, Begins, BeginsIf, SeesAll}
use Rattle.publishing.proofs.Beginnings.{prefix_self, prefix_trans}

-- what is known begins with itself
pub begins_self : (x : Known) → Begins x x
begins_self x = (refl, prefix_self x.list)

pub begins_trans : (v : Option Known) (x y : Known) → BeginsIf v x → Begins x y → BeginsIf v y
begins_trans (Some k) x y p q = (p.0 ∙ q.0, prefix_trans k.list x.list y.list p.1 q.1)
begins_trans None x y p q = tt

-- a seat that has seen nothing may come
pub admits : Admits AllBegin None
admits x views h seat v at =
    ⊎_elim (h seat v) (λ (e : None ≡ v). subst (λ (u : Option Known). BeginsIf u x) e tt) (at_snoc views None v seat at)

set_keeps : (x : Known) (views : List (Option Known)) (seat : ℕ) (v : Option Known) → AllBegin x views → BeginsIf v x
    → AllBegin x (set views seat v)
set_keeps x views seat v h own j u e =
    ⊎_elim (λ (t : (j ≡ seat) × (v ≡ u)). subst (λ (w : Option Known). BeginsIf w x) t.1 own)
    (λ (t : (j ≢ seat) × (get_elem? views j ≡ some u)). h j u t.1) (at_set views seat j v u e)

-- a list that only grows keeps the rule, and the seat has then seen it
pub sees : (seat : ℕ) (v : Option Known) (x y : Known) → Begins x y → TurnsAt AllBegin seat v x y SeesAll
sees seat v x y grows views h at = (
  Some y,
  set_keeps y views seat (Some y) (λ j u e. begins_trans u x y (h j u e) grows) (begins_self y),
  (begins_trans v x y (h seat v at) grows, refl),
)

-- the writer tells, and keeps what it knows
pub forks : (seat : ℕ) (v : Option Known) → Forks AllBegin seat v v v
forks seat v x views h at j u e =
    ⊎_elim (set_keeps x views seat v h (h seat v at) j u)
    (λ (same : v ≡ u). subst (λ (w : Option Known). BeginsIf w x) same (h seat v at)) (at_snoc (set views seat v) v u j e)

-- a seat takes in a note
pub merges : (seat : ℕ) (v : Option Known) (other : ℕ) (w : Option Known) → Merges AllBegin seat v other w w None
merges seat v other w x views h at apart there =
    let own : BeginsIf w x =
    ⊎_elim (λ (t : (other ≡ seat) × (w ≡ w)). absurd (apart t.0))
    (λ (t : (other ≢ seat) × (get_elem? views other ≡ some w)). h other w t.1) (at_set views seat other w w there) in
    set_keeps x (set views seat w) other None (set_keeps x views seat w h own) tt

-- of the operations that are pending only the last counts
pub fold_last : (a : Known) (ops : List Known) (op : Known) → fold (λ (known p : Known). p) a (ops ++ op ∷ []) ≡ op
fold_last a [] op = refl
fold_last a (o ∷ ops) op = fold_last o ops op

-- an item was added to what is shown
pub grows : (front shown next op : Known) (item : Item) (old ops : List Known) → shown ≡ front → ops ≡ old ++ op ∷ []
    → op.opening ≡ front.opening → op.list ≡ front.list ++ item ∷ []
    → next ≡ fold (λ (known p : Known). p) shown ops → (next ≡ op) × Begins shown next
grows front shown next op item old ops same pending book list is =
    let e : next ≡ op = is ∙ ap (λ (l : List Known). fold (λ (known p : Known). p) shown l) pending ∙ fold_last shown old op in (
      e,
      (
        ap (λ k. k.opening) same ∙ sym book ∙ ap (λ k. k.opening) (sym e),
        (item ∷ [], ap (λ (k : Known). k.list ++ item ∷ []) same ∙ sym list ∙ ap (λ k. k.list) (sym e)),
      ),
    )

-- what is shown next is the last of the operations that are pending
pub fold_last_is : (shown next op : Known) (old ops : List Known) → ops ≡ old ++ op ∷ []
    → next ≡ fold (λ (known p : Known). p) shown ops → next ≡ op
fold_last_is shown next op old ops pending is =
    is ∙ ap (λ (l : List Known). fold (λ (known p : Known). p) shown l) pending ∙ fold_last shown old op
