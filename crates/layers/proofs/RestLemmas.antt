-- The effects of the entries of a tree from a place on, and those of a lower tree with them.
use Rattle.std.proofs.Common.{◌≡◌, ℕ, zero, suc, ◌+◌, ◌≤◌, ◌^◌, Bool, true, false, cond, T, Option, Some, None, List, [], ◌∷◌, rules}
use Rattle.std.proofs.Common.{length, take, drop, nat_cmp, Less, Equal, is_lt, refl, sym, ap}
use Rattle.std.proofs.Common.{◌∙◌, subst, arith, take-append-drop}
use Rattle.std.specs.Prelude.{IsTrue, slice_get, nat_le}
use Rattle.std.specs.Bool.{passes}
use Rattle.std.specs.List.{list_all}
use Rattle.std.specs.Ordering.{eq_by_cmp}
use Rattle.std.specs.Cmp.{nat_cmp_total, tied_itself}
use Rattle.std.specs.FinMap.{nat_cmp-IsAntisymmetric}
use Rattle.std.specs.FinMap.Entries.{below_all, find-put, is_sorted-put}
use Rattle.values.specs.Orders.{key_cmp, key_cmp_total, key_cmp-IsAntisymmetric}
use Rattle.values.specs.Shape.{Columns, key_of, cell_fits_schema}
use Rattle.values.specs.declared.row.Row.{Row}
use Rattle.values.specs.declared.row.Key.{Key}
use Rattle.values.specs.declared.value.Value.{Value}
use Rattle.model.specs.declared.entry.Entry.{Entry}
use Rattle.model.specs.declared.entry.Change.{Change}
use Rattle.model.specs.declared.entry.Change.TheVariants.{Ins, Del, Mod}
use Rattle.model.specs.declared.effect.Effect.{Effect}
use Rattle.model.specs.declared.effect.Effect.TheVariants as effect
use Rattle.model.specs.Maps.{find, put, is_sorted}
use Rattle.model.specs.Table.{Table, row_at, rank, is_keyed_table}
use Rattle.model.specs.Effects.{Cells, Effects, AreOver, is_keyed_effect, are_keyed_effects}
use Rattle.model.specs.Effects.{effect_fits_schema, fits, all_fit, row_after, table_with}
use Rattle.model.specs.Composition.{over_cells, composed_effect, composed_effects}
use Rattle.model.specs.Entries.{entry_at, canonical_entries}
use Rattle.model.specs.Places.{insert_count}
use Rattle.model.proofs.CallerLemmas.{first, second, both, less, turn_less, is_below, changed_by, holds_at, each_at, find_below, set_cells_move, same_key}
use Rattle.model.proofs.CallerLemmas.{find_first, find-alter, sorted-alter, same_map, cells_ascend, row_at-table_with}
use Rattle.model.proofs.CallerLemmas.{effect_at-composed_effects, sorted-composed_effects, inserts_of, deletes_of, sum_below}
use Rattle.model.proofs.CallerLemmas.{rank-table_with, composes}
use Rattle.delta.specs.Tree.{Tree}
use Rattle.delta.proofs.CallerLemmas.{insert_count-append, inserts_less_deletes, length-entries_over}
use Rattle.layers.specs.Over.{tree_of, AreConsecutive}
use Rattle.layers.specs.Propagation.{IsNext, IsOfKey, cell_fits, effect_of_change, effects_with, next_tree}
use Rattle.layers.proofs.ClashLemmas.{equal}
use Rattle.std.proofs.lemmas.Grind.{common_steps}

-- ---- effects below a key

-- no key is below one that is below them all
sum_none : (count : Effect → ℕ) (k : Key) (ys : Effects) → T (below_all key_cmp k ys) → sum_below count k ys ≡ 0
sum_none count k [] h = refl
sum_none count k (e ∷ ys) h =
    let apart : is_below e.0 k ≡ false = ap is_lt (turn_less key_cmp_total k e.0 (less _ (first (is_lt (key_cmp k e.0)) _ h))) in
    ap (λ b. cond b (count e.1) 0 + sum_below count k ys) apart ∙ ap (λ n. 0 + n) (sum_none count k ys (second (is_lt (key_cmp k e.0)) _ h))

sum_at : (count : Effect → ℕ) (e : Key × Effect) (ys : Effects) → T (below_all key_cmp e.0 ys) → sum_below count e.0 (e ∷ ys) ≡ 0
sum_at count e ys h =
    ap (λ r. cond (is_lt r) (count e.1) 0 + sum_below count e.0 ys) (tied_itself key_cmp_total e.0) ∙ ap (λ n. 0 + n)
    (sum_none count e.0 ys h)

-- ---- the first entry of effects, and the rest

-- the change of an effect's first entry
abbrev pub first_change : Key → Effect → Change
first_change k (effect.Ins row) = Ins row
first_change k effect.Del = Del k
first_change k (effect.Mod []) = Del k
first_change k (effect.Mod (c ∷ cells)) = Mod c.0 c.1
first_change k (effect.Rep row) = Ins row

-- what the effect's other entries are
abbrev pub rest_effect : Effect → Option Effect
rest_effect (effect.Ins row) = None
rest_effect effect.Del = None
rest_effect (effect.Mod []) = None
rest_effect (effect.Mod (c ∷ [])) = None
rest_effect (effect.Mod (c ∷ d ∷ cells)) = Some (effect.Mod (d ∷ cells))
rest_effect (effect.Rep row) = Some effect.Del

abbrev pub with_maybe : Key → Option Effect → Effects → Effects
with_maybe k None f = f
with_maybe k (Some g) f = (k, g) ∷ f

-- the effects of all entries but the first
abbrev pub rest_of : Effects → Effects
rest_of [] = []
rest_of (e ∷ f) = with_maybe e.0 (rest_effect e.1) f

-- and of those from a place on
abbrev pub rest_after : ℕ → Effects → Effects
rest_after zero f = f
rest_after (suc n) f = rest_of (rest_after n f)

canonical-first : (key_cols : ℕ) (t : Table) (e : Key × Effect) (f : Effects) → T (is_keyed_effect key_cols e.0 e.1)
    → canonical_entries t (e ∷ f) ≡ entry_at (rank e.0 t) (first_change e.0 e.1) ∷ canonical_entries t (rest_of (e ∷ f))
canonical-first key_cols t e f keyed = search rules

-- ---- the rest are effects over the same table

is_true : (b : Bool) → T b → IsTrue b
is_true true h = refl
is_true false h = absurd h

pub over_rest : (schema : Columns) (t : Table) (f : Effects) → AreOver schema t f → AreOver schema t (rest_of f)
over_rest schema t [] h = h
over_rest schema t (e ∷ f) h = search rules

-- ---- cells

put_first : (c : ℕ × Value) (cells : Cells) → T (below_all nat_cmp c.0 cells) → put nat_cmp c.0 c.1 cells ≡ c ∷ cells
put_first c [] h = refl
put_first c (d ∷ cells) h = grind (arith, common_steps)

differ : (c d : ℕ) → nat_cmp c d ≡ Less → c ≡ d → ⊥
differ c d p e = let q : nat_cmp c d ≡ Equal = ap (nat_cmp c) (sym e) ∙ tied_itself nat_cmp_total c in cc

-- cells of two columns are put in alike in either order
put-put : (c d : ℕ) (v u : Value) (m : Cells) → nat_cmp c d ≡ Less → T (is_sorted nat_cmp m)
    → put nat_cmp d u (put nat_cmp c v m) ≡ put nat_cmp c v (put nat_cmp d u m)
put-put c d v u m p h =
    same_map nat_cmp nat_cmp_total nat_cmp-IsAntisymmetric _ _
    (is_sorted-put nat_cmp nat_cmp_total d u (put nat_cmp c v m) (is_sorted-put nat_cmp nat_cmp_total c v m h))
    (is_sorted-put nat_cmp nat_cmp_total c v (put nat_cmp d u m) (is_sorted-put nat_cmp nat_cmp_total d u m h))
    (λ q.
    find-put nat_cmp nat_cmp_total q d u (put nat_cmp c v m)
    ∙ ap (cond (eq_by_cmp nat_cmp q d) (Some u)) (find-put nat_cmp nat_cmp_total q c v m)
    ∙ either q (eq_by_cmp nat_cmp q c) (eq_by_cmp nat_cmp q d) refl refl
    ∙ sym (find-put nat_cmp nat_cmp_total q c v (put nat_cmp d u m)
    ∙ ap (cond (eq_by_cmp nat_cmp q c) (Some v)) (find-put nat_cmp nat_cmp_total q d u m)))
  where
    either : (q : ℕ) (x y : Bool) → eq_by_cmp nat_cmp q c ≡ x → eq_by_cmp nat_cmp q d ≡ y
        → cond y (Some u) (cond x (Some v) (find nat_cmp q m)) ≡ cond x (Some v) (cond y (Some u) (find nat_cmp q m))
    either q true true e f =
        absurd (differ c d p (sym (nat_cmp-IsAntisymmetric q c (equal (nat_cmp q c) e))
        ∙ nat_cmp-IsAntisymmetric q d (equal (nat_cmp q d) f)))
    either q true false e f = refl
    either q false true e f = refl
    either q false false e f = refl

-- the cells of a column below the later ones may be put in last
over_put : (c : ℕ × Value) (later b : Cells) → T (below_all nat_cmp c.0 later) → T (is_sorted nat_cmp b)
    → over_cells (put nat_cmp c.0 c.1 b) later ≡ put nat_cmp c.0 c.1 (over_cells b later)
over_put c [] b h s = refl
over_put c (d ∷ later) b h s =
    ap (λ m. over_cells m later) (put-put c.0 d.0 c.1 d.1 b (less _ (first (is_lt (nat_cmp c.0 d.0)) _ h)) s)
    ∙ over_put c later (put nat_cmp d.0 d.1 b) (second (is_lt (nat_cmp c.0 d.0)) _ h) (is_sorted-put nat_cmp nat_cmp_total d.0 d.1 b s)

-- ---- the first entry comes after the rest

-- a later effect is its first entry's after the rest of it
composed-first : (key_cols : ℕ) (k : Key) (g : Effect) (old : Option Effect) (row : Option Row) → T (is_keyed_effect key_cols k g)
    → T (holds_at cells_ascend old) → T (fits (changed_by row_after old row) g) →
    composed_effect g old ≡ composed_effect (effect_of_change (first_change k g)) (changed_by composed_effect (rest_effect g) old)
composed-first key_cols k (effect.Ins new) old row h asc fit = refl
composed-first key_cols k effect.Del old row h asc fit = refl
composed-first key_cols k (effect.Mod []) old row h asc fit = absurd h
composed-first key_cols k (effect.Mod (c ∷ [])) old row h asc fit = refl
composed-first key_cols k (effect.Mod (c ∷ d ∷ cells)) old row h asc fit = by old asc
  where
    below : T (below_all nat_cmp c.0 (d ∷ cells))
    below =
        first (below_all nat_cmp c.0 (d ∷ cells)) (is_sorted nat_cmp (d ∷ cells))
        (first (is_sorted nat_cmp (c ∷ d ∷ cells)) (list_all (λ x. nat_le key_cols x.0) (c ∷ d ∷ cells)) h)

    by : (o : Option Effect) → T (holds_at cells_ascend o)
        → composed_effect (effect.Mod (c ∷ d ∷ cells)) o ≡ composed_effect (effect.Mod (c ∷ []))
        (composed_effect (effect.Mod (d ∷ cells)) o)
    by None a = ap (λ m. Some (effect.Mod m)) (sym (put_first c (d ∷ cells) below))
    by (Some (effect.Ins r)) a = ap (λ r. Some (effect.Ins r)) (set_cells_move c.0 c.1 (d ∷ cells) r below)
    by (Some effect.Del) a = refl
    by (Some (effect.Mod b)) a = ap (λ m. Some (effect.Mod m)) (over_put c (d ∷ cells) b below a)
    by (Some (effect.Rep r)) a = ap (λ r. Some (effect.Rep r)) (set_cells_move c.0 c.1 (d ∷ cells) r below)
composed-first key_cols k (effect.Rep new) None row h asc fit = refl
composed-first key_cols k (effect.Rep new) (Some (effect.Ins r)) row h asc fit = refl
composed-first key_cols k (effect.Rep new) (Some effect.Del) row h asc fit = absurd fit
composed-first key_cols k (effect.Rep new) (Some (effect.Mod b)) row h asc fit = refl
composed-first key_cols k (effect.Rep new) (Some (effect.Rep r)) row h asc fit = refl

-- it fits what the rest leaves
fits-first : (key_cols : ℕ) (k : Key) (g : Effect) (old : Option Row) → T (is_keyed_effect key_cols k g) → T (fits old g)
    → T (fits (changed_by row_after (rest_effect g) old) (effect_of_change (first_change k g)))
fits-first key_cols k (effect.Ins new) old h fit = fit
fits-first key_cols k effect.Del old h fit = fit
fits-first key_cols k (effect.Mod []) old h fit = absurd h
fits-first key_cols k (effect.Mod (c ∷ [])) old h fit = fit
fits-first key_cols k (effect.Mod (c ∷ d ∷ cells)) None h fit = absurd fit
fits-first key_cols k (effect.Mod (c ∷ d ∷ cells)) (Some r) h fit = tt
fits-first key_cols k (effect.Rep new) None h fit = absurd fit
fits-first key_cols k (effect.Rep new) (Some r) h fit = tt

own-first : (key_cols : ℕ) (k : Key) (g : Effect) → T (is_keyed_effect key_cols k g) → IsOfKey key_cols k (first_change k g)
own-first key_cols k (effect.Ins row) h = sym (same_key k (key_of key_cols row) h)
own-first key_cols k effect.Del h = refl
own-first key_cols k (effect.Mod []) h = refl
own-first key_cols k (effect.Mod (c ∷ cells)) h = tt
own-first key_cols k (effect.Rep row) h = sym (same_key k (key_of key_cols row) h)

cell-first : (schema : Columns) (k : Key) (g : Effect) → T (effect_fits_schema schema g) → T (cell_fits schema (first_change k g))
cell-first schema k (effect.Ins row) h = tt
cell-first schema k effect.Del h = tt
cell-first schema k (effect.Mod []) h = tt
cell-first schema k (effect.Mod (c ∷ cells)) h = first (cell_fits_schema schema c.0 c.1) _ h
cell-first schema k (effect.Rep row) h = tt

-- ---- with a lower tree's effects

find_maybe : (k : Key) (g : Option Effect) (f : Effects) → T (below_all key_cmp k f) → find key_cmp k (with_maybe k g f) ≡ g
find_maybe k None f b = find_below key_cmp_total k f b
find_maybe k (Some g) f b = find_first key_cmp key_cmp_total (k, g) f

find_other : (q k : Key) (g : Option Effect) (f : Effects) → eq_by_cmp key_cmp q k ≡ false
    → find key_cmp q (with_maybe k g f) ≡ find key_cmp q f
find_other q k None f e = refl
find_other q k (Some g) f e = ap (λ b. cond b (Some g) (find key_cmp q f)) e

sum_maybe : (count : Effect → ℕ) (k : Key) (g : Option Effect) (f : Effects) → T (below_all key_cmp k f)
    → sum_below count k (with_maybe k g f) ≡ 0
sum_maybe count k None f b = sum_none count k f b
sum_maybe count k (Some g) f b = sum_at count (k, g) f b

module _ (schema : Columns) (t : Table) (x : Effects) (hx : AreOver schema t x) (e : Key × Effect) (f : Effects)
    (hf : AreOver schema (table_with t x) (e ∷ f)) where
  abbrev image : Table
  image = table_with t x

  abbrev rest : Effects
  rest = rest_of (e ∷ f)

  keyed_all : T (are_keyed_effects schema.key_cols (e ∷ f))
  keyed_all = passes (are_keyed_effects schema.key_cols (e ∷ f)) hf.effects_are.keyed

  sorted_all : T (is_sorted key_cmp (e ∷ f))
  sorted_all = first (is_sorted key_cmp (e ∷ f)) (list_all (λ y. is_keyed_effect schema.key_cols y.0 y.1) (e ∷ f)) keyed_all

  keyed_here : T (is_keyed_effect schema.key_cols e.0 e.1)
  keyed_here = search rules

  below : T (below_all key_cmp e.0 f)
  below = first (below_all key_cmp e.0 f) (is_sorted key_cmp f) sorted_all

  fit_here : T (fits (row_at image e.0) e.1)
  fit_here = first (fits (row_at image e.0) e.1) _ (passes (all_fit image (e ∷ f)) hf.fit)

  shaped_here : T (effect_fits_schema schema e.1)
  shaped_here = search rules

  keyed_x : T (are_keyed_effects schema.key_cols x)
  keyed_x = passes (are_keyed_effects schema.key_cols x) hx.effects_are.keyed

  sorted_x : T (is_sorted key_cmp x)
  sorted_x = first (is_sorted key_cmp x) (list_all (λ y. is_keyed_effect schema.key_cols y.0 y.1) x) keyed_x

  hr : AreOver schema image rest
  hr = over_rest schema image (e ∷ f) hf

  sorted_rest : T (is_sorted key_cmp rest)
  sorted_rest = search rules

  ascend_all : (y : Effects) → T (list_all (λ z. is_keyed_effect schema.key_cols z.0 z.1) y) → T (list_all (λ z. cells_ascend z.1) y)
  ascend_all [] h = tt
  ascend_all (z ∷ y) h = grind (arith, common_steps, ascend_all y (second (is_keyed_effect schema.key_cols z.0 z.1) _ h), both, cells_ascend, first, second, nat_cmp)

  ascend_x : T (holds_at cells_ascend (find key_cmp e.0 x))
  ascend_x =
      each_at key_cmp key_cmp_total key_cmp-IsAntisymmetric (λ k g. cells_ascend g) x
      (ascend_all x (second (is_sorted key_cmp x) _ keyed_x)) e.0

  fit_after : T (fits (changed_by row_after (find key_cmp e.0 x) (row_at t e.0)) e.1)
  fit_after = subst (λ (o : Option Row). T (fits o e.1)) (row_at-table_with t x e.0 sorted_x) fit_here

  abbrev before : Effects
  before = composed_effects x rest

  abbrev change : Change
  change = first_change e.0 e.1

  -- all effects are those of the rest, and then of the first entry
  pub composed_is : composed_effects x (e ∷ f) ≡ effects_with before e.0 change
  composed_is =
      same_map key_cmp key_cmp_total key_cmp-IsAntisymmetric (composed_effects x (e ∷ f)) (effects_with before e.0 change)
      (sorted-composed_effects x (e ∷ f) sorted_x)
      (sorted-alter key_cmp key_cmp_total e.0 (composed_effect (effect_of_change change)) before
      (sorted-composed_effects x rest sorted_x))
      (λ q.
      effect_at-composed_effects x (e ∷ f) q sorted_all
      ∙ by_key q (eq_by_cmp key_cmp q e.0) refl
      ∙ sym (find-alter key_cmp key_cmp_total e.0 (composed_effect (effect_of_change change)) before q))
    where
      by_key : (q : Key) (b : Bool) → eq_by_cmp key_cmp q e.0 ≡ b
          → changed_by composed_effect (cond b (Some e.1) (find key_cmp q f)) (find key_cmp q x) ≡ cond b
          (composed_effect (effect_of_change change) (find key_cmp e.0 before)) (find key_cmp q before)
      by_key q true is =
          let same = key_cmp-IsAntisymmetric q e.0 (equal (key_cmp q e.0) is) in
          let found : find key_cmp e.0 before ≡ changed_by composed_effect (rest_effect e.1)
          (find key_cmp e.0 x) = effect_at-composed_effects x rest e.0 sorted_rest
          ∙ ap (λ g. changed_by composed_effect g (find key_cmp e.0 x)) (find_maybe e.0 (rest_effect e.1) f below) in
          ap (λ k. composed_effect e.1 (find key_cmp k x)) same
          ∙ composed-first schema.key_cols e.0 e.1 (find key_cmp e.0 x) (row_at t e.0) keyed_here ascend_x fit_after
          ∙ ap (composed_effect (effect_of_change change)) (sym found)
      by_key q false is =
          ap (λ g. changed_by composed_effect g (find key_cmp q x)) (sym (find_other q e.0 (rest_effect e.1) f is))
          ∙ sym (effect_at-composed_effects x rest q sorted_rest)

  -- what they leave of the table
  table_is : table_with t before ≡ table_with image rest
  table_is = (composes schema t x rest hx hr).1

  pub fit_is : T (fits (row_at (table_with t before) e.0) (effect_of_change change))
  fit_is = grind (arith, common_steps, changed_by, table_is, row_at-table_with, sorted_rest, find_maybe, below, fits-first, keyed_here, fit_here)

  -- the rest moves no position up to the key's
  pub rank_kept : rank e.0 (table_with t before) ≡ rank e.0 image
  rank_kept = grind (arith, common_steps, rank-table_with, first, sorted_rest, hr, table_is, sum_below, deletes_of, inserts_of, sum_maybe, below)

-- ---- the walk over the upper entries, from the last

tail_drop : (n : ℕ) (es : List Entry) (y : Entry) (ys : List Entry) → drop n es ≡ y ∷ ys → drop (suc n) es ≡ ys
tail_drop n es y ys is = split n es ∙ ap (drop 1) is
  where
    split : (n : ℕ) (es : List Entry) → drop (suc n) es ≡ drop 1 (drop n es)
    split zero es = refl
    split (suc n) [] = refl
    split (suc n) (e ∷ es) = split n es

empty_drop : (n : ℕ) (es : List Entry) → drop n es ≡ [] → drop (suc n) es ≡ []
empty_drop n es is = split n es ∙ ap (drop 1) is
  where
    split : (n : ℕ) (es : List Entry) → drop (suc n) es ≡ drop 1 (drop n es)
    split zero es = refl
    split (suc n) [] = refl
    split (suc n) (e ∷ es) = split n es

head_drop : (n : ℕ) (es : List Entry) (y : Entry) → slice_get es n ≡ Some y → drop n es ≡ y ∷ drop (suc n) es
head_drop n [] y is = cc
head_drop zero (e ∷ es) y is = let same : e ≡ y = cc in ap (λ z. z ∷ es) same
head_drop (suc n) (e ∷ es) y is = head_drop n es y is

fewer_inserts : (n : ℕ) (es : List Entry) → insert_count (drop n es) ≤ insert_count es
fewer_inserts n es = omega (arith, insert_count-append (take n es) (drop n es), ap insert_count (take-append-drop n es))

module _ (lower upper : Tree) (w : AreConsecutive lower upper) where
  abbrev over_image : Table
  over_image = table_with w.t w.x

  -- the effects from a place on
  abbrev left_from : ℕ → Effects
  left_from n = rest_after n w.f

  over_left : (n : ℕ) → AreOver w.schema over_image (left_from n)
  over_left zero = w.above.over
  over_left (suc n) = over_rest w.schema over_image (left_from n) (over_left n)

  -- the tree of the lower effects with those from a place on
  abbrev pub tree_from : ℕ → Tree
  tree_from n = tree_of w.schema w.t (composed_effects w.x (left_from n))

  entries_from : (n : ℕ) → drop n upper.entries ≡ canonical_entries over_image (left_from n)
  entries_from zero = ap (λ (r : Tree). r.entries) w.above.tree_is
  entries_from (suc n) = by (left_from n) (over_left n) (entries_from n)
    where
      by : (g : Effects) → AreOver w.schema over_image g → drop n upper.entries ≡ canonical_entries over_image g
          → drop (suc n) upper.entries ≡ canonical_entries over_image (rest_of g)
      by [] h is = empty_drop n upper.entries is
      by (e ∷ g) h is =
          let keyed = passes (are_keyed_effects w.schema.key_cols (e ∷ g)) h.effects_are.keyed in
          let here = first (is_keyed_effect w.schema.key_cols e.0 e.1) _
          (second (is_sorted key_cmp (e ∷ g)) (list_all (λ y. is_keyed_effect w.schema.key_cols y.0 y.1) (e ∷ g)) keyed) in
          tail_drop n upper.entries _ _ (is ∙ canonical-first w.schema.key_cols over_image e g here)

  -- at the end nothing is left
  none_left : (g : Effects) → AreOver w.schema over_image g → canonical_entries over_image g ≡ [] → g ≡ []
  none_left [] h is = refl
  none_left (e ∷ g) h is = search rules

  pub walk_is : lower ≡ tree_from (length upper.entries)
  walk_is =
      let none = none_left (left_from (length upper.entries)) (over_left (length upper.entries))
      (sym (entries_from (length upper.entries)) ∙ drop_whole upper.entries) in
      w.below.tree_is ∙ ap (λ (g : Effects). tree_of w.schema w.t (composed_effects w.x g)) (sym none)
    where
      drop_whole : (es : List Entry) → drop (length es) es ≡ []
      drop_whole [] = refl
      drop_whole (e ∷ es) = drop_whole es

  -- ---- bounds

  image_few : length over_image ≤ 4294967294
  image_few = grind (arith, common_steps, below, first, inserts_less_deletes)

  top_few : (n : ℕ) → length (table_with over_image (left_from n)) ≤ 6442450941
  top_few n =
      let tests = over_left n in
      let t_sorted = first (is_sorted key_cmp over_image) _ (passes (is_keyed_table w.schema.key_cols over_image) tests.table.keyed) in
      let f_sorted = first (is_sorted key_cmp (left_from n))
      (list_all (λ y. is_keyed_effect w.schema.key_cols y.0 y.1) (left_from n))
      (passes (are_keyed_effects w.schema.key_cols (left_from n)) tests.effects_are.keyed) in
      let moved = inserts_less_deletes over_image (left_from n) t_sorted f_sorted (passes (all_fit over_image (left_from n)) tests.fit) in
      let same = ap insert_count (entries_from n) in
      omega (arith, moved, same, fewer_inserts n upper.entries, w.above.few, image_few)

  composed_few : (n : ℕ) → length (table_with w.t (composed_effects w.x (left_from n))) ≤ 6442450941
  composed_few n =
      subst (λ (s : Table). length s ≤ 6442450941) (sym (composes w.schema w.t w.x (left_from n) w.below.over (over_left n)).1)
      (top_few n)

  pub entries_few : (n : ℕ) → length (canonical_entries w.t (composed_effects w.x (left_from n))) ≤ 2 ^ 40
  entries_few n = grind (arith, common_steps, composes, below, over_left, length-entries_over, composed_few)

  -- ---- one step

  abbrev IsStep : Tree → Entry → ℕ → Type 0
  IsStep tree entry n = (v : IsNext tree entry) × (next_tree tree entry v ≡ tree_from n)

  pub step : (n : ℕ) (tree : Tree) (entry : Entry) → tree ≡ tree_from (suc n) → slice_get upper.entries n ≡ Some entry → IsStep tree entry n
  step n tree entry tree_is at = by (left_from n) refl
    where
      by : (g : Effects) → left_from n ≡ g → IsStep tree entry n
      by [] is =
          let none = sym (head_drop n upper.entries entry at) ∙ entries_from n ∙ ap (canonical_entries over_image) is in
          cc
      by (e ∷ g) is =
          let h : AreOver w.schema over_image (e ∷ g) = subst (AreOver w.schema over_image) is (over_left n) in
          let here = keyed_here w.schema w.t w.x w.below.over e g h in
          let parts = sym (head_drop n upper.entries entry at) ∙ entries_from n ∙ ap (canonical_entries over_image) is
          ∙ canonical-first w.schema.key_cols over_image e g here in
          let same : entry ≡ entry_at (rank e.0 over_image) (first_change e.0 e.1) = cc in
          let left : rest_of (left_from n) ≡ rest_of (e ∷ g) = ap rest_of is in
          let before = composed_effects w.x (rest_of (e ∷ g)) in
          let composed = composed_is w.schema w.t w.x w.below.over e g h in
          let all : composed_effects w.x (left_from n) ≡ effects_with before e.0 (first_change e.0 e.1) = ap
          (composed_effects w.x) is ∙ composed in
          let image_is : length (table_with w.t before) ≤ 6442450941 = subst
          (λ (g : Effects). length (table_with w.t (composed_effects w.x g)) ≤ 6442450941) left (composed_few (suc n)) in
          let whole : IsStep tree (entry_at (rank e.0 over_image) (first_change e.0 e.1)) n = (
            record {
              schema = w.schema;
              t = w.t;
              x = before;
              key = e.0;
              over = (composes w.schema w.t w.x (rest_of (e ∷ g)) w.below.over (over_rest w.schema over_image (e ∷ g) h)).0;
              tree_is = tree_is ∙ ap (λ (g : Effects). tree_of w.schema w.t (composed_effects w.x g)) left;
              own = own-first w.schema.key_cols e.0 e.1 here;
              cell = is_true _ (cell-first w.schema e.0 e.1 (shaped_here w.schema w.t w.x w.below.over e g h));
              fit = is_true _ (fit_is w.schema w.t w.x w.below.over e g h);
              ranked = sym (rank_kept w.schema w.t w.x w.below.over e g h);
              rows = w.small.rows;
              image = omega (arith, image_is);
              room = subst (λ (z : Effects). length (canonical_entries w.t z) ≤ 2 ^ 40) all (entries_few n);
            },
            ap (tree_of w.schema w.t) (sym all),
          ) in
          subst (λ (en : Entry). IsStep tree en n) (sym same) whole
