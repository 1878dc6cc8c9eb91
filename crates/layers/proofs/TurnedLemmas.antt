-- The first clash of two trees over one image, as it is found from the other one.
use Rattle.std.proofs.Common.{◌≡◌, ◌⊎◌, inl, inr, ℕ, zero, suc, ◌<◌, ◌≤◌, Bool, cond, ◌&&◌, T, Option, Some, None, is_some, List, [], ◌∷◌}
use Rattle.std.proofs.Common.{nat_cmp, Ordering, Less, Equal, Greater, is_lt, is_eq, refl, sym, ap, ◌∙◌, subst, arith}
use Rattle.std.specs.Prelude.{◌==◌, IfSome, IsNone, slice_get}
use Rattle.std.specs.List.{list_all}
use Rattle.std.specs.Ordering.{eq_by_cmp}
use Rattle.std.specs.Cmp.{ranked, tied_itself}
use Rattle.std.proofs.lemmas.Bool.Decides.{nat_tests}
use Rattle.values.specs.Orders.{key_cmp, key_cmp_total, key_cmp-IsAntisymmetric}
use Rattle.values.specs.Shape.{key_of}
use Rattle.values.specs.declared.row.Key.{Key}
use Rattle.model.specs.declared.clash.ConflictRule.{ConflictRule}
use Rattle.model.specs.declared.clash.ConflictRule.TheVariants.{ByColumn, ByRow}
use Rattle.model.specs.declared.clash.Clash.{Clash}
use Rattle.model.specs.declared.clash.ClashKind.{ClashKind}
use Rattle.model.specs.declared.clash.ClashKind.TheVariants.{InsertInsert, ModifyModify}
use Rattle.model.specs.declared.entry.Entry.{Entry}
use Rattle.model.specs.declared.entry.Change.{Change}
use Rattle.model.specs.declared.entry.Change.TheVariants.{Ins, Del, Mod}
use Rattle.model.specs.Clashes.{Conflicts}
use Rattle.model.specs.Entries.{entry_cmp, are_ordered}
use Rattle.model.specs.Rebasing.{columns_clash, clash_of_changes, clash_of_entries, first_clash, AreClashing, IsLeastClash}
use Rattle.model.proofs.CallerLemmas.{first, second, less, turn_less, turn_greater, first_clash-least, ordered}
use Rattle.delta.specs.Tree.{Tree}
use Rattle.layers.specs.Over.{AreAligned}
use Rattle.layers.specs.Serialization.{turned_clash}
use Rattle.layers.proofs.ClashLemmas.{agrees, is_ranked, agree_all, ranked-canonical_entries, clash_order, clash_order-trans}
use Rattle.layers.proofs.ClashLemmas.{unclashed_entry, tied_entry}
use Rattle.layers.proofs.PassLemmas.{tested, still}
use Rattle.layers.proofs.SerialLemmas.{holds_at, each, cols_x, cols_y, list_x, list_y, conflicting}
use Rattle.delta.proofs.CallerLemmas.{greater}
use Rattle.std.proofs.lemmas.Grind.{common_steps}

-- ---- clashes are the same either way

keys_turn : (j k : Key) → eq_by_cmp key_cmp j k ≡ eq_by_cmp key_cmp k j
keys_turn j k = by (key_cmp j k) refl
  where
    by : (r : Ordering) → key_cmp j k ≡ r → is_eq r ≡ is_eq (key_cmp k j)
    by Less p = sym (ap is_eq (turn_less key_cmp_total j k p))
    by Equal p = sym (ap is_eq (ap (key_cmp k) (key_cmp-IsAntisymmetric j k p) ∙ tied_itself key_cmp_total k))
    by Greater p = sym (ap is_eq (turn_greater key_cmp_total j k p))

numbers_turn : (n m : ℕ) → (n == m) ≡ (m == n)
numbers_turn n m = grind (arith, nat_tests)

columns_turn : (rule : ConflictRule) (col other : ℕ) → columns_clash rule col other ≡ columns_clash rule other col
columns_turn ByColumn col other = numbers_turn col other
columns_turn ByRow col other = refl

-- entries in order, by their indices
ordered_at : (key_cols n m : ℕ) (es : List Entry) (e z : Entry) → T (are_ordered key_cols es) → slice_get es n ≡ Some e
    → slice_get es m ≡ Some z
    → n < m → entry_cmp key_cols e z ≡ Less
ordered_at key_cols n m [] e z o p q lt = cc
ordered_at key_cols n zero (a ∷ es) e z o p q lt = absurd (omega (arith, lt))
ordered_at key_cols zero (suc m) (a ∷ es) e z o p q lt = grind (arith, common_steps, first, less, holds_at)
ordered_at key_cols (suc n) (suc m) (a ∷ es) e z o p q lt = grind (arith, common_steps, ordered_at key_cols n m es e z (second (list_all (λ y. is_lt (entry_cmp key_cols a y)) es) (are_ordered key_cols es) o) p q (omega (arith, lt)), second)

module _ (rule : ConflictRule) (key_cols : ℕ) where
  changes_turn : (here : Bool) (c d : Change) → clash_of_changes rule key_cols here c d ≡ clash_of_changes rule key_cols here d c
  changes_turn here (Ins row) (Ins other) = ap (λ b. cond b (Some InsertInsert) None)
      (keys_turn (key_of key_cols row) (key_of key_cols other))
  changes_turn here (Ins row) (Del key) = refl
  changes_turn here (Ins row) (Mod col value) = refl
  changes_turn here (Del key) (Ins row) = refl
  changes_turn here (Del key) (Del other) = refl
  changes_turn here (Del key) (Mod col value) = refl
  changes_turn here (Mod col value) (Ins row) = refl
  changes_turn here (Mod col value) (Del key) = refl
  changes_turn here (Mod col value) (Mod other w) = ap (λ b. cond (here && b) (Some ModifyModify) None) (columns_turn rule col other)

  entries_turn : (x y : Entry) → clash_of_entries rule key_cols x y ≡ clash_of_entries rule key_cols y x
  entries_turn x y = grind (arith, common_steps, numbers_turn, changes_turn)

  clashing_turns : (xs ys : List Entry) (i j : ℕ) (kind : ClashKind) → AreClashing rule key_cols xs ys i j kind
      → AreClashing rule key_cols ys xs j i kind
  clashing_turns xs ys i j kind h = grind (arith, common_steps, entries_turn)

  -- of two entries in order and two others in order, the first doesn't clash with the last, and the second with the third,
  -- unless it clashes with the third
  uncrossed : (a b p q : Entry) (k l : ClashKind) → entry_cmp key_cols a b ≡ Less → entry_cmp key_cols p q ≡ Less
      → T (agrees key_cols a q) → T (agrees key_cols b p)
      → clash_of_entries rule key_cols a q ≡ Some k → clash_of_entries rule key_cols b p ≡ Some l
      → clash_of_entries rule key_cols a p ≡ None → ⊥
  uncrossed a b p q k l ab pq aq bp last middle none = by (clash_order key_cols rule a p) refl
    where
      by : (r : Ordering) → clash_order key_cols rule a p ≡ r → ⊥
      by Less e =
          let past = clash_order-trans key_cols rule a p q e pq in
          let free = unclashed_entry key_cols rule a q aq (λ tie. cc) in
          cc
      by Equal e = let some = sym (tied_entry key_cols rule a p e) ∙ ap is_some none in cc
      by Greater e =
          let off = greater (clash_order key_cols rule b p) (still key_cols rule a b p ab (tested (clash_order key_cols rule a p) e)) in
          let free = unclashed_entry key_cols rule b p bp (λ tie. cc) in
          cc

  -- the least clash of one list with another is the least of the other with the one
  module _ (xs ys : List Entry) (x_ordered : T (are_ordered key_cols xs)) (y_ordered : T (are_ordered key_cols ys))
      (agree : (j : ℕ) (y : Entry) → slice_get ys j ≡ Some y → T (list_all (agrees key_cols y) xs)) where
    unless : (clash : Clash) → IsLeastClash rule key_cols ys xs clash → (i j : ℕ) (kind : ClashKind)
        → AreClashing rule key_cols ys xs j i kind
        → clash.x < j → i < clash.y → ⊥
    unless clash h i j kind other lt gt = by (clash_of_entries rule key_cols h.clashing.x other.y) refl
      where
        by : (o : Option ClashKind) → clash_of_entries rule key_cols h.clashing.x other.y ≡ o → ⊥
        by None none =
            uncrossed h.clashing.x other.x other.y h.clashing.y clash.kind kind
            (ordered_at key_cols clash.x j ys h.clashing.x other.x y_ordered h.clashing.x_at other.x_at lt)
            (ordered_at key_cols i clash.y xs other.y h.clashing.y x_ordered other.y_at h.clashing.y_at gt)
            (holds_at (agrees key_cols h.clashing.x) clash.y xs h.clashing.y (agree clash.x h.clashing.x h.clashing.x_at) h.clashing.y_at)
            (holds_at (agrees key_cols other.x) i xs other.y (agree j other.x other.x_at) other.y_at)
            h.clashing.kind_is other.kind_is none
        by (Some k) some =
            let two : AreClashing rule key_cols ys xs clash.x i
            k = record { x = h.clashing.x; y = other.y; x_at = h.clashing.x_at; y_at = other.y_at; kind_is = some } in
            elim (h.least clash.x i k two) [
              | inl below ↦ absurd (omega (arith, below))
              | inr s ↦ let le = s.1 in absurd (omega (arith, le, gt))
            ]

    least_turns : (clash : Clash) → IsLeastClash rule key_cols ys xs clash → IsLeastClash rule key_cols xs ys (turned_clash clash)
    least_turns clash h = record {
      clashing = clashing_turns ys xs clash.x clash.y clash.kind h.clashing;
      least = λ i j kind other.
          let turned = clashing_turns xs ys i j kind other in
          elim (h.least j i kind turned) [
            | inl below ↦ places i j (omega (arith, below)) (unless clash h i j kind turned below)
            | inr s ↦ let same = s.0 in let le = s.1 in places i j (omega (arith, same)) (λ gt. absurd (omega (arith, le, gt)))
          ];
    }
      where
        places : (i j : ℕ) → clash.x ≤ j → (i < clash.y → ⊥) → (clash.y < i) ⊎ ((clash.y ≡ i) × (clash.x ≤ j))
        places i j le never = by (nat_cmp clash.y i) refl
          where
            by : (r : Ordering) → nat_cmp clash.y i ≡ r → (clash.y < i) ⊎ ((clash.y ≡ i) × (clash.x ≤ j))
            by Less e = let lt : clash.y < i = ranked clash.y i Less (sym e) in inl lt
            by Equal e = let same : clash.y ≡ i = ranked clash.y i Equal (sym e) in inr (same, le)
            by Greater e = let gt : i < clash.y = ranked clash.y i Greater (sym e) in absurd (never gt)

-- ---- of two trees over one table

module _ (rule : ConflictRule) (x y : Tree) (w : AreAligned x y) where
  abbrev kc : ℕ
  kc = w.schema.key_cols

  x_ordered : T (are_ordered kc x.entries)
  x_ordered = grind (arith, common_steps, list_x, ordered)

  y_ordered : T (are_ordered kc y.entries)
  y_ordered = grind (arith, common_steps, list_y, ordered)

  x_ranked : T (list_all (is_ranked kc w.t) x.entries)
  x_ranked = grind (arith, common_steps, is_ranked, list_x, ranked-canonical_entries, each)

  y_ranked : T (list_all (is_ranked kc w.t) y.entries)
  y_ranked = grind (arith, common_steps, is_ranked, list_y, ranked-canonical_entries, each)

  all_agree : (j : ℕ) (e : Entry) → slice_get y.entries j ≡ Some e → T (list_all (agrees kc e) x.entries)
  all_agree j e at = agree_all kc w.t e x.entries (holds_at (is_ranked kc w.t) j y.entries e y_ranked at) x_ranked

  -- a clash that is found from the second tree is the first of the first one
  pub first_clash-turns : (clash : Clash) → first_clash rule x.key_cols y.entries x.entries ≡ Some clash →
      Conflicts rule w.x w.y × IsLeastClash rule kc x.entries y.entries (turned_clash clash)
  first_clash-turns clash found = by (first_clash rule y.key_cols x.entries y.entries) refl
    where
      here : first_clash rule kc y.entries x.entries ≡ Some clash
      here = ap (λ (k : ℕ). first_clash rule k y.entries x.entries) (sym (cols_x rule x y w)) ∙ found

      least : IsLeastClash rule kc x.entries y.entries (turned_clash clash)
      least =
          least_turns rule kc x.entries y.entries x_ordered y_ordered all_agree clash
          (subst (λ (o : Option Clash). IfSome o (IsLeastClash rule kc y.entries x.entries)) here
          (first_clash-least kc rule y.entries x.entries).least)

      by : (o : Option Clash) → first_clash rule y.key_cols x.entries y.entries ≡ o →
          Conflicts rule w.x w.y × IsLeastClash rule kc x.entries y.entries (turned_clash clash)
      by (Some other) e = ((conflicting rule x y w other e).0, least)
      by None e =
          let none : first_clash rule kc x.entries y.entries ≡ None = ap (λ (k : ℕ). first_clash rule k x.entries y.entries)
          (sym (cols_y rule x y w)) ∙ e in
          absurd ((first_clash-least kc rule x.entries y.entries).none (subst (λ (o : Option Clash). IsNone o) (sym none) refl) clash.y
          clash.x clash.kind least.clashing)

  -- where none is found there is none
  pub no_clash-turns : first_clash rule x.key_cols y.entries x.entries ≡ None → first_clash rule y.key_cols x.entries y.entries ≡ None
  no_clash-turns found = by (first_clash rule y.key_cols x.entries y.entries) refl
    where
      none : first_clash rule kc y.entries x.entries ≡ None
      none = ap (λ (k : ℕ). first_clash rule k y.entries x.entries) (sym (cols_x rule x y w)) ∙ found

      by : (o : Option Clash) → first_clash rule y.key_cols x.entries y.entries ≡ o → o ≡ None
      by None e = refl
      by (Some other) e =
          let some : first_clash rule kc x.entries y.entries ≡ Some other = ap (λ (k : ℕ). first_clash rule k x.entries y.entries)
          (sym (cols_y rule x y w)) ∙ e in
          let least = subst (λ (o : Option Clash). IfSome o (IsLeastClash rule kc x.entries y.entries)) some
          (first_clash-least kc rule x.entries y.entries).least in
          absurd ((first_clash-least kc rule y.entries x.entries).none (subst (λ (o : Option Clash). IsNone o) (sym none) refl) other.y
          other.x other.kind (clashing_turns rule kc x.entries y.entries other.x other.y other.kind least.clashing))
