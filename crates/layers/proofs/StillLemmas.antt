-- A tree whose entries stand before all that another one inserts or deletes.
use Rattle.std.proofs.Common.{◌≡◌, ℕ, ◌+◌, ◌-◌, ◌<◌, ◌≤◌, ◌⊎◌, inl, inr, true, false, cond, ◌&&◌, ◌||◌, T, List, [], ◌∷◌, length, rules}
use Rattle.std.proofs.Common.{filter, Greater, is_lt, refl, ap, ◌∙◌, arith}
use Rattle.std.specs.Prelude.{◌==◌, nat_lt}
use Rattle.std.specs.List.{list_all}
use Rattle.std.proofs.lemmas.Bool.Decides.{nat_tests}
use Rattle.model.specs.declared.clash.ConflictRule.TheVariants.{ByColumn}
use Rattle.model.specs.declared.entry.Entry.{Entry}
use Rattle.model.specs.declared.entry.Change.{Change}
use Rattle.model.specs.declared.entry.Change.TheVariants.{Ins, Del, Mod}
use Rattle.model.specs.Entries.{entry_at, change_cmp, entry_cmp, are_ordered, is_insert, is_delete, is_modify}
use Rattle.model.specs.Rebasing.{stands_first, inserts_before, deletes_before, rebased_entry, rebased_entries}
use Rattle.model.proofs.CallerLemmas.{both, first, second, less}
use Rattle.layers.proofs.PassLemmas.{is_before, sids_greater, still}
use Rattle.delta.proofs.CallerLemmas.{greater}
use Rattle.std.proofs.lemmas.Grind.{common_steps}

module _ (key_cols : ℕ) where
  -- a modify before the others moves none
  pub past_modify : (y : Entry) (ys : List Entry) (x : Entry) → is_modify y.change ≡ true
      → rebased_entry key_cols (y ∷ ys) x ≡ rebased_entry key_cols ys x
  past_modify y ys x h = search rules

  -- what stands before a change isn't moved by it
  first_not : (n m : ℕ) (c d : Change) → (m < n) ⊎ ((n ≡ m) × (change_cmp key_cols c d ≡ Greater))
      → (is_insert c && (nat_lt n m || ((n == m) && stands_first key_cols c d))) ≡ false
  first_not n m (Del key) d h = refl
  first_not n m (Mod col value) d h = refl
  first_not n m (Ins row) (Ins other) (inl lt) = grind (arith, nat_tests)
  first_not n m (Ins row) (Del key) (inl lt) = grind (arith, nat_tests)
  first_not n m (Ins row) (Mod col value) (inl lt) = grind (arith, nat_tests)
  first_not n m (Ins row) (Ins other) (inr s) = search rules
  first_not n m (Ins row) (Del key) (inr s) = let e = s.1 in cc
  first_not n m (Ins row) (Mod col value) (inr s) = let e = s.1 in cc

  below_not : (n m : ℕ) (c : Change) → m ≤ n → (is_delete c && nat_lt n m) ≡ false
  below_not n m (Ins row) h = refl
  below_not n m (Del key) h = grind (arith, nat_tests)
  below_not n m (Mod col value) h = refl

  -- an entry before these isn't moved by them
  before_all : (e x : Entry) (ys : List Entry) → T (list_all (λ y. is_lt (entry_cmp key_cols e y)) ys) → T (is_before key_cols ByColumn e x)
      → T (list_all (λ y. is_before key_cols ByColumn y x) ys)
  before_all e x [] h b = tt
  before_all e x (y ∷ ys) h b =
      let here = still key_cols ByColumn e y x (less _ (first (is_lt (entry_cmp key_cols e y)) _ h)) b in
      let rest = before_all e x ys (second (is_lt (entry_cmp key_cols e y)) _ h) b in
      both (is_before key_cols ByColumn y x) _ here rest

  sids_at_least : (n m : ℕ) (c d : Change) → (m < n) ⊎ ((n ≡ m) × (change_cmp key_cols c d ≡ Greater)) → m ≤ n
  sids_at_least n m c d (inl lt) = omega arith
  sids_at_least n m c d (inr s) = let same = s.0 in omega (arith, same)

  stood : (x : Entry) (ys : List Entry) → T (list_all (λ y. is_before key_cols ByColumn y x) ys) → rebased_entry key_cols ys x ≡ x
  stood x ys h =
      let stays : (x.sid + 0) - 0 ≡ x.sid = omega arith in
      (λ i. entry_at ((x.sid + inserts ys h i) - deletes ys h i) x.change) ∙ ap (λ s. entry_at s x.change) stays
    where
      places : (y : Entry) → T (is_before key_cols ByColumn y x)
          → (x.sid < y.sid) ⊎ ((y.sid ≡ x.sid) × (change_cmp key_cols y.change x.change ≡ Greater))
      places y b = sids_greater y.sid x.sid (change_cmp key_cols y.change x.change) (greater _ b)

      inserts : (zs : List Entry) → T (list_all (λ y. is_before key_cols ByColumn y x) zs)
          → length (filter (inserts_before key_cols x) zs) ≡ 0
      inserts [] g = refl
      inserts (y ∷ zs) g =
          let rest = filter (inserts_before key_cols x) zs in
          ap (λ b. length (cond b (y ∷ rest) rest))
          (first_not y.sid x.sid y.change x.change (places y (first (is_before key_cols ByColumn y x) _ g)))
          ∙ inserts zs (second (is_before key_cols ByColumn y x) _ g)

      deletes : (zs : List Entry) → T (list_all (λ y. is_before key_cols ByColumn y x) zs)
          → length (filter (deletes_before key_cols x) zs) ≡ 0
      deletes [] g = refl
      deletes (y ∷ zs) g =
          let rest = filter (deletes_before key_cols x) zs in
          let below = sids_at_least y.sid x.sid y.change x.change (places y (first (is_before key_cols ByColumn y x) _ g)) in
          ap (λ b. length (cond b (y ∷ rest) rest)) (below_not y.sid x.sid y.change below)
          ∙ deletes zs (second (is_before key_cols ByColumn y x) _ g)

  -- entries that stand before the first of these, which are in order, aren't moved by them
  pub stand_still : (e : Entry) (ys xs : List Entry) → T (are_ordered key_cols (e ∷ ys)) → T (list_all (is_before key_cols ByColumn e) xs)
      → rebased_entries key_cols (e ∷ ys) xs ≡ xs
  stand_still e ys [] o h = refl
  stand_still e ys (x ∷ xs) o h = grind (arith, common_steps, stand_still e ys xs o (second (is_before key_cols ByColumn e x) _ h), first, is_before, stood, both, before_all, second)

  -- what moves each alike moves all alike
  pub moved_alike : (ys zs xs : List Entry) → ((x : Entry) → rebased_entry key_cols ys x ≡ rebased_entry key_cols zs x)
      → rebased_entries key_cols ys xs ≡ rebased_entries key_cols zs xs
  moved_alike ys zs [] same = refl
  moved_alike ys zs (x ∷ xs) same = λ i. same x i ∷ moved_alike ys zs xs same i

  -- no entries move none
  pub none_move : (xs : List Entry) → rebased_entries key_cols [] xs ≡ xs
  none_move [] = refl
  none_move (x ∷ xs) = let stays : (x.sid + 0) - 0 ≡ x.sid = omega arith in λ i. entry_at (stays i) x.change ∷ none_move xs i
