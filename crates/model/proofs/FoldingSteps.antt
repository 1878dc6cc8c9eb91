-- Steps of the walk that folds one tree into another.
use Rattle.std.proofs.Common.{◌≡◌, ℕ, ◌+◌, ◌-◌, T, List, [], ◌∷◌, ◌++◌, map, set, Less, Equal, Greater, nat_cmp, refl, sym, ap, ◌∙◌, subst, arith, rules}
use Rattle.std.specs.Cmp.{tied_itself, nat_cmp_total}
use Rattle.std.specs.FinMap.{nat_cmp-IsAntisymmetric}
use Rattle.std.specs.FinMap.Entries.{by_order, below_all}
use Rattle.values.specs.declared.row.Row.{Row}
use Rattle.values.specs.declared.row.Key.{Key}
use Rattle.values.specs.declared.value.Value.{Value}
use Rattle.model.specs.declared.entry.Entry.{Entry}
use Rattle.model.specs.declared.entry.Change.{Change}
use Rattle.model.specs.declared.entry.Change.TheVariants.{Ins, Del, Mod}
use Rattle.model.specs.Maps.{put, is_sorted}
use Rattle.model.specs.Effects.{Cells, set_cells}
use Rattle.model.specs.Composition.{over_cells}
use Rattle.model.specs.Entries.{entry_at}
use Rattle.model.specs.Folding.{Meeting, Upper, Lower, Over, Neither, Into, columns_meet, changes_meet, positions_meet, meet, added_by, gone_by, lowered_entry, fold_one, fold_from}
use Rattle.model.proofs.MapsLemmas.{first, second, less, turn_less, turn_greater, below_less}
use Rattle.model.proofs.MergingLemmas.{all_after}
use Rattle.std.proofs.lemmas.Grind.{common_steps}

cmp_equal : (x y : ℕ) → x ≡ y → nat_cmp x y ≡ Equal
cmp_equal x y e = ap (λ z. nat_cmp x z) (sym e) ∙ tied_itself nat_cmp_total x

take_off : (n n' a d : ℕ) → n' + d ≡ n + a → (n' + d) - a ≡ n
take_off n n' a d e = omega arith

module _ (key_cols : ℕ) where
  -- the outcome of a meeting
  abbrev pub outcome : Meeting → Entry → (ℕ → ℕ → List Entry → List Entry) → ℕ → ℕ → Entry → List Entry → List Entry
  outcome m lower rest added gone upper uppers =
      elim m as (λ _. List Entry) [
        | Upper ↦ lowered_entry added gone upper ∷ fold_one key_cols lower rest added gone uppers
        | Lower ↦ lower ∷ rest (added + added_by lower.change) (gone + gone_by lower.change) (upper ∷ uppers)
        | Over ↦ rest added gone (upper ∷ uppers)
        | Neither ↦ rest (added + added_by lower.change) (gone + gone_by lower.change) uppers
        | Into change ↦ fold_one key_cols (entry_at lower.sid change) rest added gone uppers
      ]

  pub met : (m : Meeting) (lower : Entry) (rest : ℕ → ℕ → List Entry → List Entry) (added gone : ℕ) (upper : Entry)
      (uppers : List Entry)
      → meet key_cols added gone lower upper ≡ m
      → fold_one key_cols lower rest added gone (upper ∷ uppers) ≡ outcome m lower rest added gone upper uppers
  met m lower rest added gone upper uppers e = ap (λ m. outcome m lower rest added gone upper uppers) e

  -- where the walk stands: n rows of the base and n' of the lower image were passed
  module _ (n n' a d : ℕ) (level : n' + d ≡ n + a) where
    here : (c u : Change) → meet key_cols a d (entry_at n c) (entry_at n' u) ≡ changes_meet key_cols c u
    here c u = ap (λ r. positions_meet key_cols r c u) (cmp_equal (n' + d) (n + a) level)

    pub lowered_here : (u : Change) → lowered_entry a d (entry_at n' u) ≡ entry_at n u
    lowered_here u = ap (λ m. entry_at m u) (take_off n n' a d level)

    -- each lower entry stands after place n: the upper one comes first
    pub upper_first : (ls : List Entry) → T (all_after n ls) → (u : Change) (us : List Entry)
        → fold_from key_cols ls a d (entry_at n' u ∷ us) ≡ entry_at n u ∷ fold_from key_cols ls a d us
    upper_first [] h u us = ap (λ e. e ∷ map (lowered_entry a d) us) (lowered_here u)
    upper_first (l ∷ ls) h u us = search rules

    -- each upper entry stands after position n': the lower one comes first
    pub lower_first : (c : Change) (ls us : List Entry) → T (all_after n' us)
        → fold_from key_cols (entry_at n c ∷ ls) a d us ≡ entry_at n c ∷ fold_from key_cols ls (a + added_by c) (d + gone_by c) us
    lower_first c ls [] h = refl
    lower_first c ls (u ∷ us) h = search rules

    -- the upper entry comes first here
    pub upper_here : (c u : Change) (ls us : List Entry) → changes_meet key_cols c u ≡ Upper
        → fold_from key_cols (entry_at n c ∷ ls) a d (entry_at n' u ∷ us)
        ≡ entry_at n u ∷ fold_from key_cols (entry_at n c ∷ ls) a d us
    upper_here c u ls us m = search rules

    pub lower_here : (c u : Change) (ls us : List Entry) → changes_meet key_cols c u ≡ Lower
        → fold_from key_cols (entry_at n c ∷ ls) a d (entry_at n' u ∷ us)
        ≡ entry_at n c ∷ fold_from key_cols ls (a + added_by c) (d + gone_by c) (entry_at n' u ∷ us)
    lower_here c u ls us m = met Lower (entry_at n c) (fold_from key_cols ls) a d (entry_at n' u) us (here c u ∙ m)

    pub over_here : (c u : Change) (ls us : List Entry) → changes_meet key_cols c u ≡ Over
        → fold_from key_cols (entry_at n c ∷ ls) a d (entry_at n' u ∷ us) ≡ fold_from key_cols ls a d (entry_at n' u ∷ us)
    over_here c u ls us m = met Over (entry_at n c) (fold_from key_cols ls) a d (entry_at n' u) us (here c u ∙ m)

    pub neither_here : (c u : Change) (ls us : List Entry) → changes_meet key_cols c u ≡ Neither
        → fold_from key_cols (entry_at n c ∷ ls) a d (entry_at n' u ∷ us)
        ≡ fold_from key_cols ls (a + added_by c) (d + gone_by c) us
    neither_here c u ls us m = met Neither (entry_at n c) (fold_from key_cols ls) a d (entry_at n' u) us (here c u ∙ m)

    pub into_here : (c u new : Change) (ls us : List Entry) → changes_meet key_cols c u ≡ Into new
        → fold_from key_cols (entry_at n c ∷ ls) a d (entry_at n' u ∷ us) ≡ fold_from key_cols (entry_at n new ∷ ls) a d us
    into_here c u new ls us m = met (Into new) (entry_at n c) (fold_from key_cols ls) a d (entry_at n' u) us (here c u ∙ m)

-- ---- modifies

abbrev pub mods : ℕ → Cells → List Entry
mods n cells = map (λ c. entry_at n (Mod c.0 c.1)) cells

add_none : (n : ℕ) → n + 0 ≡ n
add_none n = omega arith

turn : (x y : ℕ) → nat_cmp x y ≡ Less → nat_cmp y x ≡ Greater
turn x y p = turn_less nat_cmp_total x y p

turned : (x y : ℕ) → nat_cmp x y ≡ Greater → nat_cmp y x ≡ Less
turned x y p = turn_greater nat_cmp_total x y p

over_past : (x : ℕ × Value) (cells later : Cells) → T (below_all nat_cmp x.0 later)
    → over_cells (x ∷ cells) later ≡ x ∷ over_cells cells later
over_past x cells [] h = refl
over_past x cells (y ∷ later) h =
    ap (λ r. over_cells (by_order r ((y.0, y.1) ∷ x ∷ cells) ((x.0, y.1) ∷ cells) (x ∷ put nat_cmp y.0 y.1 cells)) later)
    (turn x.0 y.0 (less _ (first _ _ h)))
    ∙ over_past x (put nat_cmp y.0 y.1 cells) later (second _ _ h)

over_nothing : (later : Cells) → T (is_sorted nat_cmp later) → over_cells [] later ≡ later
over_nothing [] h = refl
over_nothing (y ∷ later) h = over_past y [] later (first _ _ h) ∙ ap (λ cs. y ∷ cs) (over_nothing later (second _ _ h))

put_first : (y : ℕ × Value) (cells : Cells) → T (below_all nat_cmp y.0 cells) → put nat_cmp y.0 y.1 cells ≡ y ∷ cells
put_first y [] h = refl
put_first y (x ∷ cells) h = ap (λ r. by_order r (y ∷ x ∷ cells) ((x.0, y.1) ∷ cells) (x ∷ put nat_cmp y.0 y.1 cells)) (less _ (first _ _ h))

module _ (key_cols : ℕ) (n n' a d : ℕ) (level : n' + d ≡ n + a) where
  -- modifies of the upper tree alone
  pub mods_upper : (cells : Cells) (ls us : List Entry) → T (all_after n ls)
      → fold_from key_cols ls a d (mods n' cells ++ us) ≡ mods n cells ++ fold_from key_cols ls a d us
  mods_upper [] ls us h = refl
  mods_upper (c ∷ cells) ls us h = grind (arith, common_steps, mods_upper cells ls us h, upper_first)

  -- and of the lower one alone
  pub mods_lower : (cells : Cells) (ls us : List Entry) → T (all_after n' us)
      → fold_from key_cols (mods n cells ++ ls) a d us ≡ mods n cells ++ fold_from key_cols ls a d us
  mods_lower [] ls us h = refl
  mods_lower (c ∷ cells) ls us h = grind (arith, common_steps, mods_lower cells ls us h, add_none, lower_first)

  -- a delete takes the place of modifies
  pub mods_deleted : (cells : Cells) (key : Key) (ls us : List Entry)
      → fold_from key_cols (mods n cells ++ ls) a d (entry_at n' (Del key) ∷ us)
      ≡ fold_from key_cols ls a d (entry_at n' (Del key) ∷ us)
  mods_deleted [] key ls us = refl
  mods_deleted (c ∷ cells) key ls us =
      over_here key_cols n n' a d level (Mod c.0 c.1) (Del key) (mods n cells ++ ls) us refl ∙ mods_deleted cells key ls us

  -- an insert stands before them
  pub mods_after_insert : (cells : Cells) (new : Row) (ls us : List Entry) → T (all_after n ls)
      → fold_from key_cols (mods n cells ++ ls) a d (entry_at n' (Ins new) ∷ us)
      ≡ entry_at n (Ins new) ∷ fold_from key_cols (mods n cells ++ ls) a d us
  mods_after_insert [] new ls us h = upper_first key_cols n n' a d level ls h (Ins new) us
  mods_after_insert (c ∷ cells) new ls us h = upper_here key_cols n n' a d level (Mod c.0 c.1) (Ins new) (mods n cells ++ ls) us refl

  -- modifies of an inserted row change it
  pub mods_into : (cells : Cells) (row : Row) (ls us : List Entry)
      → fold_from key_cols (entry_at n (Ins row) ∷ ls) a d (mods n' cells ++ us)
      ≡ fold_from key_cols (entry_at n (Ins (set_cells cells row)) ∷ ls) a d us
  mods_into [] row ls us = refl
  mods_into (c ∷ cells) row ls us = grind (arith, common_steps, mods_into cells (set row c.0 c.1) ls us, into_here)

  abbrev AreMerged : List Entry → List Entry → Cells → Cells → Type 0
  AreMerged ls us cells later =
      fold_from key_cols (mods n cells ++ ls) a d (mods n' later ++ us)
      ≡ mods n (over_cells cells later) ++ fold_from key_cols ls a d us

  merged_cons : (ls us : List Entry) → T (all_after n ls) → T (all_after n' us) → (x : ℕ × Value) (cells : Cells)
      → T (below_all nat_cmp x.0 cells) → ((later : Cells) → T (is_sorted nat_cmp later) → AreMerged ls us cells later)
      → (later : Cells) → T (is_sorted nat_cmp later) → AreMerged ls us (x ∷ cells) later
  merged_cons ls us hl hu x cells bx ih [] h = mods_lower (x ∷ cells) ls us hu
  merged_cons ls us hl hu x cells bx ih (y ∷ later) h =
      let m = Mod x.0 x.1 in
      let u = Mod y.0 y.1 in
      elim (nat_cmp y.0 x.0) as
      (λ r. nat_cmp y.0 x.0 ≡ r → fold_from key_cols (mods n (x ∷ cells) ++ ls) a d (mods n' (y ∷ later) ++ us)
      ≡ mods n
      (over_cells (by_order r ((y.0, y.1) ∷ x ∷ cells) ((x.0, y.1) ∷ cells) (x ∷ put nat_cmp y.0 y.1 cells)) later)
      ++ fold_from key_cols ls a d us) [
        | Less ↦ λ p.
            upper_here key_cols n n' a d level m u (mods n cells ++ ls) (mods n' later ++ us) (ap columns_meet p)
            ∙ ap (λ es. entry_at n u ∷ es) (merged_cons ls us hl hu x cells bx ih later (second _ _ h))
            ∙ sym (ap (λ cs. mods n cs ++ fold_from key_cols ls a d us) (over_past y (x ∷ cells) later (first _ _ h)))
        | Equal ↦ λ p.
            let same = nat_cmp-IsAntisymmetric y.0 x.0 p in
            over_here key_cols n n' a d level m u (mods n cells ++ ls) (mods n' later ++ us) (ap columns_meet p)
            ∙ ih (y ∷ later) h
            ∙ ap (λ cs. mods n (over_cells cs later) ++ fold_from key_cols ls a d us)
            (put_first y cells (subst (λ k. T (below_all nat_cmp k cells)) (sym same) bx) ∙ ap (λ k. (k, y.1) ∷ cells) same)
        | Greater ↦ λ p.
            let at_a = add_none a in
            let at_d = add_none d in
            let low = turned y.0 x.0 p in
            lower_here key_cols n n' a d level m u (mods n cells ++ ls) (mods n' later ++ us) (ap columns_meet p)
            ∙ (λ i. entry_at n m ∷ fold_from key_cols (mods n cells ++ ls) (at_a i) (at_d i) (mods n' (y ∷ later) ++ us))
            ∙ ap (λ es. entry_at n m ∷ es) (ih (y ∷ later) h)
            ∙ sym (ap (λ cs. mods n cs ++ fold_from key_cols ls a d us)
            (over_past x (put nat_cmp y.0 y.1 cells) later (below_less nat_cmp_total x.0 y.0 later low (first _ _ h))))
      ] refl

  -- modifies of both trees are merged by column
  pub mods_merged : (cells : Cells) (ls us : List Entry) → T (all_after n ls) → T (all_after n' us) → T (is_sorted nat_cmp cells)
      → (later : Cells) → T (is_sorted nat_cmp later) → AreMerged ls us cells later
  mods_merged [] ls us hl hu h later g =
      mods_upper later ls us hl ∙ sym (ap (λ cs. mods n cs ++ fold_from key_cols ls a d us) (over_nothing later g))
  mods_merged (x ∷ cells) ls us hl hu h later g =
      merged_cons ls us hl hu x cells (first _ _ h) (mods_merged cells ls us hl hu (second _ _ h)) later g
