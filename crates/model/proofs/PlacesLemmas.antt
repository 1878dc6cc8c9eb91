-- A base row that isn't deleted stands at its position in the image.
use Rattle.std.proofs.Common.{◌≡◌, ℕ, zero, suc, ◌+◌, ◌-◌, ◌<◌, ◌≤◌, Bool, cond, Option, Some, None, List, [], ◌∷◌, ◌++◌, map, length, filter, set, refl, sym, ap, ◌∙◌, subst, arith}
use Rattle.std.specs.Prelude.{◌==◌, nat_lt, nat_le, slice_get}
use Rattle.std.proofs.lemmas.Bool.Decides.{nat_tests}
use Rattle.values.specs.declared.row.Row.{Row}
use Rattle.model.specs.declared.entry.Entry.{Entry}
use Rattle.model.specs.declared.entry.Change.{Change}
use Rattle.model.specs.declared.entry.Change.TheVariants.{Ins, Del, Mod}
use Rattle.model.specs.Merging.{changes_at, inserted_rows, left_of, merged_rows_from, merged_rows}
use Rattle.model.specs.Places.{deleted_keys, rid_of_base}
use Rattle.std.proofs.lemmas.Grind.{common_steps}

skip : {X : Type 0} (xs ys : List X) (i : ℕ) → slice_get (xs ++ ys) (length xs + i) ≡ slice_get ys i
skip [] ys i = let z : 0 + i ≡ i = omega arith in ap (slice_get ys) z
skip (x ∷ xs) ys i = let s : suc (length xs) + i ≡ suc (length xs + i) = omega arith in ap (slice_get (x ∷ xs ++ ys)) s ∙ skip xs ys i

-- ---- counts below a place

abbrev pub counted : (Change → ℕ) → (Entry → Bool) → List Entry → ℕ
counted worth p [] = 0
counted worth p (e ∷ es) = cond (p e) (worth e.change) 0 + counted worth p es

abbrev pub ins_worth : Change → ℕ
ins_worth (Ins row) = 1
ins_worth (Del key) = 0
ins_worth (Mod col value) = 0

abbrev pub del_worth : Change → ℕ
del_worth (Ins row) = 0
del_worth (Del key) = 1
del_worth (Mod col value) = 0

pub one_more : (c : Change) (cs : List Change) → length (inserted_rows (c ∷ cs)) ≡ ins_worth c + length (inserted_rows cs)
one_more (Ins row) cs = omega arith
one_more (Del key) cs = omega arith
one_more (Mod col value) cs = omega arith

pub one_gone : (c : Change) (cs : List Change) → length (deleted_keys (c ∷ cs)) ≡ del_worth c + length (deleted_keys cs)
one_gone (Ins row) cs = omega arith
one_gone (Del key) cs = omega arith
one_gone (Mod col value) cs = omega arith

none_more : (n : ℕ) → n ≡ 0 + n
none_more n = omega arith

count_inserts : (p : Entry → Bool) (es : List Entry) → length (inserted_rows (map (λ e. e.change) (filter p es))) ≡ counted ins_worth p es
count_inserts p [] = refl
count_inserts p (e ∷ es) = grind (arith, common_steps, count_inserts p es, one_more, none_more)

count_deletes : (p : Entry → Bool) (es : List Entry) → length (deleted_keys (map (λ e. e.change) (filter p es))) ≡ counted del_worth p es
count_deletes p [] = refl
count_deletes p (e ∷ es) = grind (arith, common_steps, count_deletes p es, one_gone, none_more)

below_next : (x m w : ℕ) → cond (nat_lt x (suc m)) w 0 ≡ cond (nat_lt x m) w 0 + cond (x == m) w 0
below_next x m w = grind (arith, nat_tests)

up_to : (x m w : ℕ) → cond (nat_le x m) w 0 ≡ cond (nat_lt x m) w 0 + cond (x == m) w 0
up_to x m w = grind (arith, nat_tests)

never : (x w : ℕ) → cond (nat_lt x 0) w 0 ≡ 0
never x w = grind (arith, nat_tests)

four : (a b c d e f : ℕ) → a ≡ b + c → d ≡ e + f → a + d ≡ (b + e) + (c + f)
four a b c d e f p q = omega arith

count_next : (worth : Change → ℕ) (m : ℕ) (es : List Entry)
    → counted worth (λ e. nat_lt e.sid (suc m)) es ≡ counted worth (λ e. nat_lt e.sid m) es + counted worth (λ e. e.sid == m) es
count_next worth m [] = refl
count_next worth m (e ∷ es) = four _ _ _ _ _ _ (below_next e.sid m (worth e.change)) (count_next worth m es)

count_up_to : (worth : Change → ℕ) (m : ℕ) (es : List Entry)
    → counted worth (λ e. nat_le e.sid m) es ≡ counted worth (λ e. nat_lt e.sid m) es + counted worth (λ e. e.sid == m) es
count_up_to worth m [] = refl
count_up_to worth m (e ∷ es) = four _ _ _ _ _ _ (up_to e.sid m (worth e.change)) (count_up_to worth m es)

count_none : (worth : Change → ℕ) (es : List Entry) → counted worth (λ e. nat_lt e.sid 0) es ≡ 0
count_none worth [] = refl
count_none worth (e ∷ es) = let h = never e.sid (worth e.change) in let r = count_none worth es in λ i. h i + r i

-- ---- the rows before a place

pub left_length : (row : Row) (cs : List Change) → length (deleted_keys cs) ≤ 1 → length (left_of row cs) + length (deleted_keys cs) ≡ 1
left_length row [] h = refl
left_length row (Ins new ∷ cs) h = left_length row cs h
left_length row (Del key ∷ cs) h = omega arith
left_length row (Mod col value ∷ cs) h = left_length (set row col value) cs h

left_first : (row : Row) (cs : List Change) (rest : List Row) → length (deleted_keys cs) ≡ 0
    → slice_get (left_of row cs ++ rest) 0 ≡ slice_get (left_of row cs) 0
left_first row [] rest h = refl
left_first row (Ins new ∷ cs) rest h = left_first row cs rest h
left_first row (Del key ∷ cs) rest h = absurd (omega arith)
left_first row (Mod col value ∷ cs) rest h = left_first (set row col value) cs rest h

-- a base row as its changes leave it
abbrev pub row_left : Option Row → List Change → Option Row
row_left None cs = None
row_left (Some row) cs = slice_get (left_of row cs) 0

module _ (es : List Entry) (single : (m : ℕ) → length (deleted_keys (changes_at m es)) ≤ 1) where
  abbrev ins_below : ℕ → ℕ
  ins_below m = counted ins_worth (λ e. nat_lt e.sid m) es

  abbrev del_below : ℕ → ℕ
  del_below m = counted del_worth (λ e. nat_lt e.sid m) es

  abbrev ins_here : ℕ → ℕ
  ins_here m = counted ins_worth (λ e. e.sid == m) es

  abbrev del_here : ℕ → ℕ
  del_here m = counted del_worth (λ e. e.sid == m) es

  here_ins : (m : ℕ) → length (inserted_rows (changes_at m es)) ≡ ins_here m
  here_ins m = count_inserts (λ e. e.sid == m) es

  here_del : (m : ℕ) → length (deleted_keys (changes_at m es)) ≡ del_here m
  here_del m = count_deletes (λ e. e.sid == m) es

  ins_grow : (n k s : ℕ) → s ≡ n + k → ins_below n ≤ ins_below s
  ins_grow n zero s is = let e : s ≡ n = omega arith in subst (λ m. ins_below n ≤ ins_below m) (sym e) (omega arith)
  ins_grow n (suc k) s is =
      let e : s ≡ suc n + k = omega arith in
      let rest = ins_grow (suc n) k s e in
      omega (arith, count_next ins_worth n es)

  del_grow : (n k s : ℕ) → s ≡ n + k → del_below s ≤ del_below n + k
  del_grow n zero s is = let e : s ≡ n = omega arith in subst (λ m. del_below m ≤ del_below n + zero) (sym e) (omega arith)
  del_grow n (suc k) s is =
      let e : s ≡ suc n + k = omega arith in
      let rest = del_grow (suc n) k s e in
      omega (arith, count_next del_worth n es, single n, here_del n)

  found : (base : List Row) (n k s r : ℕ) → s ≡ n + k → k < length base → length (deleted_keys (changes_at s es)) ≡ 0
      → r + (n + ins_below n) + del_below s ≡ (s + ins_below s + ins_here s) + del_below n
      → slice_get (merged_rows_from n base es) r ≡ row_left (slice_get base k) (changes_at s es)
  found [] n k s r is lt kept at_r = absurd (omega arith)
  found (row ∷ base) n zero s r is lt kept at_r = grind (arith, common_steps, here_ins, skip, left_first)
  found (row ∷ base) n (suc k) s r is lt kept at_r =
      let e : s ≡ suc n + k = omega arith in
      let shorter : k < length base = omega arith in
      let i = length (inserted_rows (changes_at n es)) in
      let l = length (left_of row (changes_at n es)) in
      let one = left_length row (changes_at n es) (single n) in
      let enough : i + l ≤ r =
      omega (
        arith,
        at_r,
        one,
        here_ins n,
        here_del n,
        count_next ins_worth n es,
        count_next del_worth n es,
        ins_grow (suc n) k s e,
        del_grow (suc n) k s e,
      ) in
      let rest : ℕ = r - (i + l) in
      let index : r ≡ i + (l + rest) = omega (arith, enough) in
      let next : rest + (suc n + ins_below (suc n)) + del_below s ≡ (s + ins_below s + ins_here s) + del_below (suc n) =
      omega (arith, at_r, enough, one, here_ins n, here_del n, count_next ins_worth n es, count_next del_worth n es) in
      ap (slice_get (merged_rows_from n (row ∷ base) es)) index
      ∙ skip (inserted_rows (changes_at n es)) (left_of row (changes_at n es) ++ merged_rows_from (suc n) base es) (l + rest)
      ∙ skip (left_of row (changes_at n es)) (merged_rows_from (suc n) base es) rest
      ∙ found base (suc n) k s rest e shorter kept next

  -- the row at the position of a base row that isn't deleted is that row, as its changes leave it
  pub merged_rows-base : (base : List Row) (s : ℕ) → s < length base → length (deleted_keys (changes_at s es)) ≡ 0
      → slice_get (merged_rows base es) (rid_of_base es s) ≡ row_left (slice_get base s) (changes_at s es)
  merged_rows-base base s lt kept =
      let z : s ≡ 0 + s = omega arith in
      let none_i = count_none ins_worth es in
      let none_d = count_none del_worth es in
      let position : rid_of_base es s + (0 + ins_below 0) + del_below s ≡ (s + ins_below s + ins_here s) + del_below 0 =
      omega (
        arith,
        none_i,
        none_d,
        del_grow 0 s s z,
        count_inserts (λ e. nat_le e.sid s) es,
        count_deletes (λ e. nat_lt e.sid s) es,
        count_up_to ins_worth s es,
      )
      in
      found base 0 s s (rid_of_base es s) z lt kept position

  first_part : {X : Type 0} (xs ys : List X) (i : ℕ) → i < length xs → slice_get (xs ++ ys) i ≡ slice_get xs i
  first_part [] ys i h = absurd (omega arith)
  first_part (x ∷ xs) ys zero h = refl
  first_part (x ∷ xs) ys (suc i) h = let lt : i < length xs = omega arith in first_part xs ys i lt

  -- the j-th insert of a place
  found_insert : (base : List Row) (n k s r j : ℕ) → s ≡ n + k → k ≤ length base → j < length (inserted_rows (changes_at s es))
      → r + (n + ins_below n) + del_below s ≡ (s + ins_below s + j) + del_below n
      → slice_get (merged_rows_from n base es) r ≡ slice_get (inserted_rows (changes_at s es)) j
  found_insert [] n zero s r j is le lt at_r =
      let e : s ≡ n = omega arith in
      let at_r' = subst (λ m. r + (n + ins_below n) + del_below m ≡ (m + ins_below m + j) + del_below n) e at_r in
      let index : r ≡ j = omega (arith, at_r') in
      λ i. slice_get (inserted_rows (changes_at (sym e i) es)) (index i)
  found_insert [] n (suc k) s r j is le lt at_r = absurd (omega arith)
  found_insert (row ∷ base) n zero s r j is le lt at_r = grind (arith, common_steps, first_part)
  found_insert (row ∷ base) n (suc k) s r j is le lt at_r =
      let e : s ≡ suc n + k = omega arith in
      let shorter : k ≤ length base = omega arith in
      let i = length (inserted_rows (changes_at n es)) in
      let l = length (left_of row (changes_at n es)) in
      let one = left_length row (changes_at n es) (single n) in
      let enough : i + l ≤ r =
      omega (
        arith,
        at_r,
        one,
        here_ins n,
        here_del n,
        count_next ins_worth n es,
        count_next del_worth n es,
        ins_grow (suc n) k s e,
        del_grow (suc n) k s e,
      ) in
      let rest : ℕ = r - (i + l) in
      let index : r ≡ i + (l + rest) = omega (arith, enough) in
      let next : rest + (suc n + ins_below (suc n)) + del_below s ≡ (s + ins_below s + j) + del_below (suc n) =
      omega (arith, at_r, enough, one, here_ins n, here_del n, count_next ins_worth n es, count_next del_worth n es) in
      ap (slice_get (merged_rows_from n (row ∷ base) es)) index
      ∙ skip (inserted_rows (changes_at n es)) (left_of row (changes_at n es) ++ merged_rows_from (suc n) base es) (l + rest)
      ∙ skip (left_of row (changes_at n es)) (merged_rows_from (suc n) base es) rest
      ∙ found_insert base (suc n) k s rest j e shorter lt next

  -- the j-th insert of place s stands j rows past the rows before that place
  pub merged_rows-insert : (base : List Row) (s j : ℕ) → s ≤ length base → j < length (inserted_rows (changes_at s es))
      → slice_get (merged_rows base es) ((s + (ins_below s + j)) - del_below s) ≡ slice_get (inserted_rows (changes_at s es)) j
  merged_rows-insert base s j le lt =
      let z : s ≡ 0 + s = omega arith in
      let none_i = count_none ins_worth es in
      let none_d = count_none del_worth es in
      let r : ℕ = (s + (ins_below s + j)) - del_below s in
      let position : r + (0 + ins_below 0) + del_below s ≡ (s + ins_below s + j) + del_below 0 =
      omega (arith, none_i, none_d, del_grow 0 s s z) in
      found_insert base 0 s s r j z le lt position
