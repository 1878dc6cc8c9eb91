-- Entries in blocks, and how they move.
use Rattle.std.proofs.Common.{◌≡◌, ℕ, zero, suc, ◌+◌, ◌-◌, ◌*◌, ◌/◌, ◌<◌, ◌≤◌, ◌^◌, ◌≢◌, true, false, T, cond, Some, rules}
use Rattle.std.proofs.Common.{◌⊎◌, inl, inr, List, [], ◌∷◌, ◌++◌, map, length, take, drop, get_or, refl, sym, ap, ◌∙◌, subst, arith}
use Rattle.std.specs.Prelude.{nat_lt, slice_get, slice_index_or, slice_set}
use Rattle.std.specs.List.{All, list_all}
use Rattle.std.specs.List.Sorted.{IsNonDecreasingBy}
use Rattle.std.specs.Ordering.{is_lt}
use Rattle.std.specs.Option.{option_map}
use Rattle.std.proofs.lemmas.List.{get_or-drop, get_or-set_other, get_or-take, get_or_past, length-drop, length-take}
use Rattle.std.proofs.lemmas.Option.{get_or_from_slice_get, slice_get_within}
use Rattle.std.proofs.lemmas.Grind.{get_or-set_at}
use Rattle.model.specs.declared.entry.Entry.{Entry}
use Rattle.model.specs.Entries.{are_ordered, entry_cmp}
use Rattle.model.proofs.CallerLemmas.{both, first, less, second}
use Rattle.layers.proofs.PassLemmas.{sids_less}
use Rattle.layers.specs.declared.shift.Shift.{Shift}
use Rattle.layers.specs.Shifts.{shifted_by, no_shift, shift_at, moved_from, shifted_entries, move_between, moved_between}
use Rattle.std.proofs.lemmas.Grind.{common_steps}

lt_true : (n m : ℕ) → n < m → nat_lt n m ≡ true
lt_true n m lt = search rules

lt_false : (n m : ℕ) → m ≤ n → nat_lt n m ≡ false
lt_false n m ge = search rules

pub le_or_lt : (n m : ℕ) → (n ≤ m) ⊎ (m < n)
le_or_lt n m = search rules

pub all_at : (P : Entry → Type 0) (n : ℕ) (es : List Entry) (e : Entry) → All P es → slice_get es n ≡ Some e → P e
all_at P n es e all at = subst P (get_or_from_slice_get es n e e at) (all n e (slice_get_within es n e at))

-- ---- entries that are moved by their index

abbrev pub Move : Type 0
Move = ℕ → Entry → Entry

pub moved-moved : (f g : Move) (i : ℕ) (es : List Entry) → moved_from f i (moved_from g i es) ≡ moved_from (λ j e. f j (g j e)) i es
moved-moved f g i [] = refl
moved-moved f g i (e ∷ es) = ap (λ (zs : List Entry). f i (g i e) ∷ zs) (moved-moved f g (suc i) es)

-- those that move alike
pub moved_alike : (f g : Move) (i : ℕ) (es : List Entry)
    → ((j : ℕ) (e : Entry) → i ≤ j → j < i + length es → f j e ≡ g j e) → moved_from f i es ≡ moved_from g i es
moved_alike f g i [] same = refl
moved_alike f g i (e ∷ es) same =
    grind (arith, common_steps, moved_alike f g (suc i) es (λ j z low high. same j z (omega (arith, low)) (omega (arith, high))))

pub moved_still : (f : Move) (i : ℕ) (es : List Entry)
    → ((j : ℕ) (e : Entry) → i ≤ j → j < i + length es → f j e ≡ e) → moved_from f i es ≡ es
moved_still f i [] same = refl
moved_still f i (e ∷ es) same =
    grind (arith, common_steps, moved_still f (suc i) es (λ j z low high. same j z (omega (arith, low)) (omega (arith, high))))

pub length-moved : (f : Move) (i : ℕ) (es : List Entry) → length (moved_from f i es) ≡ length es
length-moved f i [] = refl
length-moved f i (e ∷ es) = ap suc (length-moved f (suc i) es)

pub moved_at : (f : Move) (i n : ℕ) (es : List Entry) → slice_get (moved_from f i es) n ≡ option_map (f (i + n)) (slice_get es n)
moved_at f i n [] = refl
moved_at f i zero (e ∷ es) = let same : i ≡ i + zero = omega arith in ap (λ (k : ℕ). Some (f k e)) same
moved_at f i (suc n) (e ∷ es) = grind (arith, common_steps, moved_at f (suc i) n es)

pub set-moved : (f : Move) (i n : ℕ) (es : List Entry) (x : Entry)
    → moved_from f i (slice_set es n x) ≡ slice_set (moved_from f i es) n (f (i + n) x)
set-moved f i n [] x = refl
set-moved f i zero (e ∷ es) x = let same : i ≡ i + zero = omega arith in ap (λ (k : ℕ). f k x ∷ moved_from f (suc i) es) same
set-moved f i (suc n) (e ∷ es) x = grind (arith, common_steps, set-moved f (suc i) n es x)

get_or-moved : (f : Move) (i n : ℕ) (es : List Entry) (d z : Entry) → n < length es
    → get_or (moved_from f i es) n z ≡ f (i + n) (get_or es n d)
get_or-moved f i n [] d z lt = absurd (omega arith)
get_or-moved f i zero (e ∷ es) d z lt = let same : i ≡ i + zero = omega arith in ap (λ (k : ℕ). f k e) same
get_or-moved f i (suc n) (e ∷ es) d z lt = grind (arith, common_steps, get_or-moved f (suc i) n es d z (omega arith))

-- what holds of the moved ones holds of each where its move is this one
pub all_moved : (P : Entry → Type 0) (f : Move) (g : Entry → Entry) (i p m : ℕ) (es : List Entry)
    → ((j : ℕ) (e : Entry) → i + p ≤ j → j < i + p + m → j < i + length es → f j e ≡ g e)
    → All P (moved_from f i es) → All (λ e. P (g e)) (take m (drop p es))
all_moved P f g i p m es same all k d lt =
    let low : k < m = omega (arith, lt, length-take m (drop p es)) in
    let within : p + k < length es = omega (arith, lt, length-take m (drop p es), length-drop p es) in
    let whole : p + k < length (moved_from f i es) = omega (arith, within, length-moved f i es) in
    let own = get_or-take m (drop p es) k d low ∙ get_or-drop p es k d in
    let there = get_or-moved f i (p + k) es d d within in
    let is = same (i + (p + k)) (get_or es (p + k) d) (omega arith) (omega (arith, low)) (omega (arith, within)) in
    subst P (there ∙ is ∙ ap g (sym own)) (all (p + k) d whole)

pub all_moves : (P : Entry → Type 0) (f : Move) (i : ℕ) (es : List Entry)
    → ((j : ℕ) (d : Entry) → j < length es → P (f (i + j) (get_or es j d))) → All P (moved_from f i es)
all_moves P f i es each k d lt =
    let within : k < length es = omega (arith, lt, length-moved f i es) in
    subst P (sym (get_or-moved f i k es d d within)) (each k d within)

-- ---- those between two indices

pub inside : (s t : ℕ) (f : Entry → Entry) (j : ℕ) (e : Entry) → s ≤ j → j < t → move_between s t f j e ≡ f e
inside s t f j e low high =
    (λ i. cond (lt_false j s low i) e (cond (lt_true j t high i) (f e) e))

pub below : (s t : ℕ) (f : Entry → Entry) (j : ℕ) (e : Entry) → j < s → move_between s t f j e ≡ e
below s t f j e low = ap (λ b. cond b e (cond (nat_lt j t) (f e) e)) (lt_true j s low)

pub above : (s t : ℕ) (f : Entry → Entry) (j : ℕ) (e : Entry) → s ≤ j → t ≤ j → move_between s t f j e ≡ e
above s t f j e low high = (λ i. cond (lt_false j s low i) e (cond (lt_false j t high i) (f e) e))

rest_slices : (s t i m : ℕ) (f : Entry → Entry) (es : List Entry) → s ≤ i → t ≡ i + m
    → map f (take m es) ++ drop m es ≡ moved_from (move_between s t f) i es
rest_slices s t i zero f [] low end = refl
rest_slices s t i (suc m) f [] low end = refl
rest_slices s t i zero f (e ∷ es) low end = grind (arith, common_steps, moved_still, above)
rest_slices s t i (suc m) f (e ∷ es) low end =
    grind (arith, common_steps, rest_slices s t (suc i) m f es (omega (arith, low)) (omega (arith, end)), inside)

-- as slices
pub between_slices : (s t i p m : ℕ) (f : Entry → Entry) (es : List Entry) → s ≡ i + p → t ≡ s + m
    → take p es ++ (map f (take m (drop p es)) ++ drop m (drop p es)) ≡ moved_from (move_between s t f) i es
between_slices s t i zero m f es start end = rest_slices s t i m f es (omega (arith, start)) (omega (arith, start, end))
between_slices s t i (suc p) zero f [] start end = refl
between_slices s t i (suc p) (suc m) f [] start end = refl
between_slices s t i (suc p) m f (e ∷ es) start end =
    grind (arith, common_steps, between_slices s t (suc i) p m f es (omega (arith, start)) end, below)

-- from an index to the end
to_end : (s t i p : ℕ) (f : Entry → Entry) (es : List Entry) → s ≡ i + p → t ≡ i + length es
    → moved_from (move_between s t f) i es ≡ take p es ++ map f (drop p es)
to_end s t i zero f [] start end = refl
to_end s t i (suc p) f [] start end = refl
to_end s t i zero f (e ∷ es) start end =
    let here = inside s t f i e (omega (arith, start)) (omega (arith, end)) in
    let rest = all_there (suc i) es (omega (arith, start)) (omega (arith, end)) in
    λ k. here k ∷ rest k
  where
    all_there : (j : ℕ) (zs : List Entry) → s ≤ j → t ≡ j + length zs → moved_from (move_between s t f) j zs ≡ map f zs
    all_there j [] low high = refl
    all_there j (z ∷ zs) low high =
        let first = inside s t f j z low (omega (arith, high)) in
        let others = all_there (suc j) zs (omega (arith, low)) (omega (arith, high)) in
        λ k. first k ∷ others k
to_end s t i (suc p) f (e ∷ es) start end =
    grind (arith, common_steps, to_end s t (suc i) p f es (omega (arith, start)) (omega (arith, end)), below)

pub moved_to_end : (p : ℕ) (f : Entry → Entry) (es : List Entry) → moved_between p (length es) f es ≡ take p es ++ map f (drop p es)
moved_to_end p f es = to_end p (length es) 0 p f es (omega arith) (omega arith)

-- one run of indices and the next
pub runs_join : (p q r : ℕ) (f : Entry → Entry) (es : List Entry) → p ≤ q → q ≤ r
    → moved_between q r f (moved_between p q f es) ≡ moved_between p r f es
runs_join p q r f es low high =
    moved-moved (move_between q r f) (move_between p q f) 0 es
    ∙ moved_alike (λ j e. move_between q r f j (move_between p q f j e)) (move_between p r f) 0 es by
  where
    by : (j : ℕ) (e : Entry) → 0 ≤ j → j < 0 + length es → move_between q r f j (move_between p q f j e) ≡ move_between p r f j e
    by j e from to =
        elim (le_or_lt p j) [
          | inl ge ↦
              elim (le_or_lt q j) [
                | inl past ↦
                    elim (le_or_lt r j) [
                      | inl out ↦
                          ap (move_between q r f j) (above p q f j e ge past) ∙ above q r f j e past out
                          ∙ sym (above p r f j e ge out)
                      | inr lt ↦
                          ap (move_between q r f j) (above p q f j e ge past) ∙ inside q r f j e past lt
                          ∙ sym (inside p r f j e ge lt)
                    ]
                | inr lt ↦
                    let short : j < r = omega (arith, lt, high) in
                    ap (move_between q r f j) (inside p q f j e ge lt) ∙ below q r f j (f e) lt ∙ sym (inside p r f j e ge short)
              ]
          | inr lt ↦
              let short : j < q = omega (arith, lt, low) in
              ap (move_between q r f j) (below p q f j e lt) ∙ below q r f j e short ∙ sym (below p r f j e lt)
        ]

-- past the end there is nothing to move
pub runs_end : (p q r : ℕ) (f : Entry → Entry) (es : List Entry) → length es ≤ q → length es ≤ r
    → moved_between p q f es ≡ moved_between p r f es
runs_end p q r f es one two = grind (arith, common_steps, moved_alike, le_or_lt, inside, below)

-- ---- shifts

pub unmoved : (e : Entry) → shifted_by no_shift e ≡ e
unmoved e = let same : (e.sid - 0) + 0 ≡ e.sid = omega arith in ap (λ (s : ℕ). record { sid = s; change = e.change }) same

pub shift_set : (ss : List Shift) (b j : ℕ) (s : Shift) → b < length ss → j / 256 ≡ b → shift_at (slice_set ss b s) j ≡ s
shift_set ss b j s lt is = get_or-set_at ss b (j / 256) s no_shift is lt

pub shift_other : (ss : List Shift) (b j : ℕ) (s : Shift) → j / 256 ≢ b → shift_at (slice_set ss b s) j ≡ shift_at ss j
shift_other ss b j s off = get_or-set_other ss b (j / 256) s no_shift off

-- where no block has moved
pub all_unshifted : (ss : List Shift) (es : List Entry) → ((j : ℕ) → shift_at ss j ≡ no_shift) → shifted_entries ss es ≡ es
all_unshifted ss es none =
    moved_still (λ j. shifted_by (shift_at ss j)) 0 es (λ j e low high. ap (λ (s : Shift). shifted_by s e) (none j) ∙ unmoved e)

-- those of one run of indices that stand where their own SIDs say
pub moves_settled : (ss : List Shift) (es : List Entry) (p m q : ℕ) (f : Entry → Entry) → q ≡ p + m
    → ((j : ℕ) → p ≤ j → j < q → j < length es → shift_at ss j ≡ no_shift)
    → shifted_entries ss (take p es ++ (map f (take m (drop p es)) ++ drop m (drop p es))) ≡ moved_between p q f (shifted_entries ss es)
moves_settled ss es p m q f end none =
    let own : Move = λ j. shifted_by (shift_at ss j) in
    ap (shifted_entries ss) (between_slices p q 0 p m f es (omega arith) end)
    ∙ moved-moved own (move_between p q f) 0 es
    ∙ moved_alike (λ j e. own j (move_between p q f j e)) (λ j e. move_between p q f j (own j e)) 0 es by
    ∙ sym (moved-moved (move_between p q f) own 0 es)
  where
    by : (j : ℕ) (e : Entry) → 0 ≤ j → j < 0 + length es
        → shifted_by (shift_at ss j) (move_between p q f j e) ≡ move_between p q f j (shifted_by (shift_at ss j) e)
    by j e from to =
        elim (le_or_lt p j) [
          | inl ge ↦
              elim (le_or_lt q j) [
                | inl past ↦
                    ap (shifted_by (shift_at ss j)) (above p q f j e ge past) ∙ sym (above p q f j (shifted_by (shift_at ss j) e) ge past)
                | inr lt ↦
                    let still = none j ge lt (omega (arith, to)) in
                    (λ i. shifted_by (still i) (inside p q f j e ge lt i)) ∙ unmoved (f e)
                    ∙ ap f (sym (unmoved e) ∙ ap (λ (s : Shift). shifted_by s e) (sym still))
                    ∙ sym (inside p q f j (shifted_by (shift_at ss j) e) ge lt)
              ]
          | inr lt ↦
              ap (shifted_by (shift_at ss j)) (below p q f j e lt) ∙ sym (below p q f j (shifted_by (shift_at ss j) e) lt)
        ]

-- ---- one block

-- the block whose first entry has the index p, and the next one's the index q
pub record IsBlock (b p q len : ℕ) : Type 0 where
  pub within : p ≤ len
  pub below : p ≤ b * 256
  pub there : p < len → p ≡ b * 256
  pub end_within : q ≤ len
  pub end_below : q ≤ (b + 1) * 256
  pub end_there : q < len → q ≡ (b + 1) * 256

module _ (b p q len : ℕ) (h : IsBlock b p q len) where
  pub in_order : p ≤ q
  in_order =
      elim (le_or_lt len q) [
        | inl whole ↦ omega (arith, whole, h.within)
        | inr lt ↦ let end = h.end_there lt in omega (arith, end, h.below)
      ]

  pub of_block : (j : ℕ) → j < len → p ≤ j → j < q → j / 256 ≡ b
  of_block j lt low high = let start = h.there (omega (arith, lt, low)) in omega (arith, start, low, high, h.end_below)

  pub of_lower : (j : ℕ) → j < p → j / 256 ≢ b
  of_lower j low is = absurd (omega (arith, low, is, h.below))

  pub of_upper : (j : ℕ) → j < len → q ≤ j → j / 256 ≢ b
  of_upper j lt high is = let end = h.end_there (omega (arith, lt, high)) in absurd (omega (arith, end, high, is))

module _ (ss : List Shift) (es : List Entry) (b p q : ℕ) (h : IsBlock b p q (length es)) where
  -- its entries have its shift
  pub all_shifted : (P : Entry → Type 0) (s : Shift) → slice_get ss b ≡ Some s → All P (shifted_entries ss es)
      → All (λ e. P (shifted_by s e)) (take (q - p) (drop p es))
  all_shifted P s at all =
      all_moved P (λ j. shifted_by (shift_at ss j)) (shifted_by s) 0 p (q - p) es
      (λ j e low high lt.
      let from : p ≤ j = omega (arith, low) in
      let to : j < q = omega (arith, high, in_order b p q (length es) h) in
      let is = of_block b p q (length es) h j (omega (arith, lt)) from to in
      ap (λ (k : ℕ). shifted_by (get_or ss k no_shift) e) is
      ∙ ap (λ (z : Shift). shifted_by z e) (get_or_from_slice_get ss b s no_shift at)) all

  -- written into its own SIDs
  pub settled : (s : Shift) → slice_get ss b ≡ Some s
      → shifted_entries (slice_set ss b no_shift) (take p es ++ (map (shifted_by s) (take (q - p) (drop p es)) ++ drop (q - p) (drop p es)))
      ≡ shifted_entries ss es
  settled s at =
      let f = shifted_by s in
      let own : Move = λ j. shifted_by (shift_at (slice_set ss b no_shift) j) in
      ap (shifted_entries (slice_set ss b no_shift))
      (between_slices p q 0 p (q - p) f es (omega arith) (omega (arith, in_order b p q (length es) h)))
      ∙ moved-moved own (move_between p q f) 0 es
      ∙ moved_alike (λ j e. own j (move_between p q f j e)) (λ j. shifted_by (shift_at ss j)) 0 es by
    where
      by : (j : ℕ) (e : Entry) → 0 ≤ j → j < 0 + length es
          → shifted_by (shift_at (slice_set ss b no_shift) j) (move_between p q (shifted_by s) j e) ≡ shifted_by (shift_at ss j) e
      by j e from to =
          let len = length es in
          let lt : j < len = omega (arith, to) in
          let new = slice_set ss b no_shift in
          let f = shifted_by s in
          elim (le_or_lt p j) [
            | inl ge ↦
                elim (le_or_lt q j) [
                  | inl past ↦
                      ap (shifted_by (shift_at new j)) (above p q f j e ge past)
                      ∙ ap (λ (z : Shift). shifted_by z e) (shift_other ss b j no_shift (of_upper b p q len h j lt past))
                  | inr short ↦
                      let is = of_block b p q len h j lt ge short in
                      let here = ap (λ (k : ℕ). get_or ss k no_shift) is ∙ get_or_from_slice_get ss b s no_shift at in
                      ap (shifted_by (shift_at new j)) (inside p q f j e ge short)
                      ∙ ap (λ (z : Shift). shifted_by z (f e)) (shift_set ss b j no_shift (slice_get_within ss b s at) is)
                      ∙ unmoved (f e)
                      ∙ ap (λ (z : Shift). shifted_by z e) (sym here)
                ]
            | inr low ↦
                ap (shifted_by (shift_at new j)) (below p q f j e low)
                ∙ ap (λ (z : Shift). shifted_by z e) (shift_other ss b j no_shift (of_lower b p q len h j low))
          ]

-- a shift that adds another one
pub added_to : (ss : List Shift) (es : List Entry) (b : ℕ) (both : Shift) (f : Entry → Entry) → b < length ss
    → ((e : Entry) → shifted_by both e ≡ f (shifted_by (get_or ss b no_shift) e))
    → shifted_entries (slice_set ss b both) es ≡ moved_between (b * 256) (b * 256 + 256) f (shifted_entries ss es)
added_to ss es b both f lt is =
    grind (arith, common_steps, both, moved_alike, moved-moved, le_or_lt, shift_other, above, shift_set, inside, below)

-- a block's indices, and those that there are
pub block_run : (b p q : ℕ) (f : Entry → Entry) (es : List Entry) → IsBlock b p q (length es)
    → moved_between p q f es ≡ moved_between (b * 256) (b * 256 + 256) f es
block_run b p q f es h = grind (arith, common_steps, moved_alike, le_or_lt, above, inside, less, below)

-- what few rows up leave small
pub all_between : (p q : ℕ) (s : Shift) (es : List Entry) → s.up < 2 ^ 62 → All (λ e. e.sid < 2 ^ 64) es
    → All (λ e. e.sid < 2 ^ 63) (drop p es) → All (λ e. e.sid < 2 ^ 64) (moved_between p q (shifted_by s) es)
all_between p q s es few all rest = all_moves (λ e. e.sid < 2 ^ 64) (move_between p q (shifted_by s)) 0 es by
  where
    by : (j : ℕ) (d : Entry) → j < length es → (move_between p q (shifted_by s) (0 + j) (get_or es j d)).sid < 2 ^ 64
    by j d lt =
        let e = get_or es j d in
        let f = shifted_by s in
        let small = all j d lt in
        let at : 0 + j ≡ j = omega arith in
        subst (λ (k : ℕ). (move_between p q f k e).sid < 2 ^ 64) (sym at) (
        elim (le_or_lt p j) [
          | inl ge ↦
              elim (le_or_lt q j) [
                | inl past ↦ subst (λ (z : Entry). z.sid < 2 ^ 64) (sym (above p q f j e ge past)) small
                | inr short ↦
                    let there : p + (j - p) ≡ j = omega (arith, ge) in
                    let own = get_or-drop p es (j - p) d ∙ ap (λ (k : ℕ). get_or es k d) there in
                    let left : j - p < length (drop p es) = omega (arith, ge, lt, length-drop p es) in
                    let less = subst (λ (z : Entry). z.sid < 2 ^ 63) own (rest (j - p) d left) in
                    subst (λ (z : Entry). z.sid < 2 ^ 64) (sym (inside p q f j e ge short)) (omega (arith, less, few))
              ]
          | inr low ↦ subst (λ (z : Entry). z.sid < 2 ^ 64) (sym (below p q f j e low)) small
        ]
        )

-- ---- entries in order

pub sids_ascend : (key_cols : ℕ) (es : List Entry) → T (are_ordered key_cols es) → IsNonDecreasingBy (λ e. e.sid) es
sids_ascend key_cols [] order i j d le lt = absurd (omega arith)
sids_ascend key_cols (e ∷ es) order zero zero d le lt = omega arith
sids_ascend key_cols (e ∷ es) order (suc i) zero d le lt = absurd (omega arith)
sids_ascend key_cols (e ∷ es) order zero (suc j) d le lt = grind (arith, common_steps, first, below, sids_less, less, second)
sids_ascend key_cols (e ∷ es) order (suc i) (suc j) d le lt = grind (arith, common_steps, sids_ascend key_cols es (second (list_all (λ z. is_lt (entry_cmp key_cols e z)) es) (are_ordered key_cols es) order) i j d (omega arith) (omega arith), second)

-- ---- where an entry stands

pub stands_at : (ss : List Shift) (es : List Entry) (n : ℕ) (e : Entry) → slice_get es n ≡ Some e
    → slice_get (shifted_entries ss es) n ≡ Some (shifted_by (shift_at ss n) e)
stands_at ss es n e at = grind (arith, common_steps, moved_at)

-- those before one that stands below
pub all_lower : (sid n : ℕ) (es : List Entry) → ((k : ℕ) (d : Entry) → k < n → k < length es → (slice_index_or es k d).sid < sid)
    → T (list_all (λ e. nat_lt e.sid sid) (take n es))
all_lower sid zero [] each = tt
all_lower sid zero (e ∷ es) each = tt
all_lower sid (suc n) [] each = tt
all_lower sid (suc n) (e ∷ es) each =
    both (nat_lt e.sid sid) _ (subst T (sym (lt_true e.sid sid (each 0 e (omega arith) (omega arith)))) tt)
    (all_lower sid n es (λ k d lt within. each (suc k) d (omega (arith, lt)) (omega (arith, within))))

-- a block that has none
pub own_block : (ss : List Shift) (n q len : ℕ) → n < len → len ≤ length ss * 256 → q ≤ (n / 256 + 1) * 256
    → (j : ℕ) → n ≤ j → j < q → shift_at (slice_set ss (n / 256) no_shift) j ≡ no_shift
own_block ss n q len within covered end j low high = search rules

pub stay_between : (p q : ℕ) (s : Shift) (es : List Entry) → s ≡ no_shift → es ≡ moved_between p q (shifted_by s) es
stay_between p q s es none = grind (arith, common_steps, moved_still, le_or_lt, above, inside, unmoved, below)

pub run_ends : (p q r : ℕ) (f : Entry → Entry) (es : List Entry) → q ≤ r → (q < length es → q ≡ r)
    → moved_between p q f es ≡ moved_between p r f es
run_ends p q r f es low there = grind (arith, common_steps, le_or_lt, runs_end)

-- past all shifts
pub no_shift_past : (ss : List Shift) (j : ℕ) → length ss ≤ j / 256 → shift_at ss j ≡ no_shift
no_shift_past ss j h = get_or_past ss (j / 256) no_shift h

-- an entry that stands where its own SID says
pub stands_own : (ss : List Shift) (es : List Entry) (n : ℕ) (e : Entry) → shift_at ss n ≡ no_shift → slice_get es n ≡ Some e
    → slice_get (shifted_entries ss es) n ≡ Some e
stands_own ss es n e none at =
    stands_at ss es n e at ∙ ap Some (ap (λ (s : Shift). shifted_by s e) none ∙ unmoved e)

-- and one in its place
pub puts_own : (ss : List Shift) (es : List Entry) (n : ℕ) (e : Entry) → shift_at ss n ≡ no_shift
    → shifted_entries ss (slice_set es n e) ≡ slice_set (shifted_entries ss es) n e
puts_own ss es n e none = grind (arith, common_steps, unmoved, set-moved)

pub map_alike : (f g : Entry → Entry) (es : List Entry) → ((e : Entry) → f e ≡ g e) → map f es ≡ map g es
map_alike f g [] same = refl
map_alike f g (e ∷ es) same = λ i. same e i ∷ map_alike f g es same i
