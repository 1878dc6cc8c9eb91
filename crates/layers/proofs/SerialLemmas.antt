-- The walk over a tree beside another one over the same image.
use Rattle.std.proofs.Common.{◌≡◌, ℕ, zero, suc, ◌+◌, ◌<◌, ◌≤◌, ◌^◌, Bool, true, false, T, Option, Some, None, is_some, List, [], ◌∷◌, rules}
use Rattle.std.proofs.Common.{◌++◌, map, length, take, drop, Less, is_lt, refl, sym, ap, ◌∙◌, subst, arith}
use Rattle.std.specs.Prelude.{◌==◌, IfSome, slice_get}
use Rattle.std.specs.Bool.{passes}
use Rattle.std.specs.List.{list_all}
use Rattle.std.proofs.lemmas.Bool.Decides.{nat_tests}
use Rattle.std.proofs.lemmas.List.{map-append, length-map}
use Rattle.std.proofs.lemmas.List.Elements.{All-weaker}
use Rattle.std.proofs.lemmas.Option.{slice_get_within, get_or_from_slice_get}
use Rattle.values.specs.Orders.{key_cmp}
use Rattle.values.specs.Shape.{Columns}
use Rattle.model.specs.declared.clash.ConflictRule.{ConflictRule}
use Rattle.model.specs.declared.clash.Clash.{Clash}
use Rattle.model.specs.declared.entry.Entry.{Entry}
use Rattle.model.specs.Maps.{is_sorted}
use Rattle.model.specs.Table.{Table}
use Rattle.model.specs.Effects.{Effects, is_keyed_effect, are_keyed_effects, table_with}
use Rattle.model.specs.Clashes.{conflicts, Conflicts}
use Rattle.model.specs.Entries.{entry_at, canonical_entries, entry_cmp, are_ordered, IsLawful}
use Rattle.model.specs.Rebasing.{or_else, clash_with, first_clash, first_clash_from, rebased_entry, rebased_entries, IsLeastClash}
use Rattle.model.proofs.CallerLemmas.{first, second, canonical_entries-placed, first_clash-least, finds, rebases, ordered}
use Rattle.delta.specs.Search.{stands_before, IsSplit}
use Rattle.delta.specs.Tree.{Tree}
use Rattle.layers.specs.Over.{IsTreeOf, AreAligned}
use Rattle.layers.specs.Passing.{put_entries}
use Rattle.layers.specs.Serialization.{clash_cmp, clash_with_first, rebased_tree}
use Rattle.delta.proofs.CallerLemmas.{inserts_less_deletes, length-entries_over}
use Rattle.layers.proofs.ClashLemmas.{agrees, is_ranked, agree_all, ranked-canonical_entries, clash_place}
use Rattle.std.proofs.lemmas.Grind.{common_steps}

pub head_drop : (n : ℕ) (es : List Entry) (e : Entry) → slice_get es n ≡ Some e → drop n es ≡ e ∷ drop (n + 1) es
head_drop n [] e is = cc
head_drop zero (z ∷ es) e is = search rules
head_drop (suc n) (z ∷ es) e is =
    let next : suc (n + 1) ≡ suc n + 1 = omega arith in
    head_drop n es e is ∙ ap (λ m. e ∷ drop m (z ∷ es)) next

pub next_take : (n : ℕ) (es : List Entry) (e : Entry) → slice_get es n ≡ Some e → take (n + 1) es ≡ take n es ++ e ∷ []
next_take n [] e is = cc
next_take zero (z ∷ es) e is = search rules
next_take (suc n) (z ∷ es) e is =
    let next : suc n + 1 ≡ suc (n + 1) = omega arith in
    ap (λ m. take m (z ∷ es)) next ∙ ap (λ ys. z ∷ ys) (next_take n es e is)

-- the entry that an iterator gives, and what it has left
pub record IsAt (n : ℕ) (es left : List Entry) (e : Entry) : Type 0 where
  pub at : slice_get es n ≡ Some e
  pub left_is : left ≡ drop (n + 1) es
  pub within : n + 1 ≤ length es

pub is_at : (n : ℕ) (es left : List Entry) (e : Entry) → drop n es ≡ e ∷ left → IsAt n es left e
is_at zero [] left e is = cc
is_at (suc n) [] left e is = cc
is_at zero (z ∷ es) left e is = search rules
is_at (suc n) (z ∷ es) left e is =
    let next : suc (n + 1) ≡ suc n + 1 = omega arith in
    let there = is_at n es left e is in
    record { at = there.at; left_is = there.left_is ∙ ap (λ m. drop m (z ∷ es)) next; within = omega (arith, there.within) }

pub holds_at : (p : Entry → Bool) (n : ℕ) (es : List Entry) (e : Entry) → T (list_all p es) → slice_get es n ≡ Some e → T (p e)
holds_at p n [] e h is = cc
holds_at p zero (z ∷ es) e h is = let same : z ≡ e = cc in subst (λ y. T (p y)) same (first (p z) _ h)
holds_at p (suc n) (z ∷ es) e h is = holds_at p n es e (second (p z) _ h) is

adjacent : (key_cols n : ℕ) (es : List Entry) (e z : Entry) → T (are_ordered key_cols es) → slice_get es n ≡ Some e
    → slice_get es (suc n) ≡ Some z → entry_cmp key_cols e z ≡ Less
adjacent key_cols n [] e z o p q = cc
adjacent key_cols zero (a ∷ []) e z o p q = cc
adjacent key_cols zero (a ∷ (b ∷ es)) e z o p q = search rules
adjacent key_cols (suc n) (a ∷ es) e z o p q =
    adjacent key_cols n es e z (second (list_all (λ y. is_lt (entry_cmp key_cols a y)) es) (are_ordered key_cols es) o) p q

-- ---- one entry more

-- an entry that clashes with none leaves the clash to the next ones
pub clear_next : (rule : ConflictRule) (key_cols n : ℕ) (xs ys : List Entry) (e : Entry) → slice_get xs n ≡ Some e
    → clash_with rule key_cols n e 0 ys ≡ None
    → first_clash_from rule key_cols n (drop n xs) ys ≡ first_clash_from rule key_cols (n + 1) (drop (n + 1) xs) ys
clear_next rule key_cols n xs ys e at none =
    let next : suc n ≡ n + 1 = omega arith in
    ap (λ zs. first_clash_from rule key_cols n zs ys) (head_drop n xs e at)
    ∙ ap (λ c. or_else c (first_clash_from rule key_cols (suc n) (drop (n + 1) xs) ys)) none
    ∙ ap (λ m. first_clash_from rule key_cols m (drop (n + 1) xs) ys) next

-- and one that clashes is the first
pub clash_here : (rule : ConflictRule) (key_cols n : ℕ) (xs ys : List Entry) (e : Entry) (clash : Clash) → slice_get xs n ≡ Some e
    → clash_with rule key_cols n e 0 ys ≡ Some clash → first_clash_from rule key_cols n (drop n xs) ys ≡ Some clash
clash_here rule key_cols n xs ys e clash at some = grind (arith, common_steps, head_drop)

-- the entries so far with one more, made consecutive
pub moved_next : (key_cols n sid : ℕ) (xs ys out : List Entry) (e : Entry) → slice_get xs n ≡ Some e
    → sid ≡ (rebased_entry key_cols ys e).sid
    → out ≡ map (rebased_entry key_cols ys) (take n xs)
    → out ++ entry_at sid e.change ∷ [] ≡ map (rebased_entry key_cols ys) (take (n + 1) xs)
moved_next key_cols n sid xs ys out e at sid_is is =
    (λ i. is i ++ entry_at (sid_is i) e.change ∷ [])
    ∙ sym (map-append (rebased_entry key_cols ys) (take n xs) (e ∷ []))
    ∙ ap (map (rebased_entry key_cols ys)) (sym (next_take n xs e at))

-- a test of a list's length
pub none_if : (n : ℕ) (es : List Entry) → n ≡ length es → (n == 0) ≡ true → es ≡ []
none_if n [] size h = refl
none_if n (e ∷ es) size h = let none : n ≡ 0 = grind (arith, nat_tests) in absurd (omega (arith, none, size))

pub some_if : (n : ℕ) (es : List Entry) → n ≡ length es → (n == 0) ≡ false → es ≡ [] → ⊥
some_if n [] size h none = let same : (n == 0) ≡ true = grind (arith, nat_tests) in cc
some_if n (e ∷ es) size h none = cc

-- and where all have stood still so far
pub put_none : (n sid : ℕ) (xs out : List Entry) (e : Entry) → slice_get xs n ≡ Some e → sid ≡ e.sid → out ≡ []
    → put_entries (n + 1) xs out ≡ put_entries n xs out ++ entry_at sid e.change ∷ []
put_none n sid xs [] e at stays none = next_take n xs e at ∙ ap (λ (s : ℕ). take n xs ++ entry_at s e.change ∷ []) (sym stays)
put_none n sid xs (o ∷ out) e at stays none = cc

-- where one has moved, the entries are those that are put
pub put_first : (n : ℕ) (xs out : List Entry) (m : Entry) → out ≡ []
    → put_entries (n + 1) xs (take n xs ++ m ∷ []) ≡ put_entries n xs out ++ m ∷ []
put_first n xs [] m none = grind (arith, common_steps)
put_first n xs (o ∷ out) m none = cc

pub put_more : (n : ℕ) (xs out : List Entry) (m : Entry) → (out ≡ [] → ⊥)
    → put_entries (n + 1) xs (out ++ m ∷ []) ≡ put_entries n xs out ++ m ∷ []
put_more n xs [] m some = absurd (some refl)
put_more n xs (o ∷ out) m some = refl

pub put_all : (n : ℕ) (xs out : List Entry) → (out ≡ [] → ⊥) → out ≡ put_entries n xs out
put_all n xs [] some = absurd (some refl)
put_all n xs (o ∷ out) some = refl

pub none_left : (n : ℕ) (es : List Entry) → length es ≤ n → drop n es ≡ []
none_left zero [] h = refl
none_left (suc n) [] h = refl
none_left zero (e ∷ es) h = absurd (omega arith)
none_left (suc n) (e ∷ es) h = none_left n es (omega arith)

pub none_dropped : (n : ℕ) (es : List Entry) → drop n es ≡ [] → length es ≤ n
none_dropped n [] is = omega arith
none_dropped zero (e ∷ es) is = cc
none_dropped (suc n) (e ∷ es) is = let h = none_dropped n es is in omega (arith, h)

pub all_taken : (n : ℕ) (es : List Entry) → length es ≤ n → take n es ≡ es
all_taken zero [] h = refl
all_taken (suc n) [] h = refl
all_taken zero (e ∷ es) h = absurd (omega arith)
all_taken (suc n) (e ∷ es) h = ap (λ ys. e ∷ ys) (all_taken n es (omega arith))

-- ---- of two trees over one table

-- how many rows and entries effects make
module _ (schema : Columns) (t : Table) (x : Effects) (tree : Tree) (h : IsTreeOf schema t x tree) (rows : length t ≤ 2147483647) where
  keyed : T (are_keyed_effects schema.key_cols x)
  keyed = passes (are_keyed_effects schema.key_cols x) h.over.effects_are.keyed

  pub each : T (list_all (λ e. is_keyed_effect schema.key_cols e.0 e.1) x)
  each = second (is_sorted key_cmp x) (list_all (λ e. is_keyed_effect schema.key_cols e.0 e.1) x) keyed

  rows_after : length (table_with t x) ≤ 4294967294
  rows_after = grind (arith, common_steps, first, keyed, inserts_less_deletes)

module _ (rule : ConflictRule) (x y : Tree) (w : AreAligned x y) where
  pub cols_x : x.key_cols ≡ w.schema.key_cols
  cols_x = ap (λ (r : Tree). r.key_cols) w.x_is.tree_is

  pub cols_y : y.key_cols ≡ w.schema.key_cols
  cols_y = ap (λ (r : Tree). r.key_cols) w.y_is.tree_is

  pub list_x : x.entries ≡ canonical_entries w.t w.x
  list_x = ap (λ (r : Tree). r.entries) w.x_is.tree_is

  pub list_y : y.entries ≡ canonical_entries w.t w.y
  list_y = ap (λ (r : Tree). r.entries) w.y_is.tree_is

  pub small_sid : (n : ℕ) (e : Entry) → slice_get x.entries n ≡ Some e → e.sid < 2 ^ 63
  small_sid n e at =
      let here = sym (ap (λ (es : List Entry). slice_get es n) list_x) ∙ at in
      let within = slice_get_within (canonical_entries w.t w.x) n e here in
      let placed = canonical_entries-placed w.t w.x n e within in
      let same = get_or_from_slice_get (canonical_entries w.t w.x) n e e here in
      let bound : e.sid ≤ length w.t = subst (λ (z : Entry). z.sid ≤ length w.t) same placed in
      omega (arith, bound, w.small.rows)

  -- an entry stands before the next one
  pub in_order : (n : ℕ) (e z : Entry) → slice_get x.entries n ≡ Some e → slice_get x.entries (n + 1) ≡ Some z
      → entry_cmp y.key_cols e z ≡ Less
  in_order n e z at next =
      let kc = w.schema.key_cols in
      let order = passes (are_ordered kc (canonical_entries w.t w.x)) (ordered w.schema w.t w.x w.x_is.over).ordered in
      let here = sym (ap (λ (es : List Entry). slice_get es n) list_x) ∙ at in
      let one : n + 1 ≡ suc n = omega arith in
      let there = sym (ap (λ (es : List Entry). slice_get es (suc n)) list_x) ∙ sym (ap (slice_get x.entries) one) ∙ next in
      ap (λ (k : ℕ). entry_cmp k e z) cols_y ∙ adjacent kc n (canonical_entries w.t w.x) e z order here there

  -- it agrees with those of the other tree
  agree_own : (n : ℕ) (e : Entry) → slice_get x.entries n ≡ Some e → T (list_all (agrees w.schema.key_cols e) (canonical_entries w.t w.y))
  agree_own n e at =
      let here = sym (ap (λ (es : List Entry). slice_get es n) list_x) ∙ at in
      let kc = w.schema.key_cols in
      let x_ranked = ranked-canonical_entries kc w.t w.x (each w.schema w.t w.x x w.x_is w.small.rows) in
      let y_ranked = ranked-canonical_entries kc w.t w.y (each w.schema w.t w.y y w.y_is w.small.rows) in
      let own = holds_at (is_ranked kc w.t) n (canonical_entries w.t w.x) e x_ranked here in
      agree_all kc w.t e (canonical_entries w.t w.y) own y_ranked

  pub agree : (n : ℕ) (e : Entry) → slice_get x.entries n ≡ Some e → T (list_all (agrees y.key_cols e) y.entries)
  agree n e at = subst (λ (r : Tree). T (list_all (agrees r.key_cols e) r.entries)) (sym w.y_is.tree_is) (agree_own n e at)

  pub order_y : T (are_ordered y.key_cols y.entries)
  order_y = grind (arith, common_steps, ordered)

  pub order_x : T (are_ordered y.key_cols x.entries)
  order_x = grind (arith, common_steps, ordered, cols_y, list_x)

  -- the first clash of an entry is that at its place
  pub clash_is : (n : ℕ) (e : Entry) (p : ℕ) → slice_get x.entries n ≡ Some e
      → IsSplit (stands_before (clash_cmp y.key_cols rule e.change) e.sid) y.entries p
      → clash_with rule y.key_cols n e 0 y.entries ≡ clash_with_first rule y.key_cols n e p (drop p y.entries)
  clash_is n e p at split = clash_place y.key_cols rule e y.entries p n order_y split (agree n e at)

  -- the first clash of all, in the words of the effects
  found_is : first_clash rule y.key_cols x.entries y.entries ≡ first_clash rule w.schema.key_cols (canonical_entries w.t w.x)
      (canonical_entries w.t w.y)
  found_is i = first_clash rule (cols_y i) (list_x i) (list_y i)

  pub conflicting : (clash : Clash) → first_clash rule y.key_cols x.entries y.entries ≡ Some clash
      → Conflicts rule w.x w.y × IsLeastClash rule w.schema.key_cols x.entries y.entries clash
  conflicting clash found =
      let some = sym (finds w.schema rule w.t w.x w.y w.x_is.over w.y_is.over) ∙ ap is_some (sym found_is ∙ found) in
      let here : first_clash rule w.schema.key_cols x.entries y.entries ≡ Some
      clash = ap (λ (k : ℕ). first_clash rule k x.entries y.entries) (sym cols_y) ∙ found in (
        some,
        subst (λ (o : Option Clash). IfSome o (IsLeastClash rule w.schema.key_cols x.entries y.entries)) here
            (first_clash-least w.schema.key_cols rule x.entries y.entries).least,
      )

  pub unconflicting : first_clash rule y.key_cols x.entries y.entries ≡ None → conflicts rule w.x w.y ≡ false
  unconflicting none = sym (finds w.schema rule w.t w.x w.y w.x_is.over w.y_is.over) ∙ ap is_some (sym found_is ∙ none)

  pub rebased_list : first_clash rule y.key_cols x.entries y.entries ≡ None
      → rebased_entries y.key_cols y.entries x.entries ≡ canonical_entries (table_with w.t w.y) w.x
  rebased_list none =
      (λ i. rebased_entries (cols_y i) (list_y i) (list_x i))
      ∙ (rebases w.schema rule w.t w.x w.y w.x_is.over w.y_is.over (unconflicting none)).1

  pub rebased_is : (tree : Tree) (out : List Entry) → first_clash rule y.key_cols x.entries y.entries ≡ None
      → out ≡ rebased_entries y.key_cols y.entries x.entries → tree ≡ record { key_cols = x.key_cols; entries = out }
      → tree ≡ rebased_tree x y w
  rebased_is tree out none is tree_is = tree_is ∙ (λ i. record { key_cols = cols_x i; entries = (is ∙ rebased_list none) i })

  pub lawful : (out : List Entry) → first_clash rule y.key_cols x.entries y.entries ≡ None
      → out ≡ rebased_entries y.key_cols y.entries x.entries → IsLawful x.key_cols out
  lawful out none is =
      let over = (rebases w.schema rule w.t w.x w.y w.x_is.over w.y_is.over (unconflicting none)).0 in
      let after = table_with w.t w.y in
      let entries = ordered w.schema after w.x over in
      let rows = rows_after w.schema w.t w.y y w.y_is w.small.rows in
      let short = length-entries_over w.schema w.t w.x w.small.lawful w.x_is.over in
      let same : length (rebased_entries y.key_cols y.entries x.entries) ≡ length x.entries = length-map _ _ in
      let moved : length (canonical_entries after w.x) ≡ length (canonical_entries w.t w.x) = ap length (sym (rebased_list none)) ∙ same
      ∙ ap length list_x in
      let law : IsLawful w.schema.key_cols (canonical_entries after w.x) = record {
        ordered = entries.ordered;
        placed = All-weaker (λ e. e.sid ≤ length after) (λ e. e.sid < 2 ^ 32) (λ e le. omega (arith, le, rows))
            (canonical_entries after w.x) entries.placed;
        counted = omega (arith, short, moved, rows_after w.schema w.t w.x x w.x_is w.small.rows, w.small.rows);
      } in
      subst (λ (r : Tree). IsLawful r.key_cols r.entries)
      (λ i. record { key_cols = sym cols_x i; entries = sym (is ∙ rebased_list none) i }) law
