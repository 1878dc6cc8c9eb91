-- Steps of the walk that folds one tree into another.
use Rattle.std.proofs.Common.{◌≡◌, ℕ, ◌+◌, ◌<◌, ◌≤◌, ◌^◌, Some, None, List, [], ◌∷◌, ◌++◌, length, drop, rules}
use Rattle.std.proofs.Common.{map, refl, sym, ap, ◌∙◌, subst, arith}
use Rattle.std.specs.Prelude.{slice_get}
use Rattle.std.specs.List.{All}
use Rattle.std.proofs.lemmas.List.{append_assoc}
use Rattle.std.proofs.lemmas.List.Elements.{All-tail, All-weaker}
use Rattle.model.specs.declared.entry.Entry.{Entry}
use Rattle.model.specs.Entries.{entry_at, canonical_entries, IsLawful}
use Rattle.model.specs.Effects.{table_with}
use Rattle.model.specs.Composition.{composed_effects}
use Rattle.model.specs.Laws.{FoldsToComposed}
use Rattle.model.proofs.CallerLemmas.{composes, ordered}
use Rattle.delta.specs.Tree.{Tree}
use Rattle.model.specs.Folding.{meet, added_by}
use Rattle.model.specs.Folding.{gone_by, lowered_entry, fold_from, folded_entries}
use Rattle.layers.specs.Over.{AreConsecutive}
use Rattle.layers.specs.Propagation.{composed_tree}
use Rattle.layers.proofs.RestLemmas.{entries_few}
use Rattle.layers.specs.declared.meeting.Meeting.{Meeting as Met}
use Rattle.layers.specs.declared.meeting.Meeting.TheVariants as met
use Rattle.layers.specs.Walk.{meeting_of, changed_by}
use Rattle.std.proofs.lemmas.Grind.{common_steps}

-- the first entry and the others
pub ahead_is : (us : List Entry) (u : Entry) → slice_get us 0 ≡ Some u → us ≡ u ∷ drop 1 us
ahead_is [] u is = cc
ahead_is (z ∷ us) u is = let same : z ≡ u = cc in ap (λ x. x ∷ us) same

pub none_ahead : (us : List Entry) → slice_get us 0 ≡ None → us ≡ []
none_ahead [] is = refl
none_ahead (z ∷ us) is = cc

pub placed_left : (us : List Entry) → All (λ e. e.sid < 2 ^ 32) us → All (λ e. e.sid < 2 ^ 32) (drop 1 us)
placed_left [] h = h
placed_left (z ∷ us) h = All-tail (λ e. e.sid < 2 ^ 32) z us h

-- an upper entry past all lower ones
pub puts_upper : (key_cols added gone : ℕ) (out us : List Entry) (u : Entry) → slice_get us 0 ≡ Some u
    → (out ++ lowered_entry added gone u ∷ []) ++ fold_from key_cols [] added gone (drop 1 us) ≡ out ++ fold_from key_cols [] added gone us
puts_upper key_cols added gone out us u is = grind (arith, common_steps)

-- over a lower tree with no entries
lowered_none : (us : List Entry) → us ≡ map (lowered_entry 0 0) us
lowered_none [] = refl
lowered_none (u ∷ us) = grind (arith, common_steps, lowered_none us)

pub folds_into_none : (key_cols : ℕ) (lowers uppers : List Entry) → length lowers ≡ 0 → uppers ≡ folded_entries key_cols lowers uppers
folds_into_none key_cols [] uppers none = lowered_none uppers
folds_into_none key_cols (l ∷ lowers) uppers none = absurd (omega (arith, none))

-- what comes of a lower and an upper entry that are next
module _ (key_cols added gone : ℕ) (own u : Entry) (lowers us : List Entry) where
  abbrev pub both_ahead : List Entry
  both_ahead = fold_from key_cols (own ∷ lowers) added gone (u ∷ us)

  abbrev passed : List Entry → List Entry
  passed es = fold_from key_cols lowers (added + added_by own.change) (gone + gone_by own.change) es

  abbrev IsMet : Met → Type 0
  IsMet met.Upper = both_ahead ≡ lowered_entry added gone u ∷ fold_from key_cols (own ∷ lowers) added gone us
  IsMet met.Lower = both_ahead ≡ own ∷ passed (u ∷ us)
  IsMet met.Over = both_ahead ≡ fold_from key_cols lowers added gone (u ∷ us)
  IsMet met.Neither = both_ahead ≡ passed us
  IsMet met.Into = both_ahead ≡ fold_from key_cols (entry_at own.sid (changed_by own.change u.change) ∷ lowers) added gone us

  pub meets : (kind : Met) → kind ≡ meeting_of (meet key_cols added gone own u) → IsMet kind
  meets kind is = search rules

-- and what is put then, whatever lower entries follow
module _ (key_cols added gone : ℕ) (own : Entry) (out us : List Entry) where
  abbrev pub to_come : List Entry → List Entry
  to_come lowers = out ++ fold_from key_cols (own ∷ lowers) added gone us

  abbrev after : List Entry → List Entry → List Entry
  after lowers es = fold_from key_cols lowers (added + added_by own.change) (gone + gone_by own.change) es

  pub puts_last : us ≡ [] → (lowers : List Entry) → (out ++ own ∷ []) ++ after lowers us ≡ to_come lowers
  puts_last none lowers = grind (arith, common_steps)

  module _ (u : Entry) (at : slice_get us 0 ≡ Some u) where
    abbrev pub Meets : Met → Type 0
    Meets kind = kind ≡ meeting_of (meet key_cols added gone own u)

    all_is : (lowers : List Entry) →
        fold_from key_cols (own ∷ lowers) added gone us ≡ fold_from key_cols (own ∷ lowers) added gone (u ∷ drop 1 us)
    all_is lowers = ap (fold_from key_cols (own ∷ lowers) added gone) (ahead_is us u at)

    pub upper_put : Meets met.Upper → (lowers : List Entry) →
        (out ++ lowered_entry added gone u ∷ []) ++ fold_from key_cols (own ∷ lowers) added gone (drop 1 us) ≡ to_come lowers
    upper_put is lowers = grind (arith, common_steps)

    pub lower_put : Meets met.Lower → (lowers : List Entry) → (out ++ own ∷ []) ++ after lowers us ≡ to_come lowers
    lower_put is lowers = grind (arith, common_steps, append_assoc, ahead_is, all_is, meets)

    pub lower_over : Meets met.Over → (lowers : List Entry) → out ++ fold_from key_cols lowers added gone us ≡ to_come lowers
    lower_over is lowers = grind (arith, common_steps, ahead_is, all_is, meets)

    pub into_own : Meets met.Into → (lowers : List Entry) →
        out ++ fold_from key_cols (entry_at own.sid (changed_by own.change u.change) ∷ lowers) added gone (drop 1 us) ≡ to_come lowers
    into_own is lowers = ap (λ es. out ++ es) (sym (all_is lowers ∙ meets key_cols added gone own u lowers (drop 1 us) met.Into is))

-- ---- all of both trees

module _ (lower upper : Tree) (w : AreConsecutive lower upper) (folds : FoldsToComposed w.schema) (out : List Entry)
    (is : out ≡ folded_entries lower.key_cols lower.entries upper.entries) where
  cols_is : lower.key_cols ≡ w.schema.key_cols
  cols_is = ap (λ (r : Tree). r.key_cols) w.below.tree_is

  lowers_are : lower.entries ≡ canonical_entries w.t w.x
  lowers_are = ap (λ (r : Tree). r.entries) w.below.tree_is

  uppers_are : upper.entries ≡ canonical_entries (table_with w.t w.x) w.f
  uppers_are = ap (λ (r : Tree). r.entries) w.above.tree_is

  list_is : out ≡ canonical_entries w.t (composed_effects w.x w.f)
  list_is = is ∙ (λ i. folded_entries (cols_is i) (lowers_are i) (uppers_are i)) ∙ folds w.t w.x w.f w.below.over w.above.over

  pub is_composed : (tree : Tree) → tree ≡ record { key_cols = lower.key_cols; entries = out } → tree ≡ composed_tree lower upper w
  is_composed tree made = made ∙ (λ i. record { key_cols = cols_is i; entries = list_is i })

  pub is_lawful : IsLawful lower.key_cols out
  is_lawful =
      let all = composed_effects w.x w.f in
      let entries = ordered w.schema w.t all (composes w.schema w.t w.x w.f w.below.over w.above.over).0 in
      let law : IsLawful w.schema.key_cols (canonical_entries w.t all) = record {
        ordered = entries.ordered;
        placed =
            All-weaker (λ e. e.sid ≤ length w.t) (λ e. e.sid < 2 ^ 32) (λ e le. omega (arith, le, w.small.rows))
            (canonical_entries w.t all) entries.placed;
        counted = entries_few lower upper w 0;
      } in
      subst (λ (r : Tree). IsLawful r.key_cols r.entries) (λ i. record { key_cols = sym cols_is i; entries = sym list_is i }) law
