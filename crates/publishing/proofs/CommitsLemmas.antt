-- The commits of a history and of a list, and what they do to a table.
use Rattle.std.proofs.Common.{◌≡◌, ℕ, zero, suc, ◌≤◌, List, [], ◌∷◌, ◌++◌, length, take, drop, refl, sym, ap, ◌∙◌, arith, append_assoc}
use Rattle.std.proofs.lemmas.List.{append-nil, take-append-le}
use mathlib.Core.List.{IsPrefix}
use Rattle.values.specs.Shape.{Columns}
use Rattle.model.specs.declared.write.CommitReply.{CommitReply}
use Rattle.model.specs.declared.write.CommitReply.TheVariants.{Committed, Conflict, TooOld, Full}
use Rattle.model.specs.Effects.{Effects}
use Rattle.model.specs.History.{Start, Record, commits_with, commits_after, commits_from}
use Rattle.manager.specs.Managed.{Managed}
use Rattle.publishing.specs.declared.item.Item.{Item}
use Rattle.publishing.specs.Commits.{Commit, all_effects, granted_by, asked_by, commits_from_records, commits_made}
use Rattle.publishing.specs.Lists.{commits_of_item, commits_in, all_commits, base_after, last_base}

pub length-all_effects : (commits : List Commit) → length (all_effects commits) ≡ length commits
length-all_effects [] = refl
length-all_effects (c ∷ commits) = ap suc (length-all_effects commits)

pub all_effects-append : (xs ys : List Commit) → all_effects (xs ++ ys) ≡ all_effects xs ++ all_effects ys
all_effects-append [] ys = refl
all_effects-append (c ∷ xs) ys = ap (λ es. c.effects ∷ es) (all_effects-append xs ys)

pub all_effects-drop : (n : ℕ) (xs : List Commit) → all_effects (drop n xs) ≡ drop n (all_effects xs)
all_effects-drop zero xs = refl
all_effects-drop (suc n) [] = refl
all_effects-drop (suc n) (c ∷ xs) = all_effects-drop n xs

-- ---- a history

module _ (schema : Columns) (start : Start) where
  with_granted : (before : List Effects) (c : Commit) (reply : CommitReply)
      → commits_with before c.effects reply ≡ before ++ all_effects (granted_by c reply)
  with_granted before c (Committed n) = refl
  with_granted before c (Conflict n) = sym (append-nil before)
  with_granted before c (TooOld n) = sym (append-nil before)
  with_granted before c (Full n) = sym (append-nil before)

  -- what a history leaves is what its commits do
  pub effects_of_commits : (before : List Effects) (history : List Record) →
      commits_from schema start before history ≡ before ++ all_effects (commits_from_records schema start before history)
  effects_of_commits before [] = sym (append-nil before)
  effects_of_commits before (r ∷ history) =
      let c = asked_by schema start before r in
      let next = commits_after schema start before r in
      let rest = commits_from_records schema start next history in
      effects_of_commits next history
      ∙ ap (λ (es : List Effects). es ++ all_effects rest) (with_granted before c r.reply)
      ∙ append_assoc before (all_effects (granted_by c r.reply)) (all_effects rest)
      ∙ ap (λ (es : List Effects). before ++ es) (sym (all_effects-append (granted_by c r.reply) rest))

  pub commits_from_records-push : (before : List Effects) (history : List Record) (r : Record) →
      commits_from_records schema start before (history ++ r ∷ [])
      ≡ commits_from_records schema start before history
      ++ granted_by (asked_by schema start (commits_from schema start before history) r) r.reply
  commits_from_records-push before [] r = append-nil (granted_by (asked_by schema start before r) r.reply)
  commits_from_records-push before (s ∷ history) r =
      let here = granted_by (asked_by schema start before s) s.reply in
      let next = commits_after schema start before s in
      ap (λ (cs : List Commit). here ++ cs) (commits_from_records-push next history r)
      ∙ sym (append_assoc here (commits_from_records schema start next history)
      (granted_by (asked_by schema start (commits_from schema start next history) r) r.reply))

-- ---- a list

pub commits_in-append : (xs ys : List Item) → commits_in (xs ++ ys) ≡ commits_in xs ++ commits_in ys
commits_in-append [] ys = refl
commits_in-append (x ∷ xs) ys =
    ap (λ (cs : List Commit). commits_of_item x ++ cs) (commits_in-append xs ys)
    ∙ sym (append_assoc (commits_of_item x) (commits_in xs) (commits_in ys))

pub last_base-push : (base : ℕ) (list : List Item) (item : Item)
    → last_base base (list ++ item ∷ []) ≡ base_after (last_base base list) item
last_base-push base [] item = refl
last_base-push base (x ∷ list) item = last_base-push (base_after base x) list item

module _ (o : Managed) where
  pub all_commits-append : (xs ys : List Item) → all_commits o (xs ++ ys) ≡ all_commits o xs ++ commits_in ys
  all_commits-append xs ys =
      ap (λ (cs : List Commit). commits_made o ++ cs) (commits_in-append xs ys)
      ∙ sym (append_assoc (commits_made o) (commits_in xs) (commits_in ys))

  -- the commits of a beginning of a list are a beginning of the list's commits
  pub all_commits-prefix : (xs ys : List Item) → IsPrefix xs ys → IsPrefix (all_commits o xs) (all_commits o ys)
  all_commits-prefix xs ys p = (commits_in p.0, sym (all_commits-append xs p.0) ∙ ap (all_commits o) p.1)

  -- an item more adds its commit, if it has one, to the commits of a list
  pub all_commits-push : (list : List Item) (item : Item) → all_commits o (list ++ item ∷ []) ≡ all_commits o list ++ commits_of_item item
  all_commits-push list item =
      all_commits-append list (item ∷ [])
      ∙ ap (λ (cs : List Commit). all_commits o list ++ cs) (append-nil (commits_of_item item))

-- the first effects are those of each list that begins with the commits
pub effects_prefix : (xs ys : List Commit) (n : ℕ) → IsPrefix xs ys → n ≤ length xs → take n (all_effects ys) ≡ take n (all_effects xs)
effects_prefix xs ys n p le =
    let len = length-all_effects xs in
    ap (λ (cs : List Commit). take n (all_effects cs)) (sym p.1)
    ∙ ap (take n) (all_effects-append xs p.0)
    ∙ take-append-le n (all_effects xs) (all_effects p.0) (omega (arith, le, len))
