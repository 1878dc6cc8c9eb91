-- The marks of an open transaction stand through its calls.
use Rattle.std.proofs.Common.{◌≡◌, ◌≢◌, ◌⊎◌, inl, inr, ℕ, zero, suc, ◌≤◌, List, [], ◌∷◌, ◌++◌, take, All, Some, subst, arith}
use Rattle.std.specs.Prelude.{slice_get}
use Rattle.std.proofs.lemmas.Bool.{cases_eq}
use Rattle.std.proofs.lemmas.Option.{none-some, same_Some}
use Rattle.std.proofs.lemmas.List.Elements.{All-take, All-push}
use Rattle.txn.specs.Txn.{Transaction}
use Rattle.txn.specs.Marks.{Marked, mark_of, with_first, IsMark, GoesOn}
use Rattle.txn.proofs.CallerLemmas.{gone_back_IsMark, made_IsMark, refused_GoesOn, written_IsMark}
use Rattle.pdt_c.specs.Marks.{AreMarks}

-- none of these is older than a mark
abbrev NoneOlder : Marked → List Marked → Type 0
NoneOlder mark marks = All (λ (later : Marked). mark.count ≤ later.count) marks

no_marks : (mark : Marked) → NoneOlder mark []
no_marks mark k d within = absurd (omega (arith, within))

-- through further writes
pub goes_on : (old new : Transaction) (marks : List Marked) → AreMarks old marks → GoesOn old new → AreMarks new marks
goes_on old new [] h g = tt
goes_on old new (mark ∷ marks) h g = (written_IsMark mark old new h.0 g, h.1, goes_on old new marks h.2 g)

-- where the transaction is marked
pub marked : (txn : Transaction) (marks : List Marked) → AreMarks txn marks → AreMarks txn (marks ++ mark_of txn ∷ [])
marked txn [] h = (made_IsMark txn, no_marks (mark_of txn), tt)
marked txn (mark ∷ marks) h =
    (h.0, All-push (λ (later : Marked). mark.count ≤ later.count) marks (mark_of txn) h.1 h.0.within, marked txn marks h.2)

-- where the youngest are forgotten
pub first_marks : (txn : Transaction) (marks : List Marked) (level : ℕ) → AreMarks txn marks → AreMarks txn (take level marks)
first_marks txn marks zero h = tt
first_marks txn [] (suc level) h = tt
first_marks txn (mark ∷ marks) (suc level) h =
    (h.0, All-take (λ (later : Marked). mark.count ≤ later.count) level marks h.1, first_marks txn marks level h.2)

-- each stands
pub stands : (txn : Transaction) (marks : List Marked) (level : ℕ) (mark : Marked) → AreMarks txn marks
    → slice_get marks level ≡ Some mark → IsMark mark txn
stands txn [] level mark h is = absurd (none-some mark is)
stands txn (m ∷ marks) zero mark h is = subst (λ (x : Marked). IsMark x txn) (same_Some m mark is) h.0
stands txn (m ∷ marks) (suc level) mark h is = stands txn marks level mark h.2 is

-- where the transaction goes back to one
module _ (txn : Transaction) (mark : Marked) where
  below : (m : Marked) (marks : List Marked) (level : ℕ) → NoneOlder m marks → slice_get marks level ≡ Some mark → m.count ≤ mark.count
  below m [] level h is = absurd (none-some mark is)
  below m (n ∷ marks) zero h is = subst (λ (x : Marked). m.count ≤ x.count) (same_Some n mark is) (h 0 n (omega arith))
  below m (n ∷ marks) (suc level) h is = below m marks level (λ k d within. h (suc k) d (omega (arith, within))) is

  pub gone_back : (marks : List Marked) (level : ℕ) → AreMarks txn marks → slice_get marks level ≡ Some mark
      → AreMarks (with_first mark.count txn) (take (suc level) marks)
  gone_back [] level h is = absurd (none-some mark is)
  gone_back (m ∷ marks) zero h is = (
    gone_back_IsMark m txn mark.count h.0 (subst (λ (x : Marked). m.count ≤ x.count) (same_Some m mark is) (omega arith)),
    no_marks m,
    tt,
  )
  gone_back (m ∷ marks) (suc level) h is = (
    gone_back_IsMark m txn mark.count h.0 (below m marks level h.1 is),
    All-take (λ (later : Marked). m.count ≤ later.count) (suc level) marks h.1,
    gone_back marks level h.2 is,
  )

-- a write that is answered goes on, and one that is refused changes nothing
pub told_GoesOn : (code : ℕ) (old new : Transaction) → (code ≢ 7 → code ≢ 1 → GoesOn old new)
    → ((code ≡ 7) ⊎ (code ≡ 1) → new ≡ old) → GoesOn old new
told_GoesOn code old new told refused = elim (cases_eq code 7) [
  | inl shape ↦ refused_GoesOn old new (refused (inl shape))
  | inr fits ↦ elim (cases_eq code 1) [
    | inl wanting ↦ refused_GoesOn old new (refused (inr wanting))
    | inr had ↦ told fits had
  ]
]
