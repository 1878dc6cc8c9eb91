-- What a crash leaves of marks that were made one after the other.
use Rattle.std.proofs.Common.{◌≡◌, ◌⊎◌, ℕ, zero, suc, ◌+◌, ◌≤◌, ◌^◌, Option, Some, None, List, [], ◌∷◌, length, take, refl, sym, ap, subst, ◌∙◌, inl, inr, arith}
use Rattle.std.specs.Option.{option_or}
use Rattle.journal.specs.Frame.{AreLogged, Logged}
use Rattle.journal.specs.Laws.{ACrashLeavesWholeFrames}
use Rattle.journal.specs.Reading.{Read, read_of}
use Rattle.journal.specs.declared.frame.Ending.{Ending}
use Rattle.journal.specs.declared.frame.Ending.TheVariants.{End, Torn}
use Rattle.images.specs.Laws.{ACrashLeavesTheMarks}
use Rattle.images.specs.Mark.{AllFit, bad_mark, last_of, marked_at, marked_from, number_in, number_of}
use Rattle.images.specs.Reading.{MayEnd}
use Rattle.images.specs.declared.mark.ImageMark.{ImageMark}
use Rattle.images.proofs.MarkLemmas.{a_mark_reads_back}

length-marked : (next : ℕ) (marks : List ImageMark) → length (marked_from next marks) ≡ length marks
length-marked next [] = refl
length-marked next (mark ∷ marks) = ap suc (length-marked (next + 1) marks)

take-marked : (k next : ℕ) (marks : List ImageMark) → take k (marked_from next marks) ≡ marked_from next (take k marks)
take-marked zero next marks = refl
take-marked (suc k) next [] = refl
take-marked (suc k) next (mark ∷ marks) = ap (λ (ls : List Logged). marked_at next mark ∷ ls) (take-marked k (next + 1) marks)

AllFit-take : (k : ℕ) (marks : List ImageMark) → AllFit marks → AllFit (take k marks)
AllFit-take zero marks fit = tt
AllFit-take (suc k) [] fit = tt
AllFit-take (suc k) (mark ∷ marks) fit = (fit.0, AllFit-take k marks fit.1)

-- their frames are those of a journal
are_logged : (next : ℕ) (marks : List ImageMark) → next + length marks ≤ 2 ^ 63 → AllFit marks → AreLogged next (marked_from next marks)
are_logged next [] few fit = tt
are_logged next (mark ∷ marks) few fit = (
  refl,
  record { number = omega (arith, few); synced = omega (arith, few); size = omega arith },
  are_logged (next + 1) marks (omega (arith, few)) fit.1,
)

-- none of them is bad
all_good : (next : ℕ) (marks : List ImageMark) → bad_mark (marked_from next marks) ≡ None
all_good next [] = refl
all_good next (mark ∷ marks) = all_good (next + 1) marks

-- and the last of a generation is that of the marks
number_in-marked : (generation next : ℕ) (marks : List ImageMark) → AllFit marks
    → number_in generation (marked_from next marks) ≡ last_of generation marks
number_in-marked generation next [] fit = refl
number_in-marked generation next (mark ∷ marks) fit =
    ap (λ (m : Option ImageMark). option_or (number_in generation (marked_from (next + 1) marks)) (number_of generation m))
    (a_mark_reads_back next mark fit.0)
    ∙ ap (λ (o : Option ℕ). option_or o (number_of generation (Some mark))) (number_in-marked generation (next + 1) marks fit.1)

may_end : (ending : Ending) → (ending ≡ End) ⊎ (ending ≡ Torn) → MayEnd ending
may_end ending is = elim is [ inl e ↦ subst MayEnd (sym e) tt | inr e ↦ subst MayEnd (sym e) tt ]

pub a_crash_leaves_the_marks : ACrashLeavesWholeFrames → ACrashLeavesTheMarks
a_crash_leaves_the_marks law seed marks safe bytes small few fit left =
    let logged = marked_from 1 marks in
    let count : length logged ≡ length marks = length-marked 1 marks in
    let read = law seed 1 logged safe bytes small (omega (arith, few, count)) (are_logged 1 marks few fit) left in
    let whole = read.0 in
    let is : (read_of seed 1 bytes).logged ≡ marked_from 1 (take whole marks) =
    ap (λ (r : Read). r.logged) read.5 ∙ take-marked whole 1 marks in
    record {
      whole = whole;
      enough = read.1;
      inside = omega (arith, read.2, count);
      logged = is;
      ending = subst MayEnd (sym (ap (λ (r : Read). r.ending) read.5)) (may_end read.4 read.6);
      good = ap bad_mark is ∙ all_good 1 (take whole marks);
      number = λ generation.
          ap (number_in generation) is ∙ number_in-marked generation 1 (take whole marks) (AllFit-take whole marks fit);
    }
