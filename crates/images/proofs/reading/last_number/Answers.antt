use Rattle.std.proofs.Common.{◌≡◌, ◌+◌, Option, List, ◌∷◌, drop, get_or, map, sym, ap, ◌∙◌, ℕ}
use Rattle.std.specs.Option.{option_or}
use Rattle.std.proofs.lemmas.List.{drop_more}
use Rattle.journal.specs.Frame.{Logged}
use Rattle.journal.specs.Reading.{logged_in}
use Rattle.images.specs.Mark.{bad_mark, number_in}
use Rattle.images.proofs.MarkLemmas.{counts, counts_not, is_bad, is_good}
use Rattle.images.proofs.reading.last_number.Goals.{then-mark-generation, else-mark-generation}
use Rattle.images.proofs.reading.last_number.Goals as goal

pub returns-in_default-clause-err : goal.returns-in_default-clause-err
returns-in_default-clause-err c =
    let i = c.loop-frame.frame-index in
    let rest = map logged_in (drop (i + 1) c.args.frames.now) in
    let first : map logged_in (drop i c.args.frames.now) ≡ logged_in (get_or c.args.frames.now i _) ∷ rest =
    ap (map logged_in) (drop_more c.args.frames.now i _ c.loop-frame-test.true) in
    c.loop-frame.invariant.bad ∙ ap bad_mark first
    ∙ is_bad c.args.generation (logged_in (get_or c.args.frames.now i _)) rest c.loop-frame.number (sym c.mark_in.ensures ∙ c.in_default.is)

pub loop-frame-preserved : goal.loop-frame-preserved
loop-frame-preserved c =
    let i = c.loop-frame.frame-index in
    let g = c.args.generation in
    let rest = map logged_in (drop (i + 1) c.args.frames.now) in
    let l : Logged = logged_in (get_or c.args.frames.now i _) in
    let first : map logged_in (drop i c.args.frames.now) ≡ l ∷ rest =
    ap (map logged_in) (drop_more c.args.frames.now i _ c.loop-frame-test.true) in
    let mark = c.in-Some.mark in
    let is = sym c.mark_in.ensures ∙ c.in-Some.is in
    let before : number_in g (map logged_in c.args.frames.now) ≡ option_or (number_in g (l ∷ rest)) c.loop-frame.number =
    c.loop-frame.invariant.number ∙ ap (λ (ls : List Logged). option_or (number_in g ls) c.loop-frame.number) first in
    record {
      number = elim c.if-mark-generation.branch [
        | then-mark-generation w ↦
            before ∙ counts g l rest c.loop-frame.number mark is w.if-mark-generation.true
            ∙ ap (λ (o : Option ℕ). option_or (number_in g rest) o) (sym w.number-is)
        | else-mark-generation w ↦
            before ∙ counts_not g l rest c.loop-frame.number mark is w.if-mark-generation.false
            ∙ ap (λ (o : Option ℕ). option_or (number_in g rest) o) (sym w.number-is)
      ];
      bad = c.loop-frame.invariant.bad ∙ ap bad_mark first ∙ is_good g l rest c.loop-frame.number mark is;
    }
