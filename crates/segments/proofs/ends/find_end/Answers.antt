use Rattle.std.proofs.Common.{◌&&◌, eqb, inr, refl, sym, ap, ◌∙◌, arith}
use Rattle.std.proofs.lemmas.Bool.{and_left, eq-eqb, ne_eqb}
use Rattle.segments.specs.Ends.{file_at, is_anew}
use Rattle.segments.proofs.EndLemmas.{len_by_last, torn_before}
use Rattle.segments.proofs.ends.find_end.Goals.{then-torn-eq0, else-torn-eq0}
use Rattle.segments.proofs.ends.find_end.Goals as goal

pub returns-in_default-left_behind-clause-err : goal.returns-in_default-left_behind-clause-err
returns-in_default-left_behind-clause-err c = (
  c.due_after-in_default-left_behind.ensures,
  inr (inr (torn_before c.args.files.now c.in-Some.place c.args.whole c.in-Some.ensures.some (c.in_default-left_behind.ensures.none refl))),
)

pub returns-clause-ok : goal.returns-clause-ok
returns-clause-ok c =
    let last = c.in-Some.ensures.some in
    let len = len_by_last c.args.files.now c.in-Some.place last in
    record {
      durable = c.if-newest-noted.false;
      in_time = sym c.begin_in_time.ensures ∙ c.if-not-begin_in_time.false;
      last = last;
      torn = omega (arith, len, c.in-Some-left_behind.ensures.some, c.min-kept.ensures);
      kept = omega (arith, c.min-kept.ensures);
      anew = elim c.if-torn-eq0.branch [
        | then-torn-eq0 w ↦
            c.is_anew.ensures
            ∙ ap (is_anew (file_at c.args.files.now c.in-Some.place))
            (w.is_anew-is ∙ sym (ap (λ b. b && eqb c.args.newest c.args.noted) (eq-eqb _ 0 w.if-torn-eq0.true)))
        | else-torn-eq0 w ↦
            let e = ne_eqb _ 0 w.if-torn-eq0.false in
            c.is_anew.ensures
            ∙ ap (is_anew (file_at c.args.files.now c.in-Some.place))
            (w.is_anew-is ∙ e ∙ sym (and_left _ (eqb c.args.newest c.args.noted) e))
      ];
    }
