use Rattle.std.proofs.Common.{◌≡◌, ◌∙◌, ap, sym, drop, arith}
use Rattle.std.specs.Fmt.{decimal}
use Rattle.std.specs.Result.{result_ok}
use Rattle.std.proofs.lemmas.Fmt.{parse-decimal}
use Rattle.std.proofs.lemmas.Option.{same_Some}
use Rattle.segments.specs.Listing.{journal_name}
use Rattle.segments.proofs.listing.journal_number.Goals as goal

pub returns-in_err-number-clause-none : goal.returns-in_err-number-clause-none
returns-in_err-number-clause-none c none n small is =
    let cut = c.in_ok-digits.ensures.cases in
    let digits : c.in_ok-digits.digits.now ≡ decimal n = cut.2 ∙ ap (λ k. drop k c.args.name.now) cut.1.0 ∙ ap (drop 8) is in
    let parsed = parse-decimal 64 n _ c.parse.result small small digits c.parse.ensures.value.0 in
    absurd (grind (arith, parsed, c.ok.ensures.value, c.in_err-number.was))

pub returns-else-is_file-clause-none : goal.returns-else-is_file-clause-none
returns-else-is_file-clause-none c none n small is =
    let cut = c.in_ok-digits.ensures.cases in
    let digits : c.in_ok-digits.digits.now ≡ decimal n = cut.2 ∙ ap (λ k. drop k c.args.name.now) cut.1.0 ∙ ap (drop 8) is in
    let parsed = parse-decimal 64 n _ c.parse.result small small digits c.parse.ensures.value.0 in
    let number : c.in_ok-number.number ≡ n = same_Some _ _ (c.in_ok-number.ensures.value ∙ ap result_ok parsed) in
    c.is_file.ensures.gone c.if-is_file.false (is ∙ ap journal_name (sym number))
