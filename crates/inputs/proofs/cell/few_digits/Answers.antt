use Rattle.std.proofs.Common.{◌∙◌, length, get_or, sym, ap, pos, arith, w64}
use Rattle.std.proofs.lemmas.Int.{to_z_pos}
use Rattle.std.proofs.lemmas.Int.Digits.{digits_more, digits_value_more}
use Rattle.std.proofs.lemmas.List.{take_all}
use Rattle.std.proofs.lemmas.Str.{digit_value_digit}
use Rattle.inputs.proofs.CellLemmas.{number-step, number-small, numeral-true, some-from}
use Rattle.inputs.proofs.cell.few_digits.Goals as goal

pub overflow_mul-number : goal.overflow_mul-number
overflow_mul-number c =
    let inv = c.loop-byte.invariant in
    let low = number-step c.args.bytes.now c.loop-byte.byte-index c.loop-byte-test.true c.if-bytes-gt-MAX_FITTING_DIGITS.false inv.digits in
    record { fits = omega (arith, low, inv.value) }

pub overflow_add-number : goal.overflow_add-number
overflow_add-number c =
    let inv = c.loop-byte.invariant in
    let low = number-step c.args.bytes.now c.loop-byte.byte-index c.loop-byte-test.true c.if-bytes-gt-MAX_FITTING_DIGITS.false inv.digits in
    let digit = c.if-not-is_ascii_digit.ensures.cases in
    record { fits = omega (arith, low, inv.value, c.from.ensures, digit) }

pub loop-byte-preserved : goal.loop-byte-preserved
loop-byte-preserved c =
    let inv = c.loop-byte.invariant in
    let bs = c.args.bytes.now in
    let i = c.loop-byte.byte-index in
    let lt = c.loop-byte-test.true in
    let more = digits_value_more 10 bs i lt in
    let digit = digit_value_digit (get_or bs i 0) c.if-not-is_ascii_digit.ensures.cases in
    record {
      digits = digits_more 10 bs i lt inv.digits c.if-not-is_ascii_digit.ensures.bound;
      value = omega (arith, inv.value, more, digit, c.from.ensures);
    }

pub overflow_cast-result : goal.overflow_cast-result
overflow_cast-result c =
    let inv = c.loop-byte.invariant in
    let bs = c.args.bytes.now in
    let whole = take_all c.loop-byte.byte-index bs c.loop-byte-test.false in
    let small = number-small bs c.if-bytes-gt-MAX_FITTING_DIGITS.false (rw whole at inv.digits) in
    let value = rw whole at inv.value in
    omega (arith, small, value)

pub returns-clause-digits : goal.returns-clause-digits
returns-clause-digits c =
    let inv = c.loop-byte.invariant in
    let bs = c.args.bytes.now in
    let whole = take_all c.loop-byte.byte-index bs c.loop-byte-test.false in
    numeral-true bs (some-from (length bs) (sym c.is_empty.ensures ∙ c.if-is_empty.false)) (rw whole at inv.digits)

pub returns-clause-value : goal.returns-clause-value
returns-clause-value c =
    let inv = c.loop-byte.invariant in
    let bs = c.args.bytes.now in
    let whole = take_all c.loop-byte.byte-index bs c.loop-byte-test.false in
    let small = number-small bs c.if-bytes-gt-MAX_FITTING_DIGITS.false (rw whole at inv.digits) in
    let value = rw whole at inv.value in
    to_z_pos w64 c.loop-byte.number (omega (arith, small, value)) ∙ ap pos value

pub returns-clause-small : goal.returns-clause-small
returns-clause-small c =
    let inv = c.loop-byte.invariant in
    let bs = c.args.bytes.now in
    let whole = take_all c.loop-byte.byte-index bs c.loop-byte-test.false in
    number-small bs c.if-bytes-gt-MAX_FITTING_DIGITS.false (rw whole at inv.digits)
