use Rattle.std.proofs.Common.{◌≡◌, sym, ap, subst, ◌∙◌, arith}
use Rattle.std.specs.Int.{w16, from_be_bytes}
use Rattle.std.specs.Prelude.{IsUtf8}
use Rattle.blocks.specs.Reading.{length_of}
use Rattle.codec.proofs.TextLemmas.{text_found, text_bad}
use Rattle.codec.proofs.cells.text_at.Goals as goal

pub returns-in_ok-from_str-in-Ok-clause-read : goal.returns-in_ok-from_str-in-Ok-clause-read
returns-in_ok-from_str-in-Ok-clause-read c =
    let parts = c.in-Some.ensures.cases in
    let len-is : c.from_be_bytes-length.result ≡ length_of c.args.bytes.now =
    c.from_be_bytes-length.ensures ∙ ap (from_be_bytes w16) parts.0 in
    let copied : c.new.result ≡ c.in-Ok.text.now = c.new.ensures ∙ c.in_ok-from_str-in-Ok.ensures.ok in
    let utf8 : IsUtf8 c.new.result = subst IsUtf8 (sym (copied ∙ c.in-Ok.ensures.cases.0)) c.in-Ok.ensures.cases.1 in
    text_found c.args.end c.args.bytes.now c.from_be_bytes-length.result c.in-Some.rest.now c.new.result c.split_at.result.1.now
    (omega (arith, parts.2)) parts.1 len-is c.if-length-gt-MAX_TEXT_BYTES.false c.if-rest-length.false
    (copied ∙ c.in-Ok.ensures.cases.0 ∙ c.split_at.ensures.front) c.split_at.ensures.back utf8

pub returns-in-Err-clause-read : goal.returns-in-Err-clause-read
returns-in-Err-clause-read c =
    let parts = c.in-Some.ensures.cases in
    let len-is : c.from_be_bytes-length.result ≡ length_of c.args.bytes.now =
    c.from_be_bytes-length.ensures ∙ ap (from_be_bytes w16) parts.0 in
    text_bad c.args.end c.args.bytes.now c.from_be_bytes-length.result c.in-Some.rest.now c.split_at.result.0.now
    (omega (arith, parts.2)) parts.1 len-is c.if-length-gt-MAX_TEXT_BYTES.false c.if-rest-length.false c.split_at.ensures.front
    c.in-Err.ensures.cases.0
