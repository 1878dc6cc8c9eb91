use Rattle.std.proofs.lemmas.Str.{is_utf8-from_IsUtf8}
use Rattle.headers.proofs.HeaderLemmas.{name_is}
use Rattle.headers.proofs.spelling.is_name.Goals as goal

pub returns : goal.returns
returns c =
    name_is c.args.name.now c.as_bytes-bytes.result.now c.first_colon.result c.is_none.result c.as_bytes-bytes.ensures.value
    c.if-is_empty.ensures c.if-bytes-gt-MAX_NAME_BYTES.false (is_utf8-from_IsUtf8 c.args.name.now c.utf8.name) c.first_colon.ensures.first
    c.is_none.ensures
