-- Each word is read as just what it is written for.
use Rattle.std.proofs.Common.{◌≡◌, Bool, true, false, Some, refl}
use Rattle.values.specs.declared.value.ColumnType.{ColumnType}
use Rattle.values.specs.declared.value.ColumnType.TheVariants as column
use Rattle.inputs.specs.Calls.{verb_of, verb_word}
use Rattle.inputs.specs.Header.{heading_kind, kind_word}
use Rattle.inputs.specs.declared.verb.Verb.{Verb}
use Rattle.inputs.specs.declared.verb.Verb.TheVariants as verb

verb_of-verb_word : (v : Verb) → verb_of (verb_word v) ≡ Some v
verb_of-verb_word verb.Begin = refl
verb_of-verb_word verb.Insert = refl
verb_of-verb_word verb.Delete = refl
verb_of-verb_word verb.Set = refl
verb_of-verb_word verb.Get = refl
verb_of-verb_word verb.At = refl
verb_of-verb_word verb.Rank = refl
verb_of-verb_word verb.Len = refl
verb_of-verb_word verb.Scan = refl
verb_of-verb_word verb.Commit = refl
verb_of-verb_word verb.Abort = refl
verb_of-verb_word verb.Fold = refl
verb_of-verb_word verb.Checkpoint = refl
verb_of-verb_word verb.Cut = refl

heading_kind-kind_word : (type : ColumnType) (is_key : Bool) → heading_kind (kind_word type is_key) ≡ Some (type, is_key)
heading_kind-kind_word column.Int false = refl
heading_kind-kind_word column.Int true = refl
heading_kind-kind_word column.Text false = refl
heading_kind-kind_word column.Text true = refl
heading_kind-kind_word column.Bool false = refl
heading_kind-kind_word column.Bool true = refl
