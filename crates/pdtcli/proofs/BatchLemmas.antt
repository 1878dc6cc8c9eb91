-- Records on their way: what is handed on, and what the writer has, grows by one record, and by some.
use Rattle.std.proofs.Common.{◌∙◌, ℕ, List, [], ◌++◌, Option, Result, Ok, Err, Vec, sym, ap, subst, append_assoc}
use Rattle.std.proofs.lemmas.List.{append-nil}
use Rattle.std.proofs.KnownBytes.{Appends-nil, Appends-trans}
use Rattle.std.specs.Io.KnownBytes.{Appends}
use Rattle.std.specs.Result.{OnOk}
use Rattle.std.specs.declared.alloc.Global.{Global}
use Rattle.csv.specs.declared.writer.Writer.{Writer}
use Rattle.inputs.specs.Reading.{Fields}
use Rattle.pdtcli.specs.Records.{Goes, HasGone, IsUnderway, IsWritten, TakesFields, record_text}
use Rattle.pdtcli.proofs.RecordsLemmas.{IsUnderway-none}

-- nothing goes
pub Goes-none : (a : Option (List ℕ)) (w : Writer (Vec ℕ Global)) → Goes a a w w []
Goes-none a w text is =
    record { sent = []; left = text; appended = Appends-nil a; written = is; whole = sym (append-nil text) }

-- what has gone goes on by this text
pub HasGone-more : (a b c : Option (List ℕ)) (v w : Writer (Vec ℕ Global)) (text more : List ℕ)
    → HasGone a b v text → Goes b c v w more → HasGone a c w (text ++ more)
HasGone-more a b c v w text more h goes =
    let next = goes h.left h.written in
    record {
      sent = h.sent ++ next.sent;
      left = next.left;
      appended = Appends-trans a b c h.sent next.sent h.appended next.appended;
      written = next.written;
      whole = append_assoc h.sent next.sent next.left
          ∙ ap (λ (z : List ℕ). h.sent ++ z) next.whole
          ∙ sym (append_assoc h.sent h.left more)
          ∙ ap (λ (z : List ℕ). z ++ more) h.whole;
    }

-- this text goes, and then that one
pub Goes-trans : (a b c : Option (List ℕ)) (u v w : Writer (Vec ℕ Global)) (xs ys : List ℕ)
    → Goes a b u v xs → Goes b c v w ys → Goes a c u w (xs ++ ys)
Goes-trans a b c u v w xs ys f g text is =
    subst (HasGone a c w) (append_assoc text xs ys) (HasGone-more a b c v w (text ++ xs) ys (f text is) g)

-- a record takes its fields, and ends
pub Goes-record : (a b : Option (List ℕ)) (u v w : Writer (Vec ℕ Global)) (fields : Fields)
    → TakesFields u v fields
    → ((text : List ℕ) → (taken : Fields) → IsUnderway v text taken → HasGone a b w (text ++ record_text taken))
    → Goes a b u w (record_text fields)
Goes-record a b u v w fields takes ends text is = ends text fields (takes text [] (IsUnderway-none u text is))

-- all of it is handed on
pub handed_on : (a b : Option (List ℕ)) (w : Writer (Vec ℕ Global)) (sent : List ℕ)
    → Appends a b sent → IsWritten w [] → HasGone a b w sent
handed_on a b w sent appended written =
    record { sent = sent; left = []; appended = appended; written = written; whole = append-nil sent }

-- what has gone and what is handed on last is the whole text
pub all_gone : {T E : Type 0} (a b c : Option (List ℕ)) (w : Writer (Vec ℕ Global)) (text : List ℕ) (r : Result T E)
    → HasGone a b w text → OnOk r ((left : List ℕ) → IsWritten w left → Appends b c left) → OnOk r (Appends a c text)
all_gone a b c w text (Ok x) h last =
    subst (Appends a c) h.whole (Appends-trans a b c h.sent h.left h.appended (last h.left h.written))
all_gone a b c w text (Err e) h last = tt
