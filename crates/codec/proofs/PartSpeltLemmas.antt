-- Bytes that read as parts are spelt by them.
use Rattle.std.proofs.Common.{◌≡◌, ℕ, zero, suc, ◌+◌, ◌^◌, ◌<◌, ◌≤◌, ltb, eqb, Bool, true, false, cond, Option, Some, None, List, [], ◌∷◌, ◌++◌, length, take, drop, Result, Ok, Err, refl, sym, ap, ◌∙◌, append_assoc, subst, arith}
use Rattle.std.specs.Int.{w32, to_be_bytes}
use Rattle.std.specs.List.{All, AllByRecursion}
use Rattle.std.proofs.lemmas.Bool.{ltb-false}
use Rattle.std.proofs.lemmas.List.{length-append, length-take, take-append-drop}
use Rattle.std.proofs.lemmas.List.Elements.{All-head, All-tail, All-nil}
use Rattle.values.specs.Shape.{Columns}
use Rattle.blocks.specs.Payload.{AreBytes}
use Rattle.blocks.proofs.CallerLemmas.{AreBytes-drop, AreBytes-take}
use Rattle.model.specs.declared.entry.Entry.{Entry}
use Rattle.codec.specs.declared.fault.PayloadFault.{PayloadFault}
use Rattle.codec.specs.declared.fault.PayloadFault.TheVariants.{Short, BadTable}
use Rattle.codec.specs.Fit.{EntryFits, EntriesFit, ArePlainEntries}
use Rattle.codec.specs.Laws.{APayloadIsOfOneList, AreSpans, EntriesAreSpelt, PartsAreSpelt, ReadBack, spans_bytes}
use Rattle.codec.specs.Payload.{Part, entries_bytes, framed, payload_of}
use Rattle.codec.specs.Reading.{◌>>=◌, FoundSpan, Span, begin, bytes_in, entries_of, entries_to, found_among, span_at, span_in, span_of, span_then, spans_in, spans_up, word_at}
use Rattle.codec.proofs.BackLemmas.{done}
use Rattle.codec.proofs.PartLemmas.{span_with, spans_for, spans_again}
use Rattle.codec.proofs.SpeltLemmas.{bind_ok, entries_spelt, guard_ok, ok_is, word_small, word_spelt}

-- what a part that was read says of its bytes
record TakesSpan (low : ℕ) (bytes : List ℕ) (span : Span) (rest : List ℕ) : Type 0 where
  spelt : bytes ≡ framed span.table span.bytes ++ rest
  above : low ≤ span.table
  small_table : span.table < 2 ^ 32
  small_size : length span.bytes < 2 ^ 32
  small : AreBytes span.bytes
  small_rest : AreBytes rest

joined : (a b c d : List ℕ) → a ++ (b ++ (c ++ d)) ≡ (a ++ (b ++ c)) ++ d
joined a b c d = sym (simp append_assoc)

span_takes : (end low : ℕ) (bytes : List ℕ) (pair : FoundSpan) → AreBytes bytes → span_at end low bytes ≡ Ok pair
    → TakesSpan low bytes pair.0 pair.1
unfolding span_at
span_takes end low bytes pair small e =
    let at = begin end bytes in
    let table = word_at bytes 0 in
    let size = word_at bytes 4 in
    let body = drop 8 bytes in
    let found = span_of end bytes in
    let sized = cond (ltb (length body) size) (Err (Short at)) (done found) in
    let a = guard_ok (ltb (length bytes) 8) (Short at) (cond (ltb table low) (Err (BadTable at)) sized) pair e in
    let b = guard_ok (ltb table low) (BadTable at) sized pair a.1 in
    let c = guard_ok (ltb (length body) size) (Short at) (done found) pair b.1 in
    let long : 8 ≤ length bytes = ltb-false _ _ a.0 in
    let whole : size ≤ length body = ltb-false _ _ c.0 in
    let counted : length (take size body) ≡ size = omega (arith, length-take size body, whole) in
    subst (λ (p : FoundSpan). TakesSpan low bytes p.0 p.1) (ok_is found pair c.1) (record {
      spelt =
          word_spelt bytes 0 small (omega (arith, long))
          ∙ ap (λ (x : List ℕ). to_be_bytes w32 table ++ x) (word_spelt bytes 4 small (omega (arith, long)))
          ∙ ap (λ (x : List ℕ). to_be_bytes w32 table ++ (to_be_bytes w32 size ++ x)) (sym (take-append-drop size body))
          ∙ joined (to_be_bytes w32 table) (to_be_bytes w32 size) (take size body) (drop size body)
          ∙ ap (λ n. (to_be_bytes w32 table ++ (to_be_bytes w32 n ++ take size body)) ++ drop size body) (sym counted);
      above = ltb-false _ _ b.0;
      small_table = word_small bytes 0 small;
      small_size = omega (arith, counted, word_small bytes 4 small);
      small = AreBytes-take size body (AreBytes-drop 8 bytes small);
      small_rest = AreBytes-drop size body (AreBytes-drop 8 bytes small);
    })

-- what parts that were read say of their bytes
record TakesSpans (low : ℕ) (bytes : List ℕ) (spans : List Span) : Type 0 where
  spelt : bytes ≡ spans_bytes spans
  are : AreSpans low spans
  small : AllByRecursion (λ span. AreBytes span.bytes) spans

no_spans : (low : ℕ) (bytes : List ℕ) (spans : List Span) → bytes ≡ [] → [] ≡ spans → TakesSpans low bytes spans
no_spans low bytes spans none is = subst (TakesSpans low bytes) is (record { spelt = none; are = tt; small = tt })

framed_some : (table : ℕ) (bytes : List ℕ) → 1 ≤ length (framed table bytes)
framed_some table bytes = omega (arith, length-append (to_be_bytes w32 table) (to_be_bytes w32 (length bytes) ++ bytes))

spans_take : (most end low : ℕ) (bytes : List ℕ) (spans : List Span) → length bytes ≤ most → AreBytes bytes
    → spans_up most end low bytes ≡ Ok spans → TakesSpans low bytes spans
unfolding spans_up
spans_take zero end low [] spans few small e = no_spans low [] spans refl (ok_is [] spans e)
spans_take zero end low (byte ∷ bytes) spans few small e = absurd (omega (arith, few))
spans_take (suc most) end low [] spans few small e = no_spans low [] spans refl (ok_is [] spans e)
spans_take (suc most) end low (byte ∷ bytes) spans few small e =
    let whole = byte ∷ bytes in
    let one = bind_ok (span_at end low whole) (λ found. span_then found.0 (spans_up most end (found.0.table + 1) found.1)) spans e in
    let span = one.0.0 in
    let rest = one.0.1 in
    let others = bind_ok (spans_up most end (span.table + 1) rest) (λ ss. done (span ∷ ss)) spans one.2 in
    let first = span_takes end low whole one.0 small one.1 in
    let sized = ap length first.spelt ∙ length-append (framed span.table span.bytes) rest in
    let later =
    spans_take most end (span.table + 1) rest others.0 (omega (arith, few, sized, framed_some span.table span.bytes)) first.small_rest
    others.1 in
    subst (TakesSpans low whole) (ok_is (span ∷ others.0) spans others.2) (record {
      spelt = first.spelt ∙ ap (λ (x : List ℕ). framed span.table span.bytes ++ x) later.spelt;
      are = (first.above, first.small_table, first.small_size, later.are);
      small = (first.small, later.small);
    })

pub parts_are_spelt : PartsAreSpelt
parts_are_spelt bytes spans small e =
    let takes = spans_take (length bytes) (length bytes) 0 bytes spans (omega arith) small e in
    (takes.spelt, takes.are)

-- ---- the entries of one table

no_bytes : AreBytes []
no_bytes i = omega arith

found_small : (table : ℕ) (found : Option Span) (spans : List Span) → AreBytes (bytes_in found)
    → AllByRecursion (λ span. AreBytes span.bytes) spans → AreBytes (bytes_in (found_among table found spans))
found_small table found [] small all = small
found_small table found (span ∷ spans) small all =
    found_small table (cond (eqb span.table table) (Some span) found) spans (by (eqb span.table table)) all.1
  where
    by : (b : Bool) → AreBytes (bytes_in (cond b (Some span) found))
    by true = all.0
    by false = small

found_spelt : (schema : Columns) (found : Option Span) (entries : List Entry) → AreBytes (bytes_in found)
    → entries_of schema found ≡ Ok entries → (bytes_in found ≡ entries_bytes entries) × EntriesFit schema entries × ArePlainEntries entries
found_spelt schema None entries small e =
    subst (λ (es : List Entry). (bytes_in None ≡ entries_bytes es) × EntriesFit schema es × ArePlainEntries es) (ok_is [] entries e)
    (refl, All-nil (EntryFits schema), tt)
found_spelt schema (Some span) entries small e =
    let spelt = entries_spelt schema span.end span.bytes entries small e in
    (spelt.spelt, spelt.fit, spelt.plain)

pub entries_are_spelt : EntriesAreSpelt
entries_are_spelt schema table bytes entries small e =
    let one = bind_ok (span_in table bytes) (entries_of schema) entries e in
    let two = bind_ok (spans_in bytes) (λ spans. done (found_among table None spans)) one.0 one.1 in
    let takes = spans_take (length bytes) (length bytes) 0 bytes two.0 (omega arith) small two.1 in
    let found : found_among table None two.0 ≡ one.0 = ok_is (found_among table None two.0) one.0 two.2 in
    let found_bytes : AreBytes (bytes_in one.0) =
    subst (λ (o : Option Span). AreBytes (bytes_in o)) found (found_small table None two.0 no_bytes takes.small) in
    let spelt = found_spelt schema one.0 entries found_bytes one.2 in
    (ap (λ (r : Result (Option Span) PayloadFault). r >>= λ o. done (bytes_in o)) one.1 ∙ ap done spelt.0, spelt.1, spelt.2)

-- ---- one list of parts

cons_is : (x y : Span) (xs ys : List Span) → x ∷ xs ≡ y ∷ ys → (x ≡ y) × (xs ≡ ys)
cons_is x y xs ys e = (cc, cc)

same_parts : (schema_of : ℕ → Columns) (end : ℕ) (parts others : List Part) → spans_for end parts ≡ spans_for end others
    → All (λ part. ReadBack (schema_of part.table) part.entries) parts → All (λ part. ReadBack (schema_of part.table) part.entries) others
    → parts ≡ others
unfolding spans_for
same_parts schema_of end [] [] same back backs = refl
same_parts schema_of end [] (other ∷ others) same back backs = absurd cc
same_parts schema_of end (part ∷ parts) [] same back backs = absurd cc
same_parts schema_of end (part ∷ parts) (other ∷ others) same back backs =
    let P = λ (p : Part). ReadBack (schema_of p.table) p.entries in
    let ends = cons_is (span_with part.table (begin end (payload_of parts)) (entries_bytes part.entries))
    (span_with other.table (begin end (payload_of others)) (entries_bytes other.entries)) (spans_for end parts) (spans_for end others) same in
    let table : part.table ≡ other.table = ap (λ (s : Span). s.table) ends.0 in
    let bytes : entries_bytes part.entries ≡ entries_bytes other.entries = ap (λ (s : Span). s.bytes) ends.0 in
    let entries : part.entries ≡ other.entries =
    ok_is part.entries other.entries
    (sym (All-head P part parts back 0)
    ∙ (λ i. entries_to (schema_of (table i)) 0 (bytes i))
    ∙ All-head P other others backs 0) in
    let first : part ≡ other = λ i. record { table = table i; entries = entries i } in
    (λ i. first i ∷ same_parts schema_of end parts others ends.1 (All-tail P part parts back) (All-tail P other others backs) i)

pub a_payload_is_of_one_list : APayloadIsOfOneList
a_payload_is_of_one_list schema_of parts others are others_are back backs same =
    let bytes = payload_of parts in
    let size = length bytes in
    let first : spans_up size size 0 bytes ≡ Ok (spans_for size parts) = spans_again size parts 0 size are (omega arith) in
    let second : spans_up size size 0 (payload_of others) ≡ Ok (spans_for size others) =
    spans_again size others 0 size others_are (omega (arith, ap length same)) in
    same_parts schema_of size parts others
    (ok_is (spans_for size parts) (spans_for size others) (sym first ∙ ap (spans_up size size 0) same ∙ second)) back backs
