-- Reading texts one after the other, as a loop does.
use Rattle.std.proofs.Common.{◌≡◌, ℕ, suc, ◌+◌, ◌-◌, ◌<◌, List, [], ◌∷◌, ◌++◌, length, Result, Ok, Err, refl, sym, ap, ◌∙◌, append_assoc, arith, rules}
use Rattle.values.specs.declared.value.Value.{Value}
use Rattle.values.specs.declared.value.Value.TheVariants.{Text}
use Rattle.blocks.specs.declared.fault.BlockFault.{BlockFault}
use Rattle.blocks.specs.declared.fault.BlockFault.TheVariants.{Short, Long, BadText, TextTooLong, BadPadding, BadEncoding, NoMemory}
use Rattle.blocks.specs.Reading.{◌>>=◌, and_then, text_at, texts_at, Fails}
use Rattle.blocks.proofs.IntsLemmas.{done}

-- values that were read before, and those that are read now
abbrev pub after : List Value → Result (List Value) BlockFault → Result (List Value) BlockFault
after front reading = reading >>= λ values. Ok (front ++ values)

after-and_then : (front : List Value) (value : Value) (reading : Result (List Value) BlockFault)
    → after front (and_then value reading) ≡ after (front ++ value ∷ []) reading
after-and_then front value (Ok values) = ap done (sym (append_assoc front (value ∷ []) values))
after-and_then front value (Err fault) = refl

-- one text more
pub reads_on : (front : List Value) (i at next count : ℕ) (bytes t rest : List ℕ) (total : Result (List Value) BlockFault)
    → i < count → next ≡ at + 2 + length t → text_at i at bytes ≡ Ok (t, rest)
    → after front (texts_at i at (count - i) bytes) ≡ total
    → after (front ++ Text t ∷ []) (texts_at (i + 1) next (count - (i + 1)) rest) ≡ total
unfolding texts_at
reads_on front i at next count bytes t rest total lt place e so_far =
    let left : count - i ≡ suc (count - (i + 1)) = omega arith in
    let one :
    after front (texts_at i at (count - i) bytes)
    ≡ after front (and_then (Text t) (texts_at (i + 1) next (count - (i + 1)) rest)) =
    rw (left, e, place) refl in
    sym (after-and_then front (Text t) (texts_at (i + 1) next (count - (i + 1)) rest)) ∙ sym one ∙ so_far

-- where the next text is faulty they all are
fault_on : (fault : BlockFault) (front : List Value) (i at count : ℕ) (bytes : List ℕ) (total : Result (List Value) BlockFault) → i < count
    → after front (texts_at i at (count - i) bytes) ≡ total → text_at i at bytes ≡ Err fault → total ≡ Err fault
unfolding texts_at
fault_on fault front i at count bytes total lt so_far e = search rules

-- the fault of the next text is that of them all
pub fails_on : (fault : BlockFault) (front : List Value) (i at count : ℕ) (bytes : List ℕ)
    (total : Result (List Value) BlockFault)
    → i < count
    → after front (texts_at i at (count - i) bytes) ≡ total → Fails fault (text_at i at bytes) → Fails fault total
fails_on (Short n) front i at count bytes total lt so_far e = fault_on (Short n) front i at count bytes total lt so_far e
fails_on (Long n) front i at count bytes total lt so_far e = fault_on (Long n) front i at count bytes total lt so_far e
fails_on (BadText n) front i at count bytes total lt so_far e = fault_on (BadText n) front i at count bytes total lt so_far e
fails_on (TextTooLong n) front i at count bytes total lt so_far e = fault_on (TextTooLong n) front i at count bytes total lt so_far e
fails_on BadPadding front i at count bytes total lt so_far e = fault_on BadPadding front i at count bytes total lt so_far e
fails_on BadEncoding front i at count bytes total lt so_far e = fault_on BadEncoding front i at count bytes total lt so_far e
fails_on NoMemory front i at count bytes total lt so_far e = tt
