-- All clients' calls, of each client's.
use Rattle.std.proofs.Common.{◌≡◌, ℕ, zero, suc, ◌+◌, ◌<◌, ◌≤◌, true≢false, Result, Ok, Err, List, [], ◌∷◌, ◌++◌, length, map, take, get_or, refl, sym, ap, ◌∙◌, subst, append_assoc, arith}
use Rattle.std.specs.Prelude.{IfOk, IsOk, OnOk, sum}
use Rattle.std.specs.List.{All, range_with_len}
use Rattle.std.proofs.lemmas.List.Elements.{All-cons}
use Rattle.std.proofs.Math.Seq.{take-append_seam}
use Rattle.std.proofs.lemmas.List.{get_or-map, length-map, map-append}
use Rattle.inputs.specs.declared.call.ClientCall.{ClientCall}
use Rattle.logging.specs.Device.{Device}
use Rattle.manager.specs.Managed.{IsManaged, Managed}
use Rattle.publishing.specs.Lists.{number_in}
use Rattle.shared.specs.Sessions.{Seat, new_seat}
use Rattle.durable_sessions.specs.Endings.{IsClosedDurably}
use Rattle.pdtcli.specs.declared.reply.ReplyLine.{ReplyLine}
use Rattle.journaled_clients.specs.Clients.{HasMadeDurably}
use Rattle.journaled_clients.specs.Run.{HaveMadeDurably, IsClosedRun}

element_at : {B : Type 0} (ys : List B) (i : ℕ) → i < length ys → (y : B) × ((d : B) → get_or ys i d ≡ y)
element_at [] i lt = absurd (omega (arith, lt))
element_at (y ∷ ys) zero lt = (y, λ d. refl)
element_at (y ∷ ys) (suc i) lt = element_at ys i (omega (arith, lt))

pub on_ok : {T E : Type 0} (r : Result T E) (P : Type 0) → OnOk r P → IsOk r → P
on_ok (Ok x) P h k = h
on_ok (Err e) P h k = absurd (true≢false (sym k))

-- what each thread has made, of the sessions that it was given and gave back
pub HaveMade-of :
    {A B : Type 0} (o : Managed) (calls : List ClientCall) (f : A → Seat) (k : B → Seat) (xs : List A) (ys : List B)
    → length ys ≡ length xs
    → ((i : ℕ) (d : B) → i < length xs
    → (x : A) × ((e : A) → get_or xs i e ≡ x) × ((lines : List ReplyLine) × HasMadeDurably o (f x) calls lines (k (get_or ys i d))))
    → HaveMadeDurably o calls (map f xs) (map k ys)
HaveMade-of o calls f k xs ys same each = record {
  count = length-map ys k ∙ same ∙ sym (length-map xs f);
  made = λ i d lt.
      let below : i < length xs = omega (arith, lt, length-map xs f) in
      let y = element_at ys i (omega (arith, below, same)) in
      let h = each i y.0 below in
      let before : get_or (map f xs) i d ≡ f h.0 = get_or-map f xs i h.0 d below ∙ ap f (h.1 h.0) in
      let after : get_or (map k ys) i d ≡ k (get_or ys i y.0) = get_or-map k ys i y.0 d (omega (arith, below, same)) in (
        h.2.0,
        subst (λ (s : Seat). HasMadeDurably o s calls h.2.0 (get_or (map k ys) i d)) (sym before)
            (subst (λ (s : Seat). HasMadeDurably o (f h.0) calls h.2.0 s) (sym after) h.2.1),
      );
}

-- and all of them, where each line is written
pub gives_back :
    {V E : Type 0} (f : V → List Seat) (r : Result V E) (seats before : List Seat) (written : Type 0) (o : Managed) (calls : List ClientCall)
    → IfOk r (λ v. f v ≡ seats) → OnOk r written → (written → HaveMadeDurably o calls before seats)
    → IfOk r (λ v. HaveMadeDurably o calls before (f v))
gives_back f (Ok v) seats before written o calls is w made = subst (HaveMadeDurably o calls before) (sym is) (made w)
gives_back f (Err e) seats before written o calls is w made = tt

-- ---- the sessions that come back

pub ok_of : {T E : Type 0} (r : Result T E) (x : T) → r ≡ Ok x → IsOk r
ok_of {T} {E} r x is = subst (λ (s : Result T E). IsOk s) (sym is) refl

pub All-step : {A : Type 0} (P : A → Type 0) (rest : List A) (x : A) (left : List A) (Q : Type 0) → rest ≡ x ∷ left → P x
    → (All P rest → Q) → All P left → Q
All-step P rest x left Q is good was h = was (subst (All P) (sym is) (All-cons P x left good h))

pub pushed :
    {A B C : Type 0} (f : A → C) (g : B → C) (back new : List A) (a : A) (b : B) (rest left : List B) (all : List C)
    → new ≡ back ++ a ∷ [] → f a ≡ g b → rest ≡ b ∷ left → map f back ++ map g rest ≡ all → map f new ++ map g left ≡ all
pushed f g back new a b rest left all is same step was =
    ap (λ xs. map f xs ++ map g left) is ∙ ap (λ ys. ys ++ map g left) (map-append f back (a ∷ []))
    ∙ append_assoc (map f back) (f a ∷ []) (map g left) ∙ ap (λ c. map f back ++ c ∷ map g left) same
    ∙ subst (λ r. map f back ++ map g r ≡ all) step was

-- ---- what is closed

-- the elements that were lent come back
pub lent_back : {A : Type 0} (n : ℕ) (new rest : List A) → length new ≡ n → take n (new ++ rest) ≡ new
lent_back n new rest is = subst (λ k. take k (new ++ rest) ≡ new) is (take-append_seam new rest)

pub counts_of : {A : Type 0} (f : A → Seat) (xs : List A) → map (λ x. (f x).count) xs ≡ map (λ (seat : Seat). seat.count) (map f xs)
counts_of f [] = refl
counts_of f (x ∷ xs) = ap (λ ns. (f x).count ∷ ns) (counts_of f xs)

pub closed_run :
    (o m : Managed) (table : ℕ) (front : List ℕ) (seed : ℕ) (seats back : List Seat) (readers counts : List ℕ) (safe : ℕ) (device : Device)
    → back ≡ seats → IsClosedDurably o table front seed back readers m device
    → ((limit : ℕ) → All (λ n. n ≤ limit) readers → safe ≤ limit) → counts ≡ map (λ (seat : Seat). seat.count) back
    → m.made ≡ o.made + sum counts → IsManaged m → IsClosedRun o table front seed seats safe m counts device
closed_run o m table front seed seats back readers counts safe device is ended newest counts_are records lawful =
    subst (λ (s : List Seat). IsClosedRun o table front seed s safe m counts device) is
    (record {
      readers = readers;
      ended = ended;
      durable = newest (number_in o ended.written) ended.answered;
      counts_are = counts_are;
      records = records;
      lawful = lawful;
    })

-- ---- what is opened

pub if_ok : {V E : Type 0} (P : V → Type 0) (r : Result V E) (v : V) → r ≡ Ok v → IfOk r P → P v
if_ok {V} {E} P r v is h = subst (λ (s : Result V E). IfOk s P) is h

-- the sessions that were lent are those of the opening
pub first_sessions :
    {A : Type 0} (f : A → Seat) (given new rest : List A) (len n : ℕ) → map f new ≡ map f given
    → map f given ≡ map new_seat (range_with_len 0 n) → length given ≡ len
    → map f (take len (new ++ rest)) ≡ map new_seat (range_with_len 0 n)
first_sessions f given new rest len n kept begun is =
    let lengths = ap (λ (seats : List Seat). length seats) kept in
    ap (map f) (lent_back len new rest (omega (arith, lengths, length-map new f, length-map given f, is))) ∙ kept ∙ begun
