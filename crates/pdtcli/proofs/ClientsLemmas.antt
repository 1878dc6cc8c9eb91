-- A client's run goes on by one call, and all clients' by one client.
use Rattle.std.proofs.Common.{◌≡◌, ℕ, suc, ◌+◌, ◌<◌, ◌≤◌, Bool, true, false, cond, List, [], ◌∷◌, ◌++◌, length, take, drop, get_or, map, refl, sym, ap, ◌∙◌, subst, append_assoc, arith}
use Rattle.std.specs.Prelude.{◌==◌, filter}
use Rattle.std.specs.List.{All, range_with_len}
use Rattle.std.proofs.lemmas.List.FromFn.{get_or-map-range_with_len, length-map-range_with_len}
use Rattle.std.proofs.lemmas.List.{append-nil, length-append, map-append, take-append-drop}
use Rattle.std.proofs.lemmas.List.Elements.{filter-append, filter_more}
use Rattle.inputs.specs.declared.call.ClientCall.{ClientCall}
use Rattle.manager.specs.Managed.{Managed}
use Rattle.shared.specs.Endings.{IsClosed}
use Rattle.shared.specs.Sessions.{Seat, new_seat}
use Rattle.shared.proofs.CallerLemmas.{closed_at_opening}
use Rattle.pdtcli.specs.declared.reply.Reply.{Reply}
use Rattle.pdtcli.specs.declared.reply.ReplyLine.{ReplyLine}
use Rattle.pdtcli.specs.Run.{is_decided, line_of}
use Rattle.pdtcli.specs.Outcome.{Left}
use Rattle.pdtcli.specs.Clients.{SeatStep, SeatServed, IsSeatRun, HasMade, HaveMade, IsLeft, calls_of, decided_by, decided_in, each_with}

-- ---- the lines that decide a commit

decided_in-append : (a b : List ReplyLine) → decided_in (a ++ b) ≡ decided_in a + decided_in b
decided_in-append a b =
    let p : ReplyLine → Bool = λ line. is_decided line.reply in
    ap length (filter-append p a b) ∙ length-append (filter p a) (filter p b)

decided_in-one : (line : ReplyLine) → decided_in (line ∷ []) ≡ decided_by line.reply
decided_in-one line = counted (is_decided line.reply) refl
  where
    counted : (b : Bool) → is_decided line.reply ≡ b → decided_in (line ∷ []) ≡ cond b 1 0
    counted true e = rw e refl
    counted false e = rw e refl

-- ---- one call more

IsSeatRun-more :
    (o : Managed) (old mid new : Seat) (calls : List ClientCall) (lines : List ReplyLine) (asked : ClientCall) (line : ReplyLine)
    → IsSeatRun o old calls lines mid → SeatServed o mid asked line new
    → IsSeatRun o old (calls ++ asked ∷ []) (lines ++ line ∷ []) new
IsSeatRun-more o old mid new [] [] asked line r s = (new, subst (λ (seat : Seat). SeatServed o seat asked line new) r s, refl)
IsSeatRun-more o old mid new (c ∷ calls) (l ∷ lines) asked line r s =
    (r.0, r.1, IsSeatRun-more o r.0 mid new calls lines asked line r.2 s)
IsSeatRun-more o old mid new [] (l ∷ lines) asked line r s = absurd r
IsSeatRun-more o old mid new (c ∷ calls) [] asked line r s = absurd r

abbrev is_of : ℕ → ClientCall → Bool
is_of client asked = asked.client == client

-- the calls of a client up to one that is its own
own_more : (client : ℕ) (calls : List ClientCall) (i : ℕ) (asked : ClientCall) → i < length calls → asked ≡ get_or calls i asked
    → (asked.client == client) ≡ true → calls_of client (take (i + 1) calls) ≡ calls_of client (take i calls) ++ asked ∷ []
own_more client calls i asked inside is own =
    filter_more (is_of client) calls i asked inside
    ∙ subst (λ (a : ClientCall). filter (is_of client) (take i calls) ++ cond (is_of client a) (a ∷ []) []
    ≡ filter (is_of client) (take i calls) ++ asked ∷ []) is (rw own refl)

-- and up to one that isn't
pub other_more : (client : ℕ) (calls : List ClientCall) (i : ℕ) (asked : ClientCall) → i < length calls
    → asked ≡ get_or calls i asked → (asked.client == client) ≡ false
    → calls_of client (take (i + 1) calls) ≡ calls_of client (take i calls)
other_more client calls i asked inside is other =
    filter_more (is_of client) calls i asked inside
    ∙ subst
    (λ (a : ClientCall). filter (is_of client) (take i calls) ++ cond (is_of client a) (a ∷ []) [] ≡ filter (is_of client) (take i calls))
    is (rw other (append-nil (filter (is_of client) (take i calls))))

-- a call of the client is made
pub made_more :
    (o : Managed) (old mid new : Seat) (calls : List ClientCall) (i : ℕ) (lines : List ReplyLine) (asked : ClientCall)
    (reply : Reply)
    → i < length calls → asked ≡ get_or calls i asked → (asked.client == old.client) ≡ true
    → HasMade o old (take i calls) lines mid → SeatStep o asked.call mid reply new
    → HasMade o old (take (i + 1) calls) (lines ++ line_of asked reply ∷ []) new
made_more o old mid new calls i lines asked reply inside is own made step =
    let line = line_of asked reply in
    record {
      run =
          subst (λ (cs : List ClientCall). IsSeatRun o old cs (lines ++ line ∷ []) new)
          (sym (own_more old.client calls i asked inside is own))
          (IsSeatRun-more o old mid new (calls_of old.client (take i calls)) lines asked line made.run
          (record { reply = reply; step = step; told = refl }));
      counted = omega (arith, made.counted, step.counted, decided_in-append lines (line ∷ []), decided_in-one line);
    }

-- another client's is not
pub made_same : (o : Managed) (old new : Seat) (calls : List ClientCall) (i : ℕ) (lines : List ReplyLine) (asked : ClientCall)
    → i < length calls → asked ≡ get_or calls i asked → (asked.client == old.client) ≡ false
    → HasMade o old (take i calls) lines new → HasMade o old (take (i + 1) calls) lines new
made_same o old new calls i lines asked inside is other made = record {
  run = subst (λ (cs : List ClientCall). IsSeatRun o old cs lines new) (sym (other_more old.client calls i asked inside is other)) made.run;
  counted = made.counted;
}

-- the client's calls are as many as those up to one place and those from it on, and one that is its own is left
pub own_left : (client : ℕ) (calls : List ClientCall) (i : ℕ) (asked : ClientCall) → i < length calls
    → asked ≡ get_or calls i asked → (asked.client == client) ≡ true
    → length (calls_of client (take (i + 1) calls)) ≡ length (calls_of client (take i calls)) + 1
own_left client calls i asked inside is own =
    ap length (own_more client calls i asked inside is own) ∙ length-append (calls_of client (take i calls)) (asked ∷ [])

-- ---- one client more

pub HaveMade-push :
    (o : Managed) (givens : List (Seat × List ClientCall)) (groups : List (List ReplyLine)) (seats : List Seat)
    (given : Seat × List ClientCall) (lines : List ReplyLine) (seat : Seat)
    → HaveMade o givens groups seats → HasMade o given.0 given.1 lines seat
    → HaveMade o (givens ++ given ∷ []) (groups ++ lines ∷ []) (seats ++ seat ∷ [])
HaveMade-push o [] [] [] given lines seat all one = (one, tt)
HaveMade-push o (g ∷ gs) (l ∷ ls) (s ∷ ss) given lines seat all one = (all.0, HaveMade-push o gs ls ss given lines seat all.1 one)
HaveMade-push o [] [] (s ∷ ss) given lines seat all one = absurd all
HaveMade-push o [] (l ∷ ls) ss given lines seat all one = absurd all
HaveMade-push o (g ∷ gs) [] ss given lines seat all one = absurd all
HaveMade-push o (g ∷ gs) (l ∷ ls) [] given lines seat all one = absurd all

pub HaveMade-many : (o : Managed) (givens : List (Seat × List ClientCall)) (groups : List (List ReplyLine)) (seats : List Seat)
    → HaveMade o givens groups seats → length seats ≡ length givens
HaveMade-many o [] [] [] all = refl
HaveMade-many o (g ∷ gs) (l ∷ ls) (s ∷ ss) all = ap suc (HaveMade-many o gs ls ss all.1)
HaveMade-many o [] [] (s ∷ ss) all = absurd all
HaveMade-many o [] (l ∷ ls) ss all = absurd all
HaveMade-many o (g ∷ gs) [] ss all = absurd all
HaveMade-many o (g ∷ gs) (l ∷ ls) [] all = absurd all

push_move : {X : Type 0} (xs : List X) (x : X) (ys : List X) → (xs ++ x ∷ []) ++ ys ≡ xs ++ x ∷ ys
push_move xs x ys = append_assoc xs (x ∷ []) ys

-- one handle is joined, and the rest is left
pub next_done : {H X : Type 0} (f : H → X) (done all : List X) (h : H) (rest left : List H) → rest ≡ h ∷ left
    → done ++ map f rest ≡ all → (done ++ f h ∷ []) ++ map f left ≡ all
next_done f done all h rest left is here = push_move done (f h) (map f left) ∙ subst (λ r. done ++ map f r ≡ all) is here

pub made_step :
    {V : Type 0} (f : V → List ReplyLine) (o : Managed) (givens : List (Seat × List ClientCall)) (seats seats' : List Seat)
    (vs vs' : List V) (given : Seat × List ClientCall) (v : V) (seat : Seat)
    → HaveMade o givens (map f vs) seats → HasMade o given.0 given.1 (f v) seat → vs' ≡ vs ++ v ∷ [] → seats' ≡ seats ++ seat ∷ []
    → HaveMade o (givens ++ given ∷ []) (map f vs') seats'
made_step f o givens seats seats' vs vs' given v seat all one more back =
    rw more (rw back (rw (map-append f vs (v ∷ [])) (HaveMade-push o givens (map f vs) seats given (f v) seat all one)))

-- a client's calls up to one place are no more than all of them
pub own_most : (client : ℕ) (calls : List ClientCall) (i : ℕ) → length (calls_of client (take i calls)) ≤ length (calls_of client calls)
own_most client calls i =
    let parts =
    ap length (ap (λ (cs : List ClientCall). calls_of client cs) (sym (take-append-drop i calls))
    ∙ filter-append (is_of client) (take i calls) (drop i calls)) in
    omega (arith, parts, length-append (calls_of client (take i calls)) (calls_of client (drop i calls)))

-- where there is no client, nothing is left but the manager, as it was
pub none_made : (o : Managed) (calls : List ClientCall) (clients : ℕ) (left : Left) → clients ≡ 0 → left.manager ≡ o
    → left.lines ≡ [] → left.counts ≡ [] → IsLeft o calls clients left
none_made o calls clients left none manager lines counts = record {
  groups = [];
  seats = [];
  made = rw none tt;
  lines = lines;
  counts = counts;
  closed = subst (IsClosed o []) (sym manager) (closed_at_opening o);
  lists = λ k d inside. absurd (omega (arith, inside));
}

-- the sessions of an opening are its clients'
pub numbered : (clients : ℕ) → All (λ (s : Seat). s.client < clients) (map new_seat (range_with_len 0 clients))
numbered clients i d inside =
    let many = length-map-range_with_len new_seat 0 clients in
    let below : i < clients = omega (arith, inside, many) in
    let client : 0 + i < clients = omega (arith, below) in
    subst (λ (s : Seat). s.client < clients) (sym (get_or-map-range_with_len new_seat 0 clients i (0 + i) d below refl)) client

-- one thread is started, and the sessions behind it are left
pub started_more :
    {H : Type 0} (f : H → Seat × List ClientCall) (calls : List ClientCall) (handles handles' : List H)
    (rest left all : List Seat) (h : H) (seat : Seat)
    → rest ≡ seat ∷ left → f h ≡ (seat, calls) → handles' ≡ handles ++ h ∷ [] → map f handles ++ each_with calls rest ≡ each_with calls all
    → map f handles' ++ each_with calls left ≡ each_with calls all
started_more f calls handles handles' rest left all h seat is made more was =
    rw more (
    ap (λ (xs : List (Seat × List ClientCall)). xs ++ each_with calls left) (map-append f handles (h ∷ []))
    ∙ push_move (map f handles) (f h) (each_with calls left)
    ∙ ap (λ (x : Seat × List ClientCall). map f handles ++ x ∷ each_with calls left) made
    ∙ subst (λ (r : List Seat). map f handles ++ each_with calls r ≡ each_with calls all) is was
    )
