-- How many commits of each client are decided, as the lines grow.
use Rattle.std.proofs.Common.{◌≡◌, ℕ, ◌+◌, ◌<◌, ◌≤◌, Bool, true, false, cond, List, [], ◌∷◌, ◌++◌, length, map, get_or, set, replicate, refl, sym, ap, ◌∙◌, arith}
use Rattle.std.specs.Prelude.{◌==◌, ◌&&◌, filter}
use Rattle.std.specs.List.{range_with_len}
use Rattle.std.proofs.lemmas.List.{ext_get_or, length-append, length-set, get_or-set_same, get_or-set_other, get_or-replicate, length-replicate}
use Rattle.std.proofs.lemmas.List.Elements.{filter-append}
use Rattle.std.proofs.lemmas.List.FromFn.{length-map-range_with_len, get_or-map-range_with_len}
use Rattle.std.proofs.lemmas.List.Sums.{length-filter, count_by-le-length}
use Rattle.std.proofs.Math.Nat.{add-zero}
use Rattle.std.proofs.lemmas.Bool.{eqb-true, eqb-false}
use Rattle.std.proofs.Math.Bool.{and-false, and-true}
use Rattle.inputs.specs.declared.call.ClientCall.{ClientCall}
use Rattle.pdtcli.specs.declared.reply.Reply.{Reply}
use Rattle.pdtcli.specs.declared.reply.ReplyLine.{ReplyLine}
use Rattle.pdtcli.specs.Run.{is_decided, decided_count, counts_after, line_of}

-- the counts of so many clients
abbrev pub counts_of : List ReplyLine → ℕ → List ℕ
counts_of lines clients = map (decided_count lines) (range_with_len 0 clients)

abbrev is_counted : ℕ → ReplyLine → Bool
is_counted client line = (line.client == client) && is_decided line.reply

-- ---- one client

decided_count-append : (a b : List ReplyLine) (client : ℕ)
    → decided_count (a ++ b) client ≡ decided_count a client + decided_count b client
decided_count-append a b client =
    ap length (filter-append (is_counted client) a b)
    ∙ length-append (filter (is_counted client) a) (filter (is_counted client) b)

pub decided_count-bound : (lines : List ReplyLine) (client : ℕ) → decided_count lines client ≤ length lines
decided_count-bound lines client =
    let counted = length-filter (is_counted client) lines in
    let few = count_by-le-length (is_counted client) lines in
    omega (arith, counted, few)

-- what one line counts
abbrev one_line : Bool → ℕ
one_line b = cond b 1 0

decided_count-one : (line : ReplyLine) (client : ℕ) → decided_count (line ∷ []) client ≡ one_line (is_counted client line)
decided_count-one line client = counted (is_counted client line) refl
  where
    counted : (b : Bool) → is_counted client line ≡ b → decided_count (line ∷ []) client ≡ one_line b
    counted true e = rw e refl
    counted false e = rw e refl

-- ---- all clients

pub length-counts_of : (lines : List ReplyLine) (clients : ℕ) → length (counts_of lines clients) ≡ clients
length-counts_of lines clients = length-map-range_with_len (decided_count lines) 0 clients

pub get_or-counts_of : (lines : List ReplyLine) (clients i : ℕ) → i < clients → get_or (counts_of lines clients) i 0 ≡ decided_count lines i
get_or-counts_of lines clients i inside = get_or-map-range_with_len (decided_count lines) 0 clients i i 0 inside (omega arith)

-- no line counts anything
pub counts_of_none : (clients : ℕ) → replicate clients 0 ≡ counts_of [] clients
counts_of_none clients =
    ext_get_or 0 (replicate clients 0) (counts_of [] clients) (length-replicate {A = ℕ} clients 0 ∙ sym (length-counts_of [] clients))
    (λ i inside.
    let within : i < clients = omega (arith, inside, length-replicate {A = ℕ} clients 0) in
    get_or-replicate clients i 0 0 within ∙ sym (get_or-counts_of [] clients i within))

-- ---- one call more

-- one place set
abbrev set_at : List ℕ → ℕ → List ℕ
set_at counts client = set counts client (get_or counts client 0 + 1)

decided_at : (lines these : List ReplyLine) (clients client i : ℕ) → client < clients → i < clients
    → decided_count these i ≡ one_line (client == i)
    → get_or (counts_of (lines ++ these) clients) i 0 ≡ get_or (set_at (counts_of lines clients) client) i 0
decided_at lines these clients client i there inside one = told (client == i) refl
  where
    counts : List ℕ
    counts = counts_of lines clients

    before : decided_count lines i ≡ get_or counts i 0
    before = sym (get_or-counts_of lines clients i inside)

    after : get_or (counts_of (lines ++ these) clients) i 0 ≡ decided_count lines i + decided_count these i
    after = get_or-counts_of (lines ++ these) clients i inside ∙ decided_count-append lines these i

    told : (b : Bool) → (client == i) ≡ b → get_or (counts_of (lines ++ these) clients) i 0 ≡ get_or (set_at counts client) i 0
    told true e =
        let same : client ≡ i = eqb-true client i e in
        let here = get_or-set_same counts client (get_or counts client 0 + 1) 0 (omega (arith, there, length-counts_of lines clients)) in
        after
        ∙ ap (λ n. decided_count lines i + n) (one ∙ ap one_line e)
        ∙ ap (λ n. n + 1) before
        ∙ ap (λ k. get_or counts k 0 + 1) (sym same)
        ∙ sym here
        ∙ ap (λ k. get_or (set_at counts client) k 0) same
    told false e =
        let other = get_or-set_other counts client i (get_or counts client 0 + 1) 0 (λ is. eqb-false client i e (sym is)) in
        let nothing : decided_count these i ≡ 0 = one ∙ ap one_line e in
        let all : decided_count lines i + decided_count these i ≡ decided_count lines i = omega (arith, nothing) in
        after ∙ all ∙ before ∙ sym other

pub counts_after-call : (lines : List ReplyLine) (clients : ℕ) (asked : ClientCall) (reply : Reply)
    → asked.client < clients
    → counts_after asked.client reply (counts_of lines clients) ≡ counts_of (lines ++ line_of asked reply ∷ []) clients
counts_after-call lines clients asked reply there = told (is_decided reply) refl
  where
    these : List ReplyLine
    these = line_of asked reply ∷ []

    counts : List ℕ
    counts = counts_of lines clients

    long : length counts ≡ length (counts_of (lines ++ these) clients)
    long = length-counts_of lines clients ∙ sym (length-counts_of (lines ++ these) clients)

    within : (i : ℕ) → i < length (counts_of (lines ++ these) clients) → i < clients
    within i inside = omega (arith, inside, length-counts_of (lines ++ these) clients)

    counted : (b : Bool) (i : ℕ) → is_decided reply ≡ b → decided_count these i ≡ one_line ((asked.client == i) && b)
    counted b i e = decided_count-one (line_of asked reply) i ∙ ap (λ c. one_line ((asked.client == i) && c)) e

    told : (b : Bool) → is_decided reply ≡ b → cond b (set_at counts asked.client) counts ≡ counts_of (lines ++ these) clients
    told true e =
        sym (ext_get_or 0 (counts_of (lines ++ these) clients) (set_at counts asked.client)
        (sym (length-set counts asked.client (get_or counts asked.client 0 + 1) ∙ long))
        (λ i inside.
        decided_at lines these clients asked.client i there (within i inside)
        (counted true i e ∙ ap one_line (and-true (asked.client == i)))))
    told false e =
        sym (ext_get_or 0 (counts_of (lines ++ these) clients) counts (sym long)
        (λ i inside.
        get_or-counts_of (lines ++ these) clients i (within i inside)
        ∙ decided_count-append lines these i
        ∙ ap (λ n. decided_count lines i + n) (counted false i e ∙ ap one_line (and-false (asked.client == i)))
        ∙ add-zero (decided_count lines i)
        ∙ sym (get_or-counts_of lines clients i (within i inside))))
