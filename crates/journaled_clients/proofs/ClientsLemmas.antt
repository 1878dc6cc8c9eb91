-- A client's run goes on by one call.
use Rattle.std.proofs.Common.{◌≡◌, ℕ, ◌+◌, ◌<◌, Bool, true, false, cond, List, [], ◌∷◌, ◌++◌, length, take, get_or, refl, sym, ◌∙◌, subst, arith}
use Rattle.std.specs.Prelude.{◌==◌, filter}
use Rattle.std.proofs.lemmas.Bool.Decides.{nat_tests}
use Rattle.std.proofs.lemmas.List.{append-nil}
use Rattle.std.proofs.lemmas.List.Elements.{filter_more}
use Rattle.inputs.specs.declared.call.ClientCall.{ClientCall}
use Rattle.manager.specs.Managed.{Managed}
use Rattle.shared.specs.Sessions.{Seat}
use Rattle.pdtcli.specs.declared.reply.ReplyLine.{ReplyLine}
use Rattle.pdtcli.specs.Clients.{calls_of}
use Rattle.journaled_clients.specs.Clients.{DurableServed, HasMadeDurably, IsDurableRun}

IsDurableRun-more :
    (o : Managed) (old mid new : Seat) (calls : List ClientCall) (lines : List ReplyLine) (asked : ClientCall) (line : ReplyLine)
    → IsDurableRun o old calls lines mid → DurableServed o mid asked line new
    → IsDurableRun o old (calls ++ asked ∷ []) (lines ++ line ∷ []) new
IsDurableRun-more o old mid new [] [] asked line r s =
    (new, subst (λ (seat : Seat). DurableServed o seat asked line new) r s, refl)
IsDurableRun-more o old mid new (c ∷ calls) (l ∷ lines) asked line r s =
    (r.0, r.1, IsDurableRun-more o r.0 mid new calls lines asked line r.2 s)
IsDurableRun-more o old mid new [] (l ∷ lines) asked line r s = absurd r
IsDurableRun-more o old mid new (c ∷ calls) [] asked line r s = absurd r

abbrev is_of : ℕ → ClientCall → Bool
is_of client asked = asked.client == client

-- the calls of a client up to one that is its own
own_more : (client : ℕ) (calls : List ClientCall) (i : ℕ) (asked : ClientCall) → i < length calls → asked ≡ get_or calls i asked
    → (asked.client == client) ≡ true → calls_of client (take (i + 1) calls) ≡ calls_of client (take i calls) ++ asked ∷ []
own_more client calls i asked inside is own =
    filter_more (is_of client) calls i asked inside
    ∙ subst (λ (a : ClientCall). filter (is_of client) (take i calls) ++ cond (is_of client a) (a ∷ []) []
    ≡ filter (is_of client) (take i calls) ++ asked ∷ []) is (rw own refl)

-- and up to one that isn't
other_more : (client : ℕ) (calls : List ClientCall) (i : ℕ) (asked : ClientCall) → i < length calls
    → asked ≡ get_or calls i asked → (asked.client == client) ≡ false
    → calls_of client (take (i + 1) calls) ≡ calls_of client (take i calls)
other_more client calls i asked inside is other =
    filter_more (is_of client) calls i asked inside
    ∙ subst
    (λ (a : ClientCall). filter (is_of client) (take i calls) ++ cond (is_of client a) (a ∷ []) [] ≡ filter (is_of client) (take i calls))
    is (rw other (append-nil (filter (is_of client) (take i calls))))

pub is_own : (a b c : ℕ) → a ≡ b → b ≡ c → (a == c) ≡ true
is_own a b c h k = grind (arith, nat_tests)

pub is_other : (a b c : ℕ) → (a ≡ b → ⊥) → b ≡ c → (a == c) ≡ false
is_other a b c h k = grind (arith, nat_tests)

-- a call of the client is made
pub made_more :
    (o : Managed) (old mid new : Seat) (calls : List ClientCall) (i : ℕ) (lines : List ReplyLine) (asked : ClientCall) (line : ReplyLine)
    → i < length calls → asked ≡ get_or calls i asked → (asked.client == old.client) ≡ true
    → HasMadeDurably o old (take i calls) lines mid → DurableServed o mid asked line new
    → HasMadeDurably o old (take (i + 1) calls) (lines ++ line ∷ []) new
made_more o old mid new calls i lines asked line inside is own made served =
    subst (λ (cs : List ClientCall). IsDurableRun o old cs (lines ++ line ∷ []) new)
    (sym (own_more old.client calls i asked inside is own))
    (IsDurableRun-more o old mid new (calls_of old.client (take i calls)) lines asked line made served)

-- another client's is not
pub made_same : (o : Managed) (old new : Seat) (calls : List ClientCall) (i : ℕ) (lines : List ReplyLine) (asked : ClientCall)
    → i < length calls → asked ≡ get_or calls i asked → (asked.client == old.client) ≡ false
    → HasMadeDurably o old (take i calls) lines new → HasMadeDurably o old (take (i + 1) calls) lines new
made_same o old new calls i lines asked inside is other made =
    subst (λ (cs : List ClientCall). IsDurableRun o old cs lines new) (sym (other_more old.client calls i asked inside is other)) made
