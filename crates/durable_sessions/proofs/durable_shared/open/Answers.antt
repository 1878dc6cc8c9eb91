use Rattle.std.proofs.Common.{◌≡◌, ◌+◌, ℕ, List, length, ap, subst, ◌∙◌, arith}
use Rattle.std.specs.List.{All}
use Rattle.std.proofs.lemmas.List.{length-map}
use Rattle.std.proofs.lemmas.List.FromFn.{length-range_with_len}
use Rattle.shared.specs.Sessions.{Seat}
use Rattle.group_commit.specs.GroupLog.{GroupLogState}
use Rattle.durable_sessions.proofs.durable_shared.open.Goals as goal

known_as : {X : Type 0} (reader : X → ℕ) (n m : ℕ) (xs : List X) → n ≡ m → All (λ c. reader c ≡ n) xs
    → All (λ c. reader c ≡ m) xs
known_as reader n m xs is all = subst (λ k. All (λ c. reader c ≡ k) xs) is all

pub clients_of-clients-requires-clause-room : goal.clients_of-clients-requires-clause-room
clients_of-clients-requires-clause-room g c =
    let all = ap (λ (s : List Seat). length s) c.in-Ok.ensures.sessions ∙ length-map _ _ ∙ length-range_with_len 0 c.args.clients in
    let room = c.in_ok-reserved.ensures.capacity in
    omega (arith, all, room)

-- the watermark is advanced to the opening's number before a reader loads it
pub returns-clause-durable : goal.returns-clause-durable
returns-clause-durable g c =
    let at = λ (log : GroupLogState). log.watermark in
    let none = ap (λ (log : GroupLogState). g.O.JournalId.base + length log.written) c.new-group_log.ensures in
    let zero : g.O.JournalId.base + 0 ≡ g.O.JournalId.base = omega arith in
    known_as (λ client. client.reader) _ g.O.JournalId.base _ (ap at c.reader.ensures.same ∙ ap at c.advance.ensures ∙ none ∙ zero)
    c.clients_of-clients.ensures.readers
