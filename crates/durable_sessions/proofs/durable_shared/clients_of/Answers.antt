use Rattle.std.proofs.Common.{◌≡◌, ◌∙◌, ◌++◌, ◌∷◌, [], ℕ, List, rules, ap, sym, subst, arith}
use Rattle.std.specs.List.{All}
use Rattle.std.proofs.lemmas.Grind.{common_steps}
use Rattle.std.proofs.lemmas.List.Elements.{All-push}
use Rattle.std.proofs.lemmas.Iterator.Adapters.{YieldsList-from_vec}
use Rattle.std.proofs.lemmas.Iterator.Consumers.{YieldsList-turn}
use Rattle.group_commit.specs.GroupLog.{GroupLogState}
use Rattle.durable_sessions.proofs.durable_shared.clients_of.Goals as goal

-- one reader more that has loaded the number
all_known : {X : Type 0} (reader : X → ℕ) (n : ℕ) (xs ys : List X) (x : X) → ys ≡ xs ++ x ∷ [] → All (λ c. reader c ≡ n) xs
    → reader x ≡ n → All (λ c. reader c ≡ n) ys
all_known reader n xs ys x is all known =
    subst (All (λ c. reader c ≡ n)) (sym is) (All-push (λ c. reader c ≡ n) xs x all known)

pub push_reserved-requires : goal.push_reserved-requires
push_reserved-requires g c =
    let inv = c.loop-session.invariant in
    let turn = (YieldsList-turn (YieldsList-from_vec c.args.sessions.items (search rules) (search rules)) c.loop-session.yielded _
    c.loop-session.yielded_by _ c.next.new.self c.in-Some.session c.in-Some.is c.next.ensures.steps).0 in
    omega (arith, inv.len, inv.room, turn)

pub loop-session-preserved : goal.loop-session-preserved
loop-session-preserved g c =
    record {
      can = search rules;
      finite = search rules;
      sessions = grind (arith, common_steps);
      len = grind (arith, common_steps);
      room = grind (arith, common_steps);
      log = c.reader-reader.ensures.same ∙ c.loop-session.invariant.log;
      readers =
          all_known (λ client. client.reader) c.args.group_log.now.watermark c.loop-session.clients.items c.push_reserved.new.self.items _
          c.push_reserved.ensures.items c.loop-session.invariant.readers
          (c.reader-reader.ensures.reader ∙ ap (λ (log : GroupLogState). log.watermark) c.loop-session.invariant.log);
    }
