use Rattle.std.proofs.Common.{◌≡◌, ◌+◌, ◌<◌, ◌≤◌, ◌++◌, ◌∷◌, [], ℕ, List, true, false, length, take}
use Rattle.std.proofs.Common.{get_or, sym, ap, ◌∙◌, subst, arith}
use Rattle.std.specs.Prelude.{◌==◌, IsTrue}
use Rattle.std.proofs.lemmas.Bool.Decides.{nat_tests}
use Rattle.std.proofs.lemmas.List.{take_all}
use Rattle.inputs.specs.declared.call.ClientCall.{ClientCall}
use Rattle.inputs.specs.Typed.{is_typed_call}
use Rattle.pdtcli.specs.declared.reply.ReplyLine.{ReplyLine}
use Rattle.pdtcli.specs.Run.{line_of}
use Rattle.pdtcli.specs.Clients.{HasMade, calls_of}
use Rattle.pdtcli.proofs.ClientsLemmas.{made_more, made_same, own_left, other_more, own_most}
use Rattle.pdtcli.proofs.client.run_client.Goals as goal
use Rattle.pdtcli.proofs.client.run_client.Goals.{then-asked-client, else-asked-client}

-- before a call of the client is made there is room left
place_left : (client : ℕ) (calls : List ClientCall) (i : ℕ) (asked : ClientCall) → i < length calls
    → asked ≡ get_or calls i asked → (asked.client == client) ≡ true
    → length (calls_of client (take i calls)) + 1 ≤ length (calls_of client calls)
place_left client calls i asked inside is own =
    omega (arith, own_left client calls i asked inside is own, own_most client calls (i + 1))

is_own : (a b c : ℕ) → a ≡ b → b ≡ c → (a == c) ≡ true
is_own a b c h k = grind (arith, nat_tests)

is_other : (a b c : ℕ) → (a ≡ b → ⊥) → b ≡ c → (a == c) ≡ false
is_other a b c h k = grind (arith, nat_tests)

pub serve-reply-requires : goal.serve-reply-requires
serve-reply-requires g c =
    let calls : List ClientCall = c.args.calls.now in
    let asked = c.asked-item.result in
    let here : asked ≡ get_or calls c.loop-asked.asked-index asked = c.asked-item.is in
    subst (λ (a : ClientCall). IsTrue (is_typed_call g.O.Opening.opened.manager.schema a.call)) (sym here)
    (c.requires.typed c.loop-asked.asked-index asked c.loop-asked-test.true)

pub push_reserved-requires : goal.push_reserved-requires
push_reserved-requires g c =
    let asked = c.asked-item.result in
    let own = is_own asked.client c.client-client.result c.args.session.client c.if-asked-client.true c.client-client.ensures in
    let one =
    place_left c.args.session.client c.args.calls.now c.loop-asked.asked-index asked c.loop-asked-test.true c.asked-item.is own in
    omega (arith, c.loop-asked.invariant.lines, c.loop-asked.invariant.number, c.loop-asked.invariant.room, one)

pub loop-asked-preserved : goal.loop-asked-preserved
loop-asked-preserved g c =
    let o = g.O.Opening.opened.manager in
    let start = c.args.session in
    let calls = c.args.calls.now in
    let i = c.loop-asked.asked-index in
    let asked = c.asked-item.result in
    let inv = c.loop-asked.invariant in
    let inside : i < length calls = c.loop-asked-test.true in
    let here : asked ≡ get_or calls i asked = c.asked-item.is in
    elim c.if-asked-client.branch [
      | then-asked-client w ↦
          let own = is_own asked.client c.client-client.result start.client w.if-asked-client.true c.client-client.ensures in
          let step = w.serve-reply.ensures in
          let reply = w.serve-reply.result in
          let before : List ReplyLine = c.loop-asked.lines.items in
          let told : w.push_reserved.new.self.items ≡ before ++ line_of asked reply ∷ [] =
          w.push_reserved.ensures.items ∙ ap (λ (line : ReplyLine). before ++ line ∷ []) w.line_of.ensures in
          let made =
          made_more o start c.loop-asked.session w.serve-reply.new.session calls i before asked reply inside here own inv.made step in
          let more = own_left start.client calls i asked inside here own in
          rw (w.session-is, w.lines-is, w.number-is) (record {
            made = subst (λ (ls : List ReplyLine). HasMade o start (take (i + 1) calls) ls w.serve-reply.new.session) (sym told) made;
            client = step.client ∙ inv.client;
            number = omega (arith, more, inv.number);
            lines = omega (arith, w.push_reserved.ensures.len, inv.lines);
            room = omega (arith, w.push_reserved.ensures.capacity, inv.room);
          })
      | else-asked-client w ↦
          let other = is_other asked.client c.client-client.result start.client w.if-asked-client.false c.client-client.ensures in
          let same = ap length (other_more start.client calls i asked inside here other) in
          rw (w.session-is, w.lines-is, w.number-is) (record {
            made = made_same o start c.loop-asked.session calls i c.loop-asked.lines.items asked inside here other inv.made;
            client = inv.client;
            number = omega (arith, same, inv.number);
            lines = inv.lines;
            room = inv.room;
          })
    ]

pub returns : goal.returns
returns g c =
    let o = g.O.Opening.opened.manager in
    let calls : List ClientCall = c.args.calls.now in
    let all : take c.loop-asked.asked-index calls ≡ calls = take_all c.loop-asked.asked-index calls c.loop-asked-test.false in
    subst (λ (cs : List ClientCall). HasMade o c.args.session cs c.loop-asked.lines.items c.loop-asked.session) all
    c.loop-asked.invariant.made
