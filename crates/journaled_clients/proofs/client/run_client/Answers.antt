use Rattle.std.proofs.Common.{◌≡◌, ◌+◌, ◌<◌, ◌++◌, ◌∷◌, [], List, length, get_or, sym, ◌∙◌, subst}
use Rattle.std.specs.Prelude.{IsTrue}
use Rattle.inputs.specs.declared.call.ClientCall.{ClientCall}
use Rattle.inputs.specs.Typed.{is_typed_call}
use Rattle.journaled_clients.proofs.ClientsLemmas.{is_other, is_own, made_more, made_same}
use Rattle.journaled_clients.proofs.client.run_client.Goals as goal
use Rattle.journaled_clients.proofs.client.run_client.Goals.{then-asked-number+in_default, else-asked-number}

pub answer-requires-clause-typed : goal.answer-requires-clause-typed
answer-requires-clause-typed g c =
    let calls : List ClientCall = c.args.calls.now in
    let asked = c.asked-item.result in
    let here : asked ≡ get_or calls c.loop-asked.asked-index asked = c.asked-item.is in
    subst (λ (a : ClientCall). IsTrue (is_typed_call g.O.Opening.opened.manager.schema a.call)) (sym here)
    (c.requires.typed c.loop-asked.asked-index asked c.loop-asked-test.true)

pub loop-asked-preserved : goal.loop-asked-preserved
loop-asked-preserved g c =
    let o = g.O.Opening.opened.manager in
    let start = c.args.client.session in
    let calls : List ClientCall = c.args.calls.now in
    let i = c.loop-asked.asked-index in
    let asked = c.asked-item.result in
    let inv = c.loop-asked.invariant in
    let inside : i < length calls = c.loop-asked-test.true in
    let here : asked ≡ get_or calls i asked = c.asked-item.is in
    elim c.if-asked-number.branch [
      | then-asked-number+in_default w ↦
          let own = is_own asked.client c.client-number.result start.client w.if-asked-number.true c.client-number.ensures in
          let served = w.answer.ensures.served in
          rw (w.client-is) (record {
            made = (
              inv.made.0 ++ served.0 ∷ [],
              made_more o start c.loop-asked.client.session w.answer.new.client.session calls i inv.made.0 asked served.0 inside here own
                  inv.made.1 served.1,
            );
            client = served.1.step.client ∙ inv.client;
          })
      | else-asked-number w ↦
          let other = is_other asked.client c.client-number.result start.client w.if-asked-number.false c.client-number.ensures in
          rw (w.client-is) (record {
            made = (inv.made.0, made_same o start c.loop-asked.client.session calls i inv.made.0 asked inside here other inv.made.1);
            client = inv.client;
          })
    ]
