use Rattle.std.proofs.Common.{◌≡◌, ◌++◌, ◌∷◌, ◌<◌, ◌∙◌, ℕ, None, Option, List, [], length, get_or}
use Rattle.std.proofs.Common.{set, replicate}
use Rattle.std.proofs.Common.{refl, ap, sym, subst, append_assoc, arith, rules}
use Rattle.std.specs.Prelude.{IfSome, IsTrue, slice_get}
use Rattle.std.proofs.lemmas.List.{append-nil, get_or-replicate, length-replicate}
use Rattle.std.proofs.lemmas.Option.{slice_get-get_or}
use Rattle.inputs.specs.declared.call.ClientCall.{ClientCall}
use Rattle.inputs.specs.Typed.{is_typed_call}
use Rattle.pdtcli.specs.declared.reply.ReplyLine.{ReplyLine}
use Rattle.devices.specs.Appending.{Taken, taken_by}
use Rattle.txn.specs.Txn.{Transaction}
use Rattle.manager.specs.Managed.{IsOwn}
use Rattle.pdtcli.specs.Run.{IsRun, Side, SideStep, State, Step, counts_after, decided_count, joined, line_of}
use Rattle.pdtcli.proofs.RunLemmas.{IsRun-more, made_again, next_of, none_left, ready_again, typed_in, whole_of}
use Rattle.pdtcli.proofs.CountLemmas.{counts_of, counts_after-call, length-counts_of, get_or-counts_of, decided_count-bound}
use Rattle.pdtcli.proofs.serial.run_serial.Goals as goal

pub loop-asked-init : goal.loop-asked-init
loop-asked-init g c =
    let made = c.in_ok-callers.ensures in
    let callers = c.in_ok-callers.field-0.callers.items in
    let count : c.len.result ≡ length c.args.script.clients = search rules in
    let many : length callers ≡ c.len.result =
    ap (λ (os : List (Option Transaction)). length os) made.callers ∙ length-replicate c.len.result None in
    record {
      run = ([], c.of-left.ensures ∙ c.into_parts-names.ensures.calls, rw (made.lines.0, made.callers, count) refl);
      schema = search rules;
      ready = record {
        schema_is = refl;
        many = many ∙ count;
        own = λ k d lt. subst (λ (o : Option Transaction). IfSome o (IsOwn c.args.manager))
            (sym (ap (λ (os : List (Option Transaction)). get_or os k d) made.callers
            ∙ get_or-replicate c.len.result k None d (omega (arith, lt, many)))) tt;
      };
      room = search rules;
      made = search rules;
      counts = search rules;
    }

-- the next call's client has a place
pub index_mut-requires : goal.index_mut-requires
index_mut-requires g c =
    let asked = c.in-Some.asked in
    let bound =
    next_of (λ a. a.client < length c.args.script.clients) c.args.script.calls c.loop-asked.invariant.run.0 _ c.next.new.self asked
    c.into_parts-names.ensures.lawful.numbered c.in-Some.ensures.some c.loop-asked.invariant.run.1 in
    omega (arith, bound, c.loop-asked.invariant.ready.many)

pub serve-reply-requires-clause-own : goal.serve-reply-requires-clause-own
serve-reply-requires-clause-own g c =
    let asked = c.in-Some.asked in
    let bound =
    next_of (λ a. a.client < length c.args.script.clients) c.args.script.calls c.loop-asked.invariant.run.0 _ c.next.new.self asked
    c.into_parts-names.ensures.lawful.numbered c.in-Some.ensures.some c.loop-asked.invariant.run.1 in
    subst (λ (o : Option Transaction). IfSome o (IsOwn c.loop-asked.manager)) (sym c.index_mut.ensures.value)
    (c.loop-asked.invariant.ready.own asked.client c.index_mut.result.now (omega (arith, bound, c.loop-asked.invariant.ready.many)))

pub serve-reply-requires-clause-typed : goal.serve-reply-requires-clause-typed
serve-reply-requires-clause-typed g c =
    let asked = c.in-Some.asked in
    let schema = c.args.script.schema in
    let typed =
    next_of (λ a. IsTrue (is_typed_call schema a.call)) c.args.script.calls c.loop-asked.invariant.run.0 _ c.next.new.self asked
    c.into_parts-names.ensures.lawful.typed c.in-Some.ensures.some c.loop-asked.invariant.run.1 in
    typed_in schema c.loop-asked.manager asked.call c.index_mut.result.now typed
    (c.loop-asked.invariant.ready.schema_is ∙ sym c.requires.script) (serve-reply-requires-clause-own g c)

pub loop-asked-smaller : goal.loop-asked-smaller
loop-asked-smaller g c =
    let left = ap (λ (xs : List ClientCall). length xs) c.in-Some.ensures.some in
    omega (arith, left)

pub count_reply-requires-clause-there : goal.count_reply-requires-clause-there
count_reply-requires-clause-there g c =
    let clients = length c.args.script.clients in
    let asked = c.in-Some.asked in
    let bound =
    next_of (λ a. a.client < clients) c.args.script.calls c.loop-asked.invariant.run.0 _ c.next.new.self asked
    c.into_parts-names.ensures.lawful.numbered c.in-Some.ensures.some c.loop-asked.invariant.run.1 in
    omega (arith, bound, ap (λ (ns : List ℕ). length ns) c.loop-asked.invariant.counts, length-counts_of c.loop-asked.lines.items clients)

pub count_reply-requires-clause-few : goal.count_reply-requires-clause-few
count_reply-requires-clause-few g c =
    let clients = length c.args.script.clients in
    let asked = c.in-Some.asked in
    let lines = c.loop-asked.lines in
    let bound =
    next_of (λ a. a.client < clients) c.args.script.calls c.loop-asked.invariant.run.0 _ c.next.new.self asked
    c.into_parts-names.ensures.lawful.numbered c.in-Some.ensures.some c.loop-asked.invariant.run.1 in
    let counted : get_or c.loop-asked.counts.items asked.client 0 ≡ decided_count lines.items asked.client =
    ap (λ (ns : List ℕ). get_or ns asked.client 0) c.loop-asked.invariant.counts
    ∙ get_or-counts_of lines.items clients asked.client bound in
    let left = ap (λ (xs : List ClientCall). length xs) c.in-Some.ensures.some in
    omega (
      arith,
      counted,
      decided_count-bound lines.items asked.client,
      lines.ok.0,
      lines.small,
      c.loop-asked.invariant.room,
      left,
    )

pub loop-asked-preserved : goal.loop-asked-preserved
loop-asked-preserved g c =
    let calls = c.args.script.calls in
    let clients = length c.args.script.clients in
    let asked = c.in-Some.asked in
    let done = c.loop-asked.invariant.run.0 in
    let rest = c.next.new.self in
    let m = c.loop-asked.manager in
    let callers = c.loop-asked.callers.items in
    let mine = c.index_mut.result.now in
    let after : Side = record { manager = c.serve-reply.new.manager; own = c.serve-reply.new.self } in
    let reply = c.serve-reply.result in
    let bound =
    next_of (λ a. a.client < clients) calls done _ rest asked c.into_parts-names.ensures.lawful.numbered c.in-Some.ensures.some
    c.loop-asked.invariant.run.1 in
    let client : asked.client < length callers = omega (arith, bound, c.loop-asked.invariant.ready.many) in
    let found : mine ≡ get_or callers asked.client mine = c.index_mut.ensures.value in
    let own : IfSome mine (IsOwn m) =
    subst (λ (o : Option Transaction). IfSome o (IsOwn m)) (sym found)
    (c.loop-asked.invariant.ready.own asked.client mine client) in
    let looked_up : joined (slice_get callers asked.client) ≡ mine =
    ap joined (slice_get-get_or callers asked.client mine client) ∙ sym found in
    let step : SideStep asked.client asked.call (record { manager = m; own = mine }) reply after = c.serve-reply.ensures.step in
    let taken_of =
    taken_by (λ b. (goal.ColumnDevice-dyn g (b.vtable, b.value)).contents b.value)
    (λ b. (goal.ColumnDevice-dyn g (b.vtable, b.value)).failures b.value) in
    let before_it : Taken = taken_of c.loop-asked.store.devices.items c.loop-asked.store.next in
    let after_it : Taken = taken_of c.serve-reply.new.store.devices.items c.serve-reply.new.store.next in
    let at_first : Taken = taken_of c.args.store.devices.items c.args.store.next in
    let taken :
    Step (record { manager = m; transactions = callers; store = before_it }) asked (line_of asked reply)
    (record { manager = after.manager; transactions = set callers asked.client after.own; store = after_it }) =
    record {
      reply = reply;
      side = after;
      store = after_it;
      writes = c.serve-reply.ensures.stored;
      steps =
          subst (λ (o : Option Transaction). SideStep asked.client asked.call (record { manager = m; own = o }) reply after)
          (sym looked_up) step;
      told = refl;
      left = refl;
    } in
    let before : List ReplyLine = c.loop-asked.lines.items in
    let line : ReplyLine = record { client = asked.client; verb = c.verb_of_call-verb.result; reply = reply } in
    let same : line ≡ line_of asked reply =
    ap (λ v. record { client = asked.client; verb = v; reply = reply }) c.verb_of_call-verb.ensures in
    let told : c.push_reserved.new.self.items ≡ before ++ line_of asked reply ∷ [] =
    c.push_reserved.ensures.items ∙ ap (λ (l : ReplyLine). before ++ l ∷ []) same in
    let start : State = record { manager = c.args.manager; transactions = replicate clients None; store = at_first } in
    let next : State = record { manager = after.manager; transactions = set callers asked.client after.own; store = after_it } in
    let more =
    IsRun-more start (record { manager = m; transactions = callers; store = before_it }) next done before asked (line_of asked reply)
    c.loop-asked.invariant.run.2 taken in
    let left = ap (λ (xs : List ClientCall). length xs) c.in-Some.ensures.some in
    record {
      run = (
        done ++ asked ∷ [],
        append_assoc done (asked ∷ []) rest ∙ whole_of calls done _ rest asked c.in-Some.ensures.some c.loop-asked.invariant.run.1,
        subst (λ (ls : List ReplyLine). IsRun start (done ++ asked ∷ []) ls next) (sym told) more,
      );
      schema = c.serve-reply.ensures.schema ∙ c.loop-asked.invariant.schema;
      ready =
          ready_again c.args.manager.schema clients m callers c.loop-asked.invariant.ready asked.client asked.call mine after reply
          own step;
      room = omega (arith, c.push_reserved.ensures.len, c.push_reserved.ensures.capacity, c.loop-asked.invariant.room, left);
      made = made_again c.args.manager m asked.client asked.call mine after reply own c.loop-asked.invariant.made step;
      counts = c.count_reply.ensures
          ∙ ap (counts_after asked.client reply) c.loop-asked.invariant.counts
          ∙ counts_after-call before clients asked reply bound
          ∙ ap (λ (ls : List ReplyLine). counts_of ls clients) (sym told);
    }

pub returns-clause-run : goal.returns-clause-run
returns-clause-run g c =
    let inv = c.loop-asked.invariant in
    let done : List ClientCall = inv.run.0 in
    let none = none_left c.next.result _ c.next.ensures.none c.in_default.not-Some in
    let all : done ≡ c.args.script.calls =
    sym (append-nil done) ∙ ap (λ (xs : List ClientCall). done ++ xs) (sym none) ∙ inv.run.1 in
    let run = rw all at inv.run.2 in
    search rules
