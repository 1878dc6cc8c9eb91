use Rattle.std.proofs.Common.{◌≡◌, ◌∙◌, ◌++◌, ◌∷◌, ◌<◌, ℕ, Bool, ◌||◌, cond}
use Rattle.std.proofs.Common.{None, Option, List, [], length, get_or, set, replicate}
use Rattle.std.proofs.Common.{refl, ap, sym, subst, append_assoc, arith, rules}
use Rattle.std.proofs.KnownBytes.{Appends-nil, Appends-trans}
use Rattle.std.proofs.Math.Seq.{get_or-append_seam}
use Rattle.std.proofs.lemmas.List.{append-nil, get_or-replicate, length-append, length-replicate}
use Rattle.std.proofs.lemmas.Option.{slice_get-get_or}
use Rattle.std.specs.Io.KnownBytes.{Appends}
use Rattle.std.specs.Prelude.{IfNone, IfSome, IsTrue, slice_get}
use Rattle.std.specs.List.{All, list_any}
use Rattle.values.specs.Shape.{Columns}
use Rattle.inputs.specs.declared.call.Call.{Call}
use Rattle.inputs.specs.declared.call.ClientCall.{ClientCall}
use Rattle.inputs.specs.Typed.{is_typed_call}
use Rattle.pdtcli.specs.Output.{is_refused, lines_text}
use Rattle.pdtcli.specs.Run.{joined, line_of}
use Rattle.pdtcli.specs.declared.reply.ReplyLine.{ReplyLine}
use Rattle.pdtcli.proofs.CallerLemmas.{next_of, none_left, ready_with, typed_in, whole_of}
use Rattle.devices.specs.Appending.{Taken, taken_by}
use Rattle.txn.specs.Txn.{Transaction}
use Rattle.manager.specs.Managed.{IsOwn, Managed}
use Rattle.pdtcli.specs.declared.refusal.Refusal.{Refusal}
use Rattle.journaled.specs.Journaled.{Held, IsServed, Journaled, image_refusal, journaled_over}
use Rattle.journaled.specs.Run.{IsRun, IsRunRefusal, State, Step}
use Rattle.journaled.proofs.RunLemmas.{IsRun-more, imaged_keeps, lines_text-and, opened_as, refused-more, served_keeps, unopened}
use Rattle.journaled.proofs.run.run_journaled.Goals as goal

pub loop-asked-init : goal.loop-asked-init
loop-asked-init g c =
    let callers = c.in-Ok.callers.items in
    let made : callers ≡ replicate c.len.result None = c.in-Ok.ensures in
    let count : c.len.result ≡ length c.args.opened.script.clients = search rules in
    let many : length callers ≡ c.len.result =
    ap (λ (os : List (Option Transaction)). length os) made ∙ length-replicate c.len.result None in
    let first : c.new-journaled.result.durable.manager ≡ c.args.opened.manager =
    ap (λ (j : Journaled). j.durable.manager) c.new-journaled.ensures in
    let kept = imaged_keeps c.new-journaled.result _ c.store_image.result c.store_image.new.self _ c.store_image.ensures.imaged in
    record {
      run = (
        [],
        [],
        c.of-left.ensures ∙ c.into_parts-names.ensures.calls,
        rw (made, count) refl,
        Appends-nil (g.W.Write.contents c.args.out.now),
        refl,
      );
      schema = c.store_image.ensures.schema ∙ c.requires.store;
      next = c.store_image.ensures.next;
      ready = record {
        schema_is = kept.schema ∙ ap (λ (m : Managed). m.schema) first;
        many = many ∙ count;
        own = λ k d lt. subst (λ (o : Option Transaction). IfSome o (IsOwn c.store_image.new.self.durable.manager))
            (sym (ap (λ (os : List (Option Transaction)). get_or os k d) made
            ∙ get_or-replicate c.len.result k None d (omega (arith, lt, many)))) tt;
      };
    }

-- the next call's client has a place
pub index_mut-caller-requires : goal.index_mut-caller-requires
index_mut-caller-requires g c =
    let script = c.args.opened.script in
    let bound =
    next_of (λ a. a.client < length script.clients) script.calls c.loop-asked.invariant.run.0 _ c.next.new.self c.in-Some.asked
    c.into_parts-names.ensures.lawful.numbered c.in-Some.ensures.some c.loop-asked.invariant.run.2 in
    omega (arith, bound, c.loop-asked.invariant.ready.many)

pub answer-requires-clause-own : goal.answer-requires-clause-own
answer-requires-clause-own g c =
    let script = c.args.opened.script in
    let asked = c.in-Some.asked in
    let bound =
    next_of (λ a. a.client < length script.clients) script.calls c.loop-asked.invariant.run.0 _ c.next.new.self asked
    c.into_parts-names.ensures.lawful.numbered c.in-Some.ensures.some c.loop-asked.invariant.run.2 in
    subst (λ (o : Option Transaction). IfSome o (IsOwn c.loop-asked.journaled.durable.manager)) (sym c.index_mut-caller.ensures.value)
    (c.loop-asked.invariant.ready.own asked.client c.index_mut-caller.result.now (omega (arith, bound, c.loop-asked.invariant.ready.many)))

pub answer-requires-clause-typed : goal.answer-requires-clause-typed
answer-requires-clause-typed g c =
    let script = c.args.opened.script in
    let asked = c.in-Some.asked in
    let typed =
    next_of (λ a. IsTrue (is_typed_call script.schema a.call)) script.calls c.loop-asked.invariant.run.0 _ c.next.new.self asked
    c.into_parts-names.ensures.lawful.typed c.in-Some.ensures.some c.loop-asked.invariant.run.2 in
    typed_in script.schema c.loop-asked.journaled.durable.manager asked.call c.index_mut-caller.result.now typed
    (c.loop-asked.invariant.ready.schema_is ∙ sym c.requires.script) (answer-requires-clause-own g c)

pub loop-asked-smaller : goal.loop-asked-smaller
loop-asked-smaller g c =
    let left = ap (λ (xs : List ClientCall). length xs) c.in-Some.ensures.some in
    omega (arith, left)

pub loop-asked-preserved : goal.loop-asked-preserved
loop-asked-preserved g c =
    let script = c.args.opened.script in
    let calls = script.calls in
    let clients = length script.clients in
    let asked = c.in-Some.asked in
    let inv = c.loop-asked.invariant in
    let done = inv.run.0 in
    let lines : List ReplyLine = inv.run.1 in
    let rest = c.next.new.self in
    let j : Journaled = c.loop-asked.journaled in
    let callers = c.loop-asked.callers.items in
    let mine = c.index_mut-caller.result.now in
    let told = c.in_ok-told.ensures.told in
    let reply = told.0 in
    let bound =
    next_of (λ a. a.client < clients) calls done _ rest asked c.into_parts-names.ensures.lawful.numbered c.in-Some.ensures.some
    inv.run.2 in
    let client : asked.client < length callers = omega (arith, bound, inv.ready.many) in
    let found : mine ≡ get_or callers asked.client mine = c.index_mut-caller.ensures.value in
    let own : IfSome mine (IsOwn j.durable.manager) =
    subst (λ (o : Option Transaction). IfSome o (IsOwn j.durable.manager)) (sym found) (inv.ready.own asked.client mine client) in
    let looked_up : joined (slice_get callers asked.client) ≡ mine =
    ap joined (slice_get-get_or callers asked.client mine client) ∙ sym found in
    let taken_of =
    taken_by (λ b. (goal.ColumnDevice-dyn g (b.vtable, b.value)).contents b.value)
    (λ b. (goal.ColumnDevice-dyn g (b.vtable, b.value)).failures b.value) in
    let before_it : Taken = taken_of c.loop-asked.store.devices.items c.loop-asked.store.next in
    let after_it : Taken = taken_of c.answer.new.store.devices.items c.answer.new.store.next in
    let at_first : Taken = taken_of c.store_image.new.store.devices.items c.store_image.new.store.next in
    let held : Held = record { journaled = c.answer.new.journaled; own = c.answer.new.caller; store = after_it } in
    let line : ReplyLine = line_of asked reply in
    let served : IsServed asked.client asked.call (record { journaled = j; own = mine; store = before_it }) reply held = told.1 in
    let kept = served_keeps asked.client asked.call j mine before_it reply held own served in
    let start : State = record { journaled = c.store_image.new.self; transactions = replicate clients None; store = at_first } in
    let mid : State = record { journaled = j; transactions = callers; store = before_it } in
    let next : State =
    record { journaled = held.journaled; transactions = set callers asked.client held.own; store = held.store } in
    let step : Step mid asked line next = record {
      reply = reply;
      held = held;
      served =
          subst
          (λ (o : Option Transaction). IsServed asked.client asked.call (record { journaled = j; own = o; store = before_it }) reply held)
          (sym looked_up) served;
      told = refl;
      left = refl;
    } in
    let now : List (List ℕ) → Type 0 = λ names.
    Appends (g.W.Write.contents c.loop-asked.out) (g.W.Write.contents c.answer.new.out) (lines_text names (line ∷ [])) in
    let written_now : now script.clients =
    subst now (c.as_slice.ensures.value ∙ c.into_parts-names.ensures.clients) told.2 in
    let written =
    Appends-trans (g.W.Write.contents c.args.out.now) (g.W.Write.contents c.loop-asked.out) (g.W.Write.contents c.answer.new.out) _ _
    inv.run.4 written_now in
    record {
      run = (
        done ++ asked ∷ [],
        lines ++ line ∷ [],
        append_assoc done (asked ∷ []) rest ∙ whole_of calls done _ rest asked c.in-Some.ensures.some inv.run.2,
        IsRun-more start mid next done lines asked line inv.run.3 step,
        subst (Appends (g.W.Write.contents c.args.out.now) (g.W.Write.contents c.answer.new.out))
            (lines_text-and script.clients lines line) written,
        ap (λ (b : Bool). b || c.in_ok-told.told) inv.run.5
            ∙ ap (λ (b : Bool). list_any is_refused lines || b) told.3
            ∙ sym (refused-more lines line),
      );
      schema = c.answer.ensures.schema ∙ inv.schema;
      next = c.answer.ensures.next;
      ready =
          ready_with c.args.opened.manager.schema clients j.durable.manager callers inv.ready asked.client held.own
          held.journaled.durable.manager kept.keeps kept.own;
    }

pub returns-clause-ran : goal.returns-clause-ran
returns-clause-ran g c =
    let script = c.args.opened.script in
    let inv = c.loop-asked.invariant in
    let done : List ClientCall = inv.run.0 in
    let none = none_left c.next.result _ c.next.ensures.none c.in_default-next.not-Some in
    let all : done ≡ script.calls = sym (append-nil done) ∙ ap (λ (xs : List ClientCall). done ++ xs) (sym none) ∙ inv.run.2 in
    let imaged =
    opened_as c.new-journaled.result _ c.store_image.result c.store_image.new.self _ c.store_image.ensures.imaged c.in_default.not-Err in
    let written =
    Appends-trans (g.W.Write.contents c.args.out.now) (g.W.Write.contents c.loop-asked.out) (g.W.Write.contents c.show_newest.new.out) _ _
    inv.run.4 c.in_ok-show_newest.ensures in (
      inv.run.1,
      record {
        opened = c.store_image.new.self;
        taken = _;
        imaged = rw c.new-journaled.ensures at imaged;
        transactions = c.loop-asked.callers.items;
        run = rw all at inv.run.3;
      },
      search (rules, written),
      c.status_of.ensures ∙ ap (λ (b : Bool). cond b 1 0) inv.run.5,
    )

pub returns-in-Err-store_image-clause-refused : goal.returns-in-Err-store_image-clause-refused
returns-in-Err-store_image-clause-refused g c =
    let taken_of =
    taken_by (λ b. (goal.ColumnDevice-dyn g (b.vtable, b.value)).contents b.value)
    (λ b. (goal.ColumnDevice-dyn g (b.vtable, b.value)).failures b.value) in
    let had : Taken = taken_of c.args.store.devices.items c.args.store.next in
    let opening : Journaled = journaled_over c.args.opened.manager c.args.journals.commits c.args.journals.images c.args.next in
    let has : Taken = taken_of c.store_image.new.store.devices.items c.store_image.new.store.next in
    let refused =
    unopened c.new-journaled.result had c.in-Err-store_image.fault c.store_image.new.self has c.in-Err-store_image.ensures.imaged in
    subst (λ (r : Refusal). IsRunRefusal opening had r) (sym c.image_refusal.ensures)
    (subst (λ (j : Journaled). IsRunRefusal j had (image_refusal c.in-Err-store_image.fault)) c.new-journaled.ensures refused)
