-- `and_one`: as `and`. The record at the end is of the transaction and the reply that are lent.
use Rattle.std.proofs.Common.{◌≡◌, List, [], ◌∷◌, ◌++◌, refl, sym, subst}
use mir.Val.{Val, vptr, vstruct, vnil}
use base.Logic.{SProp, ent, emp, id⊢}
use prog.Wp.{WpFn}
use types.Kit.{‵, raw, ◌⊛◌, ◌$◌, ◌∵◌, !, qed, by, keep, split, fjoin, suffices, use0}
use types.Run.{no_more, returns, enter}
use types.ByLocal.{alloc_all, pass_all, free_all, look_at, sets}
use types.Part.{agg}
use contract.Monad.{fact, fact_i}
use contract.Running.{tables}
use denote.Builtin.{RefOf}
use denote.Exit.{yes}
use denote.RattleType.{owns}
use denote.Shadow.{pure_i}
use denote.Signature.{types_at, plain}
use denote.Steps.{nothing}
use denote.Triple.Entry.{alive}
use denote.Triple.Walked.{Stays, stay_dropped, walk_of, Goes-dropped}
use Rattle.std.proofs.raw_atomic.Walks.{proved_at, leaves}
use Rattle.model.specs.History.{Record}
use Rattle.model.specs.contracts.write.CommitReply as answer
use Rattle.txn.specs.contracts.transaction.Txn as lent
use Rattle.manager.specs.Managed.{record_of}
use Rattle.manager.specs.contracts.past.Past as past
use Rattle.manager.specs.contracts.past.Past.and_one.{ended, clauses}
use Rattle.manager.specs.contracts.past.Past.and_one.Key.{name as #self}
use Rattle.manager.proofs.past.Past.and_one.Statement.{statement}
use Rattle.manager.proofs.past.Past.and_one.Code as code

pub and_one_spec : {M : Type 1} → statement M
and_one_spec 𝓤 𝓛 𝓜 𝓡 wired =
    let H = 𝓛.H in
    let 𝓣 = tables 𝓤 H 𝓜 𝓡 𝓡.env in
    let c = clauses 𝓛 𝓜.mem 𝓡.returns in
    let fn = code.function in
    let stays : Stays ended.signature.params ended.kept = (
      stay_dropped (RefOf (0 ∷ []) tt (plain (λ _. past.the_row)) (λ _. tt)) yes,
      (
        stay_dropped (RefOf (1 ∷ []) tt (plain (λ _. lent.the_row)) (λ _. tt)) yes,
        (stay_dropped (RefOf (2 ∷ []) tt (plain (λ _. answer.the_row)) (λ _. tt)) yes, tt),
      ),
    ) in
    proved_at 𝓛 ended stays c 𝓜 𝓡 (
      Goes-dropped 𝓛 3 (RefOf (0 ∷ []) tt (plain (λ _. past.the_row)) (λ _. tt)) yes (λ κs x f. refl),
      (
        Goes-dropped 𝓛 3 (RefOf (1 ∷ []) tt (plain (λ _. lent.the_row)) (λ _. tt)) yes (λ κs x f. refl),
        (Goes-dropped 𝓛 3 (RefOf (2 ∷ []) tt (plain (λ _. answer.the_row)) (λ _. tt)) yes (λ κs x f. refl), tt),
      ),
    ) #self fn (code.unfolded 𝓤 H 𝓜 𝓡 wired) (λ y are.
    let a = y.0.3 in
    let shown : List Record = a.0.now.records ++ record_of a.1.0.now a.1.1.0.now ∷ [] in
    let made : past.the_row.Denot = record { records = shown } in
    let Post : Val → SProp 𝓤 = (walk_of 𝓛 ended stays c).post y in
    let Runs : List Val → SProp 𝓤 = λ ws. WpFn 𝓤 H 𝓣.C 𝓣.Λ fn ws Post in
    let passed = ‵ (owns (types_at ended.signature.params y.0.0) a y.0.4) in
    let p : Val = vptr a.0.ref_ptr.0 a.0.ref_ptr.1 in
    let q : Val = vptr a.1.0.ref_ptr.0 a.1.0.ref_ptr.1 in
    let r : Val = vptr a.1.1.0.ref_ptr.0 a.1.1.0.ref_ptr.1 in
    qed 𝓛 ((raw (alive 𝓛 ended.signature y.0.0 y.0.1) ⊛ passed) ∷ raw ((c y.0.0 a).requires y.1) ∷ []) ∵ split ! $
    suffices ! (Runs (p ∷ q ∷ r ∷ []))
    (subst (λ (us : List Val). ent 𝓤 (Runs (p ∷ q ∷ r ∷ [])) (Runs us)) (sym (λ i. are.0.0 i ++ (are.1.0.0 i ++ (are.1.1.0.0 i ++ []))))
    (id⊢ 𝓤 (Runs (p ∷ q ∷ r ∷ [])))) $
    enter ! 𝓣.C 𝓣.Λ fn (p ∷ q ∷ r ∷ []) Post $ alloc_all ! (λ l. pass_all ! refl ((tt, tt), ((tt, tt), ((tt, tt), tt))) $
    sets ! (agg ! (no_more !)) refl (tt, tt) $
    pure_i ! (past.the_row.own_val made (vstruct vnil ∷ [])) ((λ vss. (tt, tt)), tt) ((tt, (refl, tt)), tt) $
    use0 𝓛 (raw (fact 𝓤 (shown ≡ shown))) (fact_i 𝓤 (shown ≡ shown) (emp 𝓤) refl) $
    nothing ! $ nothing ! $ fjoin ! $ nothing ! $ fjoin ! $ nothing ! $ fjoin ! $
    returns ! (look_at ! 0 refl) $ free_all ! refl $ keep ! (3 ∷ 0 ∷ 2 ∷ 1 ∷ []) $
    by ! (leaves 𝓛 ended stays c y (vstruct vnil) made (tt, (tt, (tt, tt))) (tt, (tt, (tt, tt))))))
