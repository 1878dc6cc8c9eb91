-- `none`: a struct of no bytes, which owns nothing. Its clause names the list that it shows.
use Rattle.std.proofs.Common.{◌≡◌, List, [], ◌∷◌, refl}
use mir.Val.{Val, vstruct, vnil}
use base.Logic.{SProp, emp}
use types.Kit.{‵, raw, ◌⊛◌, ◌$◌, ◌∵◌, !, qed, by, keep, split, use0}
use types.Run.{no_more, returns, enter}
use types.ByLocal.{alloc_all, pass_all, free_all, look_at, sets}
use types.Part.{agg}
use contract.Monad.{fact, fact_i}
use contract.Running.{tables}
use denote.RattleType.{owns}
use denote.Shadow.{pure_i}
use denote.Signature.{types_at}
use denote.Steps.{nothing}
use denote.Triple.Entry.{alive}
use denote.Triple.Walked.{Stays, walk_of}
use Rattle.std.proofs.raw_atomic.Walks.{proved_at, leaves}
use Rattle.model.specs.History.{Record}
use Rattle.manager.specs.contracts.past.Past as past
use Rattle.manager.specs.contracts.past.Past.none.{ended, clauses}
use Rattle.manager.specs.contracts.past.Past.none.Key.{name as #self}
use Rattle.manager.proofs.past.Past.none.Statement.{statement}
use Rattle.manager.proofs.past.Past.none.Code as code

pub none_spec : {M : Type 1} → statement M
none_spec 𝓤 𝓛 𝓜 𝓡 wired =
    let H = 𝓛.H in
    let 𝓣 = tables 𝓤 H 𝓜 𝓡 𝓡.env in
    let c = clauses 𝓛 𝓜.mem 𝓡.returns in
    let fn = code.function in
    let stays : Stays ended.signature.params ended.kept = tt in
    let shown : List Record = [] in
    let made : past.the_row.Denot = record { records = shown } in
    proved_at 𝓛 ended stays c 𝓜 𝓡 tt #self fn (code.unfolded 𝓤 H 𝓜 𝓡 wired) (λ y are.
    let Post : Val → SProp 𝓤 = (walk_of 𝓛 ended stays c).post y in
    let passed = ‵ (owns (types_at ended.signature.params y.0.0) y.0.3 y.0.4) in
    qed 𝓛 ((raw (alive 𝓛 ended.signature y.0.0 y.0.1) ⊛ passed) ∷ raw ((c y.0.0 y.0.3).requires y.1) ∷ []) ∵ split ! $
    enter ! 𝓣.C 𝓣.Λ fn [] Post $ alloc_all ! (λ l. pass_all ! refl tt $
    sets ! (agg ! (no_more !)) refl (tt, tt) $
    pure_i ! (past.the_row.own_val made (vstruct vnil ∷ [])) ((λ vss. (tt, tt)), tt) ((tt, (refl, tt)), tt) $
    use0 𝓛 (raw (fact 𝓤 (shown ≡ shown))) (fact_i 𝓤 (shown ≡ shown) (emp 𝓤) refl) $ nothing ! $
    returns ! (look_at ! 0 refl) $ free_all ! refl $ keep ! (3 ∷ 0 ∷ 2 ∷ 1 ∷ []) $
    by ! (leaves 𝓛 ended stays c y (vstruct vnil) made tt tt)))
