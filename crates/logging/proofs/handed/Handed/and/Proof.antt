-- `and`: as `synced`. What it shows is of both that are lent.
use Rattle.std.proofs.Common.{◌≡◌, ℕ, List, [], ◌∷◌, ◌++◌, length, refl, sym, subst}
use mir.Val.{Val, vptr, vstruct, vnil}
use base.Logic.{SProp, ent, emp, id⊢}
use prog.Wp.{WpFn}
use types.Kit.{‵, raw, ◌⊛◌, ◌$◌, ◌∵◌, !, qed, by, keep, split, fjoin, suffices, use0}
use types.Run.{no_more, returns, enter}
use types.ByLocal.{alloc_all, pass_all, free_all, look_at, sets}
use types.Part.{agg}
use contract.Monad.{fact, fact_i}
use contract.Running.{tables}
use denote.Builtin.{u8, RefOf, SliceRefOf}
use denote.Exit.{yes}
use denote.RattleType.{owns}
use denote.Shadow.{pure_i}
use denote.Signature.{types_at, plain}
use denote.Slice.{slice_val}
use denote.Steps.{nothing}
use denote.Triple.Entry.{alive}
use denote.Triple.Walked.{Stays, stay_dropped, walk_of, Goes-dropped}
use Rattle.std.proofs.raw_atomic.Walks.{proved_at, leaves}
use Rattle.logging.specs.contracts.handed.Handed as handed
use Rattle.logging.specs.contracts.handed.Handed.and.{ended, clauses}
use Rattle.logging.specs.contracts.handed.Handed.and.Key.{name as #self}
use Rattle.logging.proofs.handed.Handed.and.Statement.{statement}
use Rattle.logging.proofs.handed.Handed.and.Code as code

pub and_spec : {M : Type 1} → statement M
and_spec 𝓤 𝓛 𝓜 𝓡 wired =
    let H = 𝓛.H in
    let 𝓣 = tables 𝓤 H 𝓜 𝓡 𝓡.env in
    let c = clauses 𝓛 𝓜.mem 𝓡.returns in
    let fn = code.function in
    let stays : Stays ended.signature.params ended.kept = (
      stay_dropped (RefOf (0 ∷ []) tt (plain (λ _. handed.the_row)) (λ _. tt)) yes,
      (stay_dropped (SliceRefOf (1 ∷ []) tt (plain (λ _. u8)) (λ _. tt)) yes, tt),
    ) in
    proved_at 𝓛 ended stays c 𝓜 𝓡 (
      Goes-dropped 𝓛 2 (RefOf (0 ∷ []) tt (plain (λ _. handed.the_row)) (λ _. tt)) yes (λ κs x f. refl),
      (Goes-dropped 𝓛 2 (SliceRefOf (1 ∷ []) tt (plain (λ _. u8)) (λ _. tt)) yes (λ κs x f. refl), tt),
    ) #self fn (code.unfolded 𝓤 H 𝓜 𝓡 wired) (λ y are.
    let a = y.0.3 in
    let shown : List ℕ = a.0.now.bytes ++ a.1.0.now in
    let safe : ℕ = a.0.now.safe in
    let made : handed.the_row.Denot = record { bytes = shown; safe = safe } in
    let Post : Val → SProp 𝓤 = (walk_of 𝓛 ended stays c).post y in
    let Runs : List Val → SProp 𝓤 = λ ws. WpFn 𝓤 H 𝓣.C 𝓣.Λ fn ws Post in
    let passed = ‵ (owns (types_at ended.signature.params y.0.0) a y.0.4) in
    let p : Val = vptr a.0.ref_ptr.0 a.0.ref_ptr.1 in
    let q : Val = slice_val (a.1.0.ref_ptr.0, a.1.0.ref_ptr.1) (length a.1.0.now) in
    qed 𝓛 ((raw (alive 𝓛 ended.signature y.0.0 y.0.1) ⊛ passed) ∷ raw ((c y.0.0 a).requires y.1) ∷ []) ∵ split ! $
    suffices ! (Runs (p ∷ q ∷ []))
    (subst (λ (us : List Val). ent 𝓤 (Runs (p ∷ q ∷ [])) (Runs us)) (sym (λ i. are.0.0 i ++ (are.1.0.0.0 i ++ [])))
    (id⊢ 𝓤 (Runs (p ∷ q ∷ [])))) $
    enter ! 𝓣.C 𝓣.Λ fn (p ∷ q ∷ []) Post $ alloc_all ! (λ l.
    pass_all ! refl ((tt, tt), ((tt, (tt, (record { fits = are.1.0.0.1.0 }, tt))), tt)) $
    sets ! (agg ! (no_more !)) refl (tt, tt) $
    pure_i ! (handed.the_row.own_val made (vstruct vnil ∷ [])) ((λ vss. (tt, tt)), tt) ((tt, (refl, tt)), tt) $
    use0 𝓛 (raw (fact 𝓤 ((shown ≡ shown) × (safe ≡ safe)))) (fact_i 𝓤 ((shown ≡ shown) × (safe ≡ safe)) (emp 𝓤) (refl, refl)) $
    nothing ! $ nothing ! $ fjoin ! $ nothing ! $ fjoin ! $
    returns ! (look_at ! 0 refl) $ free_all ! refl $ keep ! (3 ∷ 0 ∷ 2 ∷ 1 ∷ []) $
    by ! (leaves 𝓛 ended stays c y (vstruct vnil) made (tt, (tt, tt)) (tt, (tt, tt)))))
