-- `of`: a struct of no bytes, which owns nothing. Its clause names the bytes that are lent.
use Rattle.std.proofs.Common.{◌≡◌, ℕ, List, [], ◌∷◌, ◌++◌, length, refl, sym, subst, arith}
use mir.Val.{Val, vptr, vint, vstruct, vcons, vnil}
use Rattle.std.specs.Int.{w64}
use base.Logic.{SProp, ent, emp, id⊢}
use prog.Wp.{WpFn}
use types.Kit.{‵, raw, ◌⊛◌, ◌$◌, ◌∵◌, !, qed, by, keep, split, fjoin, suffices, use0}
use types.Run.{no_more, returns, enter}
use types.ByLocal.{alloc_all, pass_all, free_all, look_at, sets}
use types.Part.{agg}
use contract.Monad.{fact, fact_i}
use contract.Running.{tables}
use denote.Builtin.{SliceRefOf, u8}
use denote.Exit.{yes}
use denote.RattleType.{owns}
use denote.Shadow.{pure_i}
use denote.Signature.{types_at, plain}
use denote.Steps.{nothing}
use denote.Triple.Entry.{alive}
use denote.Triple.Walked.{Stays, stay_dropped, walk_of, Goes-dropped}
use Rattle.std.proofs.raw_atomic.Walks.{proved_at, leaves}
use Rattle.replay.specs.contracts.journal_frames.Bytes as the_bytes
use Rattle.replay.specs.contracts.journal_frames.Bytes.of.{ended, clauses}
use Rattle.replay.specs.contracts.journal_frames.Bytes.of.Key.{name as #self}
use Rattle.replay.proofs.journal_frames.Bytes.of.Statement.{statement}
use Rattle.replay.proofs.journal_frames.Bytes.of.Code as code

pub of_spec : {M : Type 1} → statement M
of_spec 𝓤 𝓛 𝓜 𝓡 wired =
    let H = 𝓛.H in
    let 𝓣 = tables 𝓤 H 𝓜 𝓡 𝓡.env in
    let c = clauses 𝓛 𝓜.mem 𝓡.returns in
    let fn = code.function in
    let stays : Stays ended.signature.params ended.kept = (stay_dropped (SliceRefOf (0 ∷ []) tt (plain (λ κs. u8)) (λ κs. tt)) yes, tt) in
    proved_at 𝓛 ended stays c 𝓜 𝓡 (Goes-dropped 𝓛 1 (SliceRefOf (0 ∷ []) tt (plain (λ κs. u8)) (λ κs. tt)) yes (λ κs x f. refl), tt) #self fn (code.unfolded 𝓤 H 𝓜 𝓡 wired) (λ y are.
    let a = y.0.3 in
    let shown : List ℕ = a.0.now in
    let made : the_bytes.the_row.Denot = record { read = shown } in
    let Post : Val → SProp 𝓤 = (walk_of 𝓛 ended stays c).post y in
    let Runs : List Val → SProp 𝓤 = λ ws. WpFn 𝓤 H 𝓣.C 𝓣.Λ fn ws Post in
    let passed = ‵ (owns (types_at ended.signature.params y.0.0) a y.0.4) in
    let p : Val = vstruct (vcons (vptr a.0.ref_ptr.0 a.0.ref_ptr.1) (vcons (vint w64 (length a.0.now)) vnil)) in
    qed 𝓛 ((raw (alive 𝓛 ended.signature y.0.0 y.0.1) ⊛ passed) ∷ raw ((c y.0.0 a).requires y.1) ∷ []) ∵ split ! $
    suffices ! (Runs (p ∷ []))
    (subst (λ (us : List Val). ent 𝓤 (Runs (p ∷ [])) (Runs us)) (sym (λ i. are.0.0.0 i ++ [])) (id⊢ 𝓤 (Runs (p ∷ [])))) $
    enter ! 𝓣.C 𝓣.Λ fn (p ∷ []) Post $ alloc_all ! (λ l. pass_all ! refl ((tt, (tt, (omega (arith, are.0.0.1), tt))), tt) $
    sets ! (agg ! (no_more !)) refl (tt, tt) $
    pure_i ! (the_bytes.the_row.own_val made (vstruct vnil ∷ [])) ((λ vss. (tt, tt)), tt) ((tt, (refl, tt)), tt) $
    use0 𝓛 (raw (fact 𝓤 (shown ≡ shown))) (fact_i 𝓤 (shown ≡ shown) (emp 𝓤) refl) $
    nothing ! $ nothing ! $ fjoin ! $
    returns ! (look_at ! 0 refl) $ free_all ! refl $ keep ! (3 ∷ 0 ∷ 2 ∷ 1 ∷ []) $
    by ! (leaves 𝓛 ended stays c y (vstruct vnil) made (tt, tt) (tt, tt))))
