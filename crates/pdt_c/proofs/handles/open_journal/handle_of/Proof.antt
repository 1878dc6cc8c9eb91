-- `handle_of`: the same pointer and allocator, under C's name.
use Rattle.std.proofs.Common.{◌≡◌, List, [], ◌∷◌, ◌++◌, refl, sym, subst}
use mir.Val.{Val}
use base.Logic.{SProp, ent, emp, id⊢}
use base.Fml.{ftrue}
use prog.Wp.{WpFn}
use types.Kit.{‵, raw, ◌⊛◌, ◌$◌, ◌∵◌, !, qed, by, move, keep, split, fsplit, fjoin, suffices, use0}
use types.Run.{stop, fld, of_opd, no_more, and_then, returns, enter}
use types.ByLocal.{alloc_all, pass_all, free_all, look_at, get, get_in, sets}
use types.Part.{agg, sub, whole}
use contract.Monad.{fact, fact_i}
use contract.Running.{tables}
use denote.Exit.{yes}
use denote.RattleType.{owns}
use denote.Signature.{types_at, plain}
use denote.Steps.{nothing}
use denote.Triple.Walked.{Stays, stay_dropped, walk_of}
use denote.Struct.Struct.{Shape}
use denote.Struct.Owning.{shape}
use Rattle.core.proofs.alloc.Calls.{Goes-blank}
use Rattle.std.proofs.raw_atomic.Walks.{proved_at, leaves}
use Rattle.std.specs.contracts.alloc.Global as global
use Rattle.std.proofs.alloc.Global.TheLaws as global_laws
use Rattle.std.specs.contracts.impls.GlobalAllocator.TheImpl.{ghosts}
use Rattle.pdt_c.proofs.WordSteps.{word, word_typed, pointer_typed, word_out, word_in}
use Rattle.pdt_c.specs.contracts.handles.held.Held as held
use Rattle.pdt_c.specs.contracts.handles.open_journal.OpenJournal as thing
use Rattle.pdt_c.specs.contracts.handles.open_journal.Journal as handle
use Rattle.pdt_c.specs.contracts.handles.open_journal.handle_of.{ended, clauses}
use Rattle.pdt_c.specs.contracts.handles.open_journal.handle_of.Key.{name as #self}
use Rattle.pdt_c.proofs.handles.open_journal.handle_of.Statement.{statement}
use Rattle.pdt_c.proofs.handles.open_journal.handle_of.Code as code

pub handle_of_spec : {M : Type 1} → statement M
handle_of_spec 𝓤 𝓛 𝓜 𝓡 wired =
    let H = 𝓛.H in
    let 𝓣 = tables 𝓤 H 𝓜 𝓡 𝓡.env in
    let c = clauses 𝓛 𝓜.mem 𝓡.returns in
    let fn = code.function in
    let Z = global.the_row in
    let LZ = global_laws.the_row_laws in
    let From = held.the_row thing.the_row Z ghosts in
    let from : Shape = shape (held.the_type thing.the_row Z ghosts) in
    let to : Shape = shape handle.the_type in
    let stays : Stays ended.signature.params ended.kept = (stay_dropped (plain (λ _. From)) yes, tt) in
    proved_at 𝓛 ended stays c 𝓜 𝓡 (Goes-blank 𝓛 0 (plain (λ _. From)) yes (λ κs x f. tt), tt) #self fn
    (code.unfolded 𝓤 H 𝓜 𝓡 wired) (λ y are.
    let d = y.0.3.0 in
    let Post : Val → SProp 𝓤 = (walk_of 𝓛 ended stays c).post y in
    let Runs : List Val → SProp 𝓤 = λ ws. WpFn 𝓤 H 𝓣.C 𝓣.Λ fn ws Post in
    let asked = raw ((c y.0.0 y.0.3).requires y.1) in
    qed 𝓛 ((‵ ftrue ⊛ ‵ (owns (types_at ended.signature.params y.0.0) y.0.3 y.0.4)) ∷ asked ∷ []) ∵ split ! $ move ! (1 ∷ []) $
    fsplit ! $ fsplit ! $
    word_out Z LZ ghosts from.name from.args from.types ! d.at d.alloc y.0.4.0 (λ h is fits.
    let w : Val = word d.at h in
    let typed = word_typed Z LZ ghosts d.at h fits in
    suffices ! (Runs (w ∷ []))
    (subst (λ (us : List Val). ent 𝓤 (Runs (w ∷ [])) (Runs us)) (sym (λ i. is i ++ [])) (id⊢ 𝓤 (Runs (w ∷ [])))) $
    enter ! 𝓣.C 𝓣.Λ fn (w ∷ []) Post $ alloc_all ! (λ l. pass_all ! refl (typed, tt) $
    sets ! (of_opd ! (get_in ! (fld ! refl (stop !)) (sub ! 0 refl (whole !)))) refl (pointer_typed d.at) $
    sets ! (of_opd ! (get_in ! (fld ! refl (stop !)) (sub ! 1 refl (whole !)))) refl fits $
    sets ! (of_opd ! (get ! refl)) refl (pointer_typed d.at) $
    sets ! (agg ! (and_then ! (get ! refl) (and_then ! (get ! refl) (no_more !)))) refl typed $
    word_in Z LZ ghosts to.name to.args to.types ! d.at d.alloc h $ fjoin ! $
    use0 𝓛 (raw (fact 𝓤 (d.value ≡ d.value))) (fact_i 𝓤 (d.value ≡ d.value) (emp 𝓤) refl) $ nothing ! $ nothing ! $ fjoin ! $
    returns ! (look_at ! 0 refl) $ free_all ! refl $ keep ! (4 ∷ 0 ∷ 2 ∷ 1 ∷ []) $
    by ! (leaves 𝓛 ended stays c y w (record { at = d.at; alloc = d.alloc; value = d.value }) (tt, tt) (tt, tt)))))
