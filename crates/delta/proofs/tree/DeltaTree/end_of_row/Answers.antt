use Rattle.std.proofs.Common.{◌≡◌, sym, ap, ◌∙◌, arith}
use Rattle.std.specs.Prelude.{Some, slice_get}
use Rattle.std.specs.Option.{option_copied}
use Rattle.std.proofs.lemmas.Float.{T_from_true}
use Rattle.model.specs.declared.entry.Entry.{Entry}
use Rattle.delta.proofs.PutLemmas.{past-base}
use Rattle.delta.proofs.CountedLemmas.{some_get, none_within}
use Rattle.delta.proofs.tree.DeltaTree.end_of_row.Goals as goal

pub returns-else-sid : goal.returns-else-sid
returns-else-sid c =
    let t = c.args.self.now in
    let n = c.args.place.now.index in
    let x = c.in-Some.entry.now in
    let at : Some x ≡ slice_get t.entries n = sym (ap option_copied c.in-Some.is) ∙ c.entry.ensures t.entries c.requires.rest in
    past-base t.key_cols c.args.sid t.entries n (T_from_true _ c.requires.lawful.ordered) c.requires.split
    (λ d lt same. c.if-sid.false (c.sid.ensures ∙ ap (λ (e : Entry). e.sid) (some_get t.entries n x d at) ∙ same))

pub returns-in-None : goal.returns-in-None
returns-in-None c =
    let t = c.args.self.now in
    let n = c.args.place.now.index in
    let end = none_within t.entries n (sym (c.entry.ensures t.entries c.requires.rest) ∙ ap option_copied c.in-None.is) in
    past-base t.key_cols c.args.sid t.entries n (T_from_true _ c.requires.lawful.ordered) c.requires.split
    (λ d lt same. absurd (omega arith))
