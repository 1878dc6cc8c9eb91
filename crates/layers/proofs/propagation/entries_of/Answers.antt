use Rattle.std.proofs.Common.{List, Option, Some, [], ◌∷◌, ◌++◌, map, ap, sym, ◌∙◌, append_assoc}
use Rattle.std.specs.Option.{option_copied}
use Rattle.std.proofs.lemmas.List.{append-nil, map-append}
use Rattle.model.specs.declared.entry.Entry.{Entry}
use Rattle.layers.proofs.propagation.entries_of.Goals as goal

pub loop-entry-preserved : goal.loop-entry-preserved
loop-entry-preserved c =
    let e = c.in-Some.entry.now in
    let old : List (Option Entry) = map option_copied c.loop-entry.entries.items in
    let rest : List (Option Entry) = map (λ x. Some x) c.next.new.self in
    ap (λ xs. map option_copied xs ++ rest) c.in_ok-push.ensures.ok
    ∙ ap (λ (xs : List (Option Entry)). xs ++ rest) (map-append option_copied c.loop-entry.entries.items (Some c.in-Some.entry ∷ []))
    ∙ append_assoc old (Some e ∷ []) rest
    ∙ ap (λ (es : List Entry). old ++ map (λ x. Some x) es) (sym c.in-Some.ensures.steps)
    ∙ c.loop-entry.invariant

pub returns : goal.returns
returns c =
    let old : List (Option Entry) = map option_copied c.loop-entry.entries.items in
    sym (append-nil old)
    ∙ ap (λ (es : List Entry). old ++ map (λ x. Some x) es) (sym c.in-None.ensures.steps.0)
    ∙ c.loop-entry.invariant
