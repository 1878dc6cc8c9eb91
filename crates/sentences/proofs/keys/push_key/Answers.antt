use Rattle.std.proofs.Common.{◌≡◌, ◌∙◌, ◌++◌, ◌∷◌, List, ℕ, drop, suc, ap, true, false, add-one, append_assoc, append-nil, sym}
use Rattle.std.proofs.Common.{arith, rules, string_bytes}
use Rattle.csv.specs.Records.{fields_of}
use Rattle.inputs.proofs.CallerLemmas.{field-drop, field-there}
use Rattle.sentences.specs.Headings.{is_key_heading}
use Rattle.sentences.specs.Keys.{key_parts}
use Rattle.sentences.proofs.KeyLemmas.{key_parts-ended, key_parts-more, key_parts-past, nothing-past}
use Rattle.sentences.proofs.keys.push_key.Goals as goal

pub unreachable-requires : goal.unreachable-requires
unreachable-requires c =
    let count = c.len-at-end.ensures in
    let here = c.loop-at-test.true in
    field-there (fields_of c.args.header.now) c.loop-at.at (rw c.in-None.is at c.get.ensures.value) (omega (arith, count, here))

pub returns-in-None-get : goal.returns-in-None-get
returns-in-None-get c =
    let past = nothing-past (fields_of c.args.fields.now) c.loop-at.at (rw c.in-None-get.is at c.get-in-loop-at.ensures.value) in
    let names = drop c.loop-at.at (fields_of c.args.header.now) in
    let none = key_parts-ended c.loop-at.at names (drop c.loop-at.at (fields_of c.args.fields.now)) past in
    sym (append-nil _) ∙ ap (λ (parts : List ℕ). string_bytes c.loop-at.text ++ parts) (sym none) ∙ c.loop-at.invariant

pub returns-then-not-is_key_heading : goal.returns-then-not-is_key_heading
returns-then-not-is_key_heading c =
    let at = c.loop-at.at in
    let heading = c.in-Some.heading.now in
    let here = field-drop (fields_of c.args.header.now) at heading (rw c.in-Some.is at c.get.ensures.value) in
    let no : is_key_heading heading ≡ false = search rules in
    let none =
    ap (λ (header : List (List ℕ)). key_parts at header (drop at (fields_of c.args.fields.now))) here
    ∙ key_parts-past at heading (drop (suc at) (fields_of c.args.header.now)) (drop at (fields_of c.args.fields.now)) no in
    sym (append-nil _) ∙ ap (λ (parts : List ℕ). string_bytes c.loop-at.text ++ parts) (sym none) ∙ c.loop-at.invariant

pub loop-at-preserved : goal.loop-at-preserved
loop-at-preserved c =
    let at = c.loop-at.at in
    let heading = c.in-Some.heading.now in
    let cell = c.in-Some-get.cell.now in
    let header = drop (suc at) (fields_of c.args.header.now) in
    let fields = drop (suc at) (fields_of c.args.fields.now) in
    let named = field-drop (fields_of c.args.header.now) at heading (rw c.in-Some.is at c.get.ensures.value) in
    let here = field-drop (fields_of c.args.fields.now) at cell (rw c.in-Some-get.is at c.get-in-loop-at.ensures.value) in
    let yes : is_key_heading heading ≡ true = search rules in
    let more =
    ap (λ (hs : List (List ℕ)). key_parts at hs (drop at (fields_of c.args.fields.now))) named
    ∙ ap (λ (fs : List (List ℕ)). key_parts at (heading ∷ header) fs) here
    ∙ key_parts-more at heading header cell fields yes in
    rw (c.in_ok-push_part.ensures, add-one)
    (append_assoc (string_bytes c.loop-at.text) _ _ ∙ ap (λ (parts : List ℕ). string_bytes c.loop-at.text ++ parts) (sym more)
    ∙ c.loop-at.invariant)
