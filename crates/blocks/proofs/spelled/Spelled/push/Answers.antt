use Rattle.std.proofs.Common.{◌≡◌, ◌++◌, ◌∷◌, [], List, ℕ, length, ap, ◌∙◌, arith, rules}
use Rattle.std.specs.Prelude.{string_bytes}
use Rattle.blocks.proofs.CutsLemmas.{Longer, push_text, end_fits}
use Rattle.blocks.proofs.spelled.Spelled.push.Goals.{After-push_reserved}
use Rattle.blocks.proofs.spelled.Spelled.push.Goals as goal
use Rattle.std.proofs.lemmas.Grind.{common_steps}

pub overflow_cast-len : goal.overflow_cast-len
overflow_cast-len c = grind (arith, common_steps, c.self.invariant, c.requires.short, c.in_ok-push_str.ensures.bytes, end_fits)

-- the texts with the one more
longer : (c : After-push_reserved) → Longer c.self.inside.ends.items (string_bytes c.self.inside.text)
    c.push_reserved.new.self.items (string_bytes c.push_str.new.self) (c.args.text.now ∷ [])
longer c =
    let long : c.len.result ≡ length (string_bytes c.push_str.new.self) = search rules in
    rw (c.push_reserved.ensures.items, c.in_ok-reserve.ensures.items, long, c.in_ok-push_str.ensures.bytes)
    (push_text c.self.inside.ends.items (string_bytes c.self.inside.text) c.args.text.now c.self.invariant
    (rw c.self.view_is c.requires.few) (record { utf8 = c.utf8.text; short = c.requires.short }))

pub invariant_of-self-2 : goal.invariant_of-self-2
invariant_of-self-2 c = (longer c).keeps

pub returns-clause-ok : goal.returns-clause-ok
returns-clause-ok c = (longer c).shows ∙ ap (λ (ts : List (List ℕ)). ts ++ c.args.text.now ∷ []) c.self.view_is

pub returns-clause-fit : goal.returns-clause-fit
returns-clause-fit c = (longer c).keeps.texts
