use Rattle.std.proofs.Common.{◌≡◌, ◌∙◌, ◌-◌, ℕ, length, ap}
use Rattle.std.specs.Prelude.{min}
use Rattle.std.proofs.lemmas.List.{length-map}
use Rattle.merge.specs.Image.{image_rows}
use Rattle.txn.specs.Txn.{image_of}
use Rattle.txn.proofs.transaction.Txn.placed_stretches.Goals as goal

-- as many rows as the image has
abbrev counted : (c : goal.After-placed_stretches) → length (image_rows c.layers.result) ≡ length (image_of c.args.self.now)
counted c = ap length c.layers.ensures.rows ∙ length-map (image_of c.args.self.now) (λ e. e.1)

pub returns-clause-schema : goal.returns-clause-schema
returns-clause-schema c = ap (λ s. s.schema) c.placed_stretches.ensures.stack ∙ c.layers.ensures.schema

pub returns-clause-rows : goal.returns-clause-rows
returns-clause-rows c = ap image_rows c.placed_stretches.ensures.stack ∙ c.layers.ensures.rows

pub returns-clause-from : goal.returns-clause-from
returns-clause-from c = c.placed_stretches.ensures.from ∙ ap (min c.args.from) (counted c)

pub returns-clause-left : goal.returns-clause-left
returns-clause-left c =
    c.placed_stretches.ensures.left ∙ ap (λ (n : ℕ). min c.args.to n - c.placed_stretches.result.rid) (counted c)
