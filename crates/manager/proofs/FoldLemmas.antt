-- The layers of the newest version after a fold.
use Rattle.std.proofs.Common.{◌≡◌, ℕ, ◌≤◌, List, length, sym, ap, ◌∙◌, subst, arith}
use Rattle.std.proofs.lemmas.List.{length-map}
use Rattle.values.specs.Shape.{IsSchema}
use Rattle.values.specs.declared.limits.TheConstants.{MAX_ROWS}
use Rattle.model.specs.Table.{Table}
use Rattle.model.specs.Effects.{Effects, AreOver, table_with}
use Rattle.model.specs.Composition.{composed_effects}
use Rattle.model.specs.Places.{insert_count}
use Rattle.model.proofs.CallerLemmas.{composes, leaves}
use Rattle.delta.specs.Tree.{Tree}
use Rattle.delta.proofs.CallerLemmas.{inserts_few}
use Rattle.layers.specs.Over.{tree_of, AreConsecutive}
use Rattle.layers.specs.Propagation.{composed_tree}
use Rattle.stable.specs.Stable.{table_in}
use Rattle.txn.specs.Version.{Lower, LayeredVersion, lower_table, version_of, empty_tree}
use Rattle.txn.proofs.CallerLemmas.{lower_table_is, no_layer}
use Rattle.manager.specs.Layers.{AreMerged}
use Rattle.manager.specs.Managed.{Managed, HasFolded, newest_table, with_layers}
use Rattle.manager.specs.Layered.{Layered, IsFolded}
use Rattle.manager.specs.Kept.{AreFolded, HoldsNewest}
use Rattle.manager.proofs.HistoryLemmas.{newest_within}
use Rattle.manager.proofs.GrantLemmas.{limited, schema_is, folded_table, written_is}

-- a fold's contract, at the trees behind owners
pub merged_in : (below above lower upper folded : Tree) → below ≡ lower → above ≡ upper
    → ((w : AreConsecutive below above) → folded ≡ composed_tree below above w) →
    (w : AreConsecutive lower upper) → folded ≡ composed_tree lower upper w
merged_in below above lower upper folded lower_is upper_is told =
    subst (λ (e : Tree × Tree). (w : AreConsecutive e.0 e.1) → folded ≡ composed_tree e.0 e.1 w) (λ i. (lower_is i, upper_is i)) told

-- a manager over the layers of a prepared fold
pub has_folded : (old new : Managed) (folded : Layered) → IsFolded old folded → new ≡ with_layers old folded.layers → HasFolded old new
has_folded old new folded h is =
    let layers = sym (ap (λ (m : Managed). m.layers) is) in
    record { kept = is ∙ ap (with_layers old) layers; layers = subst (AreMerged old.layers) layers h.merged }

module _ (m : Managed) (l : Lower) (newest : LayeredVersion) (kept : List Tree) (h : HoldsNewest m l newest kept) where
  -- the effects of both trees
  abbrev pub all_effects : Effects
  all_effects = composed_effects h.folded.lower.lower.effects h.folded.lower.middle.effects

  pub newest_few : length (newest_table m) ≤ MAX_ROWS
  newest_few = limited m (length (newest_table m)) h.lawful (newest_within m h.lawful)

  -- the Write-PDT is over the image of the Read-PDT
  abbrev pub stacked_trees : AreConsecutive l.read l.write
  stacked_trees =
      let lower = h.folded.lower.lower in
      let middle = h.folded.lower.middle in
      let schema = l.stable.schema in
      let below = inserts_few schema (table_in l.stable) lower.effects lower.over in
      let above = inserts_few schema (folded_table m l newest kept h) middle.effects middle.over in
      let rows : length (table_in l.stable) ≡ length l.stable.rows = length-map _ _ in
      let stable_few = h.folded.stable_few in
      let few = h.folded.few in
      let written : length (table_with (folded_table m l newest kept h) middle.effects) ≡ length (newest_table m) =
      ap (λ (t : Table). length t) (written_is m l newest kept h) in
      let most = newest_few in
      record {
        schema = schema;
        t = table_in l.stable;
        x = lower.effects;
        f = middle.effects;
        small = record {
          lawful = subst IsSchema (sym (schema_is m l newest kept h)) h.lawful.lawful;
          rows = omega (arith, rows, stable_few);
        };
        below = record {
          over = lower.over;
          tree_is = λ i. record { key_cols = lower.key_cols i; entries = lower.entries i };
          few = subst (λ (es : List _). insert_count es ≤ 2147483647) (sym lower.entries) (omega (arith, below, few));
        };
        above = record {
          over = middle.over;
          tree_is = λ i. record { key_cols = middle.key_cols i; entries = middle.entries i };
          few = subst (λ (es : List _). insert_count es ≤ 2147483647) (sym middle.entries) (omega (arith, above, written, most));
        };
      }

  module _ (read : Tree) (read_is : read ≡ tree_of l.stable.schema (table_in l.stable) all_effects) where
    -- the one tree, with none above it
    abbrev pub merged : Lower
    merged = record { stable = l.stable; read = read; write = empty_tree l.stable.schema.key_cols }

    pub in_turn : AreOver l.stable.schema (table_in l.stable) all_effects
        × (table_with (table_in l.stable) all_effects ≡ table_with (folded_table m l newest kept h) h.folded.lower.middle.effects)
    in_turn =
        composes l.stable.schema (table_in l.stable) h.folded.lower.lower.effects h.folded.lower.middle.effects
        h.folded.lower.lower.over h.folded.lower.middle.over

    abbrev pub merged_folded : AreFolded merged
    merged_folded = record {
      lower = record {
        lower = record {
          key_cols = ap (λ (t : Tree). t.key_cols) read_is;
          effects = all_effects;
          over = in_turn.0;
          entries = ap (λ (t : Tree). t.entries) read_is;
        };
        middle =
            no_layer l.stable.schema (table_with (table_in l.stable) all_effects)
            (leaves l.stable.schema (table_in l.stable) all_effects in_turn.0);
      };
      stable_few = h.folded.stable_few;
      few = subst (λ (t : Table). length t ≤ MAX_ROWS) (sym (in_turn.1 ∙ written_is m l newest kept h)) newest_few;
    }

    pub merged_table : lower_table merged ≡ newest_table m
    merged_table = lower_table_is merged merged_folded.lower ∙ in_turn.1 ∙ written_is m l newest kept h

    -- they are the same version
    pub merged_version : (n : ℕ) → version_of merged n ≡ record { schema = m.schema; table = newest_table m; number = n }
    merged_version n = λ i. record { schema = schema_is m l newest kept h i; table = merged_table i; number = n }
