-- The layers of the version after a commit.
use Rattle.std.proofs.Common.{◌≡◌, ℕ, zero, suc, ◌+◌, ◌-◌, ◌≤◌, ◌^◌, Bool, true, false, ◌||◌, List, [], length, drop, refl, sym, ap, ◌∙◌, subst, arith}
use Rattle.std.specs.Prelude.{◌==◌, nat_lt}
use Rattle.std.proofs.lemmas.Bool.Decides.{nat_tests}
use Rattle.std.proofs.lemmas.List.{length-map}
use Rattle.circular_buffer.specs.Buffer.{keep_last}
use Rattle.values.specs.Shape.{Columns, IsSchema}
use Rattle.values.specs.declared.limits.TheConstants.{MAX_ROWS, MAX_RECENT_COMMITS}
use Rattle.model.specs.declared.clash.ConflictRule.{ConflictRule}
use Rattle.model.specs.Table.{Table}
use Rattle.model.specs.Effects.{Effects, AreOver, table_with}
use Rattle.model.specs.Composition.{composed_effects}
use Rattle.model.specs.Places.{insert_count}
use Rattle.model.proofs.CallerLemmas.{composes}
use Rattle.delta.specs.Tree.{Tree}
use Rattle.delta.proofs.CallerLemmas.{inserts_few}
use Rattle.layers.specs.Over.{tree_of, AreConsecutive}
use Rattle.layers.specs.Propagation.{composed_tree}
use Rattle.stable.specs.Stable.{Stable, IsStable, table_in}
use Rattle.txn.specs.Version.{Lower, TableVersion, alone, lower_table, version_of, LayeredVersion, numbered, table_version}
use Rattle.txn.proofs.CallerLemmas.{lower_table_is, no_layer, version_of-alone}
use Rattle.manager.specs.Managed.{Managed, newest_table, opened_at, is_bad_limit, IsManaged}
use Rattle.manager.specs.Kept.{AreFolded, HoldsNewest}
use Rattle.manager.proofs.HistoryLemmas.{newest_within}

pub limited : (m : Managed) (n : ℕ) → IsManaged m → n ≤ m.start.limit → n ≤ 2147483647
limited m n h le = let most = h.limited in omega (arith, le, most)

-- a fold's contract, at the tree behind an owner
pub folded_in : (lower write tree folded : Tree) → lower ≡ write → ((w : AreConsecutive lower tree) → folded ≡ composed_tree lower tree w) →
    (w : AreConsecutive write tree) → folded ≡ composed_tree write tree w
folded_in lower write tree folded is told = subst (λ (t : Tree). (w : AreConsecutive t tree) → folded ≡ composed_tree t tree w) is told

module _ (m : Managed) (l : Lower) (newest : LayeredVersion) (kept : List Tree) (h : HoldsNewest m l newest kept) where
  pub schema_is : l.stable.schema ≡ m.schema
  schema_is = ap (λ (v : TableVersion). v.schema) (sym (ap table_version h.layers_are) ∙ h.newest_is)

  pub table_is : lower_table l ≡ newest_table m
  table_is = ap (λ (v : TableVersion). v.table) (sym (ap table_version h.layers_are) ∙ h.newest_is)

  abbrev pub folded_table : Table
  folded_table = table_with (table_in l.stable) h.folded.lower.lower.effects

  pub written_is : table_with folded_table h.folded.lower.middle.effects ≡ newest_table m
  written_is = sym (lower_table_is l h.folded.lower) ∙ table_is

  module _ (x : Effects) (over : AreOver m.schema (newest_table m) x)
      (room : length (table_with (newest_table m) x) ≤ m.start.limit) (tree : Tree)
      (tree_is : tree ≡ tree_of m.schema (newest_table m) x) where
    pub over_layers : AreOver l.stable.schema (table_with folded_table h.folded.lower.middle.effects) x
    over_layers = subst (λ (e : Columns × Table). AreOver e.0 e.1 x) (sym (λ i. (schema_is i, written_is i))) over

    -- the transaction's tree is over the image of the Write-PDT
    abbrev pub consecutive : AreConsecutive l.write tree
    consecutive =
        let middle = h.folded.lower.middle in
        let below = inserts_few l.stable.schema folded_table middle.effects middle.over in
        let rows : length (table_with folded_table middle.effects) ≡ length (newest_table m) = ap (λ (t : Table). length t) written_is in
        let within = limited m (length (newest_table m)) h.lawful (newest_within m h.lawful) in
        let above = inserts_few m.schema (newest_table m) x over in
        let most = limited m (length (table_with (newest_table m) x)) h.lawful room in
        record {
          schema = l.stable.schema;
          t = folded_table;
          x = middle.effects;
          f = x;
          small = record { lawful = subst IsSchema (sym schema_is) h.lawful.lawful; rows = h.folded.few };
          below = record {
            over = middle.over;
            tree_is = λ i. record { key_cols = middle.key_cols i; entries = middle.entries i };
            few = subst (λ (es : List _). insert_count es ≤ 2147483647) (sym middle.entries) (omega (arith, below, rows, within));
          };
          above = record {
            over = over_layers;
            tree_is = tree_is ∙ sym (λ i. tree_of (schema_is i) (written_is i) x);
            few = subst (λ (t : Tree). insert_count t.entries ≤ 2147483647) (sym tree_is) (omega (arith, above, most));
          };
        }

    -- with it folded in
    module _ (write : Tree)
        (write_is : write ≡ tree_of l.stable.schema folded_table (composed_effects h.folded.lower.middle.effects x)) where
      abbrev pub next : Lower
      next = record l { write = write }

      pub in_turn :
          AreOver l.stable.schema folded_table (composed_effects h.folded.lower.middle.effects x)
          × (table_with folded_table (composed_effects h.folded.lower.middle.effects x)
          ≡ table_with (table_with folded_table h.folded.lower.middle.effects) x)
      in_turn = composes l.stable.schema folded_table h.folded.lower.middle.effects x h.folded.lower.middle.over over_layers

      abbrev pub next_folded : AreFolded next
      next_folded = record {
        lower = record {
          lower = h.folded.lower.lower;
          middle = record {
            key_cols = ap (λ (t : Tree). t.key_cols) write_is;
            effects = composed_effects h.folded.lower.middle.effects x;
            over = in_turn.0;
            entries = ap (λ (t : Tree). t.entries) write_is;
          };
        };
        stable_few = h.folded.stable_few;
        few = h.folded.few;
      }

      pub next_table : lower_table next ≡ table_with (newest_table m) x
      next_table = lower_table_is next next_folded.lower ∙ in_turn.1 ∙ ap (λ (t : Table). table_with t x) written_is

      pub next_version : (n : ℕ) → version_of next n ≡ record { schema = m.schema; table = table_with (newest_table m) x; number = n }
      next_version n = λ i. record { schema = schema_is i; table = next_table i; number = n }

-- ---- a manager that has just been opened

pub drop-none : {A : Type 0} (n : ℕ) → drop {A = A} n [] ≡ []
drop-none zero = refl
drop-none (suc n) = refl

-- where nothing was committed nothing is kept
pub none_kept : {A : Type 0} (recent floor : ℕ) → [] ≡ keep_last {X = A} recent (drop floor [])
none_kept recent floor = subst (λ ts. [] ≡ keep_last recent ts) (sym (drop-none floor)) (sym (drop-none (0 - recent)))

bad_false : (a b c : Bool) (recent limit : ℕ) → (a || b || c || nat_lt MAX_ROWS limit) ≡ false → limit ≤ MAX_ROWS
bad_false true b c recent limit h = cc
bad_false false true c recent limit h = cc
bad_false false false true recent limit h = cc
bad_false false false false recent limit h = grind (arith, nat_tests)

-- limits that are in their ranges
pub limit_fits : (recent limit : ℕ) → is_bad_limit recent limit ≡ false → limit ≤ MAX_ROWS
limit_fits recent limit h = bad_false (recent == 0) (nat_lt MAX_RECENT_COMMITS recent) (limit == 0) recent limit h

-- a stable table under no entries
pub alone_folded : (s : Stable) → IsStable s → AreFolded (alone s)
alone_folded s h =
    let rows : length (table_in s) ≡ length s.rows = length-map _ _ in
    let few = h.few in
    record {
      lower = record { lower = no_layer s.schema (table_in s) h.table; middle = no_layer s.schema (table_in s) h.table };
      stable_few = few;
      few = omega (arith, rows, few);
    }

pub opened_holds : (number : ℕ) → number ≤ 2 ^ 62 → (s : Stable) (limit recent : ℕ) (rule : ConflictRule) → IsStable s → IsSchema s.schema
    → length s.rows ≤ limit → limit ≤ MAX_ROWS →
    HoldsNewest (opened_at number s limit recent rule) (alone s) (numbered (alone s) number) []
opened_holds number few s limit recent rule h lawful within most =
    let rows : length (table_in s) ≡ length s.rows = length-map _ _ in
    let none : number ≡ number + 0 = omega arith in
    record {
      lawful = record {
        lawful = lawful;
        table = h.table;
        within = omega (arith, rows, within);
        limited = most;
        legal = tt;
        counted = omega arith;
        few = few;
        based = omega arith;
        reached = omega arith;
      };
      folded = alone_folded s h;
      newest_is = version_of-alone s number ∙ (λ i. record { schema = s.schema; table = table_in s; number = none i });
      layers_are = ap (numbered (alone s)) none;
      kept_are = none_kept recent (number - number);
    }
