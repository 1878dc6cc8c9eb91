use Rattle.std.proofs.Common.{◌≡◌, ◌<◌, ◌^◌, ◌∷◌, ◌++◌, List, length}
use Rattle.std.specs.List.{All}
use Rattle.model.specs.declared.entry.Entry.{Entry}
use Rattle.model.specs.Folding.{fold_from}
use Rattle.layers.proofs.walk.Walk.fold.Given as goal

-- the entries so far, with what comes of the lower entry as it is now and of the rest, are what comes of all
abbrev pub invariant-loop-upper : goal.invariant-loop-upper
invariant-loop-upper l = record {
  folded : (lowers : List Entry) →
      l.self.out.items ++ fold_from l.fn.self.key_cols (l.own ∷ lowers) l.fn.self.added l.fn.self.gone l.self.uppers
      ≡ l.fn.self.out.items ++ fold_from l.fn.self.key_cols (l.lower ∷ lowers) l.fn.self.added l.fn.self.gone l.fn.self.uppers;
  placed : All (λ e. e.sid < 2 ^ 32) l.self.uppers;
  own : l.own.sid ≡ l.lower.sid;
  key_cols : l.self.key_cols ≡ l.fn.self.key_cols;
  added : l.self.added ≡ l.fn.self.added;
  gone : l.self.gone ≡ l.fn.self.gone;
}

abbrev pub decreases-loop-upper : goal.decreases-loop-upper
decreases-loop-upper l = length l.self.uppers
