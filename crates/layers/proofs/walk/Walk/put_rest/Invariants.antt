use Rattle.std.proofs.Common.{◌≡◌, ◌<◌, ◌^◌, [], ◌++◌, length}
use Rattle.std.specs.List.{All}
use Rattle.model.specs.Folding.{fold_from}
use Rattle.layers.proofs.walk.Walk.put_rest.Given as goal

-- the entries so far, with what comes of the rest, are what comes of all
abbrev pub invariant-loop-upper : goal.invariant-loop-upper
invariant-loop-upper l = record {
  put :
      l.self.out.items ++ fold_from l.fn.self.key_cols [] l.fn.self.added l.fn.self.gone l.self.uppers
      ≡ l.fn.self.out.items ++ fold_from l.fn.self.key_cols [] l.fn.self.added l.fn.self.gone l.fn.self.uppers;
  placed : All (λ e. e.sid < 2 ^ 32) l.self.uppers;
  added : l.self.added ≡ l.fn.self.added;
  gone : l.self.gone ≡ l.fn.self.gone;
}

abbrev pub decreases-loop-upper : goal.decreases-loop-upper
decreases-loop-upper l = length l.self.uppers
