-- Command lines, and what the usage says of them. `clap` computes them by its definitions, which takes some seconds a fact, so
-- only those stand here that the tests of command lines don't read as well.
use Rattle.std.proofs.Common.{◌≡◌, ◌∷◌, [], List, Some, false, codes, refl}
use Rattle.clap.specs.Words.{Text, takes}
use Rattle.clap.proofs.OnLiterals.{clap_on_literals}
use Rattle.words.specs.Words.{usage, word_for}
use Rattle.words.specs.declared.settings.TheConstants.{RECENT_COMMITS}

-- how many recent commits are kept where nothing is said
recent_commits : RECENT_COMMITS ≡ 64
recent_commits = refl

-- `pdt run t.csv s.csv`, with other words after it
abbrev run_words : List Text → List Text
run_words more = codes "pdt" ∷ codes "run" ∷ codes "t.csv" ∷ codes "s.csv" ∷ more

-- of the recent commits 65,536 are the most
takes-recent_past : takes usage (run_words (codes "--recent" ∷ codes "65537" ∷ [])) ≡ false
unfolding clap_on_literals
takes-recent_past = refl

-- `clap` has a word of its own for an option with no value, which says whether it is there
word_for-threads : word_for (run_words (codes "--threads" ∷ [])) (codes "threads") ≡ Some (codes "true")
unfolding clap_on_literals
word_for-threads = refl

word_for-no_threads : word_for (run_words []) (codes "threads") ≡ Some (codes "false")
unfolding clap_on_literals
word_for-no_threads = refl

-- the word after it is another's
word_for-threads_and_store : word_for (run_words (codes "--threads" ∷ codes "--store" ∷ codes "d" ∷ [])) (codes "store") ≡ Some (codes "d")
unfolding clap_on_literals
word_for-threads_and_store = refl
