-- The words of a command line.
use Rattle.std.proofs.Common.{◌≡◌, true, Option, Some, None, Result, Ok, Err, codes, refl}
use Rattle.std.specs.Option.{IfSome}
use Rattle.std.specs.Result.{IsErrAnd, IfErr, IfOk}
use Rattle.std.specs.Prelude.{Box}
use Rattle.std.specs.Option.{option_map}
use Rattle.std.specs.Box.{box_value}
use Rattle.clap.specs.Matches.{subcommand_name_of}
use Rattle.clap.specs.Words.{Text, is_simple, is_simple_and_free, subcommand_rows, subcommand_rows_of}
use Rattle.clap.specs.declared.parser.matches.ArgMatches.{ArgMatches}
use Rattle.clap.specs.declared.parser.matches.ArgMatches.TheViews.{out-ArgMatches, out-SubCommand}
use Rattle.clap.specs.declared.parser.matches.SubCommand.{SubCommand}
use Rattle.clap.proofs.OnLiterals.{clap_on_literals}
use Rattle.words.specs.Words.{usage, AreOf}
use Rattle.words.specs.declared.settings.Settings.{Settings}
use Rattle.words.specs.declared.settings.Settings.TheVariants.{Run, Recover}

-- of such a usage `clap` says which word is which
pub usage-simple : is_simple usage ≡ true
unfolding clap_on_literals
usage-simple = refl

pub usage-free : is_simple_and_free usage ≡ true
unfolding clap_on_literals
usage-free = refl

-- the same command, with the same words for each argument
pub AreOf-same : (a b : Option Text) (f g : Text → Option Text) → a ≡ b → ((id : Text) → f id ≡ g id) → (settings : Settings)
    → AreOf a f settings → AreOf b g settings
AreOf-same a b f g command same (Recover dir table explain) h =
    rw (← command, ← same (codes "dir"), ← same (codes "table"), ← same (codes "explain")) h
AreOf-same a b f g command same (Run table script threads store journal recent limit conflicts explain) h =
    rw (← command, ← same (codes "table"), ← same (codes "script"), ← same (codes "threads"), ← same (codes "store"), ← same (codes "journal"), ← same (codes "recent"), ← same (codes "limit"), ← same (codes "conflicts"), ← same (codes "explain")) h

pub if-AreOf-same : (a b : Option Text) (f g : Text → Option Text) → a ≡ b → ((id : Text) → f id ≡ g id) → (o : Option Settings)
    → IfSome o (AreOf a f) → IfSome o (AreOf b g)
if-AreOf-same a b f g command same None h = h
if-AreOf-same a b f g command same (Some settings) h = AreOf-same a b f g command same settings h

-- what was answered is what the answer says, and what that says with it
pub if-done : {T E : Type 0} (r : Result T E) (P Q : T → Type 0) → ((x : T) → P x → Q x) → IfOk r P → IfOk r Q
if-done (Ok x) P Q f h = f x h
if-done (Err e) P Q f h = tt

-- what an error that was made is
pub if-told : {T E : Type 0} (r : Result T E) (P Q : E → Type 0) → ((e : E) → P e → Q e) → IsErrAnd r P → IfErr r Q
if-told (Ok x) P Q f h = tt
if-told (Err e) P Q f h = f e h

-- the command that was read has one name
named_in : {Z : Type 0} (o : Option (Box SubCommand Z))
    → option_map (λ b. (out-SubCommand (box_value b)).name.now) o ≡ option_map (λ p. p.0) (subcommand_rows o)
named_in None = refl
named_in (Some b) = refl

pub named : (m : ArgMatches) → subcommand_name_of m ≡ option_map (λ p. p.0) (subcommand_rows_of m)
named m = named_in (out-ArgMatches m).subcommand
