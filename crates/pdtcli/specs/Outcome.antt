-- What a run leaves.
use Rattle.std.specs.Prelude.{ℕ, List}
use Rattle.pdtcli.specs.declared.reply.ReplyLine.{ReplyLine}
use Rattle.manager.specs.Managed.{Managed}

pub record Left : Type 0 where
  -- the clients' names
  pub clients : List (List ℕ)
  -- a line for each call, with its reply
  pub lines : List ReplyLine
  pub manager : Managed
  -- for each client, how many of its commits were decided
  pub counts : List ℕ
  -- how many records the run's cuts handed out
  pub handed : ℕ
