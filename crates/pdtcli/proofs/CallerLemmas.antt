-- What the crates above cite of this one, in one place. Declares nothing.
pub use Rattle.pdtcli.proofs.OutputLemmas.{lines_text-more}
pub use Rattle.pdtcli.proofs.ProgramLemmas.{passed_up}
pub use Rattle.pdtcli.proofs.RunLemmas.{Keeps, SideKeeps, keeps_decided, keeps_same, next_of, none_left, own_decided, ready_with}
pub use Rattle.pdtcli.proofs.RunLemmas.{rebuilt_keeps, side_own, step_keeps, typed_in, whole_of}
