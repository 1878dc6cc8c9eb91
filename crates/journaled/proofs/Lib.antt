mod JournalLemmas
mod RecoveryLemmas
mod RunLemmas
