mod FittingLemmas
mod OwnLemmas
mod PlaceLemmas
mod RecoveryLemmas
mod ReplayLemmas
