use Rattle.publishing.proofs.CallerLemmas.{admits}
use Rattle.shared.proofs.shared.new_reader.Goals as goal

pub reader-requires : goal.reader-requires
reader-requires c = admits
