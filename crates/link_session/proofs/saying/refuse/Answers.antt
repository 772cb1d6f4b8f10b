use Rattle.std.proofs.Common.{inr, refl}
use Rattle.link_session.proofs.SpellingLemmas.{bye-spelt}
use Rattle.link_session.proofs.saying.refuse.Goals as goal

pub leave-requires : goal.leave-requires
leave-requires g c = bye-spelt 2 (inr (inr refl))
