-- A disk on which nothing happens.
use Rattle.std.proofs.Common.{ℕ, List, ◌∷◌, take, inl, inr, refl, sym, subst, ◌∙◌}
use Rattle.host_model.specs.Moments.{begins, goes_on}
use Rattle.host_model.specs.Past.{Event, Told, MayAdd}
use Rattle.host_model.proofs.MomentLemmas.{at_end, joined, weakened}
use Rattle.link_session.specs.Keeps.{LeavesFiles}

pub leaves-nothing : (past : List Event) → LeavesFiles past past
leaves-nothing past = begins (λ file. refl)

pub leaves-further : (first middle last : List Event) → LeavesFiles first middle → LeavesFiles middle last → LeavesFiles first last
leaves-further first middle last before after = joined before (weakened (λ past same file. same file ∙ at_end before file) after)

-- what was told touches no file
pub one-told : (old : List Event) (sent : List ℕ) → LeavesFiles old (Told sent ∷ old)
one-told old sent = goes_on (Told sent) old (begins (λ file. refl)) (λ file. refl)

pub may-told : (old new : List Event) (bytes : List ℕ) → MayAdd (λ (n : ℕ). Told (take n bytes)) old new → LeavesFiles old new
may-told old new bytes (inl unchanged) = subst (LeavesFiles old) (sym unchanged) (leaves-nothing old)
may-told old new bytes (inr (n, added)) = subst (LeavesFiles old) (sym added) (one-told old (take n bytes))
