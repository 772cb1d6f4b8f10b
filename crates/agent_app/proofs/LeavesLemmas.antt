-- A host on which nothing happens to a file.
use Rattle.std.proofs.Common.{◌≡◌, ℕ, List, ◌∷◌, take, refl, sym, subst, ◌∙◌}
use Rattle.host_model.specs.Past.{Told, MayAdd}
use Rattle.host_model.specs.Seen.{Seen}
use Rattle.link_session.specs.Keeps.{LeavesFiles}
use Rattle.link_session.proofs.LeavesLemmas.{leaves-further, leaves-nothing, may-told, one-told}
use Rattle.agent_app.specs.Convert.{LeavesDisk}

pub leaves-none : (honest : Type 0) (host : Seen) → LeavesDisk honest host host
leaves-none honest host = record { any_moment = λ h. leaves-nothing host.past; faults = refl }

pub leaves-both : (honest : Type 0) (first middle last : Seen) → LeavesDisk honest first middle → LeavesDisk honest middle last → LeavesDisk honest first last
leaves-both honest first middle last before after = record {
  any_moment = λ h. leaves-further first.past middle.past last.past (before.any_moment h) (after.any_moment h);
  faults = after.faults ∙ before.faults;
}

pub told-leaves : (honest : Type 0) (host host' : Seen) (sent : List ℕ) → (honest → host'.past ≡ Told sent ∷ host.past) → host'.disk_faults ≡ host.disk_faults → LeavesDisk honest host host'
told-leaves honest host host' sent told same = record {
  any_moment = λ h. subst (LeavesFiles host.past) (sym (told h)) (one-told host.past sent);
  faults = same;
}

pub torn-leaves : (honest : Type 0) (host host' : Seen) (bytes : List ℕ) → (honest → MayAdd (λ n. Told (take n bytes)) host.past host'.past) → host'.disk_faults ≡ host.disk_faults → LeavesDisk honest host host'
torn-leaves honest host host' bytes torn same = record { any_moment = λ h. may-told host.past host'.past bytes (torn h); faults = same }
