-- What `new` promises where it made a database.
use Rattle.std.proofs.Common.{◌≡◌, inl, inr, [], Result, Ok, Err, refl, sym, ◌∙◌, true≢false}
use Rattle.host_model.specs.declared.status.Status.TheVariants as status
use Rattle.tier_settings.specs.declared.settings.Settings.{Settings}
use Rattle.store_core.specs.declared.fault.CreateFault.{CreateFault}
use Rattle.store_core.specs.declared.fault.CreateFault.TheVariants as fault
use Rattle.agent_core.specs.Agent.{AgentState}
use Rattle.agent_core.specs.Calls.{Creates}
use Rattle.host_model.specs.Seen.{Seen}
use Rattle.link_session.proofs.StoreLemmas.{stands-all}
use Rattle.agent_app.specs.New.{Makes}
use Rattle.agent_app.proofs.CauseLemmas.{cause-as}

abbrev refused : CreateFault → Result AgentState CreateFault
refused why = Err why

fault-is : (why other : CreateFault) → refused why ≡ refused other → why ≡ other
fault-is why other e = cc

there : status.Ok ≡ status.Exists → ⊥
there e = cc

failed : status.Ok ≡ status.DiskFault → ⊥
failed e = cc

short : status.Ok ≡ status.Memory → ⊥
short e = cc

pub made-new : (honest : Type 0) (set : Settings) (host host' : Seen) (agent : AgentState) → Creates honest host set (Ok agent) host' → Makes honest set status.Ok host host'
made-new honest set host host' agent creates = record {
  any_moment = creates.any_moment;
  created = λ _ h. stands-all host'.past agent set [] (creates.created h);
  none = λ _ h. creates.none h;
  memory = λ is. absurd (short is);
  memory_moment = λ is. absurd (short is);
  exists = λ is. absurd (there is);
  made = λ h made. absurd (true≢false (sym made ∙ creates.none h));
  made_moment = creates.made_moment;
  statuses = inl refl;
  disk_cause = cause-as host.disk_faults host'.disk_faults _ (status.Ok ≡ status.DiskFault) (λ is. absurd (failed is)) (λ is. cc) creates.cause;
  bound = creates.bound;
  only_here = creates.only_here;
  tells = creates.tells;
}

-- memory ran out
pub want-new : (honest : Type 0) (set : Settings) (host host' : Seen) → Creates honest host set (refused fault.Memory) host' → Makes honest set status.Memory host host'
want-new honest set host host' creates = record {
  any_moment = creates.any_moment;
  created = λ e. absurd (other e);
  none = λ e. absurd (other e);
  memory = λ _ h. creates.memory refl h;
  memory_moment = λ _ h. creates.memory_moment refl h;
  exists = λ e. absurd (found e);
  made = λ h made. (inr (inr refl), (creates.made h made).1);
  made_moment = creates.made_moment;
  statuses = inr (inr (inr refl));
  disk_cause = cause-as host.disk_faults host'.disk_faults (refused fault.Memory ≡ refused fault.DiskFault) (status.Memory ≡ status.DiskFault) (λ e. absurd (torn e)) (λ e. absurd (apart (fault-is fault.Memory fault.DiskFault e))) creates.cause;
  bound = creates.bound;
  only_here = creates.only_here;
  tells = creates.tells;
}
  where
    other : status.Memory ≡ status.Ok → ⊥
    other e = cc

    found : status.Memory ≡ status.Exists → ⊥
    found e = cc

    torn : status.Memory ≡ status.DiskFault → ⊥
    torn e = cc

    apart : fault.Memory ≡ fault.DiskFault → ⊥
    apart e = cc

-- there is a database
pub exists-new : (honest : Type 0) (set : Settings) (host host' : Seen) → Creates honest host set (refused fault.Exists) host' → Makes honest set status.Exists host host'
exists-new honest set host host' creates = record {
  any_moment = creates.any_moment;
  created = λ e. absurd (other e);
  none = λ e. absurd (other e);
  memory = λ e. absurd (short-of e);
  memory_moment = λ e. absurd (short-of e);
  exists = λ _ h. creates.exists refl h;
  made = λ h made. (inl refl, (creates.made h made).1);
  made_moment = creates.made_moment;
  statuses = inr (inl refl);
  disk_cause = cause-as host.disk_faults host'.disk_faults (refused fault.Exists ≡ refused fault.DiskFault) (status.Exists ≡ status.DiskFault) (λ e. absurd (torn e)) (λ e. absurd (apart (fault-is fault.Exists fault.DiskFault e))) creates.cause;
  bound = creates.bound;
  only_here = creates.only_here;
  tells = creates.tells;
}
  where
    other : status.Exists ≡ status.Ok → ⊥
    other e = cc

    short-of : status.Exists ≡ status.Memory → ⊥
    short-of e = cc

    torn : status.Exists ≡ status.DiskFault → ⊥
    torn e = cc

    apart : fault.Exists ≡ fault.DiskFault → ⊥
    apart e = cc

-- the disk failed
pub failed-new : (honest : Type 0) (set : Settings) (host host' : Seen) → Creates honest host set (refused fault.DiskFault) host' → Makes honest set status.DiskFault host host'
failed-new honest set host host' creates = record {
  any_moment = creates.any_moment;
  created = λ e. absurd (other e);
  none = λ e. absurd (other e);
  memory = λ e. absurd (short-of e);
  memory_moment = λ e. absurd (short-of e);
  exists = λ e. absurd (found e);
  made = λ h made. (inr (inl refl), (creates.made h made).1);
  made_moment = creates.made_moment;
  statuses = inr (inr (inl refl));
  disk_cause = cause-as host.disk_faults host'.disk_faults (refused fault.DiskFault ≡ refused fault.DiskFault) (status.DiskFault ≡ status.DiskFault) (λ e. refl) (λ e. refl) creates.cause;
  bound = creates.bound;
  only_here = creates.only_here;
  tells = creates.tells;
}
  where
    other : status.DiskFault ≡ status.Ok → ⊥
    other e = cc

    short-of : status.DiskFault ≡ status.Memory → ⊥
    short-of e = cc

    found : status.DiskFault ≡ status.Exists → ⊥
    found e = cc
