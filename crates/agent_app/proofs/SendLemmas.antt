-- What `send` promises: where the database was opened, and where it was not.
use Rattle.std.proofs.Common.{◌≡◌, ◌⊎◌, inl, inr, ℕ, true, List, ◌++◌, Ok, Err, Some, IfErr, IfSome, refl, sym, ap, subst, ◌∙◌, true≢false}
use Rattle.host_model.specs.Cause.{HasCause, Rose}
use Rattle.host_model.specs.declared.status.Status.{Status}
use Rattle.host_model.specs.declared.status.Status.TheVariants as status
use Rattle.host_model.specs.Disks.{EveryDisk, reads_as}
use Rattle.host_model.specs.Moments.{Throughout}
use Rattle.host_model.specs.Past.{Event, of, told, IsDisk}
use Rattle.host_model.specs.Seen.{Seen}
use Rattle.agent_core.specs.declared.fault.AgentFault.TheVariants as fault
use Rattle.agent_core.specs.declared.fault.OpenFault.{OpenFault}
use Rattle.agent_core.specs.declared.fault.OpenFault.TheVariants as open_fault
use Rattle.agent_core.specs.Agent.{id_of, AgentState}
use Rattle.agent_core.specs.Calls.{Opens}
use Rattle.agent_core.specs.Copies.{data_of_history}
use Rattle.agent_core.specs.Stands.{StandsForHistory}
use Rattle.history.specs.History.{Beat}
use Rattle.tier_settings.specs.declared.settings.Settings.{Settings}
use Rattle.store_core.specs.declared.fault.Why.{Why}
use Rattle.store_core.specs.declared.fault.Why.TheVariants as spent_for
use Rattle.link_session.specs.Child.{child_begins, child_does}
use Rattle.link_session.specs.declared.fault.SessionFault.{SessionFault}
use Rattle.link_session.specs.declared.fault.SessionFault.TheVariants as session
use Rattle.link_session.specs.Exchange.{SessionResult}
use Rattle.link_session.specs.Sending.{IsSending, SendsHistory}
use Rattle.link_session.specs.Session.{LinkSeen}
use Rattle.link_session.proofs.StoreLemmas.{stands-all}
use Rattle.agent_app.specs.Run.{finds_none}
use Rattle.agent_app.specs.Send.{ends_a_send, Sends, SendsAll}
use Rattle.agent_app.specs.Sessions.{fault_status, session_status, EndsAsBytes}
use Rattle.agent_app.specs.Statuses.{opening_status}
use Rattle.agent_app.proofs.CauseLemmas.{cause-as, stayed}
use Rattle.agent_app.proofs.SessionLemmas.{ends-as-bytes, NoFault}
use Rattle.agent_app.proofs.OpeningLemmas.{by-fault, complete-by, disk-failed, failed_by, fault-is, found-finds, opened-disk, opened-going, some-each, unopened-finds, unopened-host}

abbrev pub ended_with : SessionFault → SessionResult
ended_with why = Err why

-- ---- statuses
-- of a session that sends, whatever the host tells
sending-ends : (why : SessionFault) → IsSending why → ends_a_send (fault_status why) ≡ true
sending-ends session.LinkFault is = refl
sending-ends (session.Agent fault.Memory) is = refl
sending-ends (session.Agent (fault.Reopen spent_for.Disk)) is = refl
sending-ends (session.Agent (fault.Reopen spent_for.Memory)) is = refl
sending-ends (session.Agent other) is = absurd is
sending-ends (session.PeerRefused why) is = refl
sending-ends session.Ended is = refl
sending-ends session.InputLimit is = refl
sending-ends session.TellFault is = absurd is
sending-ends session.Memory is = refl

sent-ends : (r : SessionResult) → IfErr r IsSending → ends_a_send (session_status r) ≡ true
sent-ends (Ok done) is = refl
sent-ends (Err why) is = sending-ends why is

found-one : (s : Status) → finds_none s ≡ true → ends_a_send s ≡ true → ⊥
found-one status.NotADatabase none ends = true≢false (sym ends)
found-one (status.Damaged part) none ends = true≢false (sym ends)
found-one s none ends = true≢false (sym none)

opening-ends : (why : OpenFault) → (ends_a_send (opening_status why) ≡ true) ⊎ (finds_none (opening_status why) ≡ true)
opening-ends open_fault.NotADatabase = inr refl
opening-ends open_fault.DiskFault = inl refl
opening-ends (open_fault.Damaged part) = inr refl
opening-ends open_fault.Memory = inl refl

-- no database was opened
pub opening-none : (why : OpenFault) → (finds_none (opening_status why) ≡ true) ⊎ (opening_status why ≡ status.DiskFault) ⊎ (opening_status why ≡ status.Memory)
opening-none open_fault.NotADatabase = inl refl
opening-none open_fault.DiskFault = inr (inl refl)
opening-none (open_fault.Damaged part) = inl refl
opening-none open_fault.Memory = inr (inr refl)

pub unlinked : (why : OpenFault) → opening_status why ≡ status.LinkFault → ⊥
unlinked open_fault.NotADatabase e = cc
unlinked open_fault.DiskFault e = cc
unlinked (open_fault.Damaged part) e = cc
unlinked open_fault.Memory e = cc

-- a session that sends never asks the disk to keep anything, where its agent is of use
sent-unstored : (r : SessionResult) → IfErr r IsSending → ((cause : Why) → r ≡ ended_with (session.Agent (fault.Reopen cause)) → ⊥) → session_status r ≡ status.DiskFault → ⊥
sent-unstored (Ok done) is going e = cc
sent-unstored (Err session.LinkFault) is going e = cc
sent-unstored (Err (session.Agent fault.Memory)) is going e = cc
sent-unstored (Err (session.Agent (fault.Reopen cause))) is going e = going cause refl
sent-unstored (Err (session.Agent other)) is going e = absurd is
sent-unstored (Err (session.PeerRefused why)) is going e = cc
sent-unstored (Err session.Ended) is going e = cc
sent-unstored (Err session.InputLimit) is going e = cc
sent-unstored (Err session.TellFault) is going e = absurd is
sent-unstored (Err session.Memory) is going e = cc

-- its status says that the link failed exactly where it did
link-failed : (r : SessionResult) → IfErr r IsSending → session_status r ≡ status.LinkFault → r ≡ ended_with session.LinkFault
link-failed (Ok done) is e = cc
link-failed (Err session.LinkFault) is e = refl
link-failed (Err (session.Agent fault.Memory)) is e = cc
link-failed (Err (session.Agent (fault.Reopen spent_for.Disk))) is e = cc
link-failed (Err (session.Agent (fault.Reopen spent_for.Memory))) is e = cc
link-failed (Err (session.Agent other)) is e = absurd is
link-failed (Err (session.PeerRefused why)) is e = cc
link-failed (Err session.Ended) is e = cc
link-failed (Err session.InputLimit) is e = cc
link-failed (Err session.TellFault) is e = absurd is
link-failed (Err session.Memory) is e = cc

-- ---- all bytes of the link
-- no output is asked for
untold : (s : Status) → (ends_a_send s ≡ true) ⊎ (finds_none s ≡ true) → s ≡ status.TellFault → ⊥
untold s (inl ends) e = true≢false (sym ends ∙ ap ends_a_send e)
untold s (inr none) e = true≢false (sym none ∙ ap finds_none e)

module _ (s : Status) (set : Settings) (g : List Beat) (link link' : LinkSeen) (old_faults new_faults : ℕ) (new : List Event) (link_cause : HasCause link.faults link'.faults (s ≡ status.LinkFault)) (disk_cause : HasCause old_faults new_faults (s ≡ status.DiskFault))
    (is-status : (ends_a_send s ≡ true) ⊎ (finds_none s ≡ true)) where
  -- where nothing outside fails
  abbrev Whole : List ℕ → Type 0
  Whole bytes = (Rose link.faults link'.faults → ⊥) → (Rose old_faults new_faults → ⊥) → EndsAsBytes (child_does set.id (data_of_history set g)) (child_begins set.id) s bytes

  sent-whole : Sends s set g link link' new ⊎ (((s ≡ status.DiskFault) ⊎ (s ≡ status.Memory)) × (link' ≡ link)) → IfSome link.left Whole
  sent-whole (inl sends) = complete-by link.left link'.left sends.exchanges.taken Whole sends.exchanges.takes all-of
    where
      all-of : (more : List ℕ) → link'.left ≡ Some more → Whole (sends.exchanges.taken ++ more)
      all-of more left none_link none_disk =
          let none : NoFault s = record { link = λ is. none_link (link_cause.failed is); disk = λ is. none_disk (disk_cause.failed is); tells = untold s is-status } in
          subst (λ (t : Status). EndsAsBytes (child_does set.id (data_of_history set g)) (child_begins set.id) t (sends.exchanges.taken ++ more)) (sym sends.status_is)
          (ends-as-bytes (child_does set.id (data_of_history set g)) (child_begins set.id) sends.result link link' sends.exchanges more left (subst NoFault sends.status_is none))
  sent-whole (inr (inl failed, same)) = some-each link.left Whole (λ bytes is none_link none_disk. absurd (none_disk (disk_cause.failed failed)))
  sent-whole (inr (inr no_memory, same)) = some-each link.left Whole (λ bytes is none_link none_disk. inr no_memory)

-- ---- the database was opened
module _ (honest : Type 0) (host : Seen) (agent : AgentState) (middle : Seen) (opens : Opens honest host (Ok agent) middle) (link : LinkSeen) (result : SessionResult) (host' : Seen) (agent' : AgentState) (link' : LinkSeen)
    (sends : SendsHistory honest middle agent link result host' agent' link') where
  quiet : honest → host'.past ≡ middle.past
  quiet = sends.reads.quiet

  ends : ends_a_send (session_status result) ≡ true
  ends = sent-ends result sends.faults

  unstored : session_status result ≡ status.DiskFault → ⊥
  unstored = sent-unstored result sends.faults (λ cause is. opened-going honest host agent middle opens cause (sends.reads.reopens cause is))

  found : finds_none (session_status result) ≡ true → ⊥
  found none = found-one (session_status result) none ends

  sends-so : honest → (set : Settings) (g : List Beat) → StandsForHistory set g (reads_as host.past) → Sends (session_status result) set g link link' host'.past
  sends-so h set g here =
      let is-of = opens.opened h set g here in
      record {
        result = result;
        status_is = refl;
        exchanges = sends.exchanges h set g is-of;
        stands = subst (λ (p : List Event). EveryDisk (StandsForHistory set g) p) (sym (quiet h)) (stands-all middle.past agent set g is-of);
        unspent = unstored;
      }

  link-cause : HasCause link.faults link'.faults (session_status result ≡ status.LinkFault)
  link-cause =
      cause-as link.faults link'.faults (result ≡ ended_with session.LinkFault) (session_status result ≡ status.LinkFault)
      (link-failed result sends.faults) (λ is. ap session_status is) sends.cause

  disk-cause : HasCause host.disk_faults host'.disk_faults (session_status result ≡ status.DiskFault)
  disk-cause = stayed host.disk_faults host'.disk_faults (session_status result ≡ status.DiskFault) (sends.reads.disk ∙ opened-disk honest host agent middle opens) unstored

  pub opened-sends : SendsAll honest (session_status result) link link' host host'
  opened-sends = record {
    sends = λ h set g here. inl (sends-so h set g here);
    complete = λ h set g here. sent-whole (session_status result) set g link link' host.disk_faults host'.disk_faults host'.past link-cause disk-cause (inl ends) (inl (sends-so h set g here));
    host_is = record {
      output = λ h. ap told (quiet h) ∙ (opens.only_here h).output;
      tells = sends.reads.tells ∙ opens.tells;
      any_moment = λ h. subst (λ (p : List Event). Throughout (EveryDisk (IsDisk host.past)) host.past p) (sym (quiet h)) (opens.any_moment h);
      same = λ h file. ap (λ (p : List Event). reads_as p file) (quiet h) ∙ opens.same h file;
    };
    others = λ h file other. ap (λ (p : List Event). of file p) (quiet h) ∙ (opens.only_here h).others file other;
    finds = found-finds honest host agent middle opens (session_status result) found;
    statuses = inl ends;
    input = (id_of agent, inl (result, refl, sends.taking));
    leaves = λ none. absurd (found none);
    untaken = λ h none. absurd (none (opens.notes h));
    unspent = λ is. absurd (unstored is);
    link_cause = link-cause;
    disk_cause = disk-cause;
  }

-- ---- it was not
module _ (honest : Type 0) (host host' : Seen) (first : honest → IsDisk host.past (reads_as host.past)) (why : OpenFault) (opens : Opens honest host (Err why) host') (link : LinkSeen) where
  unread : honest → (set : Settings) (g : List Beat) → StandsForHistory set g (reads_as host.past) → (opening_status why ≡ status.DiskFault) ⊎ (opening_status why ≡ status.Memory)
  unread h set g here =
      by-fault honest host host' first (λ (f : OpenFault). (opening_status f ≡ status.DiskFault) ⊎ (opening_status f ≡ status.Memory)) why (opens.stands h set g here) (inl refl) (inr refl)

  unsent-link : HasCause link.faults link.faults (opening_status why ≡ status.LinkFault)
  unsent-link = stayed link.faults link.faults (opening_status why ≡ status.LinkFault) refl (unlinked why)

  unsent-disk : HasCause host.disk_faults host'.disk_faults (opening_status why ≡ status.DiskFault)
  unsent-disk =
      cause-as host.disk_faults host'.disk_faults (failed_by why ≡ failed_by open_fault.DiskFault) (opening_status why ≡ status.DiskFault)
      (disk-failed honest host host' first why) (λ e. ap opening_status (fault-is why open_fault.DiskFault e)) opens.cause

  pub unopened-sends : SendsAll honest (opening_status why) link link host host'
  unopened-sends = record {
    sends = λ h set g here. inr (unread h set g here, refl);
    complete = λ h set g here. sent-whole (opening_status why) set g link link host.disk_faults host'.disk_faults host'.past unsent-link unsent-disk (opening-ends why) (inr (unread h set g here, refl));
    host_is = unopened-host honest host host' first why opens;
    others = λ h. (opens.only_here h).others;
    finds = unopened-finds honest host host' first why opens;
    statuses = opening-ends why;
    input = (0, inr (opening-none why, refl));
    leaves = λ none. refl;
    untaken = λ h none. refl;
    unspent = λ is. refl;
    link_cause = unsent-link;
    disk_cause = unsent-disk;
  }
