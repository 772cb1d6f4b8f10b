-- What `receive` promises: where the database was opened, and where it was not.
use Rattle.std.proofs.Common.{◌≡◌, ◌⊎◌, inl, inr, ℕ, ◌<◌, Bool, true, false, List, [], ◌∷◌, ◌++◌, length, take, drop, None, Ok, Err, Some, IfErr, IfSome, IsErrOf, refl, sym, ap, subst, ◌∙◌, append_assoc, append-nil, true≢false, arith, if◌then◌else◌}
use Rattle.std.specs.List.{AllByRecursion}
use Rattle.std.proofs.Math.Seq.{drop-append_seam}
use Rattle.std.proofs.lemmas.List.{take-append-drop}
use Rattle.host_model.specs.Cause.{HasCause, Rose}
use Rattle.host_model.specs.declared.status.Status.{Status}
use Rattle.host_model.specs.declared.status.Status.TheVariants as status
use Rattle.host_model.specs.Disks.{EveryDisk, reads_as}
use Rattle.host_model.specs.Moments.{EveryCrash, Throughout, begins}
use Rattle.host_model.specs.Past.{of, told, Event, IsDisk, MayAdd, Told}
use Rattle.host_model.specs.Seen.{Seen}
use Rattle.host_model.proofs.CallLemmas.{may_have_moved, moved}
use Rattle.host_model.proofs.MomentLemmas.{at_end, at_start, full_text, joined}
use Rattle.history.specs.declared.fault.BlockFault.{BlockFault}
use Rattle.history.specs.History.{Beat}
use Rattle.line_stream.proofs.RunLemmas.{Takes-none}
use Rattle.plugin_text.specs.declared.refusal.Refusal.{Refusal}
use Rattle.plugin_text.specs.declared.refusal.Refusal.TheVariants as refusal
use Rattle.plugin_text.specs.Refusal.{refusal_number}
use Rattle.replication.specs.Copies.{RisesFrom}
use Rattle.link_frames.specs.declared.frame.Frame.{Frame}
use Rattle.link_frames.specs.Frames.{HasSpelling}
use Rattle.store_core.specs.declared.fault.Why.{Why}
use Rattle.store_core.specs.declared.fault.Why.TheVariants as spent_for
use Rattle.tier_settings.specs.declared.settings.Settings.{Settings}
use Rattle.agent_core.specs.declared.fault.AgentFault.TheVariants as fault
use Rattle.agent_core.specs.declared.fault.OpenFault.{OpenFault}
use Rattle.agent_core.specs.declared.fault.OpenFault.TheVariants as open_fault
use Rattle.agent_core.specs.Agent.{AgentState, IsAgentOf}
use Rattle.agent_core.specs.Calls.{Opens}
use Rattle.agent_core.specs.Copies.{seen_moment, IsCopyOfChild, SeenBeat}
use Rattle.agent_core.specs.Stands.{StandsForHistory}
use Rattle.link_session.specs.declared.fault.SessionFault.{SessionFault}
use Rattle.link_session.specs.declared.fault.SessionFault.TheVariants as session
use Rattle.link_session.specs.Exchange.{SessionResult}
use Rattle.link_session.specs.Keeps.{Extends, IsAckedUpTo, Keeps, LeavesFiles, no_more}
use Rattle.link_session.specs.Parent.{done_with, parent_begins, parent_does}
use Rattle.link_session.specs.Receiving.{is_spent_by, keeps_all, AnswersStored, AreTrueOf, Copies, FailsAtData, HasStored, IsReceiving, ReceivesHistory}
use Rattle.link_session.specs.Session.{says_all, IsEndFor, LinkSeen}
use Rattle.link_session.proofs.AckLemmas.{acked-more, acked-since, acked-weaker}
use Rattle.link_session.proofs.LinkLemmas.{all-sends, sends-nothing}
use Rattle.link_session.proofs.ExtendsLemmas.{extends-further, extends-length}
use Rattle.link_session.proofs.CopyLemmas.{crashes-copy}
use Rattle.link_session.proofs.LeavesLemmas.{leaves-further, leaves-nothing, may-told, one-told}
use Rattle.link_session.proofs.LastLemmas.{told-some}
use Rattle.link_session.proofs.StoreLemmas.{keeps-more, stands-all}
use Rattle.agent_app.specs.Bound.{GrowsBy}
use Rattle.agent_app.specs.Convert.{is_limit, refusal_line, refusal_status}
use Rattle.agent_app.specs.Receive.{ends_a_receive, last_line, Closes, EndsAs, HoldsCopy, Receives, ReceivesAll, ReceivesOn, TellsWhy}
use Rattle.agent_app.specs.Run.{finds_none, is_whole, LeavesOthers, OnceRead}
use Rattle.agent_app.specs.Running.{TellRose, TellsRefusal}
use Rattle.agent_app.specs.Sessions.{session_status, EndsAsBytes}
use Rattle.agent_app.specs.Statuses.{opening_status}
use Rattle.agent_app.proofs.AckLemmas.{acked-refusal, middle-none, refusal-some}
use Rattle.agent_app.proofs.BoundLemmas.{grows-before, opened-grows, refusal-written, runs-grow, unopened-grows}
use Rattle.agent_app.proofs.CauseLemmas.{apart, cause-as, refusal-inside, stayed, stayed-before}
use Rattle.agent_app.proofs.OpeningLemmas.{by-fault, complete-by, disk-failed, failed_by, fault-is, found-finds, opened-disk, opened-going, opening-crashes, some-each, unopened-finds, unopened-host, untold-yet}
use Rattle.agent_app.proofs.SendLemmas.{ended_with, opening-none, unlinked}
use Rattle.agent_app.proofs.SessionLemmas.{ends-as-bytes, NoFault}

-- ---- how a session ends
-- the database did not take what came
abbrev is_refused : SessionResult → Bool
is_refused (Err (session.Agent (fault.Refused why))) = true
is_refused result = false

ends-so : (r : SessionResult) → (is_refused r ≡ false) ⊎ ((why : BlockFault) × (r ≡ ended_with (session.Agent (fault.Refused why))))
ends-so (Ok done) = inl refl
ends-so (Err (session.Agent (fault.Refused why))) = inr (why, refl)
ends-so (Err (session.Agent other)) = inl refl
ends-so (Err other) = inl refl

closed-quiet : (honest : Type 0) (r : SessionResult) (s : Status) (late host' : Seen) → is_refused r ≡ false → Closes honest r s late host' → (s ≡ session_status r) × (host' ≡ late)
closed-quiet honest (Ok done) s late host' other closed = closed
closed-quiet honest (Err (session.Agent (fault.Refused why))) s late host' other closed = absurd (true≢false other)
closed-quiet honest (Err (session.Agent why)) s late host' other closed = closed
closed-quiet honest (Err why) s late host' other closed = closed

quiet-ends : (r : SessionResult) → is_refused r ≡ false → EndsAs r (session_status r)
quiet-ends (Ok done) other = refl
quiet-ends (Err (session.Agent (fault.Refused why))) other = absurd (true≢false other)
quiet-ends (Err (session.Agent why)) other = refl
quiet-ends (Err why) other = refl

quiet-line : (r : SessionResult) → is_refused r ≡ false → last_line r ≡ []
quiet-line (Ok done) other = refl
quiet-line (Err (session.Agent (fault.Refused why))) other = absurd (true≢false other)
quiet-line (Err (session.Agent why)) other = refl
quiet-line (Err why) other = refl

-- ---- statuses
refusal-ends : (line : ℕ) (why : Refusal) → ends_a_receive (refusal_status line why) ≡ true
refusal-ends line why = by (is_limit why)
  where
    by : (limit : Bool) → ends_a_receive (if limit then status.Limit line (refusal_number why) else status.Refused line (refusal_number why)) ≡ true
    by true = refl
    by false = refl

abbrev is_link : Status → Bool
is_link status.LinkFault = true
is_link s = false

refusal-unlinked : (line : ℕ) (why : Refusal) → refusal_status line why ≡ status.LinkFault → ⊥
refusal-unlinked line why e = true≢false (sym (ap is_link e) ∙ by (is_limit why))
  where
    by : (limit : Bool) → is_link (if limit then status.Limit line (refusal_number why) else status.Refused line (refusal_number why)) ≡ false
    by true = refl
    by false = refl

quiet-status : (r : SessionResult) → IfErr r IsReceiving → is_refused r ≡ false → ends_a_receive (session_status r) ≡ true
quiet-status (Ok done) is other = refl
quiet-status (Err session.LinkFault) is other = refl
quiet-status (Err (session.Agent (fault.Refused why))) is other = absurd (true≢false other)
quiet-status (Err (session.Agent (fault.Health why))) is other = absurd is
quiet-status (Err (session.Agent fault.DiskFault)) is other = refl
quiet-status (Err (session.Agent (fault.Reopen spent_for.Disk))) is other = refl
quiet-status (Err (session.Agent (fault.Reopen spent_for.Memory))) is other = refl
quiet-status (Err (session.Agent fault.Memory)) is other = refl
quiet-status (Err (session.PeerRefused why)) is other = refl
quiet-status (Err session.Ended) is other = refl
quiet-status (Err session.InputLimit) is other = refl
quiet-status (Err session.TellFault) is other = refl
quiet-status (Err session.Memory) is other = refl

-- at a status that says that all was stored and told, all was that the session had to store and to tell
whole-keeps : (r : SessionResult) → IfErr r IsReceiving → is_whole (session_status r) ≡ true → keeps_all r ≡ true
whole-keeps (Ok done) is all = refl
whole-keeps (Err session.LinkFault) is all = refl
whole-keeps (Err (session.Agent (fault.Refused why))) is all = refl
whole-keeps (Err (session.Agent (fault.Health why))) is all = absurd is
whole-keeps (Err (session.Agent fault.DiskFault)) is all = absurd (true≢false (sym all))
whole-keeps (Err (session.Agent (fault.Reopen spent_for.Disk))) is all = absurd (true≢false (sym all))
whole-keeps (Err (session.Agent (fault.Reopen spent_for.Memory))) is all = absurd (true≢false (sym all))
whole-keeps (Err (session.Agent fault.Memory)) is all = absurd (true≢false (sym all))
whole-keeps (Err (session.PeerRefused why)) is all = refl
whole-keeps (Err session.Ended) is all = refl
whole-keeps (Err session.InputLimit) is all = refl
whole-keeps (Err session.TellFault) is all = absurd (true≢false (sym all))
whole-keeps (Err session.Memory) is all = absurd (true≢false (sym all))

no-link : status.Memory ≡ status.LinkFault → ⊥
no-link e = cc

no-tell : status.Memory ≡ status.TellFault → ⊥
no-tell e = cc

no-disk : status.Memory ≡ status.DiskFault → ⊥
no-disk e = cc

stored-told : status.DiskFault ≡ status.TellFault → ⊥
stored-told e = cc

-- a part of the outside failed exactly where the status says so
link-failed : (r : SessionResult) → IfErr r IsReceiving → is_refused r ≡ false → session_status r ≡ status.LinkFault → r ≡ ended_with session.LinkFault
link-failed (Ok done) is other e = cc
link-failed (Err session.LinkFault) is other e = refl
link-failed (Err (session.Agent (fault.Refused why))) is other e = absurd (true≢false other)
link-failed (Err (session.Agent (fault.Health why))) is other e = absurd is
link-failed (Err (session.Agent fault.DiskFault)) is other e = cc
link-failed (Err (session.Agent (fault.Reopen spent_for.Disk))) is other e = cc
link-failed (Err (session.Agent (fault.Reopen spent_for.Memory))) is other e = cc
link-failed (Err (session.Agent fault.Memory)) is other e = cc
link-failed (Err (session.PeerRefused why)) is other e = cc
link-failed (Err session.Ended) is other e = cc
link-failed (Err session.InputLimit) is other e = cc
link-failed (Err session.TellFault) is other e = cc
link-failed (Err session.Memory) is other e = cc

tell-failed : (r : SessionResult) → IfErr r IsReceiving → is_refused r ≡ false → session_status r ≡ status.TellFault → r ≡ ended_with session.TellFault
tell-failed (Ok done) is other e = cc
tell-failed (Err session.LinkFault) is other e = cc
tell-failed (Err (session.Agent (fault.Refused why))) is other e = absurd (true≢false other)
tell-failed (Err (session.Agent (fault.Health why))) is other e = absurd is
tell-failed (Err (session.Agent fault.DiskFault)) is other e = cc
tell-failed (Err (session.Agent (fault.Reopen spent_for.Disk))) is other e = cc
tell-failed (Err (session.Agent (fault.Reopen spent_for.Memory))) is other e = cc
tell-failed (Err (session.Agent fault.Memory)) is other e = cc
tell-failed (Err (session.PeerRefused why)) is other e = cc
tell-failed (Err session.Ended) is other e = cc
tell-failed (Err session.InputLimit) is other e = cc
tell-failed (Err session.TellFault) is other e = refl
tell-failed (Err session.Memory) is other e = cc

store-failed : (r : SessionResult) → IfErr r IsReceiving → ((cause : Why) → r ≡ ended_with (session.Agent (fault.Reopen cause)) → ⊥) → is_refused r ≡ false → session_status r ≡ status.DiskFault → r ≡ ended_with (session.Agent fault.DiskFault)
store-failed (Ok done) is going other e = cc
store-failed (Err session.LinkFault) is going other e = cc
store-failed (Err (session.Agent (fault.Refused why))) is going other e = absurd (true≢false other)
store-failed (Err (session.Agent (fault.Health why))) is going other e = absurd is
store-failed (Err (session.Agent fault.DiskFault)) is going other e = refl
store-failed (Err (session.Agent (fault.Reopen cause))) is going other e = absurd (going cause refl)
store-failed (Err (session.Agent fault.Memory)) is going other e = cc
store-failed (Err (session.PeerRefused why)) is going other e = cc
store-failed (Err session.Ended) is going other e = cc
store-failed (Err session.InputLimit) is going other e = cc
store-failed (Err session.TellFault) is going other e = cc
store-failed (Err session.Memory) is going other e = cc

found-one : (s : Status) → finds_none s ≡ true → ends_a_receive s ≡ true → ⊥
found-one status.NotADatabase none ends = true≢false (sym ends)
found-one (status.Damaged part) none ends = true≢false (sym ends)
found-one s none ends = true≢false (sym none)

-- where the output does not fail, it is the status of how the session ended
told-as : (r : SessionResult) (s : Status) → EndsAs r s → (s ≡ status.TellFault → ⊥) → (s ≡ session_status r) ⊎ (s ≡ status.Memory)
told-as (Ok done) s is none = inl is
told-as (Err (session.Agent (fault.Refused why))) s (inl is) none = inl is
told-as (Err (session.Agent (fault.Refused why))) s (inr (inl is)) none = absurd (none is)
told-as (Err (session.Agent (fault.Refused why))) s (inr (inr is)) none = inr is
told-as (Err (session.Agent why)) s is none = inl is
told-as (Err why) s is none = inl is

-- of a session that was refused: the line was told, or that was cut short
module _ (honest : Type 0) (why : BlockFault) (s : Status) (late host' : Seen) (tells : TellsWhy honest why s late host') where
  abbrev line : List ℕ
  line = refusal_line 0 (refusal.Block why)

  refused-as : (s ≡ refusal_status 0 (refusal.Block why)) ⊎ (s ≡ status.TellFault) ⊎ (s ≡ status.Memory)
  refused-as = by tells.tells
    where
      by : TellsRefusal s honest 0 (refusal.Block why) late.past host'.past (TellRose late host') → (s ≡ refusal_status 0 (refusal.Block why)) ⊎ (s ≡ status.TellFault) ⊎ (s ≡ status.Memory)
      by (inl (is, done)) = inl is
      by (inr (inl (is, rose, torn))) = inr (inl is)
      by (inr (inr (is, same))) = inr (inr is)

  refused-ends : ends_a_receive s ≡ true
  refused-ends = by refused-as
    where
      by : (s ≡ refusal_status 0 (refusal.Block why)) ⊎ (s ≡ status.TellFault) ⊎ (s ≡ status.Memory) → ends_a_receive s ≡ true
      by (inl is) = ap ends_a_receive is ∙ refusal-ends 0 (refusal.Block why)
      by (inr (inl is)) = ap ends_a_receive is
      by (inr (inr is)) = ap ends_a_receive is

  refused-unlinked : s ≡ status.LinkFault → ⊥
  refused-unlinked e = by refused-as
    where
      by : (s ≡ refusal_status 0 (refusal.Block why)) ⊎ (s ≡ status.TellFault) ⊎ (s ≡ status.Memory) → ⊥
      by (inl is) = refusal-unlinked 0 (refusal.Block why) (sym is ∙ e)
      by (inr (inl is)) = true≢false (sym (ap is_link (sym is ∙ e)))
      by (inr (inr is)) = no-link (sym is ∙ e)

  refused-stored : s ≡ status.DiskFault → ⊥
  refused-stored e = by refused-as
    where
      told-disk : status.TellFault ≡ status.DiskFault → ⊥
      told-disk e = cc

      by : (s ≡ refusal_status 0 (refusal.Block why)) ⊎ (s ≡ status.TellFault) ⊎ (s ≡ status.Memory) → ⊥
      by (inl is) = apart (refusal_status 0 (refusal.Block why)) status.DiskFault (refusal-inside 0 (refusal.Block why)) refl (sym is ∙ e)
      by (inr (inl is)) = told-disk (sym is ∙ e)
      by (inr (inr is)) = no-disk (sym is ∙ e)

  -- it touches no file
  refused-others : LeavesOthers honest late host'
  refused-others h file other = by tells.tells
    where
      torn-by : MayAdd (λ (n : ℕ). Told (take n line)) late.past host'.past → of file host'.past ≡ of file late.past
      torn-by (inl same) = ap (λ (p : List Event). of file p) same
      torn-by (inr (n, added)) = ap (λ (p : List Event). of file p) added

      by : TellsRefusal s honest 0 (refusal.Block why) late.past host'.past (TellRose late host') → of file host'.past ≡ of file late.past
      by (inl (is, done)) = ap (λ (p : List Event). of file p) (done h)
      by (inr (inl (is, rose, torn))) = torn-by (torn h)
      by (inr (inr (is, same))) = ap (λ (p : List Event). of file p) same

-- ---- all bytes of the link
module _ (s : Status) (set : Settings) (h0 : List Beat) (link link' : LinkSeen) (host host' : Seen) (link_cause : HasCause link.faults link'.faults (s ≡ status.LinkFault))
    (tell_cause : HasCause host.tell_faults host'.tell_faults (s ≡ status.TellFault)) (disk_cause : HasCause host.disk_faults host'.disk_faults (s ≡ status.DiskFault)) where
  -- where nothing outside fails
  abbrev Whole : List ℕ → Type 0
  Whole bytes =
      (Rose link.faults link'.faults → ⊥) → (Rose host.tell_faults host'.tell_faults → ⊥) → (Rose host.disk_faults host'.disk_faults → ⊥)
      → EndsAsBytes (parent_does set) (parent_begins h0) s bytes

  received-whole : (old new : List Event) → Receives s set h0 link link' old new → IfSome link.left Whole
  received-whole old new receives = complete-by link.left link'.left receives.exchanges.taken Whole receives.exchanges.takes each
    where
      each : (more : List ℕ) → link'.left ≡ Some more → Whole (receives.exchanges.taken ++ more)
      each more left none_link none_told none_disk = by (told-as receives.result s receives.ends_as none.tells)
        where
          none : NoFault s
          none = record { link = λ is. none_link (link_cause.failed is); disk = λ is. none_disk (disk_cause.failed is); tells = λ is. none_told (tell_cause.failed is) }

          by : (s ≡ session_status receives.result) ⊎ (s ≡ status.Memory) → EndsAsBytes (parent_does set) (parent_begins h0) s (receives.exchanges.taken ++ more)
          by (inl is) =
              subst (λ (t : Status). EndsAsBytes (parent_does set) (parent_begins h0) t (receives.exchanges.taken ++ more)) (sym is)
              (ends-as-bytes (parent_does set) (parent_begins h0) receives.result link link' receives.exchanges more left (subst NoFault is none))
          by (inr is) = inr is

  -- also where the images differ
  read-whole : (old new : List Event) → OnceRead (λ read. ReceivesOn s set h0 link link' read new) (link' ≡ link) s old new → IfSome link.left Whole
  read-whole old new once = by once.after
    where
      by : ReceivesOn s set h0 link link' once.read new ⊎ (((s ≡ status.DiskFault) ⊎ (s ≡ status.Memory)) × (new ≡ once.read) × (link' ≡ link)) → IfSome link.left Whole
      by (inl on) = received-whole once.read new on.receives
      by (inr (inl failed, same, untaken)) = some-each link.left Whole (λ bytes is none_link none_told none_disk. absurd (none_disk (disk_cause.failed failed)))
      by (inr (inr no_memory, same, untaken)) = some-each link.left Whole (λ bytes is none_link none_told none_disk. inr no_memory)

-- ---- the database was opened
-- a session over this history since some moment ended so: what was written since its database was read, and why
record EndsSo (s : Status) (set : Settings) (h0 : List Beat) (link link' : LinkSeen) (start read new : List Event) : Type 0 where
  pub receives : Receives s set h0 link link' start new
  pub quiet : (done_with set h0 receives.exchanges.frames).now.history ≡ h0 → LeavesFiles read new
  pub stored_for : s ≡ status.DiskFault → FailsAtData set h0 receives.exchanges.frames start new

module _ (honest : Type 0) (host : Seen) (agent : AgentState) (middle : Seen) (opens : Opens honest host (Ok agent) middle) (first : honest → IsDisk host.past (reads_as host.past))
    (link : LinkSeen) (result : SessionResult) (late : Seen) (agent' : AgentState) (link' : LinkSeen) (receives : ReceivesHistory honest middle agent link result late agent' link')
    (then_reads : honest → IsDisk middle.past (reads_as middle.past)) (late_reads : honest → IsDisk late.past (reads_as late.past)) where
  -- the agent answers no call with Reopen
  going : (cause : Why) → result ≡ ended_with (session.Agent (fault.Reopen cause)) → ⊥
  going cause is = opened-going honest host agent middle opens cause (receives.stores.reopens cause is)

  -- over this history, since some moment
  module _ (h : honest) (set : Settings) (h0 : List Beat) (is-of : IsAgentOf middle.past agent set h0) (start : List Event) (silent : told middle.past ≡ told start)
      (opening : Throughout (EveryCrash (Keeps set h0 h0 (told start))) start middle.past) where
    copies : Copies set h0 result middle.past late.past link link'
    copies = receives.copies h set h0 is-of

    abbrev whole : List Beat
    whole = (done_with set h0 (receives.copies h set h0 is-of).exchanges.frames).now.history

    abbrev made : List ℕ
    made = (done_with set h0 (receives.copies h set h0 is-of).exchanges.frames).told

    abbrev Kept : List Event → Type 0
    Kept past = EveryCrash (Keeps set h0 whole (told start)) past

    extends : Extends h0 whole
    extends =
        let kept = at_start (receives.copies h set h0 is-of).crashes (reads_as middle.past) (told middle.past) (then_reads h) (full_text middle.past (told middle.past) refl) in
        extends-further h0 kept.stored whole kept.since kept.within

    crashes : Throughout Kept start late.past
    crashes =
        joined (keeps-more set h0 h0 whole (told start) extends start middle.past opening)
        (subst (λ (t : List ℕ). Throughout (EveryCrash (Keeps set h0 whole t)) middle.past late.past) silent (receives.copies h set h0 is-of).crashes)

    tells : told late.past ≡ told start ++ (receives.copies h set h0 is-of).output.said
    tells = (receives.copies h set h0 is-of).output.tells ∙ ap (λ (t : List ℕ). t ++ (receives.copies h set h0 is-of).output.said) silent

    abbrev taken : List Frame
    taken = (receives.copies h set h0 is-of).exchanges.frames

    -- a copy stays one where this is left
    stays-copy : (new : List Event) → Throughout Kept start new → (floors : List ℕ) (child : List SeenBeat) → RisesFrom seen_moment 0 child → IsCopyOfChild floors child h0 → AreTrueOf floors child taken
        → Throughout (EveryDisk (HoldsCopy set floors child)) start new
    stays-copy new held floors child rises copy truth =
        let cut = (receives.copies h set h0 is-of).exchanges.cut in
        crashes-copy set floors child rises h0 taken start new (subst (AllByRecursion HasSpelling) (sym cut.handed) cut.frames) truth copy held

    -- what was said answers frames of which all was stored and told, also where more was told behind
    abbrev Heard : List Event → Type 0
    Heard new =
        AnswersStored set h0 taken (receives.copies h set h0 is-of).exchanges.broken start new link.sent link'.sent
        × ((n : ℕ) → n < length taken → HasStored set (done_with set h0 (take n taken)).now.history start (done_with set h0 (take n taken)).told new)

    stored-behind : (g : List Beat) (answered : List ℕ) → HasStored set g middle.past answered late.past → (new : List Event) (text : List ℕ) → told new ≡ told late.past ++ text → EveryDisk (IsDisk late.past) new → HasStored set g start answered new
    stored-behind g answered stored new text says disks = record {
      more = stored.more ++ text;
      tells =
          says ∙ ap (λ (t : List ℕ). t ++ text) (stored.tells ∙ ap (λ (t : List ℕ). t ++ (answered ++ stored.more)) silent)
          ∙ append_assoc (told start) (answered ++ stored.more) text ∙ ap (λ (t : List ℕ). told start ++ t) (append_assoc answered stored.more text);
      stands = λ disk images. stored.stands disk (disks disk images);
    }

    heard-behind : (new : List Event) (text : List ℕ) → told new ≡ told late.past ++ text → EveryDisk (IsDisk late.past) new → Heard new
    heard-behind new text says disks =
        let copies = receives.copies h set h0 is-of in (
          record {
            n = copies.heard.n;
            all = copies.heard.all;
            says = copies.heard.says;
            stored = stored-behind (done_with set h0 (take copies.heard.n taken)).now.history (done_with set h0 (take copies.heard.n taken)).told copies.heard.stored new text says disks;
          },
          λ n less. stored-behind (done_with set h0 (take n taken)).now.history (done_with set h0 (take n taken)).told (copies.in_turn n less) new text says disks,
        )

    heard-same : (new : List Event) → new ≡ late.past → Heard new
    heard-same new same = heard-behind new [] (ap told same ∙ sym (append-nil (told late.past))) (λ disk images. subst (λ (p : List Event). IsDisk p disk) same images)

    heard-told : (new : List Event) (text : List ℕ) → new ≡ Told text ∷ late.past → Heard new
    heard-told new text added = heard-behind new text (ap told added) (λ disk images. subst (λ (p : List Event). IsDisk p disk) added images)

    -- nothing was told behind
    -- the output failed only while a Data was told
    told-for : is_refused result ≡ false → session_status result ≡ status.TellFault → made ++ last_line result ≡ [] → ⊥
    told-for other failed none = told-some set h0 taken ((receives.copies h set h0 is-of).told_for (tell-failed result receives.faults other failed)) (middle-none [] made (last_line result) none)

    stored-for : is_refused result ≡ false → session_status result ≡ status.DiskFault → FailsAtData set h0 taken start late.past
    stored-for other failed =
        let fails = (receives.copies h set h0 is-of).stored_for (ap is_spent_by (store-failed result receives.faults going other failed)) in
        record { at = fails.at; tells = fails.tells ∙ ap (λ (t : List ℕ). t ++ (done_with set h0 fails.at.before).told) silent }

    quiet-receives : is_refused result ≡ false → EndsSo (session_status result) set h0 link link' start middle.past late.past
    quiet-receives other =
        let copies = receives.copies h set h0 is-of in
        record {
          receives = record {
            result = result;
            ends_as = quiet-ends result other;
            exchanges = copies.exchanges;
            heard = (heard-same late.past refl).0;
            in_turn = (heard-same late.past refl).1;
            crashes = crashes;
            ends = λ all. copies.ends (whole-keeps result receives.faults all);
            output = record {
              said = copies.output.said;
              unsaid = copies.output.unsaid;
              whole = ap (λ (t : List ℕ). made ++ t) (quiet-line result other) ∙ append-nil made ∙ copies.output.whole;
              tells = tells;
              complete = λ all. copies.output.complete (whole-keeps result receives.faults all);
            };
            told_for = told-for other;
            copy = stays-copy late.past crashes;
          };
          quiet = copies.quiet;
          stored_for = stored-for other;
        }

    -- the refusal was told, or that was cut short
    module _ (why : BlockFault) (is : result ≡ ended_with (session.Agent (fault.Refused why))) where
      abbrev last : List ℕ
      last = refusal_line 0 (refusal.Block why)

      keeps : keeps_all result ≡ true
      keeps = ap keeps_all is

      told-all : told late.past ≡ told start ++ made
      told-all =
          let copies = receives.copies h set h0 is-of in
          let all : made ≡ copies.output.said = copies.output.whole ∙ ap (λ (t : List ℕ). copies.output.said ++ t) (copies.output.complete keeps) ∙ append-nil copies.output.said in
          tells ∙ ap (λ (t : List ℕ). told start ++ t) (sym all)

      acked : IsAckedUpTo (length whole) made
      acked =
          let kept = at_end crashes (reads_as late.past) (told late.past) (late_reads h) (full_text late.past (told late.past) refl) in
          let since : drop (length (told start)) (told late.past) ≡ made = ap (λ (t : List ℕ). drop (length (told start)) t) told-all ∙ drop-append_seam (told start) made in
          acked-weaker (length kept.stored) (length whole) made (extends-length kept.stored whole kept.within) (subst (IsAckedUpTo (length kept.stored)) since kept.acked)

      acked-last : IsAckedUpTo (length whole) (made ++ last)
      acked-last = acked-more (length whole) made last ((receives.copies h set h0 is-of).closed keeps) acked (acked-refusal (length whole) 0 (refusal.Block why))

      stands : EveryDisk (StandsForHistory set whole) late.past
      stands = (receives.copies h set h0 is-of).ends keeps

      -- a prefix of the line was told
      prefix-crash : (sent left : List ℕ) → sent ++ left ≡ last → Kept (Told sent ∷ late.past)
      prefix-crash sent left line-is disk said images by_then =
          let prefix : said ++ (drop by_then.0 sent ++ left) ≡ told start ++ (made ++ last) =
          ap (λ (t : List ℕ). t ++ (drop by_then.0 sent ++ left)) by_then.1 ∙ append_assoc (told late.past) (take by_then.0 sent) (drop by_then.0 sent ++ left)
          ∙ ap (λ (t : List ℕ). told late.past ++ t) (sym (append_assoc (take by_then.0 sent) (drop by_then.0 sent) left) ∙ ap (λ (t : List ℕ). t ++ left) (take-append-drop by_then.0 sent) ∙ line-is)
          ∙ ap (λ (t : List ℕ). t ++ last) told-all ∙ append_assoc (told start) made last in
          record {
            stored = whole;
            since = extends;
            within = no_more;
            stands = stands disk images;
            acked = acked-since (length whole) (told start) (made ++ last) said (drop by_then.0 sent ++ left) prefix acked-last;
          }

      told-crashes : (new : List Event) → new ≡ Told last ∷ late.past → Throughout Kept start new
      told-crashes new added = joined crashes (moved Kept (Told last) late.past new added (at_end crashes) (prefix-crash last [] (append-nil last)))

      torn-crashes : (new : List Event) → MayAdd (λ (n : ℕ). Told (take n last)) late.past new → Throughout Kept start new
      torn-crashes new may = joined crashes (may_have_moved Kept (λ (n : ℕ). Told (take n last)) late.past new may (at_end crashes) (λ n. prefix-crash (take n last) (drop n last) (take-append-drop n last)))

      output-is : made ++ last_line result ≡ made ++ last
      output-is = ap (λ (r : SessionResult). made ++ last_line r) is

      -- it is to be told why
      last-some : made ++ last_line result ≡ [] → ⊥
      last-some none = refusal-some 0 (refusal.Block why) (middle-none made last [] (ap (λ (t : List ℕ). made ++ t) (append-nil last) ∙ sym output-is ∙ none))

      -- of a session that ended so
      ended-so : (s : Status) (new : List Event) → (s ≡ refusal_status 0 (refusal.Block why)) ⊎ (s ≡ status.TellFault) ⊎ (s ≡ status.Memory) → Throughout Kept start new → (is_whole s ≡ true → EveryDisk (StandsForHistory set whole) new)
          → Heard new → LeavesFiles late.past new → (s ≡ status.DiskFault → ⊥) → (said unsaid : List ℕ) → made ++ last ≡ said ++ unsaid → told new ≡ told start ++ said → (is_whole s ≡ true → unsaid ≡ []) → EndsSo s set h0 link link' start middle.past new
      ended-so s new which held all heard leaves stored said unsaid output says complete = record {
        receives = record {
          result = result;
          ends_as = subst (λ (r : SessionResult). EndsAs r s) (sym is) which;
          exchanges = (receives.copies h set h0 is-of).exchanges;
          heard = heard.0;
          in_turn = heard.1;
          crashes = held;
          ends = all;
          output = record { said = said; unsaid = unsaid; whole = output-is ∙ output; tells = says; complete = complete };
          told_for = λ _ none. last-some none;
          copy = stays-copy new held;
        };
        quiet = λ same. leaves-further middle.past late.past new ((receives.copies h set h0 is-of).quiet same) leaves;
        stored_for = λ failed. absurd (stored failed);
      }

      cut : {A : Type 0} (s : Status) → is_whole s ≡ false → is_whole s ≡ true → A
      cut s short all = absurd (true≢false (sym all ∙ short))

      refused-receives : (s : Status) (host' : Seen) → TellsWhy honest why s late host' → EndsSo s set h0 link link' start middle.past host'.past
      refused-receives s host' tells = by tells.tells
        where
          which : (s ≡ refusal_status 0 (refusal.Block why)) ⊎ (s ≡ status.TellFault) ⊎ (s ≡ status.Memory)
          which = refused-as honest why s late host' tells

          unstored : s ≡ status.DiskFault → ⊥
          unstored = refused-stored honest why s late host' tells

          torn-by : s ≡ status.TellFault → MayAdd (λ (n : ℕ). Told (take n last)) late.past host'.past → EndsSo s set h0 link link' start middle.past host'.past
          torn-by told-not (inl same) =
              ended-so s host'.past which (torn-crashes host'.past (inl same)) (cut s (ap is_whole told-not)) (heard-same host'.past same) (may-told late.past host'.past last (inl same)) unstored made last refl (ap told same ∙ told-all) (cut s (ap is_whole told-not))
          torn-by told-not (inr (n, added)) =
              ended-so s host'.past which (torn-crashes host'.past (inr (n, added))) (cut s (ap is_whole told-not)) (heard-told host'.past (take n last) added) (may-told late.past host'.past last (inr (n, added))) unstored (made ++ take n last) (drop n last)
              (ap (λ (t : List ℕ). made ++ t) (sym (take-append-drop n last)) ∙ sym (append_assoc made (take n last) (drop n last)))
              (ap told added ∙ ap (λ (t : List ℕ). t ++ take n last) told-all ∙ append_assoc (told start) made (take n last)) (cut s (ap is_whole told-not))

          by : TellsRefusal s honest 0 (refusal.Block why) late.past host'.past (TellRose late host') → EndsSo s set h0 link link' start middle.past host'.past
          by (inl (is-status, done)) =
              ended-so s host'.past which (told-crashes host'.past (done h)) (λ all. subst (λ (p : List Event). EveryDisk (StandsForHistory set whole) p) (sym (done h)) stands) (heard-told host'.past last (done h)) (subst (LeavesFiles late.past) (sym (done h)) (one-told late.past last)) unstored (made ++ last) [] (sym (append-nil (made ++ last)))
              (ap told (done h) ∙ ap (λ (t : List ℕ). t ++ last) told-all ∙ append_assoc (told start) made last) (λ all. refl)
          by (inr (inl (told-not, rose, torn))) = torn-by told-not (torn h)
          by (inr (inr (no-memory, same))) =
              ended-so s host'.past which (torn-crashes host'.past (inl same)) (cut s (ap is_whole no-memory)) (heard-same host'.past same) (subst (LeavesFiles late.past) (sym same) (leaves-nothing late.past)) unstored made last refl (ap told same ∙ told-all) (cut s (ap is_whole no-memory))

    since : (s : Status) (host' : Seen) → Closes honest result s late host' → EndsSo s set h0 link link' start middle.past host'.past
    since s host' closed = by (ends-so result)
      where
        by : (is_refused result ≡ false) ⊎ ((why : BlockFault) × (result ≡ ended_with (session.Agent (fault.Refused why)))) → EndsSo s set h0 link link' start middle.past host'.past
        by (inl other) =
            let how = closed-quiet honest result s late host' other closed in
            subst (λ (t : Status). EndsSo t set h0 link link' start middle.past host'.past) (sym how.0)
            (subst (λ (p : Seen). EndsSo (session_status result) set h0 link link' start middle.past p.past) (sym how.1) (quiet-receives other))
        by (inr (why, is)) = refused-receives why is s host' (subst (λ (r : SessionResult). Closes honest r s late host') is closed)

  module _ (s : Status) (host' : Seen) (closed : Closes honest result s late host') where
    -- by whatever it ended
    abbrev Refusal-by : BlockFault → Type 0
    Refusal-by why = (result ≡ ended_with (session.Agent (fault.Refused why))) × TellsWhy honest why s late host'

    how : ((is_refused result ≡ false) × (s ≡ session_status result) × (host' ≡ late)) ⊎ ((why : BlockFault) × Refusal-by why)
    how = by (ends-so result)
      where
        by : (is_refused result ≡ false) ⊎ ((why : BlockFault) × (result ≡ ended_with (session.Agent (fault.Refused why)))) → ((is_refused result ≡ false) × (s ≡ session_status result) × (host' ≡ late)) ⊎ ((why : BlockFault) × Refusal-by why)
        by (inl other) = let quiet = closed-quiet honest result s late host' other closed in inl (other, quiet.0, quiet.1)
        by (inr (why, is)) = inr (why, (is, subst (λ (r : SessionResult). Closes honest r s late host') is closed))

    -- a refusal is no failure of the outside
    sound : (why : BlockFault) → result ≡ ended_with (session.Agent (fault.Refused why)) → (other : SessionFault) → (ended_with (session.Agent (fault.Refused why)) ≡ ended_with other → ⊥) → IsErrOf result other → ⊥
    sound why is other never e = never (sym is ∙ e)

    not-link : (why : BlockFault) → ended_with (session.Agent (fault.Refused why)) ≡ ended_with session.LinkFault → ⊥
    not-link why e = cc

    not-told : (why : BlockFault) → ended_with (session.Agent (fault.Refused why)) ≡ ended_with session.TellFault → ⊥
    not-told why e = cc

    not-stored : (why : BlockFault) → ended_with (session.Agent (fault.Refused why)) ≡ ended_with (session.Agent fault.DiskFault) → ⊥
    not-stored why e = cc

    ends : ends_a_receive s ≡ true
    ends = by how
      where
        by : ((is_refused result ≡ false) × (s ≡ session_status result) × (host' ≡ late)) ⊎ ((why : BlockFault) × Refusal-by why) → ends_a_receive s ≡ true
        by (inl (other, is, same)) = ap ends_a_receive is ∙ quiet-status result receives.faults other
        by (inr (why, (is, tells))) = refused-ends honest why s late host' tells

    found : finds_none s ≡ true → ⊥
    found none = found-one s none ends

    ends-as : EndsAs result s
    ends-as = by how
      where
        by : ((is_refused result ≡ false) × (s ≡ session_status result) × (host' ≡ late)) ⊎ ((why : BlockFault) × Refusal-by why) → EndsAs result s
        by (inl (other, is, same)) = subst (EndsAs result) (sym is) (quiet-ends result other)
        by (inr (why, (is, tells))) = subst (λ (r : SessionResult). EndsAs r s) (sym is) (refused-as honest why s late host' tells)

    link-cause : HasCause link.faults link'.faults (s ≡ status.LinkFault)
    link-cause = by how
      where
        by : ((is_refused result ≡ false) × (s ≡ session_status result) × (host' ≡ late)) ⊎ ((why : BlockFault) × Refusal-by why) → HasCause link.faults link'.faults (s ≡ status.LinkFault)
        by (inl (other, is, same)) =
            cause-as link.faults link'.faults (result ≡ ended_with session.LinkFault) (s ≡ status.LinkFault) (λ e. link-failed result receives.faults other (sym is ∙ e)) (λ e. is ∙ ap session_status e) receives.cause
        by (inr (why, (is, tells))) =
            stayed link.faults link'.faults (s ≡ status.LinkFault) (receives.cause.stays (sound why is session.LinkFault (not-link why))) (refused-unlinked honest why s late host' tells)

    tell-cause : HasCause host.tell_faults host'.tell_faults (s ≡ status.TellFault)
    tell-cause = stayed-before host.tell_faults middle.tell_faults host'.tell_faults (s ≡ status.TellFault) opens.tells (by how)
      where
        by : ((is_refused result ≡ false) × (s ≡ session_status result) × (host' ≡ late)) ⊎ ((why : BlockFault) × Refusal-by why) → HasCause middle.tell_faults host'.tell_faults (s ≡ status.TellFault)
        by (inl (other, is, same)) =
            subst (λ (p : Seen). HasCause middle.tell_faults p.tell_faults (s ≡ status.TellFault)) (sym same)
            (cause-as middle.tell_faults late.tell_faults (result ≡ ended_with session.TellFault) (s ≡ status.TellFault) (λ e. tell-failed result receives.faults other (sym is ∙ e)) (λ e. is ∙ ap session_status e) receives.stores.tells)
        by (inr (why, (is, tells))) =
            stayed-before middle.tell_faults late.tell_faults host'.tell_faults (s ≡ status.TellFault) (receives.stores.tells.stays (sound why is session.TellFault (not-told why))) tells.cause

    disk-cause : HasCause host.disk_faults host'.disk_faults (s ≡ status.DiskFault)
    disk-cause = stayed-before host.disk_faults middle.disk_faults host'.disk_faults (s ≡ status.DiskFault) (opened-disk honest host agent middle opens) (by how)
      where
        by : ((is_refused result ≡ false) × (s ≡ session_status result) × (host' ≡ late)) ⊎ ((why : BlockFault) × Refusal-by why) → HasCause middle.disk_faults host'.disk_faults (s ≡ status.DiskFault)
        by (inl (other, is, same)) =
            subst (λ (p : Seen). HasCause middle.disk_faults p.disk_faults (s ≡ status.DiskFault)) (sym same)
            (cause-as middle.disk_faults late.disk_faults (result ≡ ended_with (session.Agent fault.DiskFault)) (s ≡ status.DiskFault) (λ e. store-failed result receives.faults going other (sym is ∙ e)) (λ e. is ∙ ap session_status e) receives.stores.disk)
        by (inr (why, (is, tells))) =
            stayed middle.disk_faults host'.disk_faults (s ≡ status.DiskFault) (tells.disk ∙ receives.stores.disk.stays (sound why is (session.Agent fault.DiskFault) (not-stored why))) (refused-stored honest why s late host' tells)

    others : LeavesOthers honest host host'
    others h file other = by how ∙ receives.stores.only_here h file other ∙ (opens.only_here h).others file other
      where
        by : ((is_refused result ≡ false) × (s ≡ session_status result) × (host' ≡ late)) ⊎ ((why : BlockFault) × Refusal-by why) → of file host'.past ≡ of file late.past
        by (inl (quiet, is, same)) = ap (λ (p : Seen). of file p.past) same
        by (inr (why, (is, tells))) = refused-others honest why s late host' tells h file other

    resumes-so : (h : honest) (set : Settings) (h0 : List Beat) → StandsForHistory set h0 (reads_as host.past)
        → OnceRead (λ read. ReceivesOn s set h0 link link' read host'.past) (link' ≡ link) s host.past host'.past
    resumes-so h set h0 here =
        let is-of = opens.opened h set h0 here in
        let stands-now = stands-all middle.past agent set h0 is-of in
        record {
          read = middle.past;
          before = opens.any_moment h;
          silent = (opens.only_here h).output;
          after =
              let so = since h set h0 is-of middle.past refl (opening-crashes set h0 middle.past middle.past stands-now refl (begins (λ disk images. images))) s host' closed in
              inl (record { stands = stands-now; receives = so.receives; quiet = so.quiet; stored_for = so.stored_for });
        }

    -- how it was closed touched no file
    closed-leaves : honest → LeavesFiles late.past host'.past
    closed-leaves h = by how
      where
        by : ((is_refused result ≡ false) × (s ≡ session_status result) × (host' ≡ late)) ⊎ ((why : BlockFault) × Refusal-by why) → LeavesFiles late.past host'.past
        by (inl (other, is, same)) = subst (λ (p : Seen). LeavesFiles late.past p.past) (sym same) (leaves-nothing late.past)
        by (inr (why, (is, tells))) = refusal-written s honest 0 (refusal.Block why) late.past host'.past (TellRose late host') tells.tells h

    grows-so : honest → GrowsBy host.past host'.past
    grows-so h =
        opened-grows honest host middle agent host'.past opens h (grows-before agent middle.past late.past host'.past (runs-grow honest middle late agent agent' receives.bound h) (closed-leaves h))

    pub opened-receives : ReceivesAll honest s link link' host host'
    opened-receives = record {
      receives = λ h set h0 stands.
          (since h set h0 (opens.opened h set h0 (stands (reads_as host.past) (first h))) host.past (opens.only_here h).output
          (opening-crashes set h0 host.past middle.past stands (opens.only_here h).output (opens.any_moment h)) s host' closed).receives;
      resumes = resumes-so;
      complete = λ h set h0 here. read-whole s set h0 link link' host host' link-cause tell-cause disk-cause host.past host'.past (resumes-so h set h0 here);
      finds = found-finds honest host agent middle opens s found;
      statuses = inl ends;
      input = inl (result, ends-as, receives.taking);
      leaves = λ none. absurd (found none);
      untaken = λ h none. absurd (none (opens.notes h));
      others = others;
      bound = grows-so;
      link_cause = link-cause;
      tell_cause = tell-cause;
      disk_cause = disk-cause;
    }

-- ---- it was not
opening-ends : (why : OpenFault) → (ends_a_receive (opening_status why) ≡ true) ⊎ (finds_none (opening_status why) ≡ true)
opening-ends open_fault.NotADatabase = inr refl
opening-ends open_fault.DiskFault = inl refl
opening-ends (open_fault.Damaged part) = inr refl
opening-ends open_fault.Memory = inl refl

module _ (honest : Type 0) (host host' : Seen) (first : honest → IsDisk host.past (reads_as host.past)) (why : OpenFault) (opens : Opens honest host (Err why) host') (link : LinkSeen) where
  -- nothing was heard, said, stored or told
  unheard : honest → (set : Settings) (h0 : List Beat) → EveryDisk (StandsForHistory set h0) host.past → (r : SessionResult) (s : Status) → EndsAs r s → says_all r ≡ false → IsEndFor r None [] [] link.left → is_whole s ≡ false → (s ≡ status.TellFault → ⊥)
      → Receives s set h0 link link host.past host'.past
  unheard h set h0 stands r s which unsaid end short untold = record {
    result = r;
    ends_as = which;
    exchanges = record {
      taken = [];
      takes = Takes-none link.left;
      within = omega arith;
      frames = [];
      rest = [];
      cut = record { found = []; handed = refl; frames = tt; spelt = refl };
      broken = None;
      breaks = tt;
      says = record { said = []; unsaid = []; whole = refl; sends = sends-nothing link.sent; complete = λ all. refl };
      why = end;
      in_turn = λ n less. absurd (omega (arith, less));
    };
    heard = record {
      n = 0;
      all = tt;
      says = all-sends [] link.sent link.sent (sends-nothing link.sent);
      stored = record {
        more = [];
        tells = (opens.only_here h).output ∙ sym (append-nil (told host.past));
        stands = λ disk images. (h0, no_more, stands disk (at_end (opens.any_moment h) disk images));
      };
    };
    in_turn = λ n less. absurd (omega (arith, less));
    crashes = opening-crashes set h0 host.past host'.past stands (opens.only_here h).output (opens.any_moment h);
    ends = λ all. absurd (true≢false (sym all ∙ short));
    output = record {
      said = [];
      unsaid = last_line r;
      whole = refl;
      tells = (opens.only_here h).output ∙ sym (append-nil (told host.past));
      complete = λ all. absurd (true≢false (sym all ∙ short));
    };
    told_for = λ is. absurd (untold is);
    copy = λ floors child rises copy truth. crashes-copy set floors child rises h0 [] host.past host'.past tt truth copy (opening-crashes set h0 host.past host'.past stands (opens.only_here h).output (opens.any_moment h));
  }

  unheard-since : (h : honest) (set : Settings) (h0 : List Beat) → StandsForHistory set h0 (reads_as host.past)
      → OnceRead (λ read. ReceivesOn (opening_status why) set h0 link link read host'.past) (link ≡ link) (opening_status why) host.past host'.past
  unheard-since h set h0 here = record {
    read = host'.past;
    before = opens.any_moment h;
    silent = (opens.only_here h).output;
    after = inr (by-fault honest host host' first (λ (f : OpenFault). (opening_status f ≡ status.DiskFault) ⊎ (opening_status f ≡ status.Memory)) why (opens.stands h set h0 here) (inl refl) (inr refl), refl, refl);
  }

  unheard-link : HasCause link.faults link.faults (opening_status why ≡ status.LinkFault)
  unheard-link = stayed link.faults link.faults (opening_status why ≡ status.LinkFault) refl (unlinked why)

  unheard-tell : HasCause host.tell_faults host'.tell_faults (opening_status why ≡ status.TellFault)
  unheard-tell = stayed host.tell_faults host'.tell_faults (opening_status why ≡ status.TellFault) opens.tells (untold-yet honest host host' first why)

  unheard-disk : HasCause host.disk_faults host'.disk_faults (opening_status why ≡ status.DiskFault)
  unheard-disk =
      cause-as host.disk_faults host'.disk_faults (failed_by why ≡ failed_by open_fault.DiskFault) (opening_status why ≡ status.DiskFault)
      (disk-failed honest host host' first why) (λ e. ap opening_status (fault-is why open_fault.DiskFault e)) opens.cause

  pub unopened-receives : ReceivesAll honest (opening_status why) link link host host'
  unopened-receives = record {
    receives = λ h set h0 stands.
        by-fault honest host host' first (λ (f : OpenFault). Receives (opening_status f) set h0 link link host.past host'.past) why (opens.stands h set h0 (stands (reads_as host.past) (first h)))
        (unheard h set h0 stands (Err (session.Agent fault.DiskFault)) status.DiskFault refl refl tt refl stored-told) (unheard h set h0 stands (Err session.Memory) status.Memory refl refl tt refl no-tell);
    resumes = unheard-since;
    complete = λ h set h0 here. read-whole (opening_status why) set h0 link link host host' unheard-link unheard-tell unheard-disk host.past host'.past (unheard-since h set h0 here);
    finds = unopened-finds honest host host' first why opens;
    statuses = opening-ends why;
    input = inr (opening-none why, refl);
    leaves = λ none. (refl, unopened-host honest host host' first why opens);
    untaken = λ h none. (refl, unopened-host honest host host' first why opens);
    others = λ h. (opens.only_here h).others;
    bound = unopened-grows honest host host' why opens;
    link_cause = unheard-link;
    tell_cause = unheard-tell;
    disk_cause = unheard-disk;
  }
