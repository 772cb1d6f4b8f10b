-- What `health` promises: where the database was opened, and where it was not.
use Rattle.std.proofs.Common.{◌≡◌, ◌⊎◌, inl, inr, ℕ, ◌+◌, ◌<◌, ◌≤◌, ◌^◌, Bool, true, false, ◌||◌, nat_lt, List, [], ◌++◌, length, take, Option, Some, None, IfSome, Result, Ok, Err, refl, sym, ap, subst, ◌∙◌, append-nil, arith, true≢false, if◌then◌else◌}
use Rattle.std.proofs.lemmas.Bool.Decides.{nat_tests}
use Rattle.std.proofs.lemmas.List.{take_all, take-append-le}
use Rattle.host_model.specs.Cause.{HasCause, Rose}
use Rattle.host_model.specs.declared.status.Status.{Status}
use Rattle.host_model.specs.declared.status.Status.TheVariants as status
use Rattle.host_model.specs.Disks.{EveryDisk, reads_as}
use Rattle.host_model.specs.Moments.{Throughout, EveryCrash, begins}
use Rattle.host_model.specs.Past.{Event, told, IsDisk}
use Rattle.host_model.specs.Seen.{Seen}
use Rattle.host_model.proofs.MomentLemmas.{joined}
use Rattle.health_config.specs.declared.fault.ConfigFault.{ConfigFault}
use Rattle.health_config.specs.declared.fault.ConfigFault.TheVariants.{TextTooLong}
use Rattle.health_config.specs.declared.config.TheConstants.{TEXT_LIMIT}
use Rattle.health_config.specs.Config.{config_read}
use Rattle.history.specs.History.{Beat, health}
use Rattle.line_stream.proofs.RunLemmas.{rose-later, Takes-none}
use Rattle.tier_settings.specs.declared.settings.Settings.{Settings}
use Rattle.agent_core.specs.declared.fault.OpenFault.{OpenFault}
use Rattle.agent_core.specs.declared.fault.OpenFault.TheVariants as fault
use Rattle.agent_core.specs.Agent.{AgentState}
use Rattle.agent_core.specs.Calls.{Opens}
use Rattle.agent_core.specs.Health.{health_refusal}
use Rattle.agent_core.specs.Stands.{StandsForHistory}
use Rattle.link_session.specs.Keeps.{Extends, no_more, one_more, Keeps}
use Rattle.link_session.proofs.StoreLemmas.{keeps-more, stands-all}
use Rattle.link_session.proofs.LeavesLemmas.{leaves-nothing}
use Rattle.agent_app.specs.Health.{ends_health, fault_text, health_output, health_status, history_by, history_with_health, is_over, status_of, told_by, Configures, ConfiguresAll, ConfiguresOn, Handled, HasHealthCause, StopsAt, StoresHealth, TellsFault}
use Rattle.agent_app.specs.declared.health_text.HealthEnd.{HealthEnd}
use Rattle.agent_app.specs.declared.health_text.HealthEnd.TheVariants.{ReadFault, TooLong, Memory as WantMemory}
use Rattle.agent_app.specs.HealthText.{TakesText}
use Rattle.agent_app.specs.Run.{ends_a_run, finds_none, is_whole}
use Rattle.agent_app.specs.Running.{Counts, DiskRose, IsTakers, TellRose}
use Rattle.agent_app.specs.Statuses.{opening_status}
use Rattle.agent_app.proofs.BoundLemmas.{grows-before, idle-grows, opened-grows, unopened-grows}
use Rattle.agent_app.proofs.CauseLemmas.{both-counts, cause-as, same-counts, stayed}
use Rattle.agent_app.proofs.OpeningLemmas.{by-fault, complete-by, disk-failed, failed_by, fault-is, opened-finds, opened_with, opening-crashes, some-each, unopened-finds, unopened-leaves, unread, untold-yet}
use Rattle.agent_app.proofs.HealthLemmas.{fault-ends, fault-stays, fault-told-files, fault-told-leaves, fault-told-never, fault-told-takers, refused-by}
use Rattle.agent_app.proofs.RunLemmas.{both-others}

abbrev taken_as : List ℕ → Result (List ℕ) HealthEnd
taken_as text = Ok text

abbrev untaken_for : HealthEnd → Result (List ℕ) HealthEnd
untaken_for end = Err end

pub no-fault-then : (end : HealthEnd) → end ≡ WantMemory → end ≡ ReadFault → ⊥
no-fault-then end is read = apart (sym is ∙ read)
  where
    apart : WantMemory ≡ ReadFault → ⊥
    apart e = cc

read-tell : status.ReadFault ≡ status.TellFault → ⊥
read-tell e = cc

read-disk : status.ReadFault ≡ status.DiskFault → ⊥
read-disk e = cc

memory-tell : status.Memory ≡ status.TellFault → ⊥
memory-tell e = cc

memory-disk : status.Memory ≡ status.DiskFault → ⊥
memory-disk e = cc

-- ---- causes

wider : (s : Status) (ended : Bool) (taken : List ℕ) (source tell disk source' tell' disk' : Type 0) → (source → source') → (tell → tell') → (disk → disk')
    → HasHealthCause s ended taken source tell disk → HasHealthCause s ended taken source' tell' disk'
wider status.Ok ended taken source tell disk source' tell' disk' a b c cause = cause
wider (status.Refused line number) ended taken source tell disk source' tell' disk' a b c cause = cause
wider (status.Limit line number) ended taken source tell disk source' tell' disk' a b c cause = cause
wider status.ReadFault ended taken source tell disk source' tell' disk' a b c cause = (cause.0, a cause.1)
wider status.TellFault ended taken source tell disk source' tell' disk' a b c cause = b cause
wider status.DiskFault ended taken source tell disk source' tell' disk' a b c cause = c cause
wider status.Memory ended taken source tell disk source' tell' disk' a b c cause = tt
wider other ended taken source tell disk source' tell' disk' a b c cause = absurd cause

takers-end : (s : Status) → IsTakers s → ends_health s ≡ true
takers-end status.Ok is = refl
takers-end (status.Refused line number) is = refl
takers-end (status.Limit line number) is = refl
takers-end status.TellFault is = refl
takers-end status.DiskFault is = refl
takers-end status.Memory is = refl
takers-end other is = absurd is

end-runs : (s : Status) → ends_health s ≡ true → ends_a_run s ≡ true
end-runs status.Ok is = refl
end-runs (status.Refused line number) is = refl
end-runs (status.Limit line number) is = refl
end-runs status.ReadFault is = refl
end-runs status.TellFault is = refl
end-runs status.DiskFault is = refl
end-runs status.Memory is = refl
end-runs other is = absurd (true≢false (sym is))

-- ---- the text
pub extends-health : (h0 : List Beat) (ended : Bool) (taken : List ℕ) → Extends h0 (history_with_health h0 ended taken)
extends-health h0 false taken = no_more
extends-health h0 true taken = by (health_refusal taken)
  where
    by : (why : Option ConfigFault) → Extends h0 (history_by h0 taken why)
    by None = one_more (health taken) h0 no_more
    by (Some why) = no_more

module _ (taken more : List ℕ) (ended : Bool) (within : length taken ≤ TEXT_LIMIT + 1) (at_end : ended ≡ true → more ≡ []) where
  -- of a source that had these bytes more, the text is what was taken, where it is over
  prefix-is : is_over ended taken ≡ true → take (TEXT_LIMIT + 1) (taken ++ more) ≡ taken
  prefix-is over = by ended refl over
    where
      by : (b : Bool) → ended ≡ b → (b || nat_lt TEXT_LIMIT (length taken)) ≡ true → take (TEXT_LIMIT + 1) (taken ++ more) ≡ taken
      by true e h = ap (λ (m : List ℕ). take (TEXT_LIMIT + 1) (taken ++ m)) (at_end e) ∙ ap (take (TEXT_LIMIT + 1)) (append-nil taken) ∙ take_all (TEXT_LIMIT + 1) taken within
      by false e h =
          let long : TEXT_LIMIT < length taken = grind (arith, nat_tests) in
          take-append-le (TEXT_LIMIT + 1) taken more (omega (arith, long)) ∙ take_all (TEXT_LIMIT + 1) taken within

  status-is : (why : Option ConfigFault) → is_over ended taken ≡ true → health_refusal taken ≡ why → health_status (taken ++ more) ≡ status_of why
  status-is why over is = ap (λ (t : List ℕ). status_of (health_refusal t)) (prefix-is over) ∙ ap status_of is

  ends-as : (s : Status) (source tell disk : Type 0) → HasHealthCause s ended taken source tell disk → (source → ⊥) → (tell → ⊥) → (disk → ⊥) → (s ≡ health_status (taken ++ more)) ⊎ (s ≡ status.Memory)
  ends-as status.Ok source tell disk (over, is) a b c = inl (sym (status-is None (ap (λ (b : Bool). b || nat_lt TEXT_LIMIT (length taken)) over) is))
  ends-as (status.Refused line number) source tell disk (why, over, is, same) a b c = inl (same ∙ sym (status-is (Some why) over is))
  ends-as (status.Limit line number) source tell disk (why, over, is, same) a b c = inl (same ∙ sym (status-is (Some why) over is))
  ends-as status.ReadFault source tell disk (over, rose) a b c = absurd (a rose)
  ends-as status.TellFault source tell disk rose a b c = absurd (b rose)
  ends-as status.DiskFault source tell disk rose a b c = absurd (c rose)
  ends-as status.Memory source tell disk cause a b c = inr refl
  ends-as other source tell disk cause a b c = absurd cause

-- ---- an agent was handed what was taken
module _ (set : Settings) (h0 : List Beat) (past : List Event) (here : EveryDisk (StandsForHistory set h0) past) where
  -- nothing happened
  idle-at : (s : Status) (ended : Bool) (taken : List ℕ) (source tell disk : Type 0) → (s ≡ status.TellFault → ⊥) → history_with_health h0 ended taken ≡ h0 → health_output set h0 ended taken ≡ [] ⊎ (is_whole s ≡ false)
      → HasHealthCause s ended taken source tell disk → StopsAt s set h0 ended taken past past source tell disk
  idle-at s ended taken source tell disk untold same none cause = record {
    crashes = keeps-more set h0 h0 (history_with_health h0 ended taken) (told past) (extends-health h0 ended taken) past past (opening-crashes set h0 past past here refl (begins (λ disk images. images)));
    ends = λ all. subst (λ (g : List Beat). EveryDisk (StandsForHistory set g) past) (sym same) here;
    output = record { said = []; unsaid = health_output set h0 ended taken; whole = refl; tells = sym (append-nil (told past)); complete = λ all. by all none };
    told_for = λ is. absurd (untold is);
    unspent = λ is. refl;
    cause = cause;
  }
    where
      by : is_whole s ≡ true → (health_output set h0 ended taken ≡ []) ⊎ (is_whole s ≡ false) → health_output set h0 ended taken ≡ []
      by all (inl e) = e
      by all (inr part) = absurd (true≢false (sym all ∙ part))

-- more bytes came than a text has
too-long : (taken : List ℕ) → length taken ≡ TEXT_LIMIT + 1 → health_refusal taken ≡ Some TextTooLong
unfolding config_read
too-long taken long =
    let over : nat_lt (2 ^ 20) (length taken) ≡ true = grind (arith, nat_tests) in
    rw over refl

over-long : (taken : List ℕ) → length taken ≡ TEXT_LIMIT + 1 → is_over false taken ≡ true
over-long taken long = grind (arith, nat_tests)

not-over : (taken : List ℕ) → length taken ≤ TEXT_LIMIT → is_over false taken ≡ false
not-over taken within = grind (arith, nat_tests)

no-read : (text : List ℕ) → taken_as text ≡ untaken_for ReadFault → ⊥
no-read text e = cc

module _ (honest : Type 0) (agent : AgentState) (host : Seen) (left left' : Option (List ℕ)) (faults faults' : ℕ) where
  -- a text that has ended was handed in
  pub text-handled : (text : List ℕ) → TakesText (Ok text) left left' → HasCause faults faults' (taken_as text ≡ untaken_for ReadFault) → (s : Status) (host' : Seen) → StoresHealth honest agent text s host host'
      → Handled honest agent s left left' faults faults' host host'
  text-handled text takes cause s host' stores = record {
    taken = takes.taken;
    ended = true;
    takes = takes.takes;
    within = takes.within;
    at_end = λ e. (takes.ended.short, takes.ended.ended);
    short = λ is. takes.ended.short;
    at = λ h set h0 is_of.
        let at = stores.at h set h0 is_of in
        subst (λ (t : List ℕ). StopsAt s set h0 true t host.past host'.past (Rose faults faults') (TellRose host host') (DiskRose host host')) takes.ended.all
        (record {
          crashes = at.crashes;
          ends = at.ends;
          output = at.output;
          told_for = at.told_for;
          unspent = at.unspent;
          cause = wider s true text ⊥ (TellRose host host') (DiskRose host host') (Rose faults faults') (TellRose host host') (DiskRose host host') (λ never. absurd never) (λ rose. rose) (λ rose. rose) at.cause;
        });
    quiet = λ h h0 same other. let refused = refused-by h0 takes.taken same in stores.quiet h refused.0 (ap health_refusal takes.ended.all ∙ refused.1) other;
    stored_for = λ is. (refl, ap health_refusal (sym takes.ended.all) ∙ stores.stored_for is);
    ends = takers-end s stores.statuses;
    counts = stores.counts;
    others = stores.others;
    bound = stores.bound;
    read_cause = cause-as faults faults' (taken_as text ≡ untaken_for ReadFault) (s ≡ status.ReadFault) (λ is. absurd (no-takers s stores.statuses is)) (λ e. absurd (no-read text e)) cause;
  }
    where
      no-takers : (s : Status) → IsTakers s → s ≡ status.ReadFault → ⊥
      no-takers s is e = subst IsTakers e is

  -- no text came
  module _ (end : HealthEnd) (takes : TakesText (Err end) left left') (cause : HasCause faults faults' (untaken_for end ≡ untaken_for ReadFault)) where
    pub long-handled : end ≡ TooLong → (s : Status) (host' : Seen) → TellsFault s honest TextTooLong host.past host'.past (TellRose host host')
        → HasCause host.tell_faults host'.tell_faults (s ≡ status.TellFault) → host'.disk_faults ≡ host.disk_faults → (s ≡ status.TellFault → fault_text TextTooLong ≡ [] → ⊥) → Handled honest agent s left left' faults faults' host host'
    long-handled is s host' telling tells stays some =
        let long : length takes.taken ≡ TEXT_LIMIT + 1 = takes.ended.too_long is in
        record {
          taken = takes.taken;
          ended = false;
          takes = takes.takes;
          within = takes.within;
          at_end = λ e. absurd (true≢false (sym e));
          short = λ e. absurd (fault-stays s honest TextTooLong host.past host'.past (TellRose host host') telling e);
          at = λ h set h0 is_of.
              fault-ends set h0 false takes.taken host.past (stands-all host.past agent set h0 is_of) (Rose faults faults') (TellRose host host') (DiskRose host host') TextTooLong refl
              (over-long takes.taken long) (too-long takes.taken long) honest s host'.past h some telling;
          quiet = λ h h0 same other. fault-told-leaves s honest TextTooLong host.past host'.past (TellRose host host') telling h;
          stored_for = λ e. absurd (fault-told-never s honest TextTooLong host.past host'.past (TellRose host host') telling e);
          ends = takers-end s (fault-told-takers s honest TextTooLong host.past host'.past (TellRose host host') telling);
          counts = record { tells = tells; disk = stayed host.disk_faults host'.disk_faults (s ≡ status.DiskFault) stays (fault-told-never s honest TextTooLong host.past host'.past (TellRose host host') telling) };
          others = λ h file other. fault-told-files s honest TextTooLong host.past host'.past (TellRose host host') telling h file;
          bound = λ h. grows-before agent host.past host.past host'.past (idle-grows agent host.past) (fault-told-leaves s honest TextTooLong host.past host'.past (TellRose host host') telling h);
          read_cause =
              cause-as faults faults' (untaken_for end ≡ untaken_for ReadFault) (s ≡ status.ReadFault) (λ e. absurd (fault-stays s honest TextTooLong host.past host'.past (TellRose host host') telling e))
              (λ e. absurd (not-read is e)) cause;
        }
      where
        not-read : end ≡ TooLong → untaken_for end ≡ untaken_for ReadFault → ⊥
        not-read is e = apart (ap untaken_for (sym is) ∙ e)
          where
            apart : untaken_for TooLong ≡ untaken_for ReadFault → ⊥
            apart e = cc

    pub failed-handled : end ≡ ReadFault → Handled honest agent status.ReadFault left left' faults faults' host host
    failed-handled is =
        let within = takes.ended.failed is in
        record {
          taken = takes.taken;
          ended = false;
          takes = takes.takes;
          within = takes.within;
          at_end = λ e. absurd (true≢false (sym e));
          short = λ e. within;
          at = λ h set h0 is_of.
              idle-at set h0 host.past (stands-all host.past agent set h0 is_of) status.ReadFault false takes.taken (Rose faults faults') (TellRose host host) (DiskRose host host) read-tell refl
              (inl (silent set h0 (not-over takes.taken within))) (not-over takes.taken within, cause.failed (ap untaken_for is));
          quiet = λ h h0 same other. leaves-nothing host.past;
          stored_for = λ e. absurd (read-disk e);
          ends = refl;
          counts = same-counts host (status.ReadFault ≡ status.TellFault) (status.ReadFault ≡ status.DiskFault) (λ e. cc) (λ e. cc);
          others = λ h file other. refl;
          bound = λ h. idle-grows agent host.past;
          read_cause = cause-as faults faults' (untaken_for end ≡ untaken_for ReadFault) (status.ReadFault ≡ status.ReadFault) (λ e. ap untaken_for is) (λ e. refl) cause;
        }
      where
        silent : (set : Settings) (h0 : List Beat) → is_over false takes.taken ≡ false → health_output set h0 false takes.taken ≡ []
        silent set h0 over = ap (λ (b : Bool). if b then told_by set h0 takes.taken (health_refusal takes.taken) else []) over

    pub want-handled : (end ≡ ReadFault → ⊥) → Handled honest agent status.Memory left left' faults faults' host host
    want-handled other = record {
      taken = takes.taken;
      ended = false;
      takes = takes.takes;
      within = takes.within;
      at_end = λ e. absurd (true≢false (sym e));
      short = λ e. absurd (apart e);
      at = λ h set h0 is_of.
          idle-at set h0 host.past (stands-all host.past agent set h0 is_of) status.Memory false takes.taken (Rose faults faults') (TellRose host host) (DiskRose host host) memory-tell refl (inr refl) tt;
      quiet = λ h h0 same other. leaves-nothing host.past;
      stored_for = λ e. absurd (memory-disk e);
      ends = refl;
      counts = same-counts host (status.Memory ≡ status.TellFault) (status.Memory ≡ status.DiskFault) (λ e. cc) (λ e. cc);
      others = λ h file other. refl;
      bound = λ h. idle-grows agent host.past;
      read_cause =
          cause-as faults faults' (untaken_for end ≡ untaken_for ReadFault) (status.Memory ≡ status.ReadFault) (λ e. absurd (apart e)) (λ e. absurd (other (end-is end ReadFault e))) cause;
    }
      where
        apart : status.Memory ≡ status.ReadFault → ⊥
        apart e = cc

        end-is : (a b : HealthEnd) → untaken_for a ≡ untaken_for b → a ≡ b
        end-is a b e = cc

-- ---- the database was opened
module _ (honest : Type 0) (host : Seen) (agent : AgentState) (middle : Seen) (opens : Opens honest host (Ok agent) middle) (first : honest → IsDisk host.past (reads_as host.past))
    (s : Status) (host' : Seen) (left left' : Option (List ℕ)) (faults faults' : ℕ) (handled : Handled honest agent s left left' faults faults' middle host') where
  abbrev taken : List ℕ
  taken = handled.taken

  abbrev ended : Bool
  ended = handled.ended

  opening : Counts host middle ⊥ ⊥
  opening = record {
    tells = stayed host.tell_faults middle.tell_faults ⊥ opens.tells (λ never. never);
    disk = cause-as host.disk_faults middle.disk_faults (opened_with agent ≡ failed_by fault.DiskFault) ⊥ (λ never. absurd never) (λ e. cc) opens.cause;
  }

  all-counts : Counts host host' (s ≡ status.TellFault) (s ≡ status.DiskFault)
  all-counts = both-counts host middle host' (s ≡ status.TellFault) (s ≡ status.DiskFault) opening handled.counts

  tells-sooner : TellRose middle host' → TellRose host host'
  tells-sooner = rose-later host.tell_faults middle.tell_faults host'.tell_faults opening.tells.later handled.counts.tells.later

  disk-sooner : DiskRose middle host' → DiskRose host host'
  disk-sooner = rose-later host.disk_faults middle.disk_faults host'.disk_faults opening.disk.later handled.counts.disk.later

  caused : HasHealthCause s ended taken (Rose faults faults') (TellRose middle host') (DiskRose middle host') → HasHealthCause s ended taken (Rose faults faults') (TellRose host host') (DiskRose host host')
  caused = wider s ended taken (Rose faults faults') (TellRose middle host') (DiskRose middle host') (Rose faults faults') (TellRose host host') (DiskRose host host') (λ rose. rose) tells-sooner disk-sooner

  module _ (h : honest) (set : Settings) (h0 : List Beat) (here : StandsForHistory set h0 (reads_as host.past)) where
    abbrev whole : List Beat
    whole = history_with_health h0 ended taken

    at : StopsAt s set h0 ended taken middle.past host'.past (Rose faults faults') (TellRose middle host') (DiskRose middle host')
    at = handled.at h set h0 (opens.opened h set h0 here)

    -- since this moment
    since : (start : List Event) → told middle.past ≡ told start → Throughout (EveryCrash (Keeps set h0 h0 (told start))) start middle.past
        → Configures s set h0 left left' start host'.past (Rose faults faults') (TellRose host host') (DiskRose host host')
    since start silent before = record {
      taken = taken;
      ended = ended;
      takes = handled.takes;
      within = handled.within;
      at_end = handled.at_end;
      at = record {
        crashes =
            joined (keeps-more set h0 h0 whole (told start) (extends-health h0 ended taken) start middle.past before)
            (subst (λ (t : List ℕ). Throughout (EveryCrash (Keeps set h0 whole t)) middle.past host'.past) silent at.crashes);
        ends = at.ends;
        output = record { said = at.output.said; unsaid = at.output.unsaid; whole = at.output.whole; tells = at.output.tells ∙ ap (λ (t : List ℕ). t ++ at.output.said) silent; complete = at.output.complete };
        told_for = at.told_for;
        unspent = λ is. at.unspent is ∙ silent;
        cause = caused at.cause;
      };
    }

    stands-now : EveryDisk (StandsForHistory set h0) middle.past
    stands-now = stands-all middle.past agent set h0 (opens.opened h set h0 here)

    resumed : ConfiguresOn s set h0 left left' host.past host'.past (Rose faults faults') (TellRose host host') (DiskRose host host')
    unfolding since
    resumed = record {
      read = middle.past;
      before = opens.any_moment h;
      silent = (opens.only_here h).output;
      after = inl (record {
        stands = stands-now;
        configures = since middle.past refl (opening-crashes set h0 middle.past middle.past stands-now refl (begins (λ disk images. images)));
        quiet = λ same other. handled.quiet h h0 same other;
        stored_for = handled.stored_for;
      });
    }

  pub configured : ConfiguresAll honest s left left' faults faults' host host'
  configured = record {
    configures = λ h set h0 stands.
        since h set h0 (stands (reads_as host.past) (first h)) host.past (opens.only_here h).output (opening-crashes set h0 host.past middle.past stands (opens.only_here h).output (opens.any_moment h));
    resumes = resumed;
    complete = λ h set h0 stands.
        complete-by left left' taken (λ text. (Rose faults faults' → ⊥) → (TellRose host host' → ⊥) → (DiskRose host host' → ⊥) → (s ≡ health_status text) ⊎ (s ≡ status.Memory)) handled.takes
        (λ more is none_read none_told none_disk.
        ends-as taken more ended handled.within (λ e. subst (λ (o : Option (List ℕ)). IfSome o (λ bytes. bytes ≡ [])) is (handled.at_end e).1) s (Rose faults faults') (TellRose host host') (DiskRose host host')
        (caused (at h set h0 (stands (reads_as host.past) (first h))).cause) none_read none_told none_disk);
    finds = opened-finds honest host agent middle opens s (end-runs s handled.ends);
    statuses = inl handled.ends;
    input = record { taken = taken; takes = handled.takes; within = handled.within; read = handled.short };
    leaves = λ none. absurd (found s none handled.ends);
    untaken = λ h none. absurd (none (opens.notes h));
    others = both-others honest host middle host' (λ h. (opens.only_here h).others) handled.others;
    bound = λ h. opened-grows honest host middle agent host'.past opens h (handled.bound h);
    read_cause = handled.read_cause;
    tell_cause = all-counts.tells;
    disk_cause = all-counts.disk;
  }
    where
      found : (s : Status) → finds_none s ≡ true → ends_health s ≡ true → ⊥
      found status.NotADatabase none ends = true≢false (sym ends)
      found (status.Damaged part) none ends = true≢false (sym ends)
      found s none ends = true≢false (sym none)

-- ---- the database was not opened
module _ (honest : Type 0) (host host' : Seen) (first : honest → IsDisk host.past (reads_as host.past)) (why : OpenFault) (opens : Opens honest host (Err why) host') (left : Option (List ℕ)) (faults : ℕ) where
  none-taken : (source : Type 0) → honest → (set : Settings) (h0 : List Beat) → EveryDisk (StandsForHistory set h0) host.past
      → Configures (opening_status why) set h0 left left host.past host'.past source (TellRose host host') (DiskRose host host')
  none-taken source h set h0 stands =
      let which = opens.stands h set h0 (stands (reads_as host.past) (first h)) in
      let part : is_whole (opening_status why) ≡ false = by-fault honest host host' first (λ (f : OpenFault). is_whole (opening_status f) ≡ false) why which refl refl in
      record {
        taken = [];
        ended = false;
        takes = Takes-none left;
        within = omega arith;
        at_end = λ e. absurd (true≢false (sym e));
        at = record {
          crashes = opening-crashes set h0 host.past host'.past stands (opens.only_here h).output (opens.any_moment h);
          ends = λ all. absurd (true≢false (sym all ∙ part));
          output = record { said = []; unsaid = health_output set h0 false []; whole = refl; tells = (opens.only_here h).output ∙ sym (append-nil (told host.past)); complete = λ all. absurd (true≢false (sym all ∙ part)) };
          told_for = λ is. absurd (untold-yet honest host host' first why is);
          unspent = λ is. (opens.only_here h).output;
          cause =
              by-fault honest host host' first (λ (f : OpenFault). why ≡ f → HasHealthCause (opening_status f) false [] source (TellRose host host') (DiskRose host host')) why which
              (λ is. opens.cause.failed (ap (λ (f : OpenFault). Err f) is)) (λ is. tt) refl;
        };
      }

  ends-so : (f : OpenFault) → (ends_health (opening_status f) ≡ true) ⊎ (finds_none (opening_status f) ≡ true)
  ends-so fault.NotADatabase = inr refl
  ends-so fault.DiskFault = inl refl
  ends-so (fault.Damaged part) = inr refl
  ends-so fault.Memory = inl refl

  pub unopened-configured : ConfiguresAll honest (opening_status why) left left faults faults host host'
  unopened-configured = record {
    configures = λ h set h0 stands. none-taken (Rose faults faults) h set h0 stands;
    resumes = λ h set h0 here. record {
      read = host'.past;
      before = opens.any_moment h;
      silent = (opens.only_here h).output;
      after = inr (by-fault honest host host' first (λ (f : OpenFault). (opening_status f ≡ status.DiskFault) ⊎ (opening_status f ≡ status.Memory)) why (opens.stands h set h0 here) (inl refl) (inr refl), refl, refl);
    };
    complete = λ h set h0 stands. some-each left _ (λ text is none_read none_told none_disk.
        by-fault honest host host' first (λ (f : OpenFault). why ≡ f → (opening_status f ≡ health_status text) ⊎ (opening_status f ≡ status.Memory)) why (opens.stands h set h0 (stands (reads_as host.past) (first h)))
        (λ e. absurd (none_disk (opens.cause.failed (ap (λ (f : OpenFault). Err f) e)))) (λ e. inr refl) refl);
    finds = unopened-finds honest host host' first why opens;
    statuses = ends-so why;
    input = record { taken = []; takes = Takes-none left; within = omega arith; read = λ is. absurd (unread honest host host' first why is) };
    leaves = λ none. unopened-leaves honest host host' first why opens left faults;
    untaken = λ h none. unopened-leaves honest host host' first why opens left faults;
    others = λ h. (opens.only_here h).others;
    bound = unopened-grows honest host host' why opens;
    read_cause = stayed faults faults (opening_status why ≡ status.ReadFault) refl (unread honest host host' first why);
    tell_cause = stayed host.tell_faults host'.tell_faults (opening_status why ≡ status.TellFault) opens.tells (untold-yet honest host host' first why);
    disk_cause =
        cause-as host.disk_faults host'.disk_faults (failed_by why ≡ failed_by fault.DiskFault) (opening_status why ≡ status.DiskFault)
        (disk-failed honest host host' first why) (λ e. ap opening_status (fault-is why fault.DiskFault e)) opens.cause;
  }
