-- What `health` stores and tells, and what crashes leave of it.
use Rattle.std.proofs.Common.{◌≡◌, ◌⊎◌, inl, inr, ℕ, ◌+◌, Bool, true, false, List, [], ◌∷◌, ◌++◌, length, take, drop, codes, Option, Some, None, Result, Ok, Err, IfOk, IfErr, OnOk, refl, sym, ap, ap₂, subst, ◌∙◌, append_assoc, append-nil, arith, true≢false, if◌then◌else◌}
use Rattle.std.specs.Fmt.{decimal}
use Rattle.std.proofs.lemmas.List.{take-append-drop}
use Rattle.host_model.specs.Cause.{HasCause, Rose}
use Rattle.host_model.specs.declared.file.File.{File}
use Rattle.host_model.specs.declared.status.Status.{Status}
use Rattle.host_model.specs.declared.status.Status.TheVariants.{Ok as Done, Refused, Limit, TellFault, DiskFault, ReadFault, Memory}
use Rattle.host_model.specs.Disks.{EveryDisk}
use Rattle.host_model.specs.Moments.{Throughout, EveryCrash, begins}
use Rattle.host_model.specs.Past.{Event, Told, of, told, IsText, MayAdd}
use Rattle.host_model.specs.Seen.{Seen}
use Rattle.host_model.proofs.CallLemmas.{may_have_moved, moved}
use Rattle.host_model.proofs.DiskLemmas.{untold}
use Rattle.host_model.proofs.MomentLemmas.{at_end, joined}
use Rattle.health_config.specs.declared.fault.ConfigFault.{ConfigFault}
use Rattle.health_config.specs.Fault.{fault_line, fault_number}
use Rattle.history.specs.History.{Beat, health}
use Rattle.query_text.proofs.ReplyLemmas.{free-append, IsFree}
use Rattle.tier_settings.specs.declared.settings.Settings.{Settings}
use Rattle.alarm_events.specs.declared.event.Event.{Event as AlarmEvent}
use Rattle.store_core.specs.Counts.{counted}
use Rattle.agent_core.specs.declared.fault.AgentFault.{AgentFault}
use Rattle.agent_core.specs.declared.fault.AgentFault.TheVariants as fault
use Rattle.agent_core.specs.declared.reply.Reply.{Reply}
use Rattle.agent_core.specs.Agent.{AgentState, IsAgentOf}
use Rattle.agent_core.specs.Alarms.{events_at}
use Rattle.agent_core.specs.Calls.{SetsHealth}
use Rattle.agent_core.specs.Faults.{HealthRefusedBy, IsHealthRefusal, LeavesAll}
use Rattle.agent_core.specs.Health.{health_refusal}
use Rattle.agent_core.specs.Stands.{StandsForHealth, StandsForHistory}
use Rattle.agent_core.specs.Replies.{reply_text}
use Rattle.agent_core.proofs.RunLemmas.{health-runs}
use Rattle.agent_core.proofs.StoredLemmas.{were_kept}
use Rattle.link_session.specs.Keeps.{no_more, one_more, Extends, IsAckedUpTo, Keeps, LeavesFiles}
use Rattle.link_session.proofs.AckLemmas.{acked-nothing, acked-one, acked-since, decimal-free, stored-some, text-prefix}
use Rattle.link_session.proofs.StoreLemmas.{stands-all}
use Rattle.link_session.proofs.LeavesLemmas.{leaves-nothing, may-told, one-told}
use Rattle.agent_app.specs.Bound.{AgentGrows}
use Rattle.agent_app.specs.Health.{fault_status, fault_text, health_output, history_by, history_with_health, is_limit, is_over, line_by, status_by, told_by, HasHealthCause, StopsAt, StoresHealth, TellsFault}
use Rattle.agent_app.specs.Run.{is_whole, LeavesOthers}
use Rattle.agent_app.specs.Running.{DiskRose, IsCutShort, IsTakers, TellRose}
use Rattle.agent_app.specs.Statuses.{agent_status}
use Rattle.agent_app.proofs.AckLemmas.{first-free, first_word, no-stored}
use Rattle.agent_app.proofs.BoundLemmas.{cut-written, grows-before, idle-grows, runs-grow}
use Rattle.agent_app.proofs.CauseLemmas.{apart, cause-as, ended-as, ended_so, is_outside, stayed, stayed-before, stayed-behind}
use Rattle.agent_app.proofs.EventLemmas.{acked-told}

-- ---- the line of a refusal

-- it acknowledges no beat
pub acked-fault : (n : ℕ) (why : ConfigFault) → IsAckedUpTo n (fault_text why)
acked-fault n why = by (is_limit why) (fault_line why) (fault_number why)
  where
    whole-line : (limit : Bool) (at number : ℕ) → IsAckedUpTo n (line_by limit (Some at) (Some number))
    whole-line limit at number =
        let first = first_word limit in
        let text = first ++ decimal at ++ codes " " ++ decimal number in
        let free : IsFree text =
        free-append (first ++ decimal at ++ codes " ") (decimal number)
        (free-append (first ++ decimal at) (codes " ") (free-append first (decimal at) (first-free limit) (decimal-free at)) (refl, tt)) (decimal-free number) in
        let whole : text ≡ first ++ (decimal at ++ (codes " " ++ decimal number)) = simp append_assoc in
        acked-one n text free (λ m small is. absurd (no-stored limit (decimal at ++ (codes " " ++ decimal number)) (decimal m) (sym whole ∙ is)))

    by : (limit : Bool) (line_is number : Option ℕ) → IsAckedUpTo n (line_by limit line_is number)
    by limit (Some at) (Some number) = whole-line limit at number
    by limit (Some at) None = acked-nothing n
    by limit None number = acked-nothing n

pub fault-takers : (why : ConfigFault) → IsTakers (fault_status why)
fault-takers why = by (is_limit why) (fault_line why) (fault_number why)
  where
    by : (limit : Bool) (line number : Option ℕ) → IsTakers (status_by limit line number)
    by true (Some line) (Some number) = tt
    by false (Some line) (Some number) = tt
    by limit (Some line) None = tt
    by limit None number = tt

pub fault-inside : (why : ConfigFault) → is_outside (fault_status why) ≡ false
fault-inside why = by (is_limit why) (fault_line why) (fault_number why)
  where
    by : (limit : Bool) (line number : Option ℕ) → is_outside (status_by limit line number) ≡ false
    by true (Some line) (Some number) = refl
    by false (Some line) (Some number) = refl
    by limit (Some line) None = refl
    by limit None number = refl

fault-cause : (why : ConfigFault) (ended : Bool) (text : List ℕ) (source_rose tell_rose disk_rose : Type 0) → is_over ended text ≡ true → health_refusal text ≡ Some why → HasHealthCause (fault_status why) ended text source_rose tell_rose disk_rose
fault-cause why ended text source_rose tell_rose disk_rose over is = by (is_limit why) (fault_line why) (fault_number why) refl
  where
    by : (limit : Bool) (line number : Option ℕ) → fault_status why ≡ status_by limit line number → HasHealthCause (status_by limit line number) ended text source_rose tell_rose disk_rose
    by true (Some line) (Some number) e = (why, over, is, sym e)
    by false (Some line) (Some number) e = (why, over, is, sym e)
    by limit (Some line) None e = tt
    by limit None number e = tt

-- a refusal that ends as if memory were short is told by nothing
fault-none : (why : ConfigFault) → fault_status why ≡ Memory → fault_text why ≡ []
fault-none why = by (is_limit why) (fault_line why) (fault_number why)
  where
    limit-apart : (line number : ℕ) → Limit line number ≡ Memory → ⊥
    limit-apart line number e = cc

    refused-apart : (line number : ℕ) → Refused line number ≡ Memory → ⊥
    refused-apart line number e = cc

    by : (limit : Bool) (line number : Option ℕ) → status_by limit line number ≡ Memory → line_by limit line number ≡ []
    by true (Some line) (Some number) e = absurd (limit-apart line number e)
    by false (Some line) (Some number) e = absurd (refused-apart line number e)
    by limit (Some line) None e = refl
    by limit None number e = refl

tell-apart : (TellFault ≡ DiskFault) ⊎ (TellFault ≡ Memory) → ⊥
tell-apart (inl e) = cc
tell-apart (inr e) = cc

done-apart : (Done ≡ DiskFault) ⊎ (Done ≡ Memory) → ⊥
done-apart (inl e) = cc
done-apart (inr e) = cc

-- a text that leaves the history is refused
pub refused-by : (h0 : List Beat) (text : List ℕ) → history_by h0 text (health_refusal text) ≡ h0 → (why : ConfigFault) × (health_refusal text ≡ Some why)
refused-by h0 text = by (health_refusal text) refl
  where
    longer : health text ∷ h0 ≡ h0 → ⊥
    longer e = omega (arith, ap length e)

    by : (reason : Option ConfigFault) → health_refusal text ≡ reason → history_by h0 text reason ≡ h0 → (why : ConfigFault) × (health_refusal text ≡ Some why)
    by None is e = absurd (longer e)
    by (Some why) is e = (why, is)

-- how telling a text ends
module _ (status : Status) (honest : Type 0) (text : List ℕ) (old new : List Event) (tell_rose : Type 0) where
  cut-takers : IsCutShort status honest text old new tell_rose → IsTakers status
  cut-takers (inl (is, rose, torn)) = subst IsTakers (sym is) tt
  cut-takers (inr (is, same)) = subst IsTakers (sym is) tt

  cut-stored : IsCutShort status honest text old new tell_rose → status ≡ DiskFault → ⊥
  cut-stored (inl (is, rose, torn)) e = cc
  cut-stored (inr (is, same)) e = cc

  cut-leaves : IsCutShort status honest text old new tell_rose → honest → (file : File) → of file new ≡ of file old
  cut-leaves (inl (is, rose, torn)) h file = at_end (may-told old new text (torn h)) file
  cut-leaves (inr (is, same)) h file = ap (of file) same

-- ---- what crashes leave

-- a history between the one before and the one with all
module _ (set : Settings) (h0 stored whole : List Beat) (since : Extends h0 stored) (within : Extends stored whole) (start : List Event) where
  shows : (disk : File → List ℕ) (text : List ℕ) → StandsForHistory set stored disk → IsText start text → Keeps set h0 whole (told start) disk text
  shows disk text stands by_then =
      let prefix = text-prefix start text by_then in
      record {
        stored = stored;
        since = since;
        within = within;
        stands = stands;
        acked = acked-since (length stored) (told start) [] text prefix.more (prefix.whole ∙ sym (append-nil (told start))) (acked-nothing (length stored));
      }

  -- nothing was told since, and then this was
  module _ (past : List Event) (silent : told past ≡ told start) (here : EveryDisk (StandsForHistory set stored) past) (text : List ℕ) (acked : IsAckedUpTo (length stored) text) where
    prefix-crash : (sent left : List ℕ) → sent ++ left ≡ text → EveryCrash (Keeps set h0 whole (told start)) (Told sent ∷ past)
    prefix-crash sent left is disk said images by_then =
        let more = drop by_then.0 sent ++ left in
        let prefix : said ++ more ≡ told start ++ text =
        ap (λ (t : List ℕ). t ++ more) by_then.1 ∙ append_assoc (told past) (take by_then.0 sent) more
        ∙ ap (λ (t : List ℕ). told past ++ t) (sym (append_assoc (take by_then.0 sent) (drop by_then.0 sent) left) ∙ ap (λ (t : List ℕ). t ++ left) (take-append-drop by_then.0 sent) ∙ is)
        ∙ ap (λ (t : List ℕ). t ++ text) silent in
        record { stored = stored; since = since; within = within; stands = here disk images; acked = acked-since (length stored) (told start) text said more prefix acked }

    here-crash : EveryCrash (Keeps set h0 whole (told start)) past
    here-crash disk said images by_then =
        let prefix = text-prefix past said by_then in
        record {
          stored = stored;
          since = since;
          within = within;
          stands = here disk images;
          acked = acked-since (length stored) (told start) [] said prefix.more (prefix.whole ∙ silent ∙ sym (append-nil (told start))) (acked-nothing (length stored));
        }

    told-after : (new : List Event) → new ≡ Told text ∷ past → Throughout (EveryCrash (Keeps set h0 whole (told start))) past new
    told-after new is = moved (EveryCrash (Keeps set h0 whole (told start))) (Told text) past new is here-crash (prefix-crash text [] (append-nil text))

    torn-after : (new : List Event) → MayAdd (λ (n : ℕ). Told (take n text)) past new → Throughout (EveryCrash (Keeps set h0 whole (told start))) past new
    torn-after new may =
        may_have_moved (EveryCrash (Keeps set h0 whole (told start))) (λ (n : ℕ). Told (take n text)) past new may here-crash (λ n. prefix-crash (take n text) (drop n text) (take-append-drop n text))

-- the configuration follows the history, where nothing refuses it
extends-by : (h0 : List Beat) (text : List ℕ) (why : Option ConfigFault) → Extends h0 (history_by h0 text why)
extends-by h0 text None = one_more (health text) h0 no_more
extends-by h0 text (Some why) = no_more

-- moments of a call that stores it
module _ (set : Settings) (h0 : List Beat) (text : List ℕ) (start new : List Event) (moments : Throughout (EveryDisk (StandsForHealth set h0 text)) start new) (silent : told new ≡ told start) where
  abbrev whole : List Beat
  whole = history_by h0 text (health_refusal text)

  stores-moments : Throughout (EveryCrash (Keeps set h0 whole (told start))) start new
  stores-moments = untold silent by moments
    where
      by : (disk : File → List ℕ) (said : List ℕ) → StandsForHealth set h0 text disk → IsText start said → Keeps set h0 whole (told start) disk said
      by disk said (inl same) by_then = shows set h0 h0 whole no_more (extends-by h0 text (health_refusal text)) start disk said same by_then
      by disk said (inr (free, more)) by_then =
          shows set h0 (health text ∷ h0) whole (one_more (health text) h0 no_more) (subst (λ (r : Option ConfigFault). Extends (health text ∷ h0) (history_by h0 text r)) (sym free) no_more) start disk said more by_then

-- ---- how it ends
module _ (set : Settings) (h0 : List Beat) (text : List ℕ) (start : List Event) (tell_rose disk_rose : Type 0) where
  abbrev Ends : Status → List Event → Type 0
  Ends status new = StopsAt status set h0 true text start new ⊥ tell_rose disk_rose

  abbrev Kept : List Event → Type 0
  Kept new = Throughout (EveryCrash (Keeps set h0 (history_by h0 text (health_refusal text)) (told start))) start new

  abbrev output : List ℕ
  output = told_by set h0 text (health_refusal text)

  short-end : (status : Status) (new : List Event) (said unsaid : List ℕ) → is_whole status ≡ false → Kept new → output ≡ said ++ unsaid → told new ≡ told start ++ said
      → (status ≡ TellFault → output ≡ [] → ⊥) → ((status ≡ DiskFault) ⊎ (status ≡ Memory) → told new ≡ told start) → HasHealthCause status true text ⊥ tell_rose disk_rose → Ends status new
  short-end status new said unsaid short kept whole_is tells told_for unspent cause = record {
    crashes = kept;
    ends = λ all. absurd (true≢false (sym all ∙ short));
    output = record { said = said; unsaid = unsaid; whole = whole_is; tells = tells; complete = λ all. absurd (true≢false (sym all ∙ short)) };
    told_for = told_for;
    unspent = unspent;
    cause = cause;
  }

  -- nothing was told
  silent-end : (status : Status) (new : List Event) → is_whole status ≡ false → (status ≡ TellFault → ⊥) → Kept new → told new ≡ told start → HasHealthCause status true text ⊥ tell_rose disk_rose → Ends status new
  silent-end status new short untold kept silent cause =
      short-end status new [] output short kept refl (silent ∙ sym (append-nil (told start))) (λ is none. untold is) (λ is. silent) cause

  -- this is what is to be told, of this history
  module _ (stored : List Beat) (since : Extends h0 stored) (stored-is : history_by h0 text (health_refusal text) ≡ stored) (next : List ℕ) (next-is : output ≡ next) (acked : IsAckedUpTo (length stored) next)
      (past : List Event) (kept : Kept past) (silent : told past ≡ told start) (here : EveryDisk (StandsForHistory set stored) past) where
    within : Extends stored (history_by h0 text (health_refusal text))
    within = subst (Extends stored) (sym stored-is) no_more

    whole-end : (new : List Event) → new ≡ Told next ∷ past → HasHealthCause Done true text ⊥ tell_rose disk_rose → Ends Done new
    whole-end new is cause = record {
      crashes = joined kept (told-after set h0 stored (history_by h0 text (health_refusal text)) since within start past silent here next acked new is);
      ends = λ all. subst (λ (g : List Beat). EveryDisk (StandsForHistory set g) new) (sym stored-is) (subst (λ (p : List Event). EveryDisk (StandsForHistory set stored) p) (sym is) here);
      output = record { said = next; unsaid = []; whole = next-is ∙ sym (append-nil next); tells = ap told is ∙ ap (λ (t : List ℕ). t ++ next) silent; complete = λ all. refl };
      told_for = λ is. absurd (apart Done TellFault refl refl is);
      unspent = λ is. absurd (done-apart is);
      cause = cause;
    }

    cut-end : (honest : Type 0) (status : Status) (new : List Event) → honest → (next ≡ [] → ⊥) → IsCutShort status honest next past new tell_rose → Ends status new
    cut-end honest status new h some (inl (is, rose, torn)) = subst (λ (s : Status). Ends s new) (sym is) (by (torn h))
      where
        after : Kept new
        after = joined kept (torn-after set h0 stored (history_by h0 text (health_refusal text)) since within start past silent here next acked new (torn h))

        told_for : TellFault ≡ TellFault → output ≡ [] → ⊥
        told_for _ none = some (sym next-is ∙ none)

        unspent : (TellFault ≡ DiskFault) ⊎ (TellFault ≡ Memory) → told new ≡ told start
        unspent e = absurd (tell-apart e)

        by : MayAdd (λ (n : ℕ). Told (take n next)) past new → Ends TellFault new
        by (inl same) = short-end TellFault new [] output refl after refl (ap told same ∙ silent ∙ sym (append-nil (told start))) told_for unspent rose
        by (inr (n, added)) =
            short-end TellFault new (take n next) (drop n next) refl after (next-is ∙ sym (take-append-drop n next)) (ap told added ∙ ap (λ (t : List ℕ). t ++ take n next) silent) told_for unspent rose
    cut-end honest status new h some (inr (is, same)) =
        subst (λ (s : Status). Ends s new) (sym is) (silent-end Memory new refl (apart Memory TellFault refl refl) (subst (λ (p : List Event). Kept p) (sym same) kept) (ap told same ∙ silent) tt)

-- ---- why a text is refused was told
module _ (s : Status) (honest : Type 0) (why : ConfigFault) (old new : List Event) (rose : Type 0) where
  pub fault-told-takers : TellsFault s honest why old new rose → IsTakers s
  fault-told-takers (inl (status-is, done)) = subst IsTakers (sym status-is) (fault-takers why)
  fault-told-takers (inr cut) = cut-takers s honest (fault_text why) old new rose cut

  pub fault-told-never : TellsFault s honest why old new rose → s ≡ DiskFault → ⊥
  fault-told-never (inl (status-is, done)) e = apart s DiskFault (ap is_outside status-is ∙ fault-inside why) refl e
  fault-told-never (inr cut) e = cut-stored s honest (fault_text why) old new rose cut e

  pub fault-stays : TellsFault s honest why old new rose → s ≡ ReadFault → ⊥
  fault-stays telling e = subst IsTakers e (fault-told-takers telling)

  pub fault-told-leaves : TellsFault s honest why old new rose → honest → LeavesFiles old new
  fault-told-leaves (inl (status-is, done)) h = subst (LeavesFiles old) (sym (done h)) (one-told old (fault_text why))
  fault-told-leaves (inr (inl (is, counted_so, torn))) h = may-told old new (fault_text why) (torn h)
  fault-told-leaves (inr (inr (is, same))) h = subst (LeavesFiles old) (sym same) (leaves-nothing old)

  pub fault-told-files : TellsFault s honest why old new rose → honest → (file : File) → of file new ≡ of file old
  fault-told-files telling h = at_end (fault-told-leaves telling h)

-- on a database of this history, which the text leaves
module _ (set : Settings) (h0 : List Beat) (ended : Bool) (taken : List ℕ) (start : List Event) (here : EveryDisk (StandsForHistory set h0) start) (source tell disk : Type 0) (why : ConfigFault)
    (same : history_with_health h0 ended taken ≡ h0) (over : is_over ended taken ≡ true) (is : health_refusal taken ≡ Some why) where
  abbrev left : List Beat
  left = history_with_health h0 ended taken

  within-left : Extends h0 left
  within-left = subst (Extends h0) (sym same) no_more

  output-why : health_output set h0 ended taken ≡ fault_text why
  output-why = ap (λ (b : Bool). if b then told_by set h0 taken (health_refusal taken) else []) over ∙ ap (told_by set h0 taken) is

  stays-left : EveryDisk (StandsForHistory set left) start
  stays-left = subst (λ (g : List Beat). EveryDisk (StandsForHistory set g) start) (sym same) here

  pub fault-ends : (honest : Type 0) (s : Status) (new : List Event) → honest → (s ≡ TellFault → fault_text why ≡ [] → ⊥) → TellsFault s honest why start new tell → StopsAt s set h0 ended taken start new source tell disk
  fault-ends honest s new h some (inl (status-is, done)) =
      subst (λ (t : Status). StopsAt t set h0 ended taken start new source tell disk) (sym status-is) (record {
        crashes = told-after set h0 h0 left no_more within-left start start refl here (fault_text why) (acked-fault (length h0) why) new (done h);
        ends = λ all. subst (λ (p : List Event). EveryDisk (StandsForHistory set left) p) (sym (done h)) stays-left;
        output = record { said = fault_text why; unsaid = []; whole = output-why ∙ sym (append-nil (fault_text why)); tells = ap told (done h); complete = λ all. refl };
        told_for = λ untold. absurd (apart (fault_status why) TellFault (fault-inside why) refl untold);
        unspent = silent-why;
        cause = fault-cause why ended taken source tell disk over is;
      })
    where
      silent-why : (fault_status why ≡ DiskFault) ⊎ (fault_status why ≡ Memory) → told new ≡ told start
      silent-why (inl e) = absurd (apart (fault_status why) DiskFault (fault-inside why) refl e)
      silent-why (inr e) = ap told (done h) ∙ ap (λ (t : List ℕ). told start ++ t) (fault-none why e) ∙ append-nil (told start)
  fault-ends honest s new h some (inr (inl (status-is, rose, torn))) = subst (λ (t : Status). StopsAt t set h0 ended taken start new source tell disk) (sym status-is) (by (torn h))
    where
      after : Throughout (EveryCrash (Keeps set h0 left (told start))) start new
      after = torn-after set h0 h0 left no_more within-left start start refl here (fault_text why) (acked-fault (length h0) why) new (torn h)

      short : (said unsaid : List ℕ) → fault_text why ≡ said ++ unsaid → told new ≡ told start ++ said → StopsAt TellFault set h0 ended taken start new source tell disk
      short said unsaid whole_is tells = record {
        crashes = after;
        ends = λ all. absurd (true≢false (sym all));
        output = record { said = said; unsaid = unsaid; whole = output-why ∙ whole_is; tells = tells; complete = λ all. absurd (true≢false (sym all)) };
        told_for = λ untold none. some status-is (sym output-why ∙ none);
        unspent = λ e. absurd (tell-apart e);
        cause = rose;
      }

      by : MayAdd (λ (n : ℕ). Told (take n (fault_text why))) start new → StopsAt TellFault set h0 ended taken start new source tell disk
      by (inl unmoved) = short [] (fault_text why) refl (ap told unmoved ∙ sym (append-nil (told start)))
      by (inr (n, added)) = short (take n (fault_text why)) (drop n (fault_text why)) (sym (take-append-drop n (fault_text why))) (ap told added)
  fault-ends honest s new h some (inr (inr (status-is, unmoved))) =
      subst (λ (t : Status). StopsAt t set h0 ended taken start new source tell disk) (sym status-is)
      (subst (λ (p : List Event). StopsAt Memory set h0 ended taken start p source tell disk) (sym unmoved) (record {
        crashes = begins (here-crash set h0 h0 left no_more within-left start start refl here (fault_text why) (acked-fault (length h0) why));
        ends = λ all. absurd (true≢false (sym all));
        output = record { said = []; unsaid = health_output set h0 ended taken; whole = refl; tells = sym (append-nil (told start)); complete = λ all. absurd (true≢false (sym all)) };
        told_for = λ untold. absurd (apart Memory TellFault refl refl untold);
        unspent = λ e. refl;
        cause = tt;
      }))

-- ---- an agent was handed a text
abbrev unstored : AgentFault → Result Reply AgentFault
unstored why = Err why

other-fault : (why : ConfigFault) → unstored (fault.Health why) ≡ unstored fault.DiskFault → ⊥
other-fault why e = cc

abbrev stored : Reply → Result Reply AgentFault
stored reply = Ok reply

short-fault : unstored fault.Memory ≡ unstored fault.DiskFault → ⊥
short-fault e = cc

abbrev unrefused : Option ConfigFault
unrefused = None

free-none : (why : ConfigFault) → unrefused ≡ Some why → ⊥
free-none why e = cc

no-fault : (reply : Reply) → stored reply ≡ unstored fault.DiskFault → ⊥
no-fault reply e = cc

module _ (honest : Type 0) (agent : AgentState) (text : List ℕ) (host : Seen) (result : Result Reply AgentFault) (middle : Seen) (agent' : AgentState) (sets : SetsHealth honest host agent text result middle agent') (going : agent.fault ≡ None) where
  silent : honest → told middle.past ≡ told host.past
  silent h = (sets.only_here h).output

  kept : honest → (set : Settings) (h0 : List Beat) → IsAgentOf host.past agent set h0
      → Throughout (EveryCrash (Keeps set h0 (history_by h0 text (health_refusal text)) (told host.past))) host.past middle.past
  kept h set h0 is_of = stores-moments set h0 text host.past middle.past (sets.any_moment h set h0 is_of) (silent h)

  sets-grow : honest → AgentGrows agent host.past middle.past
  sets-grow h = runs-grow honest host middle agent agent' (health-runs honest host middle agent agent' text result sets) h

  others-by : (host' : Seen) → (honest → (file : File) → of file host'.past ≡ of file middle.past) → LeavesOthers honest host host'
  others-by host' same h file other = same h file ∙ (sets.only_here h).others file other

  disk-by : (s : Status) (host' : Seen) → host'.disk_faults ≡ middle.disk_faults → (s ≡ DiskFault → result ≡ Err fault.DiskFault) → (result ≡ Err fault.DiskFault → s ≡ DiskFault)
      → HasCause host.disk_faults host'.disk_faults (s ≡ DiskFault)
  disk-by s host' same back on =
      stayed-behind host.disk_faults middle.disk_faults host'.disk_faults (s ≡ DiskFault) same
      (cause-as host.disk_faults middle.disk_faults (result ≡ Err fault.DiskFault) (s ≡ DiskFault) back on sets.cause)

  tells-by : (s : Status) (host' : Seen) → HasCause middle.tell_faults host'.tell_faults (s ≡ TellFault) → HasCause host.tell_faults host'.tell_faults (s ≡ TellFault)
  tells-by s host' cause = stayed-before host.tell_faults middle.tell_faults host'.tell_faults (s ≡ TellFault) sets.tells cause

  -- the disk failed
  disk-failed-storing : result ≡ Err fault.DiskFault → StoresHealth honest agent text DiskFault host middle
  disk-failed-storing is = record {
    at = λ h set h0 is_of.
        silent-end set h0 text host.past (TellRose host middle) (DiskRose host middle) DiskFault middle.past refl disk-apart (kept h set h0 is_of) (silent h) (sets.cause.failed is);
    quiet = λ h why refused other. absurd (free-none why (sym free ∙ refused));
    stored_for = λ e. free;
    statuses = tt;
    counts = record { tells = stayed host.tell_faults middle.tell_faults (DiskFault ≡ TellFault) sets.tells (λ e. cc); disk = disk-by DiskFault middle refl (λ e. is) (λ e. refl) };
    others = others-by middle (λ h file. refl);
    bound = sets-grow;
  }
    where
      disk-apart : DiskFault ≡ TellFault → ⊥
      disk-apart e = cc

      free : health_refusal text ≡ None
      free = subst (λ (r : Result Reply AgentFault). HealthRefusedBy (health_refusal text) r) is (sets.refused going)

  -- memory ran out
  want-storing : result ≡ Err fault.Memory → StoresHealth honest agent text Memory host middle
  want-storing is = record {
    at = λ h set h0 is_of. silent-end set h0 text host.past (TellRose host middle) (DiskRose host middle) Memory middle.past refl (apart Memory TellFault refl refl) (kept h set h0 is_of) (silent h) tt;
    quiet = λ h why refused other. absurd (other refl);
    stored_for = λ e. absurd (memory-apart e);
    statuses = tt;
    counts = record {
      tells = stayed host.tell_faults middle.tell_faults (Memory ≡ TellFault) sets.tells (λ e. cc);
      disk = disk-by Memory middle refl (λ e. cc) (λ failed. absurd (short-fault (sym is ∙ failed)));
    };
    others = others-by middle (λ h file. refl);
    bound = sets-grow;
  }
    where
      memory-apart : Memory ≡ DiskFault → ⊥
      memory-apart e = cc

  -- where it is no refusal, the disk failed, or memory ran out
  pub failed-storing : (why : AgentFault) → result ≡ Err why → ((refused : ConfigFault) → why ≡ fault.Health refused → ⊥) → StoresHealth honest agent text (agent_status why) host middle
  failed-storing why is unrefused = by why refl (subst (λ (r : Result Reply AgentFault). HealthRefusedBy (health_refusal text) r) is (sets.refused going))
    where
      by : (f : AgentFault) → why ≡ f → IsHealthRefusal (health_refusal text) f → StoresHealth honest agent text (agent_status f) host middle
      by (fault.Health refused) e reason = absurd (unrefused refused e)
      by fault.DiskFault e reason = disk-failed-storing (is ∙ ap unstored e)
      by fault.Memory e reason = want-storing (is ∙ ap unstored e)
      by other e reason = absurd reason

  -- it is refused
  module _ (why : ConfigFault) (err : result ≡ Err (fault.Health why)) (s : Status) (host' : Seen)
      (telling : TellsFault s honest why middle.past host'.past (Rose middle.tell_faults host'.tell_faults)) (cause : HasCause middle.tell_faults host'.tell_faults (s ≡ TellFault)) (stays : host'.disk_faults ≡ middle.disk_faults)
      (some : s ≡ TellFault → fault_text why ≡ [] → ⊥) where
    same : middle ≡ host
    same = (subst (λ (r : Result Reply AgentFault). IfErr r (λ (f : AgentFault). LeavesAll f → (agent' ≡ agent) × (middle ≡ host))) err sets.unchanged tt).1

    refusal-is : health_refusal text ≡ Some why
    refusal-is = subst (λ (r : Result Reply AgentFault). HealthRefusedBy (health_refusal text) r) err (sets.refused going)

    telling-here : TellsFault s honest why host.past host'.past (TellRose host host')
    telling-here = subst (λ (seen : Seen). TellsFault s honest why seen.past host'.past (Rose seen.tell_faults host'.tell_faults)) same telling

    pub refused-storing : StoresHealth honest agent text s host host'
    refused-storing = record {
      at = λ h set h0 is_of.
          fault-ends set h0 true text host.past (stands-all host.past agent set h0 is_of) ⊥ (TellRose host host') (DiskRose host host') why (ap (history_by h0 text) refusal-is) refl refusal-is honest s host'.past h some telling-here;
      quiet = λ h reason refused other. fault-told-leaves s honest why host.past host'.past (TellRose host host') telling-here h;
      stored_for = λ e. absurd (fault-told-never s honest why host.past host'.past (TellRose host host') telling-here e);
      statuses = fault-told-takers s honest why host.past host'.past (TellRose host host') telling-here;
      counts = record {
        tells = tells-by s host' cause;
        disk = disk-by s host' stays (λ e. absurd (fault-told-never s honest why host.past host'.past (TellRose host host') telling-here e)) (λ failed. absurd (other-fault why (sym err ∙ failed)));
      };
      others = λ h file other. fault-told-files s honest why host.past host'.past (TellRose host host') telling-here h file;
      bound = λ h. grows-before agent host.past host.past host'.past (idle-grows agent host.past) (fault-told-leaves s honest why host.past host'.past (TellRose host host') telling-here h);
    }

  -- it is stored
  module _ (reply : Reply) (ok : result ≡ Ok reply) (host' : Seen) (stays : host'.disk_faults ≡ middle.disk_faults) where
    abbrev longer : List Beat → List Beat
    longer h0 = health text ∷ h0

    free : health_refusal text ≡ None
    free = subst (λ (r : Result Reply AgentFault). HealthRefusedBy (health_refusal text) r) ok (sets.refused going)

    module _ (h : honest) (set : Settings) (h0 : List Beat) (is_of : IsAgentOf host.past agent set h0) where
      after : IsAgentOf middle.past agent' set (longer h0)
      after = subst (λ (r : Result Reply AgentFault). OnOk r (honest → (set : Settings) (g : List Beat) → IsAgentOf host.past agent set g → IsAgentOf middle.past agent' set (health text ∷ g))) ok sets.done h set h0 is_of

      count-is : reply.count ≡ agent'.count
      count-is = subst (λ (r : Result Reply AgentFault). IfOk r (λ (reply : Reply). reply.count ≡ agent'.count)) ok sets.number

      events-are : reply.events ≡ events_at set (longer h0)
      events-are =
          subst (λ (r : Result Reply AgentFault). IfOk r (λ (reply : Reply). honest → (set : Settings) (g : List Beat) → IsAgentOf host.past agent set g → reply.events ≡ events_at set (health text ∷ g))) ok sets.events h set h0 is_of

      abbrev reply-with : ℕ → List AlarmEvent → Reply
      reply-with count events = record { count = count; events = events }

      told-is : reply_text reply ≡ reply_text (reply-with agent'.count (events_at set (longer h0)))
      told-is = ap₂ (λ (n : ℕ) (events : List AlarmEvent). reply_text (reply-with n events)) count-is events-are

      one-more : length (longer h0) ≡ length h0 + 1
      one-more = omega arith

      output-is : told_by set h0 text (health_refusal text) ≡ reply_text reply
      output-is =
          ap (told_by set h0 text) free
          ∙ sym (told-is ∙ ap (λ (n : ℕ). reply_text (reply-with n (events_at set (longer h0)))) (after.count ∙ ap counted one-more))

      acked : IsAckedUpTo (length (longer h0)) (reply_text reply)
      acked =
          let kept = were_kept set (longer h0) after.holds.stored after.holds.are in
          subst (IsAckedUpTo (length (longer h0))) (sym told-is)
          (acked-told (length (longer h0)) agent'.count set (health text) h0 kept.beats kept.are (omega (arith, after.count)) (omega (arith, after.count)))

    pub told-storing : (honest → host'.past ≡ Told (reply_text reply) ∷ middle.past) → HasCause middle.tell_faults host'.tell_faults (Done ≡ TellFault) → StoresHealth honest agent text Done host host'
    told-storing done cause = record {
      at = λ h set h0 is_of.
          whole-end set h0 text host.past (TellRose host host') (DiskRose host host') (longer h0) (one_more (health text) h0 no_more) (ap (history_by h0 text) free) (reply_text reply) (output-is h set h0 is_of)
          (acked h set h0 is_of) middle.past (kept h set h0 is_of) (silent h) (stands-all middle.past agent' set (longer h0) (after h set h0 is_of)) host'.past (done h) (refl, free);
      quiet = λ h why refused other. absurd (free-none why (sym free ∙ refused));
      stored_for = λ e. free;
      statuses = tt;
      counts = record { tells = tells-by Done host' cause; disk = disk-by Done host' stays (λ e. cc) (λ failed. absurd (no-fault reply (sym ok ∙ failed))) };
      others = others-by host' (λ h file. ap (of file) (done h));
      bound = λ h. grows-before agent host.past middle.past host'.past (sets-grow h) (subst (LeavesFiles middle.past) (sym (done h)) (one-told middle.past (reply_text reply)));
    }

    pub cut-storing : (s : Status) → IsCutShort s honest (reply_text reply) middle.past host'.past (Rose middle.tell_faults host'.tell_faults)
        → HasCause middle.tell_faults host'.tell_faults (s ≡ TellFault) → StoresHealth honest agent text s host host'
    cut-storing s cut cause = record {
      at = λ h set h0 is_of.
          cut-end set h0 text host.past (TellRose host host') (DiskRose host host') (longer h0) (one_more (health text) h0 no_more) (ap (history_by h0 text) free) (reply_text reply) (output-is h set h0 is_of)
          (acked h set h0 is_of) middle.past (kept h set h0 is_of) (silent h) (stands-all middle.past agent' set (longer h0) (after h set h0 is_of)) honest s host'.past h (stored-some reply)
          (subst (λ (n : ℕ). IsCutShort s honest (reply_text reply) middle.past host'.past (Rose n host'.tell_faults)) sets.tells cut);
      quiet = λ h why refused other. absurd (free-none why (sym free ∙ refused));
      stored_for = λ e. free;
      statuses = cut-takers s honest (reply_text reply) middle.past host'.past (Rose middle.tell_faults host'.tell_faults) cut;
      counts = record {
        tells = tells-by s host' cause;
        disk = disk-by s host' stays (λ e. absurd (cut-stored s honest (reply_text reply) middle.past host'.past (Rose middle.tell_faults host'.tell_faults) cut e)) (λ failed. absurd (no-fault reply (sym ok ∙ failed)));
      };
      others = others-by host' (cut-leaves s honest (reply_text reply) middle.past host'.past (Rose middle.tell_faults host'.tell_faults) cut);
      bound = λ h. grows-before agent host.past middle.past host'.past (sets-grow h) (cut-written s honest (reply_text reply) middle.past host'.past (Rose middle.tell_faults host'.tell_faults) cut h);
    }

-- ---- what telling that it is stored counted
abbrev told_so : Result (Unit {0}) Status
told_so = Ok tt

pub done-cause : (old new : ℕ) → HasCause old new (told_so ≡ ended_so TellFault) → HasCause old new (Done ≡ TellFault)
done-cause old new = cause-as old new (told_so ≡ ended_so TellFault) (Done ≡ TellFault) (λ e. cc) (λ e. cc)

pub cut-cause : (s : Status) (old new : ℕ) → HasCause old new (ended_so s ≡ ended_so TellFault) → HasCause old new (s ≡ TellFault)
cut-cause s old new = cause-as old new (ended_so s ≡ ended_so TellFault) (s ≡ TellFault) (λ e. ap ended_so e) (ended-as s TellFault)
