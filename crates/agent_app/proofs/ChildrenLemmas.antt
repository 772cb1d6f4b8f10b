-- With which status a collector's run ends where nothing outside fails: that of the text of its children.
use Rattle.std.proofs.Common.{◌≡◌, ◌⊎◌, inl, inr, ℕ, ◌-◌, ◌<◌, ◌≤◌, Bool, true, false, nat_lt, List, ◌++◌, length, take, [], ℤ, Option, Some, None, Result, Ok, Err, refl, sym, ap, subst, ◌∙◌, append-nil, length-append, arith, true≢false, if◌then◌else◌}
use Rattle.std.proofs.lemmas.Bool.{cases_lt}
use Rattle.std.proofs.lemmas.Bool.Decides.{nat_tests}
use Rattle.std.proofs.lemmas.List.{length-take, take_all, take-append-le}
use Rattle.host_model.specs.Cause.{Rose}
use Rattle.host_model.specs.declared.status.Status.{Status}
use Rattle.host_model.specs.declared.status.Status.TheVariants as status
use Rattle.host_model.specs.Past.{Event}
use Rattle.host_model.specs.Spawner.{Child, Children}
use Rattle.history.specs.History.{Beat, last}
use Rattle.plugin_text.specs.declared.refusal.Refusal.{Refusal}
use Rattle.tier_settings.specs.declared.settings.Settings.{Settings}
use Rattle.line_stream.specs.Run.{input_limit}
use Rattle.plugin_runner.specs.declared.fault.RunFault.{RunFault}
use Rattle.plugin_runner.specs.declared.fault.RunFault.TheVariants as fault
use Rattle.plugin_runner.specs.declared.fault.Turn.{Turn}
use Rattle.plugin_runner.specs.declared.fault.Turn.TheVariants as turn
use Rattle.plugin_runner.specs.Bytes.{bytes_of, IsPrefix}
use Rattle.plugin_runner.specs.Collected.{HasTurned}
use Rattle.plugin_runner.specs.Course.{answer_after, new_course, text_of, IsTold}
use Rattle.plugin_runner.specs.Runner.{if_lasting}
use Rattle.plugin_runner.proofs.TurnsLemmas.{turned_prefix, turned_whole}
use Rattle.agent_app.specs.declared.collect.Collector.{Collector}
use Rattle.agent_app.specs.Collect.{answer_status, collect_status, lines_status, text_status, whole_answer, whole_text, Collects, EndsAsChildren, HasCollectCause, HasHeard, HasMadeAll, IsDisabling, Outside}
use Rattle.agent_app.specs.Convert.{ending_status, refusal_status}
use Rattle.agent_app.specs.Reading.{Ending, Ends, GoesOn, RefusedAt}
use Rattle.agent_app.specs.Run.{run_reading, run_rules}
use Rattle.agent_app.proofs.HasReadLemmas.{ending-onward, take-append_past}

-- ---- a prefix of a text up to a limit
prefix-within : (limit : ℕ) (told more : List ℕ) → (behind : List ℕ) × (take limit (told ++ more) ≡ take limit told ++ behind)
prefix-within limit told more =
    elim (cases_lt (length told) limit) [
      | inl less ↦ (
        take (limit - length told) more,
        take-append_past limit told more (omega (arith, less)) ∙ ap (λ (t : List ℕ). t ++ take (limit - length told) more) (sym (take_all limit told (omega (arith, less)))),
      )
      | inr not_less ↦ ([], take-append-le limit told more (omega (arith, not_less)) ∙ sym (append-nil (take limit told)))
    ]

full-within : (limit : ℕ) (told more : List ℕ) → length (take limit told) ≡ limit → (take limit (told ++ more) ≡ take limit told) × (nat_lt (length (told ++ more)) limit ≡ false)
full-within limit told more full =
    let size : limit ≤ length told = omega (arith, full, length-take limit told) in
    let longer : limit ≤ length (told ++ more) = omega (arith, size, length-append told more) in
    (take-append-le limit told more size, grind (arith, nat_tests))

all-within : (limit : ℕ) (told : List ℕ) → length (take limit told) < limit → take limit told ≡ told
all-within limit told below = take_all limit told (omega (arith, below, length-take limit told))

below-test : (limit size : ℕ) → size < limit → nat_lt size limit ≡ true
below-test limit size below = grind (arith, nat_tests)

-- ---- the status of a text
module _ (every : ℕ) (set : Settings) (h0 : List Beat) where
  abbrev ending_of : Bool → List ℕ → Ending Refusal
  ending_of ended text = (run_reading every set h0 ended text).ending

  abbrev at_end_of : List ℕ → Option (Result Turn RunFault) → Status
  at_end_of whole answer = if nat_lt (length whole) input_limit then answer_status answer (ending_of true whole) else status.InputLimit

  -- one of whose prefix the reading is over
  text-over : (told more : List ℕ) (answer : Option (Result Turn RunFault)) (ending : Ending Refusal) → (ending ≡ GoesOn → ⊥) → ending_of false (take input_limit told) ≡ ending
      → text_status every set h0 (told ++ more) answer ≡ lines_status ending (at_end_of (told ++ more) answer)
  text-over told more answer ending over is =
      let prefix = prefix-within input_limit told more in
      ap (λ (e : Ending Refusal). lines_status e (at_end_of (told ++ more) answer))
      (ap (ending_of false) prefix.1 ∙ ending-onward (run_rules every set h0) false ending over (take input_limit told) prefix.0 is)

  -- one whose prefix fills the limit
  text-full : (told more : List ℕ) (answer : Option (Result Turn RunFault)) → length (take input_limit told) ≡ input_limit → ending_of false (take input_limit told) ≡ GoesOn
      → text_status every set h0 (told ++ more) answer ≡ status.InputLimit
  text-full told more answer size goes =
      let full = full-within input_limit told more size in
      ap (λ (e : Ending Refusal). lines_status e (at_end_of (told ++ more) answer)) (ap (ending_of false) full.0 ∙ goes)
      ∙ ap (λ (b : Bool). if b then answer_status answer (ending_of true (told ++ more)) else status.InputLimit) full.1

  -- one below the limit, whose lines are all read
  text-below : (whole : List ℕ) (answer : Option (Result Turn RunFault)) → length whole < input_limit → ending_of false whole ≡ GoesOn → text_status every set h0 whole answer ≡ answer_status answer (ending_of true whole)
  text-below whole answer below goes =
      ap (λ (e : Ending Refusal). lines_status e (at_end_of whole answer)) (ap (ending_of false) (take_all input_limit whole (omega (arith, below))) ∙ goes)
      ∙ ap (λ (b : Bool). if b then answer_status answer (ending_of true whole) else status.InputLimit) (below-test input_limit (length whole) below)

disabled-by : (answer : Result Turn RunFault) → IsDisabling answer → (exit : Option ℤ) × (answer ≡ Err (fault.Disabled exit))
disabled-by (Err (fault.Disabled exit)) is = (exit, refl)
disabled-by (Err fault.SpawnFault) is = absurd is
disabled-by (Err fault.PipeFault) is = absurd is
disabled-by (Err fault.Memory) is = absurd is
disabled-by (Ok end) is = absurd is

abbrev goes_on : Ending Refusal
goes_on = GoesOn

refused-over : (line : ℕ) (why : Refusal) → RefusedAt line why ≡ goes_on → ⊥
refused-over line why e = cc

ends-over : Ends ≡ goes_on → ⊥
ends-over e = cc

-- ---- a collector's run over a spawner that tells the children to come
module _ (asked : Collector) (set : Settings) (h0 : List Beat) (outside outside' : Outside) (begun : List (List (List ℕ))) (coming : List Child)
    (tells : outside.children ≡ Some (record { starts = begun; running = None; coming = coming })) (taken : List ℕ) (heard : HasHeard asked (last h0) outside outside' taken) where
  abbrev ending_is : Bool → Ending Refusal
  ending_is ended = (run_reading asked.every set h0 ended taken).ending

  abbrev AtEnd : Type 0
  AtEnd = (heard.answer ≡ Ok turn.Ended) × HasMadeAll asked.starts heard.course.children × (length taken < input_limit) × (ending_is false ≡ GoesOn)

  abbrev Turned : Option Children → Type 0
  Turned before = HasTurned heard.answer (new_course asked.words asked.every asked.starts (last h0)) heard.course before outside'.children outside.readings outside'.readings

  turned : Turned (Some (record { starts = begun; running = None; coming = coming }))
  turned = subst Turned tells heard.turned

  -- whatever the clock gives later
  module _ (later : List ℕ) where
    abbrev whole : List ℕ
    whole = bytes_of (whole_text asked (last h0) (heard.course.readings ++ later) coming)

    abbrev answered : Option (Result Turn RunFault)
    answered = whole_answer asked (last h0) (heard.course.readings ++ later) coming

    abbrev those : Status
    those = collect_status asked set h0 (heard.course.readings ++ later) coming

    prefix : IsPrefix heard.course.told whole
    prefix = turned_prefix coming asked.words asked.every asked.starts (last h0) begun heard.course heard.answer outside'.children outside.readings outside'.readings turned later

    status-of : (t : List ℕ) → whole ≡ t → those ≡ text_status asked.every set h0 t answered
    status-of t is = ap (λ (w : List ℕ). text_status asked.every set h0 w answered) is

    taken-is : (ended : Bool) → (run_reading asked.every set h0 ended (take input_limit heard.course.told)).ending ≡ ending_is ended
    taken-is ended = ap (λ (t : List ℕ). (run_reading asked.every set h0 ended t).ending) (sym heard.takes)

    -- the reading of what was taken is over
    over-status : (ending : Ending Refusal) → (ending ≡ GoesOn → ⊥) → ending_is false ≡ ending → those ≡ lines_status ending (at_end_of asked.every set h0 (heard.course.told ++ prefix.0) answered)
    over-status ending over is =
        status-of (heard.course.told ++ prefix.0) prefix.1 ∙ text-over asked.every set h0 heard.course.told prefix.0 answered ending over (taken-is false ∙ is)

    -- it fills the limit
    full-status : length taken ≡ input_limit → ending_is false ≡ GoesOn → those ≡ status.InputLimit
    full-status size goes =
        status-of (heard.course.told ++ prefix.0) prefix.1 ∙ text-full asked.every set h0 heard.course.told prefix.0 answered (ap length (sym heard.takes) ∙ size) (taken-is false ∙ goes)

    -- the last turn came to an end of the text, and all of it was taken
    module _ (below : length taken < input_limit) (answer : Result Turn RunFault) (told : heard.course.told ≡ bytes_of (text_of heard.course later)) (is : Some answer ≡ answer_after heard.course.starts (text_of heard.course later) heard.course.children) where
      at-whole : (text_of heard.course later ≡ whole_text asked (last h0) (heard.course.readings ++ later) coming) × (answered ≡ Some answer)
      at-whole = turned_whole coming asked.words asked.every asked.starts (last h0) begun heard.course heard.answer outside'.children outside.readings outside'.readings turned answer later (sym is)

      all-taken : taken ≡ whole
      all-taken =
          let size : length (take input_limit heard.course.told) < input_limit = subst (λ (t : List ℕ). length t < input_limit) heard.takes below in
          heard.takes ∙ all-within input_limit heard.course.told size ∙ told ∙ ap bytes_of at-whole.0

      below-status : ending_is false ≡ GoesOn → those ≡ answer_status (Some answer) (ending_is true)
      below-status goes =
          status-of taken (sym all-taken) ∙ text-below asked.every set h0 taken answered below goes ∙ ap (λ (a : Option (Result Turn RunFault)). answer_status a (ending_is true)) at-whole.1

    ended-status : AtEnd → those ≡ ending_status (ending_is true)
    ended-status at =
        let says : IsTold (Some (Ok turn.Ended)) heard.course (text_of heard.course later) = subst (λ (a : Result Turn RunFault). IsTold (if_lasting a) heard.course (text_of heard.course later)) at.0 (turned.tells later) in
        below-status at.2 (Ok turn.Ended) says.0 says.1 at.3

    disabled-status : IsDisabling heard.answer → length taken < input_limit → ending_is false ≡ GoesOn → those ≡ status.Disabled
    disabled-status disables below goes =
        let why = disabled-by heard.answer disables in
        let says : IsTold (Some (Err (fault.Disabled why.0))) heard.course (text_of heard.course later) = subst (λ (a : Result Turn RunFault). IsTold (if_lasting a) heard.course (text_of heard.course later)) why.1 (turned.tells later) in
        below-status below (Err (fault.Disabled why.0)) says.0 says.1 goes

    refused-status : (ended : Bool) → (ended ≡ true → AtEnd) → (line : ℕ) (why : Refusal) → ending_is ended ≡ RefusedAt line why → those ≡ refusal_status line why
    refused-status true at line why is = ended-status (at refl) ∙ ap ending_status is
    refused-status false at line why is = over-status (RefusedAt line why) (refused-over line why) is

    done-status : (ended : Bool) → (ended ≡ true → AtEnd) → ended ≡ true → ending_is ended ≡ Ends → those ≡ status.Ok
    done-status true at by_end is = ended-status (at refl) ∙ ap ending_status is
    done-status false at by_end is = absurd (true≢false (sym by_end))

  -- by why it ended
  module _ (ended : Bool) (at : ended ≡ true → AtEnd) (spawn_rose tell_rose disk_rose : Type 0) (no_spawn : spawn_rose → ⊥) (no_tell : tell_rose → ⊥) (no_disk : disk_rose → ⊥) where
    of-text : (s : Status) → ((later : List ℕ) → those later ≡ s) → EndsAsChildren s asked set h0 outside outside' coming
    of-text s is = inr (heard.course.readings, turned.reads, λ later. sym (is later))

    unended : (goes : ended ≡ false) (ending : Ending Refusal) → ending_is ended ≡ ending → ending_is false ≡ ending
    unended goes ending is = subst (λ (e : Bool). ending_is e ≡ ending) goes is

    by-cause : (s : Status) → HasCollectCause s heard.answer ended (ending_is ended) taken spawn_rose tell_rose disk_rose → EndsAsChildren s asked set h0 outside outside' coming
    by-cause status.Ok has = of-text status.Ok (λ later. done-status later ended at has.0 has.1)
    by-cause (status.Refused line number) has = of-text (status.Refused line number) (λ later. refused-status later ended at line has.0 has.1 ∙ sym has.2)
    by-cause (status.Limit line number) has = of-text (status.Limit line number) (λ later. refused-status later ended at line has.0 has.1 ∙ sym has.2)
    by-cause status.TellFault has = absurd (no_tell has)
    by-cause status.DiskFault has = absurd (no_disk has)
    by-cause status.SpawnFault has = absurd (no_spawn has.4)
    by-cause status.ReadFault has = absurd has.2
    by-cause status.InputLimit has = of-text status.InputLimit (λ later. full-status later has.2 (unended has.0 GoesOn has.1))
    by-cause status.Memory has = inl refl
    by-cause status.Disabled has = by has.1
      where
        by : (ending_is ended ≡ Ends) ⊎ ((ending_is ended ≡ GoesOn) × IsDisabling heard.answer × (length taken < input_limit)) → EndsAsChildren status.Disabled asked set h0 outside outside' coming
        by (inl ends) = of-text status.Disabled (λ later. over-status later Ends ends-over (unended has.0 Ends ends))
        by (inr (goes, disables, below)) = of-text status.Disabled (λ later. disabled-status later disables below (unended has.0 GoesOn goes))
    by-cause s has = absurd has

pub ends-as-children : (s : Status) (asked : Collector) (set : Settings) (h0 : List Beat) (outside outside' : Outside) (old new : List Event) (tell_rose disk_rose : Type 0)
    → Collects s asked set h0 outside outside' old new tell_rose disk_rose → (begun : List (List (List ℕ))) (coming : List Child)
    → outside.children ≡ Some (record { starts = begun; running = None; coming = coming }) → (Rose outside.spawn_faults outside'.spawn_faults → ⊥) → (tell_rose → ⊥) → (disk_rose → ⊥)
    → EndsAsChildren s asked set h0 outside outside' coming
ends-as-children s asked set h0 outside outside' old new tell_rose disk_rose collects begun coming tells no_spawn no_tell no_disk =
    by-cause asked set h0 outside outside' begun coming tells collects.taken collects.heard collects.ended collects.at_end (Rose outside.spawn_faults outside'.spawn_faults) tell_rose disk_rose no_spawn no_tell no_disk s
    collects.cause
