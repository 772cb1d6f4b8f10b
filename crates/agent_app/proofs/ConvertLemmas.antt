-- A run that tells the points of a text, as a whole.
use Rattle.std.proofs.Common.{◌≡◌, ℕ, ◌-◌, ◌<◌, ◌≤◌, Bool, true, false, nat_lt, List, [], ◌∷◌, ◌++◌, length, take, Option, Some, None, IfSome, ◌⊎◌, inl, inr, refl, ap, sym, subst, ◌∙◌, append_assoc, append-nil, string_bytes, arith, if◌then◌else◌}
use Rattle.std.proofs.lemmas.List.Elements.{All-pop}
use Rattle.host_model.specs.Cause.{HasCause, Rose}
use Rattle.host_model.specs.Past.{Event, told, TellsPrefix}
use Rattle.host_model.specs.Source.{Takes as TakesBytes}
use Rattle.host_model.specs.declared.status.Status.{Status}
use Rattle.host_model.specs.declared.status.Status.TheVariants.{Ok as Done, Refused, Limit, ReadFault, TellFault, InputLimit, Memory}
use Rattle.line_stream.specs.Chain.{Chain, begins, goes_on, pauses, HasPaused, not_begun, after_pause}
use Rattle.line_stream.specs.Run.{input_limit, Ended, at_line, at_pause, at_long_line, at_end, at_fault, at_limit, at_want, TookAll}
use Rattle.line_stream.proofs.RunLemmas.{rose-later}
use Rattle.plugin_text.specs.Lines.{fits, lines, parts, rest, HasNoLongLine}
use Rattle.plugin_text.proofs.LongLemmas.{IsLongAfter-append}
use Rattle.plugin_text.proofs.PartsLemmas.{parts_first, parts_whole, parts-append}
use Rattle.plugin_text.specs.declared.refusal.Refusal.{Refusal}
use Rattle.plugin_text.specs.Refusal.{refusal_number}
use Rattle.agent_app.specs.declared.converting.Converting.{Converting}
use Rattle.host_model.specs.Seen.{Seen}
use Rattle.agent_app.specs.Convert.{all_told, converted, ending_status, is_limit, output_of, point_rules, status_of, status_within, tells_all, Converts, EndsAsText, HasStatusCause, IsUnasked, LeavesDisk}
use Rattle.agent_app.specs.Converting.{converting_acts, Ends, EndsAs, EndsIn, HasConverted, HasRun, IsFinal, TellsLast}
use Rattle.agent_app.specs.Reading.{Ending, Ends as IsOver, GoesOn, RefusedAt, Reading, reading}
use Rattle.agent_app.proofs.CauseLemmas.{apart, cause-as, ending-inside, is_outside, stayed, stayed-before, stayed-behind}
use Rattle.agent_app.proofs.LeavesLemmas.{leaves-both, leaves-none}
use Rattle.agent_app.proofs.ConvertingLemmas.{both-none, later-unasked, no_memory, rose-sooner}
use Rattle.agent_app.proofs.HasReadLemmas.{ending_within, line-onward, read-open, take-append_past, within-ended, within-limit}

-- ---- why a run ended

-- a refusal is why a run ends with its status
refusal-cause : (limit : Bool) (line : ℕ) (why : Refusal) (ended : Bool) (text : List ℕ) (source_rose tell_rose : Type 0) → is_limit why ≡ limit
    → HasStatusCause (if limit then Limit line (refusal_number why) else Refused line (refusal_number why)) ended (RefusedAt line why) text source_rose tell_rose
refusal-cause true line why ended text source_rose tell_rose is = (why, refl, rw is refl)
refusal-cause false line why ended text source_rose tell_rose is = (why, refl, rw is refl)

-- an ending is why a run ends with its status
final-cause : (ending : Ending Refusal) (ended : Bool) (text : List ℕ) (source_rose tell_rose : Type 0) → IsFinal ending → HasStatusCause (ending_status ending) ended ending text source_rose tell_rose
final-cause GoesOn ended text source_rose tell_rose final = absurd final
final-cause IsOver ended text source_rose tell_rose final = refl
final-cause (RefusedAt line why) ended text source_rose tell_rose final = refusal-cause (is_limit why) line why ended text source_rose tell_rose refl

ended-cause : (status : Status) (ending : Ending Refusal) (ended : Bool) (text : List ℕ) (source_rose tell_rose : Type 0) → EndsAs status ending tell_rose → HasStatusCause status ended ending text source_rose tell_rose
ended-cause status ending ended text source_rose tell_rose (inl (final, is)) = rw is (final-cause ending ended text source_rose tell_rose final)
ended-cause status ending ended text source_rose tell_rose (inr (inl (is, rose))) = rw is rose
ended-cause status ending ended text source_rose tell_rose (inr (inr is)) = rw is tt

-- no such run ends because the source failed
ended-unread : (status : Status) (ending : Ending Refusal) (tell_rose : Type 0) → EndsAs status ending tell_rose → status ≡ ReadFault → ⊥
ended-unread status ending tell_rose (inl (final, is)) e = apart status ReadFault (ap is_outside is ∙ ending-inside ending) refl e
ended-unread status ending tell_rose (inr (inl (is, rose))) e = cc
ended-unread status ending tell_rose (inr (inr is)) e = cc

ended-status : (status : Status) (ending : Ending Refusal) (tell_rose : Type 0) → EndsAs status ending tell_rose → (tell_rose → ⊥) → (status ≡ ending_status ending) ⊎ (status ≡ Memory)
ended-status status ending tell_rose (inl (final, is)) tell = inl is
ended-status status ending tell_rose (inr (inl (is, rose))) tell = absurd (tell rose)
ended-status status ending tell_rose (inr (inr is)) tell = inr is

-- why a run ended does not hang on when a telling failed
later-cause : (status : Status) (ended : Bool) (ending : Ending Refusal) (text : List ℕ) (source_rose tell_rose tell_rose' : Type 0) → (tell_rose → tell_rose')
    → HasStatusCause status ended ending text source_rose tell_rose → HasStatusCause status ended ending text source_rose tell_rose'
later-cause Done ended ending text source_rose tell_rose tell_rose' tell cause = cause
later-cause (Refused line number) ended ending text source_rose tell_rose tell_rose' tell cause = cause
later-cause (Limit line number) ended ending text source_rose tell_rose tell_rose' tell cause = cause
later-cause ReadFault ended ending text source_rose tell_rose tell_rose' tell cause = cause
later-cause TellFault ended ending text source_rose tell_rose tell_rose' tell cause = tell cause
later-cause InputLimit ended ending text source_rose tell_rose tell_rose' tell cause = cause
later-cause Memory ended ending text source_rose tell_rose tell_rose' tell cause = tt
later-cause _ ended ending text source_rose tell_rose tell_rose' tell cause = absurd cause

-- ---- the last that is told

module _ (result status : Status) (honest : Type 0) (waiting : List ℕ) (left left' : Option (List ℕ)) (past past' past'' : List Event) (sf sf' tf tf' tf'' : ℕ)
    (run : HasRun status honest waiting left left' past past' sf sf' tf tf') (last : TellsLast result status honest waiting past' past'' tf' tf'') where
  told-output : (all : Bool) → tells_all status ≡ all → honest → TellsPrefix (tells_all result) (output_of run.ended run.taken) past past''
  told-output true all is_honest =
      let before = run.leaves.tells is_honest in
      let after = last.tells all is_honest in
      record {
        said = before.sent ++ after.said;
        unsaid = after.unsaid;
        whole = before.whole ∙ ap (λ (bytes : List ℕ). before.sent ++ bytes) (before.all all ∙ after.whole) ∙ sym (append_assoc before.sent after.said after.unsaid);
        tells = after.tells ∙ ap (λ (bytes : List ℕ). bytes ++ after.said) before.tells ∙ append_assoc (told past) before.sent after.said;
        complete = after.complete;
      }
  told-output false all is_honest =
      let before = run.leaves.tells is_honest in
      record {
        said = before.sent;
        unsaid = before.unsent;
        whole = before.whole;
        tells = ap told (last.failed all).1.0 ∙ before.tells;
        complete = λ whole. let same = (last.failed all).0 in cc;
      }

  told-silent : (all : Bool) → tells_all status ≡ all → output_of run.ended run.taken ≡ [] → IsUnasked past past'' tf tf''
  told-silent true all none = later-unasked past past' past'' tf tf' tf'' (run.leaves.silent none) (last.silent (run.leaves.waits none all)).1
  told-silent false all none = later-unasked past past' past'' tf tf' tf'' (run.leaves.silent none) (last.failed all).1

  -- the count of the output rose no less
  last-later : (all : Bool) → tells_all status ≡ all → tf' ≤ tf''
  last-later true all = (last.count all).later
  last-later false all = omega (arith, (last.failed all).1.1)

  last-up : tf' ≤ tf''
  last-up = last-later (tells_all status) refl

  told-cause : (result ≡ status) ⊎ ((result ≡ TellFault) × Rose tf' tf'') → HasStatusCause result run.ended (converted run.ended run.taken).ending run.taken (Rose sf sf') (Rose tf tf'')
  told-cause (inl is) =
      rw is (later-cause status run.ended (converted run.ended run.taken).ending run.taken (Rose sf sf') (Rose tf tf') (Rose tf tf'') (λ rose. rose-sooner tf tf' tf'' rose last-up) run.cause)
  told-cause (inr (is, rose)) = rw is (rose-later tf tf' tf'' run.leaves.count.later last-up rose)

  -- the source failed in the run, and behind it nothing was told
  last-read : (result ≡ status) ⊎ ((result ≡ TellFault) × Rose tf' tf'') → result ≡ ReadFault → status ≡ ReadFault
  last-read (inl is) read = sym is ∙ read
  last-read (inr (is, rose)) read = cc

  told-read : sf ≤ sf' → ((status ≡ ReadFault → ⊥) → sf' ≡ sf) → HasCause sf sf' (result ≡ ReadFault)
  told-read later stays =
      cause-as sf sf' (status ≡ ReadFault) (result ≡ ReadFault) (last-read last.cause) (λ is. (last.silent (run.read is).1).0 ∙ is)
      (record {
        later = later;
        failed = λ is.
            (subst (λ (s : Status). HasStatusCause s run.ended (converted run.ended run.taken).ending run.taken (Rose sf sf') (Rose tf tf')) is run.cause).2;
        stays = stays;
      })

  -- the output failed in the run, or as the last was told
  told-count : (all : Bool) → tells_all status ≡ all → HasCause tf tf'' (result ≡ TellFault)
  told-count true all = stayed-before tf tf' tf'' (result ≡ TellFault) (run.leaves.count.stays (λ is. cc)) (last.count all)
  told-count false all =
      let failed = last.failed all in
      stayed-behind tf tf' tf'' (result ≡ TellFault) failed.1.1
      (subst (λ (s : Status). HasCause tf tf' (s ≡ TellFault)) (sym failed.0) run.leaves.count)

  pub Converts-told : sf ≤ sf' → ((status ≡ ReadFault → ⊥) → sf' ≡ sf) → Converts result honest left left' past past'' sf sf' tf tf''
  Converts-told later stays = record {
    taken = run.taken;
    ended = run.ended;
    takes = run.takes;
    within = run.within;
    at_end = run.at_end;
    output = told-output (tells_all status) refl;
    silent = told-silent (tells_all status) refl;
    cause = told-cause last.cause;
    read = λ is. (run.read (last-read last.cause is)).0;
    read_cause = told-read later stays;
    tell_cause = told-count (tells_all status) refl;
  }

  told-status : (expected : Status) → (result ≡ status) ⊎ ((result ≡ TellFault) × Rose tf' tf'') → (status ≡ expected) ⊎ (status ≡ Memory) → (Rose tf tf'' → ⊥) → (result ≡ expected) ⊎ (result ≡ Memory)
  told-status expected (inl is) (inl same) tell = inl (is ∙ same)
  told-status expected (inl is) (inr none) tell = inr (is ∙ none)
  told-status expected (inr (is, rose)) whole tell = absurd (tell (rose-later tf tf' tf'' run.leaves.count.later last-up rose))

-- what a source that tells has left, it had behind what was taken
Takes-some : (text taken : List ℕ) (left : Option (List ℕ)) → TakesBytes (Some text) taken left → (more : List ℕ) × (left ≡ Some more) × (text ≡ taken ++ more)
Takes-some text taken None takes = cc
Takes-some text taken (Some more) takes = (more, refl, cc)

pub EndsAsText-told : (result status : Status) (honest : Type 0) (waiting : List ℕ) (left left' : Option (List ℕ)) (past past' past'' : List Event) (sf sf' tf tf' tf'' : ℕ)
    (run : HasRun status honest waiting left left' past past' sf sf' tf tf') (last : TellsLast result status honest waiting past' past'' tf' tf'') → EndsAsText result left sf sf' tf tf''
EndsAsText-told result status honest waiting None left' past past' past'' sf sf' tf tf' tf'' run last = tt
EndsAsText-told result status honest waiting (Some text) left' past past' past'' sf sf' tf tf' tf'' run last = λ no_source no_tell.
    let found = Takes-some text run.taken left' run.takes in
    subst (λ (all : List ℕ). (result ≡ status_of all) ⊎ (result ≡ Memory)) (sym found.2)
    (told-status result status honest waiting (Some text) left' past past' past'' sf sf' tf tf' tf'' run last (status_of (run.taken ++ found.0)) last.cause
    (run.whole found.0 found.1 no_source (λ rose. no_tell (rose-sooner tf tf' tf'' rose (last-up result status honest waiting (Some text) left' past past' past'' sf sf' tf tf' tf'' run last)))) no_tell)

-- ---- the status of the whole text

status-stopped : (limit : ℕ) (status : Status) (honest : Type 0) (waiting text : List ℕ) (past past' : List Event) (tf tf' : ℕ)
    → ((ended : Bool) (behind : List ℕ) → EndsIn status honest waiting (converted ended (text ++ behind)) past past' tf tf') → length text ≤ limit → (more : List ℕ) → (Rose tf tf' → ⊥)
    → (status ≡ status_within limit (text ++ more)) ⊎ (status ≡ Memory)
status-stopped limit status honest waiting text past past' tf tf' stops within more tell =
    let ended = nat_lt (length (text ++ more)) limit in
    let bytes = take (limit - length text) more in
    let P : List ℕ → Type 0 = λ taken. (status ≡ ending_status (converted ended taken).ending) ⊎ (status ≡ Memory) in
    subst P (sym (take-append_past limit text more within)) (ended-status status (converted ended (text ++ bytes)).ending (Rose tf tf') (stops ended bytes).cause tell)

status-ended : (limit : ℕ) (text : List ℕ) → length text < limit → status_within limit text ≡ ending_status (converted true text).ending
unfolding ending_within
status-ended limit text within = ap ending_status (within-ended point_rules limit text (converted true text) refl within)

status-limit : (limit : ℕ) (text said more : List ℕ) → converted false text ≡ record { told = said; ending = GoesOn } → length text ≡ limit → status_within limit (text ++ more) ≡ InputLimit
unfolding ending_within
status-limit limit text said more whole full = ap ending_status (within-limit point_rules limit text said more whole full)

-- nothing is left behind the end
nothing_left : (left : Option (List ℕ)) (more : List ℕ) → IfSome left (λ bytes. bytes ≡ []) → left ≡ Some more → more ≡ []
nothing_left None more none is = cc
nothing_left (Some bytes) more none is = cc

-- why a run ended whose text may go on
open-cause : (status : Status) (text : List ℕ) (ending : Ending Refusal) (tell_rose : Type 0) (sf sf' : ℕ) → ending ≡ GoesOn → ((status ≡ ReadFault) × Rose sf sf') ⊎ ((status ≡ InputLimit) × (length text ≡ input_limit))
    → HasStatusCause status false ending text (Rose sf sf') tell_rose
open-cause status text ending tell_rose sf sf' still (inl (is, rose)) = rw is (refl, still, rose)
open-cause status text ending tell_rose sf sf' still (inr (is, full)) = rw is (refl, still, full)

open-untold : (status : Status) (text : List ℕ) (sf sf' : ℕ) → ((status ≡ ReadFault) × Rose sf sf') ⊎ ((status ≡ InputLimit) × (length text ≡ input_limit)) → status ≡ TellFault → ⊥
open-untold status text sf sf' (inl (is, rose)) e = cc
open-untold status text sf sf' (inr (is, full)) e = cc

open-status : (status : Status) (text said more : List ℕ) (sf sf' : ℕ) → converted false text ≡ record { told = said; ending = GoesOn } → ((status ≡ ReadFault) × Rose sf sf') ⊎ ((status ≡ InputLimit) × (length text ≡ input_limit))
    → (Rose sf sf' → ⊥) → (status ≡ status_of (text ++ more)) ⊎ (status ≡ Memory)
open-status status text said more sf sf' whole (inl (is, rose)) source = absurd (source rose)
open-status status text said more sf sf' whole (inr (is, full)) source = inl (is ∙ sym (status-limit input_limit text said more whole full))

-- ---- the run over the lines

-- what follows the last line feed is not too long
rest-fits : (text : List ℕ) → HasNoLongLine text → fits (rest text) ≡ true
rest-fits text short = (All-pop (λ (part : List ℕ). fits part ≡ true) (parts text) (lines text) (Some (rest text)) (parts_whole text) short).1

-- something follows the lines
some_next : (left : List (List ℕ)) (first : List ℕ) (others : List (List ℕ)) → (next : List ℕ) × (more : List (List ℕ)) × (left ++ first ∷ others ≡ next ∷ more)
some_next [] first others = (first, others, refl)
some_next (next ∷ left) first others = (next, left ++ first ∷ others, refl)

-- the parts of a text that goes on after these lines
parts-onward : (text : List ℕ) (prefix left : List (List ℕ)) (behind : List ℕ) → lines text ≡ prefix ++ left → (next : List ℕ) × (more : List (List ℕ)) × (parts (text ++ behind) ≡ prefix ++ next ∷ more)
parts-onward text prefix left behind whole =
    let ahead = parts_first (rest text ++ behind) in
    let some = some_next left ahead.0 ahead.1 in (
      some.0,
      some.1,
      parts-append text behind ∙ ap (λ (l : List (List ℕ)). l ++ parts (rest text ++ behind)) whole ∙ ap (λ (l : List (List ℕ)). (prefix ++ left) ++ l) ahead.2
          ∙ append_assoc prefix left (ahead.0 ∷ ahead.1) ∙ ap (λ (l : List (List ℕ)). prefix ++ l) some.2,
    )

module _ {H : Type 0} (honest : Type 0) (seen : H → Seen) where
  module _ (start : Converting) (begin : H) (fresh : HasConverted start honest [] (seen begin).past (seen begin).past (seen begin).tell_faults (seen begin).tell_faults)
      (none : string_bytes start.out ≡ []) where
    -- behind a pause nothing waits
    paused-out : (converting : Converting) (host : H) → HasPaused (converting_acts honest seen) start begin converting host → string_bytes converting.out ≡ []
    paused-out converting host not_begun = none
    paused-out converting host (after_pause old new host' host'' paused) = paused.2

    -- all lines of a chain were taken
    chain-converted : (prefix : List (List ℕ)) (converting : Converting) (host : H) → Chain (converting_acts honest seen) start begin prefix converting host
        → HasConverted converting honest prefix (seen begin).past (seen host).past (seen begin).tell_faults (seen host).tell_faults
    chain-converted prefix converting host begins = fresh
    chain-converted prefix converting host (goes_on before line old new host' host'' chain takes) =
        takes.0 (seen begin).past (seen begin).tell_faults before (chain-converted before old host' chain) refl
    chain-converted prefix converting host (pauses before old new host' host'' chain takes) =
        takes.0 (seen begin).past (seen begin).tell_faults before (chain-converted before old host' chain)

    module _ (status : Status) (converting : Converting) (host : H) (left left' : Option (List ℕ)) (sf sf' : ℕ) (text : List ℕ) (took_bytes : TakesBytes left text left') (within : length text ≤ input_limit) where
      -- the run ended in the text, however that goes on
      run-stopped : ((ended : Bool) (behind : List ℕ) → EndsIn status honest (string_bytes converting.out) (converted ended (text ++ behind)) (seen begin).past (seen host).past (seen begin).tell_faults (seen host).tell_faults)
          → HasRun status honest (string_bytes converting.out) left left' (seen begin).past (seen host).past sf sf' (seen begin).tell_faults (seen host).tell_faults
      run-stopped stops =
          let here = subst (λ (bytes : List ℕ). EndsIn status honest (string_bytes converting.out) (converted false bytes) (seen begin).past (seen host).past (seen begin).tell_faults (seen host).tell_faults) (append-nil text) (stops false []) in
          record {
            taken = text;
            ended = false;
            takes = took_bytes;
            within = within;
            at_end = λ ended. cc;
            read = λ is. absurd (ended-unread status (converted false text).ending (Rose (seen begin).tell_faults (seen host).tell_faults) here.cause is);
            leaves = here.leaves;
            cause = ended-cause status (converted false text).ending false text (Rose sf sf') (Rose (seen begin).tell_faults (seen host).tell_faults) here.cause;
            whole = λ more left_is source tell.
                status-stopped input_limit status honest (string_bytes converting.out) text (seen begin).past (seen host).past (seen begin).tell_faults (seen host).tell_faults stops within more tell;
          }

      -- the parts of the text, however that goes on, are such that the run ended
      run-stopped_at : ((ended : Bool) (behind : List ℕ) → (all : List (List ℕ)) × (parts (text ++ behind) ≡ all)
          × EndsIn status honest (string_bytes converting.out) (reading point_rules ended [] all) (seen begin).past (seen host).past (seen begin).tell_faults (seen host).tell_faults)
          → HasRun status honest (string_bytes converting.out) left left' (seen begin).past (seen host).past sf sf' (seen begin).tell_faults (seen host).tell_faults
      run-stopped_at stops = run-stopped (λ ended behind.
          let stop = stops ended behind in
          subst (λ (all : List (List ℕ)). EndsIn status honest (string_bytes converting.out) (reading point_rules ended [] all) (seen begin).past (seen host).past (seen begin).tell_faults (seen host).tell_faults) (sym stop.1) stop.2)

      -- all lines were taken, and the text may go on
      run-open : TookAll (converting_acts honest seen) start begin text converting host → ((status ≡ ReadFault) × Rose sf sf') ⊎ ((status ≡ InputLimit) × (length text ≡ input_limit))
          → (status ≡ ReadFault → (length text < input_limit) × (string_bytes converting.out ≡ []))
          → HasRun status honest (string_bytes converting.out) left left' (seen begin).past (seen host).past sf sf' (seen begin).tell_faults (seen host).tell_faults
      run-open took why read =
          let has = chain-converted (lines text) converting host took.chain in
          let whole = read-open point_rules (lines text) has.said (has.sent ++ string_bytes converting.out) has.read text refl (rest-fits text took.short) in
          let output : output_of false text ≡ has.sent ++ string_bytes converting.out = ap all_told whole ∙ append-nil (has.sent ++ string_bytes converting.out) in
          record {
            taken = text;
            ended = false;
            takes = took_bytes;
            within = within;
            at_end = λ ended. cc;
            read = read;
            leaves = record {
              tells = λ is_honest. record { sent = has.sent; unsent = string_bytes converting.out; whole = output; tells = has.told.tells is_honest; all = λ all. refl };
              silent = λ none. has.told.silent (both-none has.sent (string_bytes converting.out) (sym output ∙ none)).0;
              waits = λ none all. (both-none has.sent (string_bytes converting.out) (sym output ∙ none)).1;
              count = stayed (seen begin).tell_faults (seen host).tell_faults (status ≡ TellFault) has.told.count (open-untold status text sf sf' why);
            };
            cause = open-cause status text (converted false text).ending (Rose (seen begin).tell_faults (seen host).tell_faults) sf sf' (ap (λ (r : Reading Refusal). r.ending) whole) why;
            whole = λ more left_is source tell. open-status status text (has.sent ++ string_bytes converting.out) more sf sf' whole why source;
          }

      -- the text has ended
      run-ended : (old : Converting) (host' : H) → length text < input_limit → IfSome left' (λ bytes. bytes ≡ []) → TookAll (converting_acts honest seen) start begin text old host'
          → Ends honest (length (lines text)) (rest text) status old converting (seen host').past (seen host).past (seen host').tell_faults (seen host).tell_faults
          → HasRun status honest (string_bytes converting.out) left left' (seen begin).past (seen host).past sf sf' (seen begin).tell_faults (seen host).tell_faults
      run-ended old host' short nothing took ends =
          let has = chain-converted (lines text) old host' took.chain in
          let here = subst (λ (all : List (List ℕ)). EndsIn status honest (string_bytes converting.out) (reading point_rules true [] all) (seen begin).past (seen host).past (seen begin).tell_faults (seen host).tell_faults) (sym (parts_whole text))
          (ends (seen begin).past (seen begin).tell_faults (lines text) has refl) in
          record {
            taken = text;
            ended = true;
            takes = took_bytes;
            within = within;
            at_end = λ ended. (short, nothing);
            read = λ is. absurd (ended-unread status (converted true text).ending (Rose (seen begin).tell_faults (seen host).tell_faults) here.cause is);
            leaves = here.leaves;
            cause = ended-cause status (converted true text).ending true text (Rose sf sf') (Rose (seen begin).tell_faults (seen host).tell_faults) here.cause;
            whole = λ more left_is source tell.
                let none = nothing_left left' more nothing left_is in
                let same : status_of (text ++ more) ≡ ending_status (converted true text).ending =
                ap status_of (ap (λ (bytes : List ℕ). text ++ bytes) none ∙ append-nil text) ∙ status-ended input_limit text short in
                subst (λ (expected : Status). (status ≡ expected) ⊎ (status ≡ Memory)) (sym same)
                (ended-status status (converted true text).ending (Rose (seen begin).tell_faults (seen host).tell_faults) here.cause tell);
          }

      pub run-by : Ended (converting_acts honest seen) status start begin text converting host left' (Rose sf sf')
          → HasRun status honest (string_bytes converting.out) left left' (seen begin).past (seen host).past sf sf' (seen begin).tell_faults (seen host).tell_faults
      run-by (at_line prefix line next more old host' whole short fit chain takes) = run-stopped_at (λ ended behind.
          let on = line-onward text prefix line next more whole behind in
          (prefix ++ line ∷ on.next ∷ on.more, on.whole, takes.0 (seen begin).past (seen begin).tell_faults prefix (chain-converted prefix old host' chain) refl ended on.next on.more))
      run-by (at_pause old host' took takes) = run-stopped_at (λ ended behind.
          let on = parts-onward text (lines text) [] behind (sym (append-nil (lines text))) in
          (lines text ++ on.0 ∷ on.1, on.2, takes.0 (seen begin).past (seen begin).tell_faults (lines text) (chain-converted (lines text) old host' took.chain) ended on.0 on.1))
      run-by (at_long_line prefix long more old host' whole short over chain takes) = run-stopped_at (λ ended behind.
          let on = IsLongAfter-append text behind prefix (record { long = long; more = more; whole = whole; short = short; too_long = over }) in
          (prefix ++ on.long ∷ on.more, on.whole, takes.0 (seen begin).past (seen begin).tell_faults prefix (chain-converted prefix old host' chain) refl ended on.long on.more on.too_long))
      run-by (at_end old host' short nothing took ends) = run-ended old host' short nothing took ends.0
      run-by (at_fault is rose below took last) = run-open took (inl (is, rose)) (λ _. (below, paused-out converting host last))
      run-by (at_limit is full took) = run-open took (inr (is, full)) (λ e. cc)
      run-by (at_want prefix is took) = run-stopped_at (λ ended behind.
          let on = parts-onward text prefix took.begins.left behind took.begins.whole in
          let has = chain-converted prefix converting host took.chain in
          (prefix ++ on.0 ∷ on.1, on.2, no_memory converting honest prefix (seen begin).past (seen host).past (seen begin).tell_faults (seen host).tell_faults has status (string_bytes converting.out) ended on.0 on.1 is))

  -- ---- the disk

  -- at no moment of a chain anything happened to a file
  chain-leaves : (start : Converting) (begin : H) (prefix : List (List ℕ)) (converting : Converting) (host : H) → Chain (converting_acts honest seen) start begin prefix converting host → LeavesDisk honest (seen begin) (seen host)
  chain-leaves start begin prefix converting host begins = leaves-none honest (seen begin)
  chain-leaves start begin prefix converting host (goes_on before line old new host' host'' chain takes) =
      subst (λ (h : H). LeavesDisk honest (seen begin) (seen h)) (sym takes.1) (chain-leaves start begin before old host' chain)
  chain-leaves start begin prefix converting host (pauses before old new host' host'' chain takes) =
      leaves-both honest (seen begin) (seen host') (seen host) (chain-leaves start begin before old host' chain) takes.1

  -- nor of a whole run
  pub run-leaves : (status : Status) (start : Converting) (begin : H) (text : List ℕ) (converting : Converting) (host : H) (left' : Option (List ℕ)) (source_rose : Type 0)
      → Ended (converting_acts honest seen) status start begin text converting host left' source_rose → LeavesDisk honest (seen begin) (seen host)
  run-leaves status start begin text converting host left' source_rose (at_line prefix line next more old host' whole short fit chain takes) =
      subst (λ (h : H). LeavesDisk honest (seen begin) (seen h)) (sym takes.1) (chain-leaves start begin prefix old host' chain)
  run-leaves status start begin text converting host left' source_rose (at_pause old host' took takes) =
      leaves-both honest (seen begin) (seen host') (seen host) (chain-leaves start begin (lines text) old host' took.chain) takes.1
  run-leaves status start begin text converting host left' source_rose (at_long_line prefix long more old host' whole short over chain takes) =
      subst (λ (h : H). LeavesDisk honest (seen begin) (seen h)) (sym takes.1) (chain-leaves start begin prefix old host' chain)
  run-leaves status start begin text converting host left' source_rose (at_end old host' short nothing took ends) =
      subst (λ (h : H). LeavesDisk honest (seen begin) (seen h)) (sym ends.1) (chain-leaves start begin (lines text) old host' took.chain)
  run-leaves status start begin text converting host left' source_rose (at_fault is rose below took last) = chain-leaves start begin (lines text) converting host took.chain
  run-leaves status start begin text converting host left' source_rose (at_limit is full took) = chain-leaves start begin (lines text) converting host took.chain
  run-leaves status start begin text converting host left' source_rose (at_want prefix is took) = chain-leaves start begin prefix converting host took.chain
