-- How a text whose points are told goes from line to line.
use Rattle.std.specs.Prelude.{◌≡◌, ℕ, ◌+◌, ◌<◌, ◌≤◌, Bool, true, false, List, [], ◌∷◌, ◌++◌, length, ◌⊎◌, Option, Some, IfSome, string_bytes, Result, MatchResult, OnOk}
use Rattle.host_model.specs.Cause.{HasCause, Rose}
use Rattle.host_model.specs.Past.{Event, told, TellsPrefix}
use Rattle.host_model.specs.Seen.{Seen}
use Rattle.host_model.specs.Source.{Takes as TakesBytes}
use Rattle.host_model.specs.declared.status.Status.{Status}
use Rattle.host_model.specs.declared.status.Status.TheVariants.{ReadFault, TellFault, Memory}
use Rattle.history.specs.declared.line.Line.{Line}
use Rattle.plugin_text.specs.Lines.{fits}
use Rattle.plugin_text.specs.declared.refusal.Refusal.{Refusal}
use Rattle.point_lines.specs.Reader.{IsReaderOf}
use Rattle.line_stream.specs.Chain.{Acts}
use Rattle.line_stream.specs.Run.{input_limit}
use Rattle.agent_app.specs.declared.converting.Converting.{Converting}
use Rattle.agent_app.specs.Convert.{all_told, converted, ending_status, output_of, point_rules, status_of, tells_all, HasStatusCause, IsUnasked, LeavesDisk}
use Rattle.agent_app.specs.Reading.{Ending, GoesOn, Ends as IsOver, RefusedAt, HasRead, Reading, reading}

-- ---- lines that are taken

-- the reader has read the lines before the one with this number
abbrev pub IsAt : Converting → ℕ → Type 0
IsAt converting number = (past : List Line) × IsReaderOf converting.reader past × (length past + 1 ≡ number)

-- since the host was so, just these bytes were told
pub record HasTold (honest : Type 0) (sent : List ℕ) (past past' : List Event) (tell_faults tell_faults' : ℕ) : Type 0 where
  pub tells : honest → told past' ≡ told past ++ sent
  -- where that is nothing, the host was not asked
  pub silent : sent ≡ [] → IsUnasked past past' tell_faults tell_faults'
  pub count : tell_faults' ≡ tell_faults

-- these lines were taken, and what they tell was told, but for what waits
pub record HasConverted (converting : Converting) (honest : Type 0) (prefix : List (List ℕ)) (past past' : List Event) (tell_faults tell_faults' : ℕ) : Type 0 where
  pub said : List Line
  pub sent : List ℕ
  pub read : HasRead point_rules prefix said (sent ++ string_bytes converting.out)
  pub has : IsReaderOf converting.reader said
  pub told : HasTold honest sent past past' tell_faults tell_faults'

-- ---- how a run ends

-- a prefix of the output was told: all but what waits, unless the output or memory failed
pub record TellsBut (status : Status) (waiting output : List ℕ) (old new : List Event) : Type 0 where
  pub sent : List ℕ
  pub unsent : List ℕ
  pub whole : output ≡ sent ++ unsent
  pub tells : told new ≡ told old ++ sent
  pub all : tells_all status ≡ true → unsent ≡ waiting

-- a run ended with this status, and of this output it leaves what waits
pub record Leaves (status : Status) (honest : Type 0) (waiting output : List ℕ) (past past' : List Event) (tell_faults tell_faults' : ℕ) : Type 0 where
  pub tells : honest → TellsBut status waiting output past past'
  -- where nothing is to be told, the host was not asked, and nothing waits
  pub silent : output ≡ [] → IsUnasked past past' tell_faults tell_faults'
  pub waits : output ≡ [] → tells_all status ≡ true → waiting ≡ []
  pub count : HasCause tell_faults tell_faults' (status ≡ TellFault)

-- an ending behind which nothing is read
abbrev pub IsFinal : Ending Refusal → Type 0
IsFinal GoesOn = ⊥
IsFinal IsOver = Unit {0}
IsFinal (RefusedAt line why) = Unit {0}

-- the run ended because the reading did, or the output failed, or memory ran out
abbrev pub EndsAs : Status → Ending Refusal → (tell_rose : Type 0) → Type 0
EndsAs status ending tell_rose = (IsFinal ending × (status ≡ ending_status ending)) ⊎ ((status ≡ TellFault) × tell_rose) ⊎ (status ≡ Memory)

-- the run ended so, and its text is read so
pub record EndsIn (status : Status) (honest : Type 0) (waiting : List ℕ) (whole : Reading Refusal) (past past' : List Event) (tell_faults tell_faults' : ℕ) : Type 0 where
  pub leaves : Leaves status honest waiting (all_told whole) past past' tell_faults tell_faults'
  pub cause : EndsAs status whole.ending (Rose tell_faults tell_faults')

-- the ending's bytes were added to what waits, or memory ran out
abbrev pub AddsEnding : Status → Ending Refusal → (out added out' : List ℕ) → Type 0
AddsEnding status ending out added out' = ((status ≡ ending_status ending) × (out' ≡ out ++ added)) ⊎ (status ≡ Memory)

-- ---- what each call does, whatever lines were taken since whatever moment

-- the next line was taken, or it ends the run, however the text goes on
abbrev pub Takes : Type 0 → ℕ → List ℕ → Result (Unit {0}) Status → (old new : Converting) → (past past' : List Event) → (tell_faults tell_faults' : ℕ) → Type 0
Takes honest number line result old new past past' tell_faults tell_faults' =
    (begin : List Event) (faults : ℕ) (prefix : List (List ℕ)) → HasConverted old honest prefix begin past faults tell_faults → number ≡ length prefix + 1 →
    MatchResult result (λ _. HasConverted new honest (prefix ++ line ∷ []) begin past' faults tell_faults')
    (λ status. (ended : Bool) (next : List ℕ) (more : List (List ℕ)) → EndsIn status honest (string_bytes new.out) (reading point_rules ended [] (prefix ++ line ∷ next ∷ more)) begin past' faults tell_faults')

-- what waits was told, or the output failed
abbrev pub Pauses : Type 0 → Result (Unit {0}) Status → (old new : Converting) → (past past' : List Event) → (tell_faults tell_faults' : ℕ) → Type 0
Pauses honest result old new past past' tell_faults tell_faults' =
    (begin : List Event) (faults : ℕ) (prefix : List (List ℕ)) → HasConverted old honest prefix begin past faults tell_faults →
    MatchResult result (λ _. HasConverted new honest prefix begin past' faults tell_faults')
    (λ status. (ended : Bool) (next : List ℕ) (more : List (List ℕ)) → EndsIn status honest (string_bytes new.out) (reading point_rules ended [] (prefix ++ next ∷ more)) begin past' faults tell_faults')

-- the text ends after these lines, with these bytes behind the last line feed
abbrev pub Ends : Type 0 → ℕ → List ℕ → Status → (old new : Converting) → (past past' : List Event) → (tell_faults tell_faults' : ℕ) → Type 0
Ends honest lines rest status old new past past' tell_faults tell_faults' =
    (begin : List Event) (faults : ℕ) (prefix : List (List ℕ)) → HasConverted old honest prefix begin past faults tell_faults → lines ≡ length prefix →
    EndsIn status honest (string_bytes new.out) (reading point_rules true [] (prefix ++ rest ∷ [])) begin past' faults tell_faults'

-- what follows these lines is too long, however it goes on
abbrev pub Overflows : Type 0 → ℕ → Status → (old new : Converting) → (past past' : List Event) → (tell_faults tell_faults' : ℕ) → Type 0
Overflows honest number status old new past past' tell_faults tell_faults' =
    (begin : List Event) (faults : ℕ) (prefix : List (List ℕ)) → HasConverted old honest prefix begin past faults tell_faults → number ≡ length prefix + 1 →
    (ended : Bool) (long : List ℕ) (more : List (List ℕ)) → fits long ≡ false →
    EndsIn status honest (string_bytes new.out) (reading point_rules ended [] (prefix ++ long ∷ more)) begin past' faults tell_faults'

-- what each call of the taker does
abbrev pub converting_acts : {H : Type 0} → (honest : Type 0) → (H → Seen) → Acts Converting H
converting_acts honest seen = record {
  takes = λ old host number line result new host'. Takes honest number line result old new (seen host).past (seen host').past (seen host).tell_faults (seen host').tell_faults × (host' ≡ host);
  pauses = λ old host result new host'.
      Pauses honest result old new (seen host).past (seen host').past (seen host).tell_faults (seen host').tell_faults × LeavesDisk honest (seen host) (seen host') × OnOk result (string_bytes new.out ≡ []);
  ends = λ old host lines rest status new host'. Ends honest lines rest status old new (seen host).past (seen host').past (seen host).tell_faults (seen host').tell_faults × (host' ≡ host);
  overflows = λ old host number status new host'. Overflows honest number status old new (seen host).past (seen host').past (seen host).tell_faults (seen host').tell_faults × (host' ≡ host);
}

-- ---- a run that has ended, before the last that waits is told

-- it took these bytes of the source, and of their output only what waits was not told
pub record HasRun (status : Status) (honest : Type 0) (waiting : List ℕ) (left left' : Option (List ℕ)) (past past' : List Event) (source_faults source_faults' tell_faults tell_faults' : ℕ) : Type 0 where
  pub taken : List ℕ
  pub ended : Bool
  pub takes : TakesBytes left taken left'
  pub within : length taken ≤ input_limit
  pub at_end : ended ≡ true → (length taken < input_limit) × IfSome left' (λ bytes. bytes ≡ [])
  -- the source failed before as many bytes were taken as may be, and where nothing waits
  pub read : status ≡ ReadFault → (length taken < input_limit) × (waiting ≡ [])
  pub leaves : Leaves status honest waiting (output_of ended taken) past past' tell_faults tell_faults'
  pub cause : HasStatusCause status ended (converted ended taken).ending taken (Rose source_faults source_faults') (Rose tell_faults tell_faults')
  -- the status is that of the whole text, where nothing failed
  pub whole : (more : List ℕ) → left' ≡ Some more → (Rose source_faults source_faults' → ⊥) → (Rose tell_faults tell_faults' → ⊥) → (status ≡ status_of (taken ++ more)) ⊎ (status ≡ Memory)

-- what waits was told as the last of a run that ends with this status, or the output failed
pub record TellsLast (result status : Status) (honest : Type 0) (waiting : List ℕ) (past past' : List Event) (tell_faults tell_faults' : ℕ) : Type 0 where
  pub tells : tells_all status ≡ true → honest → TellsPrefix (tells_all result) waiting past past'
  pub failed : tells_all status ≡ false → (result ≡ status) × IsUnasked past past' tell_faults tell_faults'
  pub cause : (result ≡ status) ⊎ ((result ≡ TellFault) × Rose tell_faults tell_faults')
  -- where nothing waits nothing is done
  pub silent : waiting ≡ [] → (result ≡ status) × IsUnasked past past' tell_faults tell_faults'
  pub count : tells_all status ≡ true → HasCause tell_faults tell_faults' (result ≡ TellFault)
