use Rattle.std.specs.Prelude.{◌≡◌, ℕ, ◌<◌, ◌≤◌, Bool, true, false, nat_lt, List, [], ◌++◌, length, take, ◌⊎◌, Option, IfSome, codes, if◌then◌else◌}
use Rattle.std.specs.Fmt.{decimal}
use Rattle.host_model.specs.Cause.{HasCause, Rose}
use Rattle.host_model.specs.Past.{Event, TellsPrefix}
use Rattle.host_model.specs.Source.{Takes}
use Rattle.host_model.specs.declared.status.Status.{Status}
use Rattle.host_model.specs.declared.status.Status.TheVariants.{Ok as Done, Refused, Limit, ReadFault, TellFault, InputLimit, Memory}
use Rattle.history.specs.declared.fault.BlockFault.TheVariants.{MomentOrder, Unfinished, TooManyCharts, TooManyDimensions}
use Rattle.history.specs.declared.line.Line.{Line}
use Rattle.history.specs.Read.{is_disable}
use Rattle.history.specs.Refusal.{is_unfinished}
use Rattle.plugin_text.specs.declared.fault.LineFault.TheVariants.{LineTooLong}
use Rattle.plugin_text.specs.declared.refusal.Refusal.{Refusal}
use Rattle.plugin_text.specs.declared.refusal.Refusal.TheVariants as refusal
use Rattle.point_lines.specs.Judged.{every, judge}
use Rattle.plugin_text.specs.Refusal.{refusal_number}
use Rattle.point_lines.specs.Told.{told_at, told_at_end}
use Rattle.line_stream.specs.Run.{input_limit}
use Rattle.host_model.specs.Seen.{Seen}
use Rattle.link_session.specs.Keeps.{LeavesFiles}
use Rattle.agent_app.specs.Reading.{Rules, Reading, Ending, GoesOn, Ends, RefusedAt, reading_of}

-- the rules of a text whose points are told
abbrev pub point_rules : Rules Line Refusal
point_rules = record {
  lines = record { judge = judge; ends_text = is_disable };
  tell = told_at;
  tell_end = told_at_end;
  is_unfinished = is_unfinished every;
  too_long = refusal.Line LineTooLong;
  unfinished = refusal.Block Unfinished;
}

abbrev pub converted : Bool → List ℕ → Reading Refusal
converted ended text = reading_of point_rules ended text

-- whether the refusal is that of a limit on what is kept
abbrev pub is_limit : Refusal → Bool
is_limit (refusal.Block TooManyCharts) = true
is_limit (refusal.Block TooManyDimensions) = true
is_limit why = false

-- what follows the number of a refusal: a moment that is not above the last is told with the last
abbrev pub refusal_tail : Refusal → List ℕ
refusal_tail (refusal.Block (MomentOrder last)) = codes " " ++ decimal last
refusal_tail why = []

-- how a line begins that tells a refusal: whether that is of a limit, the line that is refused, and the number of why
abbrev pub refused_words : Bool → ℕ → ℕ → List ℕ
refused_words limit line number = (if limit then codes "LIMIT " else codes "REFUSED ") ++ decimal line ++ codes " " ++ decimal number

-- the line that a refusal is told by
abbrev pub refusal_line : ℕ → Refusal → List ℕ
refusal_line line why = refused_words (is_limit why) line (refusal_number why) ++ refusal_tail why ++ codes "\n"

-- what is told last of a reading
abbrev pub ending_line : Ending Refusal → List ℕ
ending_line GoesOn = []
ending_line Ends = []
ending_line (RefusedAt line why) = refusal_line line why

-- all that is told of a reading: what its lines tell, and then its refusal
abbrev pub all_told : Reading Refusal → List ℕ
all_told reading = reading.told ++ ending_line reading.ending

-- all that is told of a text
abbrev pub output_of : Bool → List ℕ → List ℕ
output_of ended text = all_told (converted ended text)

-- at all other statuses the whole output was told
abbrev pub tells_all : Status → Bool
tells_all TellFault = false
tells_all Memory = false
tells_all _ = true

-- the status that says the same
abbrev pub refused_status : Bool → ℕ → ℕ → Status
refused_status limit line number = if limit then Limit line number else Refused line number

-- the status of a run whose text is refused so
abbrev pub refusal_status : ℕ → Refusal → Status
refusal_status line why = refused_status (is_limit why) line (refusal_number why)

-- why the run ended as it did
abbrev pub HasStatusCause : Status → Bool → Ending Refusal → List ℕ → (source_rose host_rose : Type 0) → Type 0
HasStatusCause Done ended ending taken source_rose host_rose = ending ≡ Ends
HasStatusCause (Refused line number) ended ending taken source_rose host_rose = (why : Refusal) × (ending ≡ RefusedAt line why) × (Refused line number ≡ refusal_status line why)
HasStatusCause (Limit line number) ended ending taken source_rose host_rose = (why : Refusal) × (ending ≡ RefusedAt line why) × (Limit line number ≡ refusal_status line why)
HasStatusCause ReadFault ended ending taken source_rose host_rose = (ended ≡ false) × (ending ≡ GoesOn) × source_rose
HasStatusCause TellFault ended ending taken source_rose host_rose = host_rose
HasStatusCause InputLimit ended ending taken source_rose host_rose = (ended ≡ false) × (ending ≡ GoesOn) × (length taken ≡ input_limit)
HasStatusCause Memory ended ending taken source_rose host_rose = Unit {0}
HasStatusCause _ ended ending taken source_rose host_rose = ⊥

-- the host was not asked: what it has been through and its count of failures are as before
abbrev pub IsUnasked : (past past' : List Event) → (tell_faults tell_faults' : ℕ) → Type 0
IsUnasked past past' tell_faults tell_faults' = (past' ≡ past) × (tell_faults' ≡ tell_faults)

-- nothing happens to any file, and no call on the disk was counted as failed
pub record LeavesDisk (honest : Type 0) (host host' : Seen) : Type 0 where
  pub any_moment : honest → LeavesFiles host.past host'.past
  pub faults : host'.disk_faults ≡ host.disk_faults

-- A run of `convert`: it took these bytes of the source, and told the output of just these.
pub record Converts (status : Status) (honest : Type 0) (left left' : Option (List ℕ)) (past past' : List Event) (source_faults source_faults' tell_faults tell_faults' : ℕ) : Type 0 where
  pub taken : List ℕ
  -- whether the source said that the input had ended
  pub ended : Bool
  pub takes : Takes left taken left'
  pub within : length taken ≤ input_limit
  pub at_end : ended ≡ true → (length taken < input_limit) × IfSome left' (λ bytes. bytes ≡ [])
  pub output : honest → TellsPrefix (tells_all status) (output_of ended taken) past past'
  -- where nothing is told of the bytes that were taken, the host was not asked
  pub silent : output_of ended taken ≡ [] → IsUnasked past past' tell_faults tell_faults'
  pub cause : HasStatusCause status ended (converted ended taken).ending taken (Rose source_faults source_faults') (Rose tell_faults tell_faults')
  -- behind as many bytes as may be taken, no failure of the source ends the run
  pub read : status ≡ ReadFault → length taken < input_limit
  -- each part of the outside counts a failure exactly where that is why the run ended
  pub read_cause : HasCause source_faults source_faults' (status ≡ ReadFault)
  pub tell_cause : HasCause tell_faults tell_faults' (status ≡ TellFault)

abbrev pub ending_status : Ending Refusal → Status
ending_status GoesOn = InputLimit
ending_status Ends = Done
ending_status (RefusedAt line why) = refusal_status line why

-- the status of a run that takes at most so many bytes of the text, when nothing fails: that of the first
-- refusal in those bytes, or else of the end, where that has come
abbrev pub status_within : ℕ → List ℕ → Status
status_within limit text = ending_status (converted (nat_lt (length text) limit) (take limit text)).ending

abbrev pub status_of : List ℕ → Status
status_of text = status_within input_limit text

-- where no call on the outside fails, the status is that of the text, or memory ran out
abbrev pub EndsAsText : Status → Option (List ℕ) → (source_faults source_faults' tell_faults tell_faults' : ℕ) → Type 0
EndsAsText status left source_faults source_faults' tell_faults tell_faults' =
    IfSome left (λ text. (Rose source_faults source_faults' → ⊥) → (Rose tell_faults tell_faults' → ⊥) → (status ≡ status_of text) ⊎ (status ≡ Memory))
