-- A child, a parent, and all messages ever sent between them. A message that is lost is one that is never
-- delivered; any may be delivered again, and in any order.
use Rattle.std.specs.Prelude.{ℕ, ◌==◌, ◌+◌, Bool, ◌&&◌, nat_lt, nat_le, List, [], ◌∷◌, ◌++◌, length, slice_get, Option, Some, None, if◌then◌else◌}
use Rattle.std.specs.List.{sum_by}
use Rattle.std.specs.Option.{option_map_or}
use Rattle.replication.specs.declared.ask.Ask.{Ask as AnAsk}
use Rattle.replication.specs.declared.gap.Gap.{Gap}
use Rattle.replication.specs.declared.message.Data.{Data}
use Rattle.replication.specs.declared.named.NamedBeat.{NamedBeat}
use Rattle.replication.specs.declared.named.NamedPoint.{NamedPoint}
use Rattle.replication.specs.declared.step.Step.{Step}
use Rattle.replication.specs.declared.step.Step.TheVariants.{ChildBeat, Ask, Answer, Deliver}
use Rattle.replication.specs.declared.step.World.{World}
use Rattle.replication.specs.Answer.{data_of}
use Rattle.replication.specs.Copies.{Message, end_of, latest, last_with, first_gaps, first_beats}
use Rattle.replication.specs.Names.{named_moment, message_of}
use Rattle.replication.specs.declared.verdict.Verdict.{Verdict}
use Rattle.replication.specs.Points.{in_order, names_in, names_of, numbered_beats}
use Rattle.replication.specs.Verdict.{is_stored, verdict_by}

abbrev pub start : World
start = record { beats = []; floors = []; held = []; gaps = []; last = 0; asks = []; messages = [] }

-- ---- the child
-- the last of the floors, where the child had `before` until then
abbrev pub floor_now : ℕ → List ℕ → ℕ
floor_now before floors = latest (λ floor. floor) before floors

-- The child may have a beat of these points next: its moment rises, it has a point, and its floor does not
-- fall and lies at most one above the moment.
abbrev pub may_follow : World → ℕ → ℕ → List NamedPoint → Bool
may_follow w moment floor points =
    nat_lt (latest named_moment 0 w.beats) moment && (nat_lt 0 (length points) && (nat_le (floor_now 0 w.floors) floor && nat_le floor (moment + 1)))

abbrev pub with_beat : World → ℕ → ℕ → List NamedPoint → World
with_beat w moment floor points =
    record w { beats = w.beats ++ record { moment = moment; points = in_order points } ∷ []; floors = w.floors ++ floor ∷ [] }

-- what the child says to an ask, with numbers for its names in their order
abbrev pub answer_in : World → AnAsk → Option Data
answer_in w ask = data_of 1 (floor_now 0 w.floors) (names_of (names_in w.beats)) (numbered_beats (names_in w.beats) w.beats) ask

abbrev pub told : World → AnAsk → World
told w ask = option_map_or (λ (message : Data). record w { messages = w.messages ++ message ∷ [] }) (answer_in w ask) w

-- ---- the parent
-- it stores gaps
abbrev pub with_gaps : World → List Gap → World
with_gaps w gaps = record w { gaps = w.gaps ++ gaps; last = end_of w.last gaps }

-- and beats after them
abbrev pub with_stored : World → List Gap → List NamedBeat → World
with_stored w gaps beats = record w { held = w.held ++ beats; gaps = w.gaps ++ gaps; last = last_with named_moment w.last gaps beats }

-- it stores the first things of a message, a gap first
abbrev pub with_first : World → ℕ → Message NamedBeat → World
with_first w n message = with_stored w (first_gaps n message) (first_beats n message)

-- how many things of a message outlive a crash, and all of them where nothing crashes
abbrev pub kept_of : Option ℕ → Message NamedBeat → ℕ
kept_of keep message = option_map_or (λ (n : ℕ). n) keep (length message.beats + 1)

-- the child that it has a copy of, once it has anything
abbrev pub child_of : World → Option ℕ
child_of w = if w.last == 0 then None else Some 1

-- what it makes of a message
abbrev pub verdict_in : World → Data → Verdict
verdict_in w sent = verdict_by (child_of w) w.last sent.child sent.prev

-- it stores a message by this verdict, and leaves any other
abbrev pub delivered : World → Option ℕ → Data → World
delivered w keep sent = if is_stored (verdict_in w sent) then with_first w (kept_of keep (message_of sent)) (message_of sent) else w

-- ---- steps
abbrev pub happens : World → Step → World
happens w (ChildBeat moment floor points kept) = if kept && may_follow w moment floor points then with_beat w moment floor points else w
happens w Ask = record w { asks = w.asks ++ record { child = 1; last = w.last } ∷ [] }
happens w (Answer ask) = option_map_or (told w) (slice_get w.asks ask) w
happens w (Deliver message keep) = option_map_or (delivered w keep) (slice_get w.messages message) w

-- what a list of steps leads to
abbrev pub run_from : World → List Step → World
run_from w [] = w
run_from w (step ∷ steps) = run_from (happens w step) steps

abbrev pub run : List Step → World
run steps = run_from start steps

-- ---- how many names there may be
abbrev pub step_points : Step → ℕ
step_points (ChildBeat moment floor points kept) = length points
step_points step = 0

-- how many points the steps have
abbrev pub points_in : List Step → ℕ
points_in steps = sum_by step_points steps
