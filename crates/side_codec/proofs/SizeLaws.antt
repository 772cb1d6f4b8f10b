-- How many bytes the parts of a side have, and the side at most.
use Rattle.std.proofs.Common.{◌≡◌, ℕ, ◌+◌, ◌*◌, ◌≤◌, ◌^◌, true, false, nat_le, List, [], ◌∷◌, ◌++◌, length, Option, flat_map, refl, arith, length-append}
use Rattle.std.specs.List.{AllByRecursion}
use Rattle.std.proofs.lemmas.Bool.{and_parts, leb-true}
use Rattle.field_codec.specs.Spelling.{flag_bytes, i128_bytes, list_bytes, sized_bytes, u32_bytes, u64_bytes, u8_bytes}
use Rattle.field_codec.proofs.Lengths.{length-u8_bytes, length-u32_bytes, length-u64_bytes, length-i64_bytes, length-i128_bytes, length-flag_bytes, length-sized_bytes, length-text_bytes, items-length, length-list_bytes}
use Rattle.algorithms.specs.declared.last.Last.{Last}
use Rattle.health_expr.specs.declared.value.Value.{Value}
use Rattle.health_expr.specs.declared.value.Value.TheVariants.{Nan, Inf, Fixed}
use Rattle.entry_codec.specs.Charts.{chart_bytes}
use Rattle.entry_codec.specs.Dimensions.{dimension_bytes}
use Rattle.entry_codec.specs.Entries.{collected_bytes, entry_bytes}
use Rattle.entry_codec.specs.Rows.{row_bytes}
use Rattle.entry_codec.proofs.Lengths.{collected-length}
use Rattle.alarm_events.specs.declared.delay.Delay.{Delay}
use Rattle.alarm_events.specs.declared.event.Event.{Event}
use Rattle.alarm_events.specs.declared.kept.KeptAlarms.{KeptAlarms}
use Rattle.alarm_events.specs.declared.kept.TheConstants.{MOST_STATES}
use Rattle.alarm_events.specs.declared.log.TheConstants.{SHOWN}
use Rattle.alarm_events.specs.declared.state.KeptState.{KeptState}
use Rattle.alarm_events.specs.declared.status.Status.{Status}
use Rattle.alarm_events.specs.Alarms as alarms
use Rattle.alarm_events.specs.Alarms.{alarms_bytes}
use Rattle.alarm_events.specs.Delays as delays
use Rattle.alarm_events.specs.Delays.{delay_bytes}
use Rattle.alarm_events.specs.Dues.{due_bytes}
use Rattle.alarm_events.specs.Events.{event_bytes, IsEvent}
use Rattle.alarm_events.specs.States.{state_bytes}
use Rattle.alarm_events.specs.Statuses.{status_bytes}
use Rattle.alarm_events.specs.Values.{value_bytes}
use Rattle.side_codec.specs.declared.definitions.Definitions.{Definitions}
use Rattle.side_codec.specs.declared.gap.GapSpan.{GapSpan}
use Rattle.side_codec.specs.declared.last_point.LastPoint.{LastPoint}
use Rattle.side_codec.specs.declared.lasts.Lasts.{Lasts}
use Rattle.side_codec.specs.declared.role.SideRole.{SideRole}
use Rattle.side_codec.specs.declared.side.Side.{Side}
use Rattle.side_codec.specs.Definitions.{are_registered, definitions_bytes, definitions_in}
use Rattle.side_codec.specs.Gaps.{gap_bytes}
use Rattle.side_codec.specs.LastPoints.{last_point_bytes}
use Rattle.side_codec.specs.LastRows.{last_row_bytes}
use Rattle.side_codec.specs.Lasts.{lasts_bytes, lasts_in, AreLasts}
use Rattle.side_codec.specs.Roles.{role_bytes}
use Rattle.side_codec.specs.Sides.{series_bytes, series_in, side_bytes, HasSpelling}
use Rattle.side_codec.specs.Size.{side_limit, IsNamedWithin, KeepLimits}
use Rattle.side_codec.proofs.Registered.{beat_of, few_charts, few_dimensions, within}

-- ---- lists

-- items of one length
sized : {X : Type 0} (bytes : X → List ℕ) (size : ℕ) → ((x : X) → length (bytes x) ≡ size) → (items : List X) → AllByRecursion (λ (x : X). length (bytes x) ≤ size) items
sized bytes size each [] = tt
sized bytes size each (x ∷ items) = (omega (arith, each x), sized bytes size each items)

flat-each : {X : Type 0} (bytes : X → List ℕ) (size : ℕ) → ((x : X) → length (bytes x) ≡ size) → (items : List X) → length (flat_map bytes items) ≤ size * length items
flat-each bytes size each items = items-length bytes size items (sized bytes size each items)

-- ---- single fields

length-role_bytes : (role : SideRole) → length (role_bytes role) ≡ 9
unfolding role_bytes
length-role_bytes role = simp (length-append, length-u8_bytes, length-u64_bytes) refl

length-gap_bytes : (gap : GapSpan) → length (gap_bytes gap) ≡ 8
unfolding gap_bytes
length-gap_bytes gap = simp (length-append, length-u32_bytes) refl

length-last_point_bytes : (point : Option LastPoint) → length (last_point_bytes point) ≡ 9
unfolding last_point_bytes
length-last_point_bytes point = simp (length-append, length-flag_bytes, length-u32_bytes) refl

length-last_row_bytes : (last : Option Last) → length (last_row_bytes last) ≡ 13
unfolding last_row_bytes
length-last_row_bytes last = simp (length-append, length-flag_bytes, length-u32_bytes, length-i64_bytes) refl

length-status_bytes : (status : Status) → length (status_bytes status) ≡ 1
unfolding status_bytes u8_bytes
length-status_bytes status = refl

length-due_bytes : (due : Option ℕ) → length (due_bytes due) ≡ 5
unfolding due_bytes
length-due_bytes due = simp (length-append, length-flag_bytes, length-u32_bytes) refl

four_parts : (a b c d : List ℕ) → length a ≡ 1 → length b ≡ 4 → length c ≡ 4 → length d ≡ 4 → length (a ++ b ++ c ++ d) ≡ 13
four_parts a b c d flag up down due = simp length-append (omega (arith, flag, up, down, due))

length-delay_bytes : (delay : Option Delay) → length (delay_bytes delay) ≡ 13
unfolding delay_bytes
length-delay_bytes delay =
    four_parts
    (flag_bytes (delays.parts_of delay).0.0.0) (u32_bytes (delays.parts_of delay).0.0.1) (u32_bytes (delays.parts_of delay).0.1) (u32_bytes (delays.parts_of delay).1)
    (length-flag_bytes (delays.parts_of delay).0.0.0) (length-u32_bytes (delays.parts_of delay).0.0.1) (length-u32_bytes (delays.parts_of delay).0.1) (length-u32_bytes (delays.parts_of delay).1)

value-within : (value : Value) → length (value_bytes value) ≤ 17
unfolding value_bytes
value-within Nan = omega (arith, length-u8_bytes 0)
value-within (Inf false) = omega (arith, length-u8_bytes 1)
value-within (Inf true) = omega (arith, length-u8_bytes 2)
value-within (Fixed units) = omega (arith, length-append (u8_bytes 3) (i128_bytes units), length-u8_bytes 3, length-i128_bytes units)

-- ---- charts and series

-- the definitions have fewer bytes than the beat that defines them
definitions-within : (d : Definitions) → are_registered d.charts d.dimensions ≡ true → length (definitions_bytes d) ≤ 33579025
unfolding definitions_bytes entry_bytes collected_bytes
definitions-within d is =
    let all : length (1 ∷ (u32_bytes 0 ++ list_bytes chart_bytes d.charts ++ list_bytes dimension_bytes d.dimensions ++ list_bytes row_bytes [])) ≤ 33579025 =
    collected-length (beat_of d.charts d.dimensions) (within d.charts d.dimensions is) in
    omega (
      arith,
      all,
      length-append (list_bytes chart_bytes d.charts) (list_bytes dimension_bytes d.dimensions),
      length-append (u32_bytes 0 ++ list_bytes chart_bytes d.charts ++ list_bytes dimension_bytes d.dimensions) (list_bytes row_bytes []),
      length-append (u32_bytes 0 ++ list_bytes chart_bytes d.charts) (list_bytes dimension_bytes d.dimensions),
      length-append (u32_bytes 0) (list_bytes chart_bytes d.charts),
    )

lasts-within : (charts series : ℕ) (l : Lasts) → AreLasts charts series l → charts ≤ 4096 → series ≤ 65536 → length (lasts_bytes l) ≤ 4 * 4096 + 22 * 65536
unfolding lasts_bytes
lasts-within charts series l are few many =
    let moments = flat-each u32_bytes 4 length-u32_bytes l.chart_moments in
    let rows = flat-each last_row_bytes 13 length-last_row_bytes l.last_rows in
    let points = flat-each last_point_bytes 9 length-last_point_bytes l.last_points in
    omega (
      arith,
      few,
      many,
      moments,
      rows,
      points,
      are.chart_moments.count,
      are.last_rows.count,
      are.last_points.count,
      length-append (flat_map u32_bytes l.chart_moments ++ flat_map last_row_bytes l.last_rows) (flat_map last_point_bytes l.last_points),
      length-append (flat_map u32_bytes l.chart_moments) (flat_map last_row_bytes l.last_rows),
    )

series-within : (s : Side) → HasSpelling s → length (series_bytes (series_in s)) ≤ 33579025 + 4 * 4096 + 22 * 65536
unfolding series_bytes
series-within s has =
    let is = has.definitions.registered in
    let lasts =
    lasts-within (length s.charts) (length s.dimensions) (lasts_in s) has.lasts (few_charts s.charts s.dimensions is) (few_dimensions s.charts s.dimensions is) in
    omega (arith, lasts, definitions-within (definitions_in s) is, length-append (definitions_bytes (definitions_in s)) (lasts_bytes (lasts_in s)))

-- ---- alarms

state-within : (s : KeptState) → IsNamedWithin s → length (state_bytes s) ≤ 237
unfolding state_bytes
state-within s short =
    simp (length-append, length-text_bytes, length-u32_bytes, length-status_bytes, length-delay_bytes) (omega (arith, short, value-within s.value))

event-within : (e : Event) → IsEvent e → length (event_bytes e) ≤ 131110
unfolding event_bytes
event-within e is =
    simp (length-append, length-u64_bytes, length-u32_bytes, length-text_bytes, length-status_bytes, length-due_bytes)
    (omega (arith, is.chart.short, is.alarm.short, value-within e.value))

states-within : (states : List KeptState) → AllByRecursion IsNamedWithin states → AllByRecursion (λ (s : KeptState). length (state_bytes s) ≤ 237) states
states-within [] all = tt
states-within (s ∷ states) all = (state-within s all.0, states-within states all.1)

events-within : (events : List Event) → AllByRecursion IsEvent events → AllByRecursion (λ (e : Event). length (event_bytes e) ≤ 131110) events
events-within [] all = tt
events-within (e ∷ events) all = (event-within e all.0, events-within events all.1)

alarms-within : (k : KeptAlarms) → alarms.HasSpelling k → KeepLimits k → length (alarms_bytes k) ≤ 20 + 2 ^ 20 + 237 * 65536 + 131110 * 1000
unfolding alarms_bytes
alarms-within k has keep =
    let both = and_parts (nat_le (length k.states) MOST_STATES) (nat_le (length k.events) SHOWN) has.few in
    let states = items-length state_bytes 237 k.states (states-within k.states keep.states) in
    let events = items-length event_bytes 131110 k.events (events-within k.events has.fields.events.each) in
    omega (
      arith,
      keep.text,
      states,
      events,
      leb-true (length k.states) 65536 both.0,
      leb-true (length k.events) 1000 both.1,
      length-sized_bytes k.text,
      length-list_bytes state_bytes k.states,
      length-u64_bytes k.dropped,
      length-list_bytes event_bytes k.events,
      length-append (sized_bytes k.text ++ list_bytes state_bytes k.states ++ u64_bytes k.dropped) (list_bytes event_bytes k.events),
      length-append (sized_bytes k.text ++ list_bytes state_bytes k.states) (u64_bytes k.dropped),
      length-append (sized_bytes k.text) (list_bytes state_bytes k.states),
    )

-- ---- the side

gaps-within : (gaps : List GapSpan) → length (list_bytes gap_bytes gaps) ≤ 4 + 8 * length gaps
gaps-within gaps =
    omega (arith, flat-each gap_bytes 8 length-gap_bytes gaps, length-list_bytes gap_bytes gaps)

-- a side with a spelling whose alarms keep their limits has at most so many bytes
pub side-within : (s : Side) → HasSpelling s → KeepLimits s.alarms → length (side_bytes s) ≤ side_limit (length s.gaps)
unfolding side_bytes
side-within s has keep =
    omega (
      arith,
      series-within s has,
      alarms-within s.alarms has.alarms keep,
      gaps-within s.gaps,
      length-role_bytes s.role,
      length-append (role_bytes s.role ++ series_bytes (series_in s) ++ alarms_bytes s.alarms) (list_bytes gap_bytes s.gaps),
      length-append (role_bytes s.role ++ series_bytes (series_in s)) (alarms_bytes s.alarms),
      length-append (role_bytes s.role) (series_bytes (series_in s)),
    )
