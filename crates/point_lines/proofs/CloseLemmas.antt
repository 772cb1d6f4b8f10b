-- What a MOMENT that may stand there closes.
use Rattle.std.proofs.Common.{◌≡◌, ◌<◌, ℕ, true, false, List, [], ◌∷◌, ◌++◌, Option, Result, Ok, Err, None, is_some, OnOk, IfErr, refl, sym, ap, subst, ◌∙◌, arith}
use Rattle.std.proofs.lemmas.List.Elements.{All-tail}
use Rattle.std.proofs.lemmas.Option.{none-some}
use Rattle.algorithms.specs.declared.last.Last.{Last}
use Rattle.history.specs.declared.beat.OpenBeat.{OpenBeat}
use Rattle.history.specs.declared.line.Line.{Line}
use Rattle.history.specs.declared.line.Line.TheVariants as line
use Rattle.history.specs.declared.numbered.NumberedBeat.{NumberedBeat}
use Rattle.history.specs.History.{collected, registry_of}
use Rattle.history.specs.Limits.{keeps_limits}
use Rattle.history.specs.Looking.{beat}
use Rattle.history.specs.Numbered.{numbered_beat}
use Rattle.history.specs.Registry.{Registry, same_chart, same_dimension, with_definitions}
use Rattle.history.specs.Regular.{AreApart, IsRegular}
use Rattle.chart_registry.specs.Accepted.{AreAccepted, HasFew, IsWithin}
use Rattle.chart_registry.specs.Defining.{nothing_open}
use Rattle.chart_registry.proofs.AcceptedLemmas.{text-regular}
use Rattle.chart_registry.proofs.ApartLemmas.{apart-charts, apart-registry}
use Rattle.chart_registry.proofs.OpenLemmas.{charts-apart, dimensions-apart}
use Rattle.collect_block.specs.declared.step.Step.{Step}
use Rattle.collect_block.specs.declared.step.Step.TheVariants as step
use Rattle.collect_block.proofs.OpenLemmas.{charts-limits, dimensions-limits, grids, owners}
use Rattle.beat_entries.specs.declared.beat_fault.BeatFault.{BeatFault}
use Rattle.beat_entries.specs.declared.beat_fault.BeatFault.TheVariants.{Refused, Memory}
use Rattle.beat_entries.specs.Rules.{beat_refusal, IsOpenBeat}
use Rattle.beat_entries.specs.Taking.{IsFaultOf}
use Rattle.beat_entries.proofs.ClosedLemmas.{closed-free}
use Rattle.beat_points.specs.LastRows.{AreLastOf}
use Rattle.beat_points.specs.Points.{IsBefore, IsNext}
use Rattle.beat_points.proofs.TextLemmas.{text-before}
use Rattle.point_lines.specs.declared.reader.Reader.{Reader}
use Rattle.point_lines.specs.declared.stop.Stop.{Stop}
use Rattle.point_lines.specs.declared.stop.Stop.TheVariants as stop
use Rattle.point_lines.specs.Closing.{HasTaken, TellsOf}
use Rattle.point_lines.specs.Judged.{every, history_of, placed}
use Rattle.point_lines.specs.Reader.{Reads, ReadsOr, StopsFor}
use Rattle.point_lines.specs.Steps.{Stepped, beat_stop}
use Rattle.point_lines.specs.Told.{beat_lines, told_at}
use Rattle.point_lines.proofs.StepLemmas.{child-none, placed-ok}

abbrev beat_in : Step → OpenBeat
beat_in (step.Beat closed moment) = closed
beat_in other = nothing_open

few-none : HasFew (registry_of [])
few-none chart = omega arith

within-none : IsWithin (registry_of [])
within-none = record { charts = omega arith; dimensions = omega arith; each = few-none }

before-none : (later : ℕ) → 0 < later → IsBefore [] later
before-none later above chart id = tt

module _ (reader : Reader) (past : List Line) (closed : OpenBeat) (moment : ℕ)
    (stepped : Stepped reader past (line.Moment moment) (step.Beat closed moment)) where
  closed-is : closed ≡ beat every past
  closed-is = ap beat_in stepped.step_is

  taken : AreAccepted every [] (line.Moment moment ∷ past)
  taken = (stepped.accepted_line, stepped.accepted)

  -- the beat may be handed in
  pub closed-open : IsOpenBeat closed
  closed-open =
      let regular = text-regular every [] past moment few-none taken in
      let limits = All-tail (λ (line : Line). keeps_limits line ≡ true) (line.Moment moment) past stepped.limits in
      subst IsOpenBeat (sym closed-is) (record {
        apart_charts = charts-apart every past;
        apart_dimensions = dimensions-apart past;
        apart_rows = regular.rows;
        apart_values = regular.values;
        grids = grids every past stepped.feed.grid;
        chart_limits = charts-limits every past (omega arith) limits;
        dimension_limits = dimensions-limits past limits;
      })

  pub own-charts : AreApart same_chart reader.registry.charts
  own-charts = subst (λ (registry : Registry). AreApart same_chart registry.charts) (sym stepped.definitions) (apart-charts (history_of past))

  pub own-dimensions : AreApart same_dimension reader.registry.dimensions
  own-dimensions = subst (λ (registry : Registry). AreApart same_dimension registry.dimensions) (sym stepped.definitions) (apart-registry (history_of past))

  -- and is not refused
  closed-none : beat_refusal reader.registry false reader.last moment closed ≡ None
  closed-none =
      (λ i. beat_refusal (stepped.definitions i) (ap is_some (sym (child-none past)) i) (stepped.moment i) moment (closed-is i))
      ∙ closed-free every [] within-none past moment (owners every [] past) taken

  pub closed-stops : (fault : BeatFault) → IsFaultOf (beat_refusal reader.registry false reader.last moment closed) fault
      → (new : Reader) (out : List ℕ) → StopsFor new past (placed past (line.Moment moment)) (beat_stop fault) out out
  closed-stops (Refused why) refused new out = absurd (none-some why (sym closed-none ∙ refused))
  closed-stops Memory refused new out = tt

  abbrev now : Registry
  now = registry_of (history_of (line.Moment moment ∷ past))

  module _ (registry : Registry) (applied : registry ≡ with_definitions reader.registry closed.charts closed.dimensions) where
    closed-registry : registry ≡ registry_of (collected moment closed ∷ history_of past)
    closed-registry = applied ∙ ap (λ (registry : Registry). with_definitions registry closed.charts closed.dimensions) stepped.definitions

    registry-is : registry ≡ now
    registry-is = closed-registry ∙ ap (λ (closed : OpenBeat). registry_of (collected moment closed ∷ history_of past)) closed-is

    closed-next : IsNext registry reader.last_rows (history_of past) moment closed
    closed-next = record {
      registry_is = closed-registry;
      lasts_are = stepped.rows;
      before = text-before every [] past moment before-none taken;
    }

    closed-lines : beat_lines registry (history_of past) moment closed ≡ told_at past (line.Moment moment)
    closed-lines =
        ap (λ (registry : Registry). beat_lines registry (history_of past) moment closed) registry-is
        ∙ ap (beat_lines now (history_of past) moment) closed-is

    module _ (rows : List (Option Last)) (out out' : List ℕ) where
      abbrev closing : Reader
      closing = record reader { registry = registry; last_rows = rows; last = moment }

      closed-reads : AreLastOf rows (collected moment closed ∷ history_of past) → out' ≡ out ++ beat_lines registry (history_of past) moment closed
          → Reads closing past (placed past (line.Moment moment)) out out'
      closed-reads taken-rows added = record {
        said = line.Moment moment;
        accepted = placed-ok past (line.Moment moment) stepped.accepted_line;
        goes_on = refl;
        has = record {
          lines = stepped.lines;
          skips = stepped.skips;
          feed = stepped.feed;
          counts = stepped.counts registry;
          definitions = registry-is;
          moment = refl;
          rows = subst (λ (closed : OpenBeat). AreLastOf rows (collected moment closed ∷ history_of past)) closed-is taken-rows;
          accepted = taken;
          limits = stepped.limits;
        };
        added = added ∙ ap (λ more. out ++ more) closed-lines;
      }

    -- once the beat by number was told and taken, the reader has read the MOMENT
    module _ (regular : IsRegular registry closed) (numbered : NumberedBeat) (numbered-is : numbered ≡ numbered_beat registry moment closed) (out out' : List ℕ) (new : Reader) where
      abbrev Whole : Type 0
      Whole = new ≡ record reader { registry = registry; last_rows = new.last_rows; last = numbered.moment }

      closed-whole : TellsOf registry reader.last_rows numbered out out' → HasTaken registry reader.last_rows new.last_rows numbered → Whole
          → Reads new past (placed past (line.Moment moment)) out out'
      closed-whole tells takes whole =
          let added = subst (λ (n : NumberedBeat). TellsOf registry reader.last_rows n out out') numbered-is tells (history_of past) closed closed-next refl in
          let rows = subst (λ (n : NumberedBeat). HasTaken registry reader.last_rows new.last_rows n) numbered-is takes (history_of past) closed stepped.rows closed-registry regular refl in
          let is : new ≡ closing new.last_rows out out' = whole ∙ ap (λ (n : NumberedBeat). record reader { registry = registry; last_rows = new.last_rows; last = n.moment }) numbered-is in
          subst (λ (r : Reader). Reads r past (placed past (line.Moment moment)) out out') (sym is) (closed-reads new.last_rows out out' rows added)

      pub closed-ends : (result : Result (Unit {0}) Stop) → OnOk result (TellsOf registry reader.last_rows numbered out out') → OnOk result (HasTaken registry reader.last_rows new.last_rows numbered)
          → OnOk result Whole → IfErr result (λ why. why ≡ stop.Memory) → ReadsOr past (placed past (line.Moment moment)) result new out out'
      closed-ends (Ok done) tells takes whole short = closed-whole tells takes whole
      closed-ends (Err why) tells takes whole short = rw short tt
