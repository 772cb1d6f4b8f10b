-- The beats that a feed closes may be handed in, and what a feed is after one line more.
use Rattle.std.proofs.Common.{◌≡◌, ℕ, Bool, true, false, not, List, [], ◌∷◌, ◌++◌, Option, Some, None, is_some, ℤ, refl, sym, ap, ◌∙◌, subst}
use Rattle.std.specs.List.{list_any, AllByRecursion}
use Rattle.std.specs.Option.{option_map_or}
use Rattle.std.specs.Str.{bytes_eq}
use Rattle.std.proofs.lemmas.List.{append-nil}
use Rattle.std.proofs.lemmas.List.Elements.{All-from_recursion, recursion_from_All}
use Rattle.std.proofs.lemmas.Option.{none-some, same_Some}
use Rattle.history.specs.declared.beat.OpenRow.{OpenRow}
use Rattle.history.specs.declared.beat.OpenValue.{OpenValue}
use Rattle.history.specs.declared.fault.BlockFault.TheVariants as fault
use Rattle.history.specs.declared.line.Line.{Line}
use Rattle.history.specs.declared.line.Line.TheVariants as line
use Rattle.history.specs.Limits.{keeps_limits}
use Rattle.history.specs.Looking.{beat, is_value, open_block, rows, same_value, set_value, values}
use Rattle.history.specs.Refusal.{has_chart, has_row, refusal}
use Rattle.history.specs.Registry.{Registry}
use Rattle.chart_registry.proofs.OpenLemmas.{charts-apart, dimensions-apart}
use Rattle.chart_registry.proofs.RowsLemmas.{same_text, bytes_eq_same}
use Rattle.history.specs.Regular.{AreApart, same_row}
use Rattle.chart_registry.proofs.ApartLemmas.{apart-filter, apart-push, apart-put}
use Rattle.collect_block.specs.declared.feed.Feed.{Feed}
use Rattle.collect_block.specs.declared.step.Step.{Step}
use Rattle.collect_block.specs.Feed.{step_of, Becomes, CountsAt, IsFeedOf}
use Rattle.agent_core.specs.Fed.{OpenEachFirst, OpensFirst, IsFed}
use Rattle.agent_core.specs.Rules.{IsOpenBeat}
use Rattle.agent_core.specs.Steps.{IsOpenStep}
use Rattle.chart_registry.proofs.AcceptedLemmas.{passed, same_row-left}
use Rattle.collect_block.proofs.OpenLemmas.{charts-limits, dimensions-limits, grids}

abbrev KeepsLimits : Line → Type 0
KeepsLimits line = keeps_limits line ≡ true

-- ---- its rows
set-apart : (vs : List OpenValue) (id : List ℕ) (value : Option ℤ) (anomalous : Bool) → AreApart same_value vs → AreApart same_value (set_value vs id value anomalous)
set-apart vs id (Some value) anomalous apart = apart-put same_value (λ x. bytes_eq_same x.id x.id refl) (λ x y e. ap is_value (same_text x.id y.id e)) (λ z x y e. ap (bytes_eq z.id) (same_text x.id y.id e))
    vs (record { id = id; value = value; anomalous = anomalous }) apart
set-apart vs id None anomalous apart = apart-filter same_value (λ (value : OpenValue). not (is_value id value)) vs apart

values-apart : (past : List Line) → AreApart same_value (values past)
values-apart [] = tt
values-apart (line.Begin chart ∷ past) = tt
values-apart (line.Set id value anomalous ∷ past) = set-apart (values past) id value anomalous (values-apart past)
values-apart (line ∷ past) = values-apart past

abbrev row_of : List OpenValue → List ℕ → OpenRow
row_of vs chart = record { chart = chart; values = vs }

abbrev with_row : List OpenRow → List OpenValue → Option (List ℕ) → List OpenRow
with_row rs vs chart = rs ++ option_map_or (λ chart. row_of vs chart ∷ []) chart []

abbrev IsApartRow : OpenRow → Type 0
IsApartRow row = AreApart same_value row.values

all-more : (rs : List OpenRow) (row : OpenRow) → AllByRecursion IsApartRow rs → IsApartRow row → AllByRecursion IsApartRow (rs ++ row ∷ [])
all-more [] row all here = (here, tt)
all-more (r ∷ rs) row all here = (all.0, all-more rs row all.1 here)

row-values : (rs : List OpenRow) (vs : List OpenValue) (chart : Option (List ℕ)) → AllByRecursion IsApartRow rs → AreApart same_value vs → AllByRecursion IsApartRow (with_row rs vs chart)
row-values rs vs None all apart = subst (AllByRecursion IsApartRow) (sym (append-nil rs)) all
row-values rs vs (Some chart) all apart = all-more rs (row_of vs chart) all apart

rows-values : (past : List Line) → AllByRecursion IsApartRow (rows past)
rows-values [] = tt
rows-values (line.Moment moment ∷ past) = tt
rows-values (line.End ∷ past) = row-values (rows past) (values past) (open_block past) (rows-values past) (values-apart past)
rows-values (line ∷ past) = rows-values past

-- the chart of the open block has no row yet
no-row : (every : ℕ) (past : List Line) (chart : List ℕ) → OpenEachFirst every past → open_block past ≡ Some chart → list_any (λ (row : OpenRow). bytes_eq chart row.chart) (rows past) ≡ false
no-row every [] chart firsts opened = refl
no-row every (line.Begin first ∷ past) chart firsts opened = ap (λ (id : List ℕ). list_any (λ (row : OpenRow). bytes_eq id row.chart) (rows past)) (sym (same_Some first chart opened)) ∙ firsts.0
no-row every (line.End ∷ past) chart firsts opened = absurd (none-some chart opened)
no-row every (line.Flush ∷ past) chart firsts opened = absurd (none-some chart opened)
no-row every (line.Moment moment ∷ past) chart firsts opened = refl
no-row every (line ∷ past) chart firsts opened = no-row every past chart firsts.1 opened

row-apart : (rs : List OpenRow) (vs : List OpenValue) (chart : Option (List ℕ)) → AreApart same_row rs
    → ((id : List ℕ) → chart ≡ Some id → list_any (λ (row : OpenRow). bytes_eq id row.chart) rs ≡ false) → AreApart same_row (with_row rs vs chart)
row-apart rs vs None apart none = subst (AreApart same_row) (sym (append-nil rs)) apart
row-apart rs vs (Some chart) apart none = apart-push same_row (λ x. bytes_eq_same x.chart x.chart refl) same_row-left rs (row_of vs chart) apart (none chart refl)

rows-apart : (every : ℕ) (past : List Line) → OpenEachFirst every past → AreApart same_row (rows past)
rows-apart every [] firsts = tt
rows-apart every (line.Moment moment ∷ past) firsts = tt
rows-apart every (line.End ∷ past) firsts = row-apart (rows past) (values past) (open_block past) (rows-apart every past firsts.1) (λ id opened. no-row every past id firsts.1 opened)
rows-apart every (line ∷ past) firsts = rows-apart every past firsts.1

-- ---- a beat that is closed
fed-beat : (feed : Feed) (fed : IsFed feed) → IsOpenBeat (beat fed.every fed.past)
fed-beat feed fed =
    let every = fed.every in
    let past = fed.past in
    record {
      apart_charts = charts-apart every past;
      apart_dimensions = dimensions-apart past;
      apart_rows = rows-apart every past fed.blocks;
      apart_values = All-from_recursion IsApartRow (rows past) (rows-values past);
      grids = grids every past fed.feed_of.grid;
      chart_limits = charts-limits every past fed.grid_limit fed.limits;
      dimension_limits = dimensions-limits past fed.limits;
    }

-- what a feed gives
step-open : (feed : Feed) (fed : IsFed feed) (line : Line) → IsOpenStep (step_of fed.every fed.past line)
step-open feed fed (line.Moment moment) = fed-beat feed fed
step-open feed fed line = tt

pub fed-step : (feed : Feed) (line : Line) (step : Step) (fed : IsFed feed) → ((every : ℕ) (past : List Line) → IsFeedOf feed every past → step ≡ step_of every past line) → IsOpenStep step
fed-step feed line step fed gives = subst IsOpenStep (sym (gives fed.every fed.past fed.feed_of)) (step-open feed fed line)

-- ---- one line more
opens-first : (feed : Feed) (registry : Registry) (every : ℕ) (past : List Line) (copies : Bool) (last : ℕ) (line : Line) → (CountsAt line feed registry → refusal registry every past copies last line ≡ None) → OpensFirst every past line
opens-first feed registry every past copies last (line.Begin chart) free =
    let closed = passed (is_some (open_block past)) fault.OpenBlock _ (free tt) in
    let there = passed (not (has_chart registry (beat every past) chart)) fault.NoChart _ closed.1 in
    (passed (has_row (beat every past) chart) fault.SecondBlock None there.1).0
opens-first feed registry every past copies last line free = tt

pub fed-more : (feed feed' : Feed) (line : Line) (registry : Registry) (copies : Bool) (last : ℕ) → IsFed feed → KeepsLimits line → Becomes line feed feed'
    → ((every : ℕ) (past : List Line) → IsFeedOf feed every past → CountsAt line feed registry → refusal registry every past copies last line ≡ None) → IsFed feed'
fed-more feed feed' line registry copies last fed here becomes free = record {
  every = fed.every;
  past = line ∷ fed.past;
  feed_of = becomes fed.every fed.past fed.feed_of;
  grid_limit = fed.grid_limit;
  blocks = (opens-first feed registry fed.every fed.past copies last line (free fed.every fed.past fed.feed_of), fed.blocks);
  limits = All-from_recursion KeepsLimits (line ∷ fed.past) (here, recursion_from_All KeepsLimits fed.past fed.limits);
}
