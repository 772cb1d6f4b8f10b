-- What holds of a history that a store keeps, and of a beat that may follow it.
use Rattle.std.proofs.Common.{◌≡◌, ℕ, ◌<◌, Bool, false, nat_le, List, [], ◌∷◌, Option, Some, None, refl, arith, is_some, true≢false}
use Rattle.std.proofs.lemmas.Bool.{leb-false}
use Rattle.history.specs.declared.beat.OpenBeat.{OpenBeat}
use Rattle.history.specs.declared.fault.BlockFault.TheVariants.{NoChart, NoDimension, MomentOrder, MixedRoles, GridChanged, TooManyCharts, TooManyDimensions}
use Rattle.history.specs.History.{Beat, collected, copied, health, missing, child, last, registry_of}
use Rattle.history.specs.Registry.{Registry}
use Rattle.beat_points.specs.Points.{IsBefore}
use Rattle.beat_points.proofs.LawLemmas.{before-collected, before-none}
use Rattle.store_core.specs.declared.beats.beat.Beat.{Beat as StoreBeat}
use Rattle.chart_registry.proofs.AcceptedLemmas.{passed}
use Rattle.agent_core.specs.Kept.{AreBeatsOf, Follows}
use Rattle.agent_core.specs.Roles.{child_in, copies, role_of}
use Rattle.agent_core.specs.Rules.{beat_refusal, changes_grid, lacks_chart, lacks_dimension, too_many_charts, too_many_dimensions}

-- the tests that a beat passed
pub record Passed (registry : Registry) (last moment : ℕ) (beat : OpenBeat) : Type 0 where
  pub later : last < moment
  pub has_charts : lacks_chart registry beat ≡ false
  pub has_dimensions : lacks_dimension registry beat ≡ false
  pub few : too_many_dimensions registry beat ≡ false
  pub few_charts : too_many_charts registry beat ≡ false
  pub kept_grids : changes_grid registry beat ≡ false

pub passes : (registry : Registry) (copies : Bool) (last moment : ℕ) (beat : OpenBeat) → beat_refusal registry copies last moment beat ≡ None → Passed registry last moment beat
unfolding beat_refusal
passes registry copies last moment beat free =
    let roles = passed copies MixedRoles _ free in
    let order = passed (nat_le moment last) (MomentOrder last) _ roles.1 in
    let charts = passed (lacks_chart registry beat) NoChart _ order.1 in
    let dimensions = passed (lacks_dimension registry beat) NoDimension _ charts.1 in
    let grid = passed (changes_grid registry beat) GridChanged _ dimensions.1 in
    let room = passed (too_many_charts registry beat) TooManyCharts _ grid.1 in
    let few = passed (too_many_dimensions registry beat) TooManyDimensions _ room.1 in
    record { later = leb-false moment last order.0; has_charts = charts.0; has_dimensions = dimensions.0; few = few.0; few_charts = room.0; kept_grids = grid.0 }

pub follows-passed : (h : List Beat) (moment : ℕ) (beat : OpenBeat) → Follows h moment beat → Passed (registry_of h) (last h) moment beat
follows-passed h moment beat follows = passes (registry_of h) (is_some (child h)) (last h) moment beat follows.accepted

-- it follows no copied beats
pub follows-alone : (h : List Beat) (moment : ℕ) (beat : OpenBeat) → Follows h moment beat → is_some (child h) ≡ false
unfolding beat_refusal
follows-alone h moment beat follows = (passed (is_some (child h)) MixedRoles _ follows.accepted).0

-- a history has a child just where nothing may be collected any more
pub copies-of : (h : List Beat) (beats : List StoreBeat) → AreBeatsOf h beats → is_some (child h) ≡ copies (role_of h)
copies-of [] beats are = refl
copies-of (collected moment beat ∷ h) [] are = absurd are
copies-of (collected moment beat ∷ h) (kept ∷ beats) are = follows-alone h moment beat are.0.follows
copies-of (copied copy ∷ h) beats are = refl
copies-of (health text ∷ h) [] are = absurd are
copies-of (health text ∷ h) (kept ∷ beats) are = copies-of h beats are.1
copies-of (missing gap ∷ h) beats are = refl

no-child : (own : Option ℕ) → is_some own ≡ false → None ≡ own
no-child (Some number) none = absurd (true≢false none)
no-child None none = refl

-- the child is that of the last beat that decides what a history does
pub child-of : (h : List Beat) (beats : List StoreBeat) → AreBeatsOf h beats → child_in (role_of h) ≡ child h
child-of [] beats are = refl
child-of (collected moment beat ∷ h) [] are = absurd are
child-of (collected moment beat ∷ h) (kept ∷ beats) are = no-child (child h) (follows-alone h moment beat are.0.follows)
child-of (copied copy ∷ h) beats are = refl
child-of (health text ∷ h) [] are = absurd are
child-of (health text ∷ h) (kept ∷ beats) are = child-of h beats are.1
child-of (missing gap ∷ h) beats are = refl

-- what was collected lies before a moment that is above the last one
pub before-of : (h : List Beat) (beats : List StoreBeat) → AreBeatsOf h beats → (moment : ℕ) → last h < moment → IsBefore h moment
before-of [] beats are moment less = before-none moment
before-of (collected at beat ∷ h) [] are moment less = absurd are
before-of (collected at beat ∷ h) (kept ∷ beats) are moment less =
    let first = (follows-passed h at beat are.0.follows).later in
    let earlier : last h < moment = omega (arith, first, less) in
    before-collected h at moment beat (before-of h beats are.1 moment earlier) less
before-of (copied copy ∷ h) [] are moment less = absurd are
before-of (copied copy ∷ h) (kept ∷ beats) are moment less =
    let first = are.0.follows.later in
    before-of h beats are.1 moment (omega (arith, first, less))
before-of (health text ∷ h) [] are moment less = absurd are
before-of (health text ∷ h) (kept ∷ beats) are moment less = before-of h beats are.1 moment less
before-of (missing gap ∷ h) [] are moment less = absurd are
before-of (missing gap ∷ h) (kept ∷ beats) are moment less =
    let first = are.0.later in
    before-of h beats are.1 moment (omega (arith, first, less))
