-- The moments of a series' points rise.
use Rattle.std.specs.Prelude.{◌≡◌, ℕ, ◌+◌, ◌^◌, ◌<◌, ◌≤◌, true, List, [], ◌∷◌, ◌++◌, reverse, nat_lt, find, IsTrue, Option, Some, None}
use Rattle.std.specs.List.{cons_option}
use Rattle.std.specs.Option.{option_map, option_map_or}
use Rattle.std.proofs.Common.{arith, refl, sym, subst}
use Rattle.std.proofs.lemmas.Bool.{ltb-true}
use Rattle.tier_rollup.specs.declared.point.Point.{Point}
use Rattle.beat_tiers.specs.declared.item.BeatPoint.{BeatPoint}
use Rattle.beat_tiers.specs.Beats.{TierBeat, is_series, last, series_points}
use Rattle.beat_tiers.specs.Tiers.{AreBeats}
use Rattle.beat_tiers.proofs.GivenLemmas.{IsLater, above_last, beat_of}
use Rattle.beat_tiers.proofs.GroupLemmas.{reverse_cons}
use Rattle.query_engine.specs.Points.{are_rising_from, are_series}
use Rattle.query_engine.proofs.MemberLemmas.{Rises, rises, rising}
use Rattle.store_core.specs.Store.{StoreState}
use Rattle.store_core.specs.View.{Tells}

-- every moment is below a limit
abbrev AreUnder : ℕ → List Point → Type 0
AreUnder limit [] = Unit {0}
AreUnder limit (point ∷ points) = (point.moment < limit) × AreUnder limit points

under_to : (low high : ℕ) (points : List Point) → AreUnder low points → low ≤ high → AreUnder high points
under_to low high [] under le = tt
under_to low high (point ∷ points) under le = (omega (arith, under.0, le), under_to low high points under.1 le)

under_end : (limit : ℕ) (points : List Point) (newest : Point) → AreUnder limit points → newest.moment < limit → AreUnder limit (points ++ newest ∷ [])
under_end limit [] newest under low = (low, tt)
under_end limit (point ∷ points) newest under low = (under.0, under_end limit points newest under.1 low)

rising_end : (least : ℕ) (points : List Point) (newest : Point) → are_rising_from least points ≡ true → AreUnder newest.moment points → least ≤ newest.moment → newest.moment < 2 ^ 32
    → are_rising_from least (points ++ newest ∷ []) ≡ true
rising_end least [] newest rise under high fits = rising least newest [] high fits refl
rising_end least (point ∷ points) newest rise under high fits =
    let is : Rises least point points = rises least point points rise in
    rising least point (points ++ newest ∷ []) is.low is.fits (rising_end (point.moment + 1) points newest is.rest under.1 (omega (arith, under.0)) fits)

record AreOf (limit : ℕ) (points : List Point) : Type 0 where
  rise : are_rising_from 0 points ≡ true
  under : AreUnder limit points

series_rise : (series : ℕ) (beats : List TierBeat) → AreBeats beats → AreOf (last beats + 1) (reverse (series_points beats series))
series_rise series [] are = record { rise = refl; under = tt }
series_rise series (beat ∷ beats) are = by beat.moment beat.points are.0.later are.0.short (series_rise series beats are.1)
  where
    more : (moment : ℕ) (found : Option BeatPoint) → last beats < moment → moment < 2 ^ 32 → AreOf (last beats + 1) (reverse (series_points beats series))
        → AreOf (moment + 1) (reverse (cons_option (option_map (λ (point : BeatPoint). record { moment = moment; word = point.word }) found) (series_points beats series)))
    more moment None above short rest = record { rise = rest.rise; under = under_to (last beats + 1) (moment + 1) (reverse (series_points beats series)) rest.under (omega (arith, above)) }
    more moment (Some found) above short rest =
        let point : Point = record { moment = moment; word = found.word } in
        let low : AreUnder moment (reverse (series_points beats series)) = under_to (last beats + 1) moment (reverse (series_points beats series)) rest.under (omega (arith, above)) in
        subst (AreOf (moment + 1)) (sym (reverse_cons point (series_points beats series))) (record {
          rise = rising_end 0 (reverse (series_points beats series)) point rest.rise low (omega arith) short;
          under = under_end (moment + 1) (reverse (series_points beats series)) point (under_to moment (moment + 1) (reverse (series_points beats series)) low (omega arith)) (omega arith);
        })

    by : (moment : Option ℕ) (points : List BeatPoint) → IsLater moment beats → option_map_or (λ m. nat_lt m (2 ^ 32)) moment true ≡ true
        → AreOf (last beats + 1) (reverse (series_points beats series))
        → AreOf (last (beat_of moment points ∷ beats) + 1) (reverse (series_points (beat_of moment points ∷ beats) series))
    by None points later short rest = rest
    by (Some moment) points later short rest = more moment (find (is_series series) points) (above_last moment beats later) (ltb-true moment (2 ^ 32) short) rest

-- the points of each series that a store tells
pub told_series : (store : StoreState) (told : ℕ → List Point) → Tells store told → (series : ℕ) → IsTrue (are_series (told series))
told_series store told tells series =
    subst (λ (all : ℕ → List Point). IsTrue (are_series (all series))) (sym tells.told_is) (series_rise series tells.beats tells.has.are.beats_are).rise
