-- What was last seen of a history, once it has one beat more.
use Rattle.std.proofs.Common.{◌≡◌, ℕ, nat_eq, List, [], ◌∷◌, length, map, reverse, find, Option, Some, None, refl, sym, ap, subst, ◌∙◌}
use Rattle.algorithms.specs.declared.last.Last.{Last}
use Rattle.algorithms.specs.Words.{packed}
use Rattle.history.specs.declared.beat.OpenBeat.{OpenBeat}
use Rattle.history.specs.declared.numbered.NumberedBeat.{NumberedBeat}
use Rattle.history.specs.declared.row.Row.{Row}
use Rattle.history.specs.declared.row.Value.{Value}
use Rattle.history.specs.History.{Beat, collected, copied, health, missing, registry_of, Copy, Gap}
use Rattle.history.specs.Numbered.{numbered_beat}
use Rattle.history.specs.Points.{points as points_of_series}
use Rattle.history.specs.Registry.{Registry}
use Rattle.history.specs.Regular.{IsRegular}
use Rattle.chart_registry.proofs.Growing.{more_definitions}
use Rattle.beat_points.specs.declared.series_word.SeriesWord.{SeriesWord}
use Rattle.beat_points.specs.LastRows.{is_of_series, AreLastOf}
use Rattle.beat_points.specs.Numbered.{rows_values}
use Rattle.beat_points.specs.Points.{beat_points}
use Rattle.beat_points.proofs.LawLemmas.{points-of_beat}
use Rattle.beat_tiers.specs.declared.item.BeatPoint.{BeatPoint}
use Rattle.beat_tiers.specs.Beats.{is_series}
use Rattle.tier_rollup.specs.declared.point.Point.{Point}
use Rattle.alarm_core.specs.declared.latest.Latest.{Latest}
use Rattle.store_core.specs.declared.beats.beat.Beat.{Beat as StoreBeat}
use Rattle.agent_core.specs.Kept.{copied_point, point_of, stored_points, AreBeatsOf}
use Rattle.agent_core.specs.LastSeen.{is_point_at, is_row_at, latest_of, with_room, HasTaken, IsLatestOf}
use Rattle.agent_core.proofs.FollowLemmas.{follows-owned, follows-regular}
use Rattle.agent_core.proofs.UnseenLemmas.{only-collected, only-copied, only-health, only-missing, only-none, HasOnlyDefined}
use Rattle.agent_core.proofs.SeenLemmas.{charts-collected, charts-copied, in_prefix, points-taken, raws-collected, raws-copied}

pub latest-is : (latest : Latest) (h : List Beat) → IsLatestOf latest h → latest ≡ latest_of latest.before h
latest-is latest h is = λ i. record { before = latest.before; charts = is.charts i; points = is.points i; raws = is.raws i }

pub latest-none : (latest : Latest) → latest.charts ≡ [] → latest.points ≡ [] → latest.raws ≡ [] → IsLatestOf latest []
latest-none latest charts points raws = record { charts = charts; points = points; raws = raws }

-- a gap leaves what was seen
pub latest-missing : (latest : Latest) (h : List Beat) (gap : Gap) → IsLatestOf latest h → IsLatestOf latest (missing gap ∷ h)
latest-missing latest h gap is = record { charts = is.charts; points = is.points; raws = is.raws }

-- a history that a store keeps
pub only-defined : (h : List Beat) (beats : List StoreBeat) → AreBeatsOf h beats → HasOnlyDefined h
only-defined [] beats are = only-none
only-defined (collected moment beat ∷ h) [] are = absurd are
only-defined (collected moment beat ∷ h) (kept ∷ beats) are =
    only-collected h moment beat (only-defined h beats are.1) (follows-owned h moment beat are.0.follows).owners (follows-regular h moment beat are.0.follows)
only-defined (copied copy ∷ h) [] are = absurd are
only-defined (copied copy ∷ h) (kept ∷ beats) are = only-copied h copy (only-defined h beats are.1) are.0.follows.may.owned.owners are.0.follows.may.words
only-defined (health text ∷ h) [] are = absurd are
only-defined (health text ∷ h) (kept ∷ beats) are = only-health h text (only-defined h beats are.1)
only-defined (missing gap ∷ h) [] are = absurd are
only-defined (missing gap ∷ h) (kept ∷ beats) are = only-missing h gap (only-defined h beats are.1)

module _ (registry : Registry) (h : List Beat) (only : HasOnlyDefined h) (lasts : List (Option Last)) (last : AreLastOf lasts h) (old new : Latest) (was : IsLatestOf old h) where
  abbrev own_point : ℕ → BeatPoint → Option Point
  own_point moment point = Some (record { moment = moment; word = point.word })

  pub seen-collected : (numbered : NumberedBeat) (points : List BeatPoint) (beat : OpenBeat)
      → registry ≡ registry_of (collected numbered.moment beat ∷ h) → IsRegular registry beat → numbered ≡ numbered_beat registry numbered.moment beat
      → points ≡ stored_points registry h numbered.moment beat
      → HasTaken is_row_at (λ (row : Row). numbered.moment) 0 (reverse numbered.rows) (with_room 0 (length registry.charts) old.charts) new.charts
      → HasTaken is_of_series (λ (value : Value). Some value.value) None (reverse (rows_values numbered.rows)) (with_room None (length registry.dimensions) old.raws) new.raws
      → HasTaken is_series (own_point numbered.moment) None points (with_room None (length registry.dimensions) old.points) new.points
      → IsLatestOf new (collected numbered.moment beat ∷ h)
  seen-collected numbered points beat same regular is stored rows values taken = record {
    charts =
        charts-collected registry h numbered.moment beat old.charts new.charts same only was.charts
        (subst (λ (n : NumberedBeat). HasTaken is_row_at (λ (row : Row). numbered.moment) 0 (reverse n.rows) (with_room 0 (length registry.charts) old.charts) new.charts) is rows);
    points =
        points-taken (point_of registry) numbered.moment (beat_points registry h numbered.moment beat) h (collected numbered.moment beat ∷ h) old.points new.points only was.points
        (more_definitions (registry_of h) beat.charts beat.dimensions)
        (λ n.
        points-of_beat h numbered.moment n beat
        ∙ ap (λ (r : Registry). in_prefix (point_of registry) numbered.moment (points_of_series packed h n)
        (find (λ (word : SeriesWord). nat_eq word.series n) (beat_points r h numbered.moment beat))) (sym same))
        (subst (λ (r : Registry). HasTaken is_series (own_point numbered.moment) None (map (point_of registry) (beat_points registry h numbered.moment beat)) (with_room None (length r.dimensions) old.points) new.points) same
        (subst (λ (all : List BeatPoint). HasTaken is_series (own_point numbered.moment) None all (with_room None (length registry.dimensions) old.points) new.points) stored taken));
    raws =
        raws-collected registry h numbered.moment beat lasts old.raws new.raws same regular last was.raws
        (subst (λ (n : NumberedBeat). HasTaken is_of_series (λ (value : Value). Some value.value) None (reverse (rows_values n.rows)) (with_room None (length registry.dimensions) old.raws) new.raws) is values);
  }

  pub seen-copied : (copy : Copy) (points : List BeatPoint) → registry ≡ registry_of (copied copy ∷ h) → points ≡ map (copied_point registry) copy.words
      → HasTaken (is_point_at registry) (λ (point : BeatPoint). copy.moment) 0 (reverse points) (with_room 0 (length registry.charts) old.charts) new.charts
      → new.raws ≡ with_room None (length registry.dimensions) old.raws
      → HasTaken is_series (own_point copy.moment) None points (with_room None (length registry.dimensions) old.points) new.points
      → IsLatestOf new (copied copy ∷ h)
  seen-copied copy points same stored owners values taken = record {
    charts =
        charts-copied registry h copy (copied_point registry) old.charts new.charts (λ word. refl) same only was.charts
        (subst (λ (all : List BeatPoint). HasTaken (is_point_at registry) (λ (point : BeatPoint). copy.moment) 0 (reverse all) (with_room 0 (length registry.charts) old.charts) new.charts) stored owners);
    points =
        points-taken (copied_point registry) copy.moment copy.words h (copied copy ∷ h) old.points new.points only was.points
        (more_definitions (registry_of h) copy.charts copy.dimensions) (λ n. refl)
        (subst (λ (r : Registry). HasTaken is_series (own_point copy.moment) None (map (copied_point registry) copy.words) (with_room None (length r.dimensions) old.points) new.points) same
        (subst (λ (all : List BeatPoint). HasTaken is_series (own_point copy.moment) None all (with_room None (length registry.dimensions) old.points) new.points) stored taken));
    raws = raws-copied registry h copy lasts old.raws new.raws same last was.raws values;
  }
