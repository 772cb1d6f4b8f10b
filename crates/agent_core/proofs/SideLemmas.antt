-- A side is written of what beats left, and read back.
use Rattle.std.proofs.Common.{◌≡◌, ℕ, Bool, true, false, ◌&&◌, List, [], length, map, Option, Some, None, is_some, Result, Ok, Err, IfErr, refl, sym, ap, subst, ◌∙◌, true≢false, if◌then◌else◌}
use Rattle.std.specs.Option.{option_and_then, option_map}
use Rattle.std.proofs.lemmas.List.{length-map}
use Rattle.std.proofs.lemmas.Option.{none-some, same_Some}
use Rattle.field_codec.specs.Field.{IsBytes}
use Rattle.history.specs.declared.chart.ChartDef.{ChartDef}
use Rattle.history.specs.History.{Beat, registry_of}
use Rattle.history.specs.Registry.{Registry, empty, same_chart, same_dimension}
use Rattle.history.specs.Regular.{AreApart}
use Rattle.alarm_core.specs.Course.{held}
use Rattle.alarm_core.specs.Kept.{kept, of_kept}
use Rattle.chart_registry.specs.Taking.{chart_def, dimension_back, with_charts}
use Rattle.beat_entries.specs.Next.{goes_on, with_numbered}
use Rattle.beat_entries.proofs.DefinedLemmas.{chart-alike, chart-itself, dimension-alike, dimension-itself}
use Rattle.beat_entries.proofs.PutLemmas.{apart-put_all}
use Rattle.entry_codec.specs.declared.entry.Entry.TheVariants as entry
use Rattle.side_codec.specs.declared.side.Side.{Side}
use Rattle.side_codec.specs.Sides.{read_side, side_bytes, HasSpelling, IsNoSpelling}
use Rattle.side_codec.proofs.SidesLaw.{is_read, reads_back}
use Rattle.beat_points.specs.LastRows.{AreLastOf}
use Rattle.tier_settings.specs.declared.settings.Settings.{Settings}
use Rattle.store_core.specs.declared.beats.beat.Beat.{Beat as StoreBeat}
use Rattle.agent_core.specs.declared.left.Left.{Left}
use Rattle.agent_core.specs.declared.left.Role.{Role}
use Rattle.agent_core.specs.declared.left.Role.TheVariants.{Undecided, Collects, Copies}
use Rattle.agent_core.specs.Alarms.{alarms_at}
use Rattle.agent_core.specs.Answers.{floor_of_history}
use Rattle.agent_core.specs.Gaps.{AreGapsLeft}
use Rattle.agent_core.specs.Kept.{AreBeatsOf}
use Rattle.agent_core.specs.LastSeen.{charts_seen, points_seen, seen_at}
use Rattle.agent_core.specs.Left.{IsFit, IsLeftBy}
use Rattle.agent_core.specs.Notes.{defined_in, is_good, noted_by, noted_if, noted_in, noted_in_side, nothing_noted, role_in, Noted}
use Rattle.agent_core.specs.Roles.{role_of}
use Rattle.agent_core.specs.Rules.{HasLimits}
use Rattle.agent_core.specs.Sides.{all_charts, all_dimensions, filled, last_row, point_in_side, side_by, side_of, side_role, stored_point, IsReadFrom, IsSideOf}
use Rattle.agent_core.proofs.GapLemmas.{gaps-read, gaps-written}
use Rattle.agent_core.proofs.LimitLemmas.{entry-limits, none-limits}
use Rattle.agent_core.proofs.SideAlarms.{alarms-again}
use Rattle.agent_core.proofs.SideLists.{filled-whole, points-again, points-length, raws-are, rows-are, rows-filled, words-stored}
use Rattle.agent_core.proofs.SideRegistry.{all-defined, all-go-on, of-history}
use Rattle.agent_core.proofs.SideWords.{last-words}

role-again : (role : Role) → role_in (side_role role) ≡ role
role-again Undecided = refl
role-again Collects = refl
role-again (Copies child) = refl

-- what two clauses say of an error
pub if-err-both : {X Y : Type 0} (r : Result X Y) (P Q S : Y → Type 0) → ((y : Y) → P y → Q y → S y) → IfErr r P → IfErr r Q → IfErr r S
if-err-both (Ok x) P Q S both first second = tt
if-err-both (Err y) P Q S both first second = both y first second

-- ---- what is written
module _ (set : Settings) (h : List Beat) (beats : List StoreBeat) (are : AreBeatsOf h beats) (left : Left) (is : IsLeftBy set h left) (floor : ℕ) (floor_is : floor ≡ floor_of_history set h 0) where
  moments-are : filled 0 (length left.registry.charts) left.latest.charts ≡ charts_seen h
  moments-are =
      (λ i. filled 0 (length (is.registry_is i).charts) (is.latest_is.charts i))
      ∙ filled-whole 0 (length (registry_of h).charts) (charts_seen h) (length-map (registry_of h).charts (λ (chart : ChartDef). seen_at h chart.id))

  rows-written : filled None (length left.registry.dimensions) left.last_rows ≡ map (last_row h) (registry_of h).dimensions
  rows-written = ap (λ (r : Registry). filled None (length r.dimensions) left.last_rows) is.registry_is ∙ rows-filled h left.last_rows is.last_rows_are

  points-written : map stored_point (filled None (length left.registry.dimensions) left.latest.points) ≡ map (option_map point_in_side) (points_seen h)
  points-written =
      ap (map stored_point) ((λ i. filled None (length (is.registry_is i).dimensions) (is.latest_is.points i)) ∙ filled-whole None (length (registry_of h).dimensions) (points_seen h) (points-length h))
      ∙ words-stored (points_seen h) (last-words h beats are)

  side-is : side_by floor left ≡ side_of set h
  unfolding side_by side_of
  side-is = λ i. record {
    role = side_role (is.role_is i);
    charts = all_charts (is.registry_is i);
    dimensions = all_dimensions (is.registry_is i);
    chart_moments = moments-are i;
    last_rows = rows-written i;
    last_points = points-written i;
    alarms = kept (is.alarms_are i);
    gaps = gaps-written set h left.gaps floor floor_is is.gaps_are i;
  }

  pub side-written : (bytes : List ℕ) → HasSpelling (side_by floor left) → bytes ≡ side_bytes (side_by floor left) → IsSideOf set h bytes
  side-written bytes spelt are = record { spelt = subst HasSpelling side-is spelt; bytes_are = are ∙ ap side_bytes side-is }

-- ---- what is read
module _ (set : Settings) (h : List Beat) (beats : List StoreBeat) (are : AreBeatsOf h beats) where
  defined : with_numbered empty (defined_in (side_of set h)) ≡ registry_of h
  unfolding side_of
  defined = all-defined (registry_of h) (of-history h beats are)

  goes : goes_on empty (defined_in (side_of set h)) ≡ true
  unfolding side_of
  goes = all-go-on (registry_of h) (of-history h beats are)

  kept-again : (registry : Registry) → registry ≡ registry_of h → of_kept registry (side_of set h).alarms ≡ Some (alarms_at set h)
  unfolding side_of
  kept-again registry same = ap (λ (r : Registry). of_kept r (kept (alarms_at set h))) same ∙ alarms-again set h beats are

  good : is_good (side_of set h) ≡ true
  good = λ i. goes i && is_some (kept-again (with_numbered empty (defined_in (side_of set h))) defined i)

  left-from : (left : Left) → IsReadFrom (side_of set h) left → IsLeftBy set h left
  unfolding side_of
  left-from left is = record {
    registry_is = is.registry_is ∙ defined;
    role_is = is.role_is ∙ role-again (role_of h);
    last_rows_are = subst (λ rows. AreLastOf rows h) (sym is.last_rows_are) (rows-are h beats are);
    latest_is = record {
      charts = is.charts_are;
      points = is.points_are ∙ points-again (points_seen h);
      raws = is.raws_are ∙ raws-are h;
    };
    gaps_are = subst (AreGapsLeft set h) (sym is.gaps_are) (gaps-read set h);
    alarms_are = same_Some (held left.alarms) (alarms_at set h) (sym is.alarms_are ∙ kept-again left.registry (is.registry_is ∙ defined));
  }

  -- the side of a history is read from its bytes
  reads : (bytes : List ℕ) → IsSideOf set h bytes → read_side bytes ≡ Some (side_of set h)
  reads bytes of = ap read_side of.bytes_are ∙ reads_back (side_of set h) of.spelt

  same-side : (bytes : List ℕ) (side : Side) → IsSideOf set h bytes → read_side bytes ≡ Some side → side ≡ side_of set h
  same-side bytes side of found = same_Some side (side_of set h) (sym found ∙ reads bytes of)

  pub left-read : (bytes : List ℕ) (side : Side) (left : Left) → read_side bytes ≡ Some side → IsReadFrom side left → IsSideOf set h bytes → IsLeftBy set h left
  left-read bytes side left found is of = left-from left (subst (λ (s : Side). IsReadFrom s left) (same-side bytes side of found) is)

  -- so it is never damaged
  pub never-bad : (bytes : List ℕ) (side : Side) → read_side bytes ≡ Some side → IsSideOf set h bytes → is_good side ≡ false → ⊥
  never-bad bytes side found of bad = true≢false (sym good ∙ ap is_good (sym (same-side bytes side of found)) ∙ bad)

  pub never-unread : (bytes : List ℕ) → IsSideOf set h bytes → read_side bytes ≡ None → ⊥
  never-unread bytes of none = none-some (side_of set h) (sym none ∙ reads bytes of)

-- ---- whatever bytes they are
no-spelling : (bytes : List ℕ) → IsBytes bytes → IsNoSpelling bytes → (found : Option Side) → read_side bytes ≡ found → read_side bytes ≡ None
no-spelling bytes are never None e = e
no-spelling bytes are never (Some side) e = let read = is_read bytes side are e in absurd (never side read.0 read.1)

pub unread : (bytes : List ℕ) → IsBytes bytes → IsNoSpelling bytes → read_side bytes ≡ None
unread bytes are never = no-spelling bytes are never (read_side bytes) refl

pub none-noted : (bytes : List ℕ) → read_side bytes ≡ None → noted_in_side bytes ≡ None
unfolding noted_in_side
none-noted bytes none = ap (option_and_then noted_if) none

pub bad-noted : (bytes : List ℕ) (side : Side) → read_side bytes ≡ Some side → is_good side ≡ false → noted_in_side bytes ≡ None
unfolding noted_in_side
bad-noted bytes side found bad = ap (option_and_then noted_if) found ∙ ap (λ (b : Bool). if b then Some (noted_by side) else None) bad

module _ (side : Side) (left : Left) (is : IsReadFrom side left) where
  noted-is : noted_by side ≡ noted_in left
  noted-is = λ i. record { registry = sym is.registry_is i; role = sym is.role_is i }

  is-good : is_good side ≡ true
  is-good = λ i. is.goes i && is_some ((ap (λ (r : Registry). of_kept r side.alarms) (sym is.registry_is) ∙ is.alarms_are) i)

  pub good-noted : (bytes : List ℕ) → read_side bytes ≡ Some side → noted_in_side bytes ≡ Some (noted_in left)
  unfolding noted_in_side
  good-noted bytes found =
      ap (option_and_then noted_if) found ∙ ap (λ (b : Bool). if b then Some (noted_by side) else None) is-good ∙ ap (λ (n : Noted). Some n) noted-is

  pub fits : IsFit left
  fits = record {
    charts = subst (λ (r : Registry). AreApart same_chart r.charts) (sym is.registry_is) (apart-put_all same_chart chart-itself chart-alike [] (map chart_def side.charts) tt);
    dimensions = subst (λ (r : Registry). AreApart same_dimension r.dimensions) (sym is.registry_is)
        (apart-put_all same_dimension dimension-itself dimension-alike [] (map (dimension_back (with_charts empty side.charts)) side.dimensions) tt);
    limits = subst HasLimits (sym is.registry_is)
        (entry-limits nothing_noted (record { registry = with_numbered empty (defined_in side); role = Collects }) (entry.Collected (defined_in side)) refl is.goes none-limits);
    up_to = is.up_to;
  }
