-- What a store has applied for a history gives the answers of the history.
use Rattle.std.proofs.Common.{◌≡◌, ℕ, nat_eq, Bool, true, false, cond, List, [], ◌∷◌, map, reverse, Option, Some, None, Result, Ok, Err, refl, sym, ap, ◌∙◌}
use Rattle.std.specs.List.{cons_option, find}
use Rattle.std.specs.Option.{option_map, option_map_or, unwrap_or}
use Rattle.std.proofs.lemmas.Option.{none-some}
use Rattle.algorithms.specs.Words.{packed}
use Rattle.history.specs.History.{Beat, collected, copied, health, missing, registry_of}
use Rattle.history.specs.Points.{points, Point as HistoryPoint}
use Rattle.history.specs.Registry.{Registry}
use Rattle.beat_points.specs.Points.{beat_points}
use Rattle.beat_points.proofs.LawLemmas.{points-of_beat}
use Rattle.beat_tiers.specs.declared.item.BeatPoint.{BeatPoint}
use Rattle.beat_tiers.specs.Beats.{is_series, series_points}
use Rattle.tier_rollup.specs.declared.point.Point.{Point}
use Rattle.query_engine.specs.declared.request.Request.{Request}
use Rattle.query_engine.specs.Windows.{table_of}
use Rattle.query_text.specs.declared.fault.QueryFault.{QueryFault}
use Rattle.query_text.specs.declared.fault.QueryFault.TheVariants as fault
use Rattle.query_text.specs.Asked.{query_read}
use Rattle.query_text.specs.Fault.{IsFaultFor}
use Rattle.query_text.specs.Told.{fault_text, table_text}
use Rattle.tier_settings.specs.declared.settings.Settings.{Settings}
use Rattle.store_core.specs.declared.beats.beat.Beat.{Beat as StoreBeat}
use Rattle.store_core.specs.Tiers.{floor_at, kept_of, seen}
use Rattle.store_core.specs.View.{points_of}
use Rattle.tier_settings.specs.Limits.{widths}
use Rattle.agent_core.specs.Answers.{floor_of_history, kept_of_history, points_of_history, reply_of, reply_to, tier_beat, tier_beats, told_point}
use Rattle.agent_core.specs.Kept.{copied_point, point_of, AreBeatsOf, IsBeatOf}

-- ---- the points of a series
find-map : {A B : Type 0} (f : A → B) (p : B → Bool) (xs : List A) → find p (map f xs) ≡ option_map f (find (λ x. p (f x)) xs)
find-map f p [] = refl
find-map {A} {B} f p (x ∷ xs) = by (p (f x)) (find-map f p xs)
  where
    by : (b : Bool) → find p (map f xs) ≡ option_map f (find (λ x. p (f x)) xs)
        → cond b (Some (f x)) (find p (map f xs)) ≡ option_map f (cond b (Some x) (find (λ x. p (f x)) xs))
    by true rest = refl
    by false rest = rest

module _ (moment series : ℕ) where
  -- a point as tiers have it
  abbrev tier_point : BeatPoint → Point
  tier_point point = record { moment = moment; word = point.word }

  module _ {W : Type 0} (as_point : W → BeatPoint) (words : List W) (others : List Point) (before : List HistoryPoint) (same : others ≡ map told_point before) where
    -- the history's point of the first word of the series
    abbrev in_prefix : Option W → List HistoryPoint
    in_prefix found = option_map_or (λ (word : W). record { moment = moment; word = (as_point word).word } ∷ before) found before

    prefix-is : (found : Option W) → cons_option (option_map tier_point (option_map as_point found)) others ≡ map told_point (in_prefix found)
    prefix-is None = same
    prefix-is (Some word) = λ i. record { moment = moment; word = (as_point word).word } ∷ same i

    first-is : cons_option (option_map tier_point (find (is_series series) (map as_point words))) others ≡ map told_point (in_prefix (find (λ (word : W). nat_eq (as_point word).series series) words))
    first-is =
        ap (λ (found : Option BeatPoint). cons_option (option_map tier_point found) others) (find-map as_point (is_series series) words)
        ∙ prefix-is (find (λ (word : W). nat_eq (as_point word).series series) words)

-- the points that tiers see of a series are those of the history
pub tier-points : (h : List Beat) (series : ℕ) → series_points (tier_beats h) series ≡ map told_point (points packed h series)
tier-points [] series = refl
tier-points (collected moment beat ∷ h) series =
    let registry = registry_of (collected moment beat ∷ h) in
    first-is moment series (point_of registry) (beat_points registry h moment beat) (series_points (tier_beats h) series) (points packed h series) (tier-points h series)
    ∙ sym (ap (map told_point) (points-of_beat h moment series beat))
tier-points (copied copy ∷ h) series =
    first-is copy.moment series (copied_point (registry_of (copied copy ∷ h))) copy.words (series_points (tier_beats h) series) (points packed h series) (tier-points h series)
tier-points (health text ∷ h) series = tier-points h series
tier-points (missing gap ∷ h) series = tier-points h series

-- ---- the beats of a store
pub seen-beat : (h : List Beat) (beat : Beat) (kept : StoreBeat) → IsBeatOf h beat kept → seen kept ≡ tier_beat h beat
seen-beat h (collected moment beat) kept of = ap seen of.is_kept
seen-beat h (copied copy) kept of = ap seen of.is_kept
seen-beat h (health text) kept of = ap seen of.is_kept
seen-beat h (missing gap) kept of = ap seen of.is_kept

-- what tiers see of a series is what is answered of it
pub told-points : (h : List Beat) (series : ℕ) → reverse (series_points (tier_beats h) series) ≡ points_of_history h series
unfolding points_of_history
told-points h series = ap reverse (tier-points h series)

-- tiers see of the beats that a store keeps for a history just what they see of the history
pub seen-beats : (h : List Beat) (beats : List StoreBeat) → AreBeatsOf h beats → map seen beats ≡ tier_beats h
seen-beats [] [] are = refl
seen-beats [] (kept ∷ beats) are = absurd are
seen-beats (beat ∷ h) [] are = absurd are
seen-beats (beat ∷ h) (kept ∷ beats) are = λ i. seen-beat h beat kept are.0 i ∷ seen-beats h beats are.1 i

module _ (set : Settings) (h : List Beat) where
  pub told-is : points_of (tier_beats h) ≡ points_of_history h
  told-is = λ i series. told-points h series i

  pub floor-is : (tier : ℕ) → floor_at set (tier_beats h) tier ≡ floor_of_history set h tier
  unfolding floor_of_history
  floor-is tier = refl

  -- the answer of the store is that of the history
  pub table-is : (registry : Registry) (request : Request) → registry ≡ registry_of h
      → table_text registry request (table_of widths (floor_at set (tier_beats h)) (points_of (tier_beats h)) request) ≡ reply_to set h (Ok request)
  unfolding reply_to
  table-is registry request same = λ i. table_text (same i) request (table_of widths (λ tier. floor-is tier i) (told-is i) request)

  pub kept-is : kept_of set (tier_beats h) ≡ kept_of_history set h
  unfolding kept_of_history
  kept-is = refl

-- ---- the reply to what was read of a query
-- the line of the refusal
fault-line : (set : Settings) (h : List Beat) (why : QueryFault) (text : List ℕ) → fault_text why ≡ Some text → text ≡ reply_to set h (Err why)
unfolding reply_to
fault-line set h why text line = ap (λ (found : Option (List ℕ)). unwrap_or found []) (sym line)

pub reply-refused : (set : Settings) (h : List Beat) (answer : Result Request QueryFault) (why : QueryFault) (text : List ℕ) → IsFaultFor answer why → fault_text why ≡ Some text → text ≡ reply_to set h answer
reply-refused set h answer fault.Memory text for line = absurd (none-some text line)
reply-refused set h answer fault.BadWord text for line = fault-line set h fault.BadWord text line ∙ ap (reply_to set h) (sym for)
reply-refused set h answer fault.BadNumber text for line = fault-line set h fault.BadNumber text line ∙ ap (reply_to set h) (sym for)
reply-refused set h answer fault.NoChart text for line = fault-line set h fault.NoChart text line ∙ ap (reply_to set h) (sym for)
reply-refused set h answer fault.BadGroup text for line = fault-line set h fault.BadGroup text line ∙ ap (reply_to set h) (sym for)
reply-refused set h answer fault.TooManyRows text for line = fault-line set h fault.TooManyRows text line ∙ ap (reply_to set h) (sym for)

-- by the registry of the history
pub reply-by : (set : Settings) (h : List Beat) (registry : Registry) (text : List ℕ) → registry ≡ registry_of h → reply_to set h (query_read registry text) ≡ reply_of set h text
unfolding reply_of
reply-by set h registry text same = ap (λ (r : Registry). reply_to set h (query_read r text)) same
