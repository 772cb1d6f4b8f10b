-- The beats of what is kept are those at or above the floor.
use Rattle.std.proofs.Common.{◌≡◌, ℕ, ◌+◌, ◌<◌, ◌==◌, Bool, false, not, leb, ◌&&◌, List, [], ◌∷◌, ◌++◌, length, map, filter, reverse, inl, inr, Option, Some, None, refl, sym, ap, ◌∙◌, append_assoc, append-nil, arith}
use Rattle.std.proofs.lemmas.Bool.{cases_Bool, cond_both, cond-true, cond-false, and_right, eq-eqb, ne_eqb, le-leb, lt-leb}
use Rattle.std.proofs.lemmas.Bool.Decides.{nat_tests}
use Rattle.std.proofs.lemmas.List.{map-append}
use Rattle.beat_tiers.specs.declared.item.BeatPoint.{BeatPoint}
use Rattle.beat_tiers.specs.declared.item.Item.{Item}
use Rattle.beat_tiers.specs.declared.item.Stepped.{Stepped}
use Rattle.beat_tiers.specs.declared.kept.KeptBeat.{KeptBeat}
use Rattle.beat_tiers.specs.declared.kept.KeptPoint.{KeptPoint}
use Rattle.tier_settings.specs.declared.tier.Tier.{Tier}
use Rattle.beat_tiers.specs.Beats.{TierBeat, last}
use Rattle.beat_tiers.specs.Floors.{floor_in, has_points, is_kept}
use Rattle.beat_tiers.specs.Kept.{beat_of_item, before_beats, beats_in, behind_all, behind_beats, kept_beat_of, kept_point_of}
use Rattle.beat_tiers.specs.State.{point_items}
use Rattle.beat_tiers.specs.Tiers.{AreBeats, Group, is_after, items_in, points_given}
use Rattle.beat_tiers.proofs.BeatRuns.{behind-all-in, behind-last}
use Rattle.beat_tiers.proofs.GivenLemmas.{AreBelow, IsLater, above_last, beat_of, placed_below, placed_filter, placed_to, points_placed}
use Rattle.beat_tiers.proofs.GroupLemmas.{items_cons, reverse_cons}

-- the moments of the beats are below a limit
abbrev AreEarlier : ℕ → List KeptBeat → Type 0
AreEarlier limit [] = Unit {0}
AreEarlier limit (beat ∷ beats) = (beat.moment < limit) × AreEarlier limit beats

earlier-before : (limit : ℕ) (item : Item Stepped) (beats : List KeptBeat) → item.place < limit → AreEarlier limit beats → AreEarlier limit (before_beats item beats)
earlier-before limit item [] lt e = (lt, tt)
earlier-before limit item (beat ∷ beats) lt e = cond_both (item.place == beat.moment) _ _ (λ (bs : List KeptBeat). AreEarlier limit bs) (λ _. (e.0, e.1)) (λ _. (lt, e))

earlier-in : (limit : ℕ) (items : List (Item Stepped)) → AreBelow limit items → AreEarlier limit (beats_in items)
earlier-in limit [] below = tt
earlier-in limit (item ∷ items) below = earlier-before limit item (beats_in items) below.0 (earlier-in limit items below.1)

-- an item at a later moment begins a beat
behind-new : (beats : List KeptBeat) (item : Item Stepped) → AreEarlier item.place beats → behind_beats beats item ≡ beats ++ beat_of_item item ∷ []
behind-new [] item e = refl
behind-new (beat ∷ []) item e = cond-false (beat.moment == item.place) _ _ (ne_eqb beat.moment item.place (λ same. omega (arith, e.0)))
behind-new (beat ∷ next ∷ beats) item e = ap (λ rest. beat ∷ rest) (behind-new (next ∷ beats) item e.1)

-- further items at its moment go behind its points
behind-same : (moment : ℕ) (beats : List KeptBeat) (points : List KeptPoint) (more : List BeatPoint)
    → behind_all (beats ++ record { moment = moment; points = points } ∷ []) (point_items moment more) ≡ beats ++ record { moment = moment; points = points ++ map kept_point_of more } ∷ []
behind-same moment beats points [] = ap (λ (ps : List KeptPoint). beats ++ record { moment = moment; points = ps } ∷ []) (sym (append-nil points))
behind-same moment beats points (point ∷ more) =
    let item : Item Stepped = record { place = moment; series = point.series; value = record { step = point.step; word = point.word } } in
    let old : KeptBeat = record { moment = moment; points = points } in
    ap (λ (bs : List KeptBeat). behind_all bs (point_items moment more)) (behind-last beats old item ∙ ap (λ (bs : List KeptBeat). beats ++ bs) (cond-true (moment == moment) _ _ (eq-eqb moment moment refl)))
    ∙ behind-same moment beats (points ++ kept_point_of point ∷ []) more
    ∙ ap (λ (ps : List KeptPoint). beats ++ record { moment = moment; points = ps } ∷ []) (append_assoc points (kept_point_of point ∷ []) (map kept_point_of more))

-- the points of a beat behind earlier ones
run : (moment : ℕ) (items : List (Item Stepped)) (point : BeatPoint) (points : List BeatPoint) → AreBelow moment items
    → beats_in (items ++ point_items moment (point ∷ points)) ≡ beats_in items ++ kept_beat_of (beat_of (Some moment) (point ∷ points)) ∷ []
run moment items point points below =
    let item : Item Stepped = record { place = moment; series = point.series; value = record { step = point.step; word = point.word } } in
    sym (behind-all-in items (point_items moment (point ∷ points)))
    ∙ ap (λ (bs : List KeptBeat). behind_all bs (point_items moment points)) (behind-new (beats_in items) item (earlier-in moment items below))
    ∙ behind-same moment (beats_in items) (kept_point_of point ∷ []) points

pub after-kept : (tier : Tier) (expired : Option ℕ) (moment : ℕ) → is_after expired moment ≡ leb (floor_in 0 tier expired) moment
after-kept tier None moment = sym (le-leb 0 moment (omega arith))
after-kept tier (Some from) moment = grind (arith, nat_tests)

module _ (tier : Tier) (expired : Option ℕ) where
  abbrev kept : TierBeat → Bool
  kept beat = has_points beat && is_kept (floor_in 0 tier expired) beat

  abbrev after : Group Stepped → Bool
  after group = is_after expired group.moment

  with-points : (moment : ℕ) (point : BeatPoint) (points : List BeatPoint) → kept (beat_of (Some moment) (point ∷ points)) ≡ is_after expired moment
  with-points moment point points =
      ap (λ (b : Bool). not b && leb (floor_in 0 tier expired) moment) (lt-leb (length (point ∷ points)) 0 (omega arith)) ∙ sym (after-kept tier expired moment)

  pub beats-kept : (beats : List TierBeat) → AreBeats beats → beats_in (items_in (filter after (points_given beats))) ≡ map kept_beat_of (reverse (filter kept beats))
  beats-kept [] are = refl
  beats-kept (beat ∷ beats) are = by beat.moment beat.points are.0.later (beats-kept beats are.1)
    where
      by : (moment : Option ℕ) (points : List BeatPoint) → IsLater moment beats → beats_in (items_in (filter after (points_given beats))) ≡ map kept_beat_of (reverse (filter kept beats))
          → beats_in (items_in (filter after (points_given (beat_of moment points ∷ beats)))) ≡ map kept_beat_of (reverse (filter kept (beat_of moment points ∷ beats)))
      by None points later rest =
          rest ∙ ap (λ (bs : List TierBeat). map kept_beat_of (reverse bs)) (sym (cond-false (kept (beat_of None points)) (beat_of None points ∷ filter kept beats) (filter kept beats) (and_right (has_points (beat_of None points)) false refl)))
      by (Some moment) [] later rest = rest
      by (Some moment) (point ∷ points) later rest =
          let one : TierBeat = beat_of (Some moment) (point ∷ points) in
          let group : Group Stepped = record { moment = moment; items = point_items moment (point ∷ points) } in
          let groups : List (Group Stepped) = filter after (points_given beats) in
          let below : AreBelow moment (items_in groups) =
          placed_below moment groups (placed_to (last beats + 1) moment groups (placed_filter after (last beats + 1) (points_given beats) (points_placed beats are.1)) (omega (arith, above_last moment beats later))) in
          elim (cases_Bool (is_after expired moment)) [
            | inl is ↦
                ap (λ (gs : List (Group Stepped)). beats_in (items_in gs)) (cond-true (is_after expired moment) (group ∷ groups) groups is)
                ∙ ap beats_in (items_cons group groups)
                ∙ run moment (items_in groups) point points below
                ∙ ap (λ (bs : List KeptBeat). bs ++ kept_beat_of one ∷ []) rest
                ∙ sym (map-append kept_beat_of (reverse (filter kept beats)) (one ∷ []))
                ∙ ap (map kept_beat_of) (sym (reverse_cons one (filter kept beats)))
                ∙ ap (λ (bs : List TierBeat). map kept_beat_of (reverse bs)) (sym (cond-true (kept one) (one ∷ filter kept beats) (filter kept beats) (with-points moment point points ∙ is)))
            | inr out ↦
                ap (λ (gs : List (Group Stepped)). beats_in (items_in gs)) (cond-false (is_after expired moment) (group ∷ groups) groups out)
                ∙ rest
                ∙ ap (λ (bs : List TierBeat). map kept_beat_of (reverse bs)) (sym (cond-false (kept one) (one ∷ filter kept beats) (filter kept beats) (with-points moment point points ∙ out)))
          ]
