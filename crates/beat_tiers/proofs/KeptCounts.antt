-- How many beats gave what has expired.
use Rattle.std.proofs.Common.{◌≡◌, ℕ, zero, suc, ◌+◌, ◌-◌, ◌^◌, ◌<◌, ◌≤◌, min, Bool, true, false, not, cond, leb, ltb, ◌&&◌, List, [], ◌∷◌, ◌++◌, length, map, filter, reverse, take, Option, Some, None, slice_get, count_by, refl, sym, ap, subst, ◌∙◌, arith}
use Rattle.std.proofs.lemmas.Bool.{cond_both, cond-false, le-leb, lt-leb, lt-ltb, ltb-true, ltb-false}
use Rattle.std.proofs.lemmas.Bool.Decides.{nat_tests}
use Rattle.std.proofs.lemmas.List.Sums.{length-filter, count_by-le-length}
use Rattle.beat_tiers.specs.declared.item.BeatPoint.{BeatPoint}
use Rattle.beat_tiers.specs.declared.item.Item.{Item}
use Rattle.beat_tiers.specs.declared.item.Stepped.{Stepped}
use Rattle.beat_tiers.specs.declared.parts.Segment.{Segment}
use Rattle.beat_tiers.specs.declared.segments.ItemKind.TheVariants.{Points}
use Rattle.tier_settings.specs.declared.tier.Tier.{Tier}
use Rattle.beat_tiers.specs.Beats.{TierBeat, last}
use Rattle.beat_tiers.specs.Floors.{cuts_of, expired_of, floor_in, has_points, is_kept}
use Rattle.beat_tiers.specs.declared.parts.KeptItems.{KeptItems}
use Rattle.beat_tiers.specs.Segments.{ended, expired_from, places_behind, sealed_at, with_items, without_first}
use Rattle.beat_tiers.specs.State.{point_items, points_after}
use Rattle.beat_tiers.specs.Tiers.{AreBeats, AreSegmentsOf, AreSplit, Group, IsTier, is_after, is_between_groups, points_given}
use Rattle.beat_tiers.proofs.GivenLemmas.{ArePlaced, beat_of, cuts_less, placed_filter, points_fall, points_placed}
use Rattle.beat_tiers.proofs.GroupLemmas.{falling_few, reverse_cons}
use Rattle.beat_tiers.proofs.KeptBeats.{after-kept}
use Rattle.beat_tiers.proofs.PlaceLemmas.{HaveItems, have_filter, places_are, points_have}
use Rattle.beat_tiers.proofs.SegmentLemmas.{AreLess, less_to}

-- how many groups lie below a floor
abbrev pub gone : ℕ → List (Group Stepped) → ℕ
gone floor groups = length (filter (λ (group : Group Stepped). not (leb floor group.moment)) groups)

less-both : (limit : ℕ) (xs ys : List ℕ) → AreLess limit xs → AreLess limit ys → AreLess limit (xs ++ ys)
less-both limit [] ys less more = more
less-both limit (x ∷ xs) ys less more = (less.0, less-both limit xs ys less.1 more)

less-back : (limit : ℕ) (xs : List ℕ) → AreLess limit xs → AreLess limit (reverse xs)
less-back limit [] less = tt
less-back limit (x ∷ xs) less = subst (AreLess limit) (sym (reverse_cons x xs)) (less-both limit (reverse xs) (x ∷ []) (less-back limit xs less.1) (less.0, tt))

less-prefix : (limit n : ℕ) (xs : List ℕ) → AreLess limit xs → AreLess limit (take n xs)
less-prefix limit zero xs less = tt
less-prefix limit (suc n) [] less = tt
less-prefix limit (suc n) (x ∷ xs) less = (less.0, less-prefix limit n xs less.1)

less-at : (limit n : ℕ) (xs : List ℕ) → AreLess limit xs → is_after (slice_get xs n) limit ≡ true
less-at limit n [] less = refl
less-at limit zero (x ∷ xs) less = lt-ltb x limit less.0
less-at limit (suc n) (x ∷ xs) less = less-at limit n xs less.1

-- ---- what expires with a segment

past-not : (to moment : ℕ) → leb (to + 1) moment ≡ not (leb moment to)
past-not to moment = grind (arith, nat_tests)

low-up : (expired : Option ℕ) (to moment : ℕ) → is_after expired to ≡ true → is_after expired moment ≡ false → leb moment to ≡ true
low-up None to moment rises out = absurd cc
low-up (Some from) to moment rises out = le-leb moment to (omega (arith, ltb-true from to rises, ltb-false from moment out))

gone-step : (a b c : Bool) (group : Group Stepped) (xs ys zs : List (Group Stepped)) → length xs ≡ length ys + length zs → c ≡ not b → (a ≡ false → b ≡ true)
    → length (cond (not c) (group ∷ xs) xs) ≡ length (cond (not a) (group ∷ ys) ys) + length (cond (a && b) (group ∷ zs) zs)
gone-step true true true group xs ys zs h e f = absurd cc
gone-step true true false group xs ys zs h e f = omega (arith, h)
gone-step true false true group xs ys zs h e f = h
gone-step true false false group xs ys zs h e f = absurd cc
gone-step false true true group xs ys zs h e f = absurd cc
gone-step false true false group xs ys zs h e f = omega (arith, h)
gone-step false false c group xs ys zs h e f = absurd (let no : false ≡ true = f refl in cc)

gone-more : (tier : Tier) (expired : Option ℕ) (to : ℕ) (groups : List (Group Stepped)) → is_after expired to ≡ true
    → gone (to + 1) groups ≡ gone (floor_in 0 tier expired) groups + length (filter (is_between_groups expired to) groups)
gone-more tier expired to [] rises = refl
gone-more tier expired to (group ∷ groups) rises =
    let ys : List (Group Stepped) = filter (λ (one : Group Stepped). not (leb (floor_in 0 tier expired) one.moment)) groups in
    let zs : List (Group Stepped) = filter (is_between_groups expired to) groups in
    gone-step (is_after expired group.moment) (leb group.moment to) (leb (to + 1) group.moment) group
    (filter (λ (one : Group Stepped). not (leb (to + 1) one.moment)) groups) ys zs
    (gone-more tier expired to groups rises) (past-not to group.moment) (low-up expired to group.moment rises)
    ∙ ap (λ (t : Bool). length (cond (not t) (group ∷ ys) ys) + length (cond (is_after expired group.moment && leb group.moment to) (group ∷ zs) zs)) (after-kept tier expired group.moment)

gone-few : (floor : ℕ) (groups : List (Group Stepped)) → gone floor groups ≤ length groups
gone-few floor groups = omega (arith, length-filter (λ (group : Group Stepped). not (leb floor group.moment)) groups, count_by-le-length (λ (group : Group Stepped). not (leb floor group.moment)) groups)

gone-later : (floor : ℕ) (group : Group Stepped) (groups : List (Group Stepped)) → leb floor group.moment ≡ true → gone floor (group ∷ groups) ≡ gone floor groups
gone-later floor group groups after = ap length (cond-false (not (leb floor group.moment)) _ _ (ap not after))

-- ---- a beat more

module _ (tier : Tier) (expired : Option ℕ) (segments : KeptItems Stepped) (group : Group Stepped) (groups : List (Group Stepped)) (limit : ℕ)
    (sized : 1 ≤ tier.extents) (few : length groups < 2 ^ 64) (short : group.moment < 2 ^ 32) (placed : ArePlaced limit groups) (have : HaveItems groups)
    (floors : segments.floor ≡ floor_in 0 tier expired) (after : is_after expired group.moment ≡ true) (counts : segments.before ≡ gone segments.floor groups) where
  abbrev Counts : KeptItems Stepped → Type 0
  Counts now = now.before ≡ gone now.floor (group ∷ groups)

  same-counts : segments.before ≡ gone segments.floor (group ∷ groups)
  same-counts = counts ∙ sym (gone-later segments.floor group groups (ap (λ n. leb n group.moment) floors ∙ sym (after-kept tier expired group.moment) ∙ after))

  first-gone : (now : KeptItems Stepped) (unsealed : List (Item Stepped)) (sealed : List (Segment Stepped)) (one : Segment Stepped) → now.before ≡ segments.before
      → AreSplit expired sealed unsealed groups → AreLess group.moment (map (λ (segment : Segment Stepped). segment.sealed_at) sealed)
      → tier.extents < length (sealed ++ one ∷ []) → Counts (without_first Points tier now (sealed ++ one ∷ []))
  first-gone now unsealed [] one b split less many = absurd (omega (arith, sized, many))
  first-gone now unsealed (first ∷ rest) one b split less many =
      let between : List (Group Stepped) = filter (is_between_groups expired first.sealed_at) groups in
      let places : places_behind None first.items ≡ length between =
      ap (places_behind None) split.0 ∙ places_are limit between (placed_filter (is_between_groups expired first.sealed_at) limit groups placed) (have_filter (is_between_groups expired first.sealed_at) groups have) in
      let more : gone (first.sealed_at + 1) groups ≡ gone (floor_in 0 tier expired) groups + length between = gone-more tier expired first.sealed_at groups split.2 in
      let was : segments.before ≡ gone (floor_in 0 tier expired) groups = counts ∙ ap (λ n. gone n groups) floors in
      let bound : gone (first.sealed_at + 1) groups ≤ length groups = gone-few (first.sealed_at + 1) groups in
      let later : gone (first.sealed_at + 1) (group ∷ groups) ≡ gone (first.sealed_at + 1) groups =
      gone-later (first.sealed_at + 1) group groups (le-leb (first.sealed_at + 1) group.moment (omega (arith, less.0))) in
      let sum : min (now.before + places_behind None first.items) (2 ^ 64 - 1) ≡ gone (first.sealed_at + 1) groups = omega (arith, more, bound, few, b, was, places) in
      let fits : first.sealed_at + 1 ≡ min (first.sealed_at + 1) (2 ^ 32 - 1) = omega (arith, less.0, short) in
      sum ∙ sym later ∙ ap (λ n. gone n (group ∷ groups)) fits

  counts-more : (items : List (Item Stepped)) → AreSplit expired segments.sealed segments.unsealed groups → AreLess group.moment (map (λ (segment : Segment Stepped). segment.sealed_at) segments.sealed)
      → Counts (ended Points tier group.moment (with_items segments items))
  counts-more items split less =
      let whole : KeptItems Stepped = with_items segments items in
      let now : KeptItems Stepped = sealed_at group.moment whole in
      cond_both (ltb (length whole.unsealed) tier.items) whole (expired_from Points tier now) Counts
      (λ _. same-counts)
      (λ _. cond_both (ltb tier.extents (length now.sealed)) (without_first Points tier now now.sealed) now Counts
      (λ many. first-gone now segments.unsealed segments.sealed (record { sealed_at = group.moment; items = whole.unsealed }) refl split less (ltb-true tier.extents (length now.sealed) many))
      (λ _. same-counts))

-- ---- by beats

abbrev pub below-floor : ℕ → TierBeat → Bool
below-floor floor beat = has_points beat && not (is_kept floor beat)

length-gone : (floor : ℕ) (beats : List TierBeat) → AreBeats beats → length (filter (below-floor floor) beats) ≡ gone floor (points_given beats)
length-gone floor [] are = refl
length-gone floor (beat ∷ beats) are = by beat.moment beat.points are.0.timed (length-gone floor beats are.1)
  where
    step : (test : Bool) (after : Bool) (group : Group Stepped) (beat : TierBeat) (ys : List TierBeat) (xs : List (Group Stepped)) → length ys ≡ length xs → test ≡ not after → length (cond test (beat ∷ ys) ys) ≡ length (cond (not after) (group ∷ xs) xs)
    step true true group beat ys xs h e = absurd cc
    step true false group beat ys xs h e = omega (arith, h)
    step false true group beat ys xs h e = h
    step false false group beat ys xs h e = absurd cc

    by : (moment : Option ℕ) (points : List BeatPoint) → (moment ≡ None → points ≡ []) → length (filter (below-floor floor) beats) ≡ gone floor (points_given beats)
        → length (filter (below-floor floor) (beat_of moment points ∷ beats)) ≡ gone floor (points_given (beat_of moment points ∷ beats))
    by None [] timed rest = rest
    by None (point ∷ points) timed rest = absurd (let no : (point ∷ points) ≡ [] = timed refl in cc)
    by (Some moment) [] timed rest = rest
    by (Some moment) (point ∷ points) timed rest =
        step (below-floor floor (beat_of (Some moment) (point ∷ points))) (leb floor moment) (record { moment = moment; items = point_items moment (point ∷ points) })
        (beat_of (Some moment) (point ∷ points)) (filter (below-floor floor) beats) (filter (λ (group : Group Stepped). not (leb floor group.moment)) (points_given beats)) rest
        (ap (λ (b : Bool). not b && not (leb floor moment)) (lt-leb (length (point ∷ points)) 0 (omega arith)))

pub count-gone : (floor : ℕ) (beats : List TierBeat) → AreBeats beats → count_by (below-floor floor) beats ≡ gone floor (points_given beats)
count-gone floor beats are = omega (arith, length-gone floor beats are, length-filter (below-floor floor) beats)

-- the count goes on with a beat
pub before-more : (tier : Tier) (moment : ℕ) (points : List BeatPoint) (beats : List TierBeat) (segments : KeptItems Stepped) → IsTier tier → AreBeats beats → last beats < moment → moment < 2 ^ 32
    → AreSegmentsOf 0 tier (cuts_of 0 tier beats) (points_given beats) segments → segments.before ≡ gone segments.floor (points_given beats)
    → (points_after tier moment points segments).before ≡ gone (points_after tier moment points segments).floor (points_given (beat_of (Some moment) points ∷ beats))
before-more tier moment [] beats segments set are later short is counts = counts
before-more tier moment (point ∷ points) beats segments set are later short is counts =
    let less = cuts_less 0 tier beats are in
    let grown : AreLess moment (cuts_of 0 tier beats).sealed = less_to (last beats + 1) moment (cuts_of 0 tier beats).sealed less (omega arith) in
    counts-more tier (expired_of tier (cuts_of 0 tier beats)) segments (record { moment = moment; items = point_items moment (point ∷ points) }) (points_given beats) (last beats + 1) set.extents
    (omega (arith, falling_few (last beats + 1) (points_given beats) (points_fall beats are))) short
    (points_placed beats are) (points_have beats) is.floor
    (less-at moment tier.extents (cuts_of 0 tier beats).sealed grown) counts
    (point_items moment (point ∷ points)) is.split
    (subst (AreLess moment) (sym is.sealed) (less-back moment (take tier.extents (cuts_of 0 tier beats).sealed) (less-prefix moment tier.extents (cuts_of 0 tier beats).sealed grown)))
