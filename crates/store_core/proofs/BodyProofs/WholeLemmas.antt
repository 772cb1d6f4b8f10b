-- What sound tiers of a body have, and which tiers come back from it.
use Rattle.std.proofs.Common.{◌≡◌, ℕ, ◌+◌, ◌-◌, ◌/◌, ◌≤◌, ◌==◌, ◌&&◌, true, nat_le, List, [], ◌∷◌, drop, get_or, take, length, map, slice_get, Option, Some, None, arith, sym, ap, refl, ◌∙◌, subst}
use Rattle.std.specs.List.{AllByRecursion, list_all}
use Rattle.std.specs.Option.{option_map, option_map_or, IfSome}
use Rattle.std.proofs.lemmas.Bool.{and_parts, cond-true, eqb-true, leb-true}
use Rattle.std.proofs.lemmas.Option.{cond_some, none-some, same_Some}
use Rattle.beat_tiers.specs.declared.item.Stepped.{Stepped}
use Rattle.beat_tiers.specs.declared.parts.KeptItems.{KeptItems}
use Rattle.beat_tiers.specs.declared.parts.KeptRecords.{KeptRecords}
use Rattle.beat_tiers.specs.Parts.{are_in_form, are_kept, are_record_tiers, is_record_tier, kept_of, restored, restored_tier}
use Rattle.beat_tiers.specs.Room.{tiers_held, TiersHeld}
use Rattle.beat_tiers.specs.Segments.{items_of}
use Rattle.beat_tiers.specs.State.{RecordTierState, TiersState}
use Rattle.beat_tiers.specs.Tiers.{AreOrdered, IsTier}
use Rattle.beat_tiers.proofs.RestoreLemmas.{back-each-ordered, back-ordered, tiers-again}
use Rattle.checkpoint_body.specs.declared.body.Body.{Body}
use Rattle.checkpoint_body.specs.Body.{HasSpelling}
use Rattle.checkpoint_body.specs.Canonical.{are_few, are_in_order, are_open as are_open_records, is_record_page, is_record_tier as is_body_tier, record_span}
use Rattle.store_core.specs.disk.Contents.{KeptPages}
use Rattle.tier_settings.specs.declared.limits.TheConstants.{MOST_ITEMS}
use Rattle.tier_settings.specs.declared.tier.Tier.{Tier}
use Rattle.tier_settings.specs.Limits.{is_tier, HasWidths}
use Rattle.tier_settings.specs.Settings.{no_tier, tier_with}
use Rattle.store_core.specs.bodies.Reading.{HasPoints, HasRecords}
use Rattle.beat_tiers.specs.Sound.{tier_of, AreSound}
use Rattle.store_core.specs.bodies.Tiers.{AreTiersOfBody, IsRecordTier}
use Rattle.store_core.proofs.BodyProofs.OneLemmas.{point-tier-one, record-tier-one}

-- ---- sound tiers

module _ (state : TiersState) (sound : AreSound state) where
  pub sound-again : restored state.first (map tier_of state.records) state.last state.points (map kept_of state.records) ≡ Some state
  sound-again =
      cond-true _ _ _ sound.form
      ∙ ap (λ (records : List RecordTierState). Some (record { last = state.last; first = state.first; points = state.points; records = records })) (tiers-again state.records)

  pub points-order : AreOrdered (items_of state.points)
  points-order = back-ordered state.first (map tier_of state.records) state.last state.points (map kept_of state.records) state sound-again

  pub each-order : (place : ℕ) (one : RecordTierState) → slice_get state.records place ≡ Some one → AreOrdered (items_of one.segments)
  each-order place one there = back-each-ordered state.first (map tier_of state.records) state.last state.points (map kept_of state.records) state sound-again place one there

-- of records no beats are counted
uncounted : (last : ℕ) (states : List RecordTierState) → are_record_tiers last (map tier_of states) (map kept_of states) ≡ true → AllByRecursion (λ (one : RecordTierState). one.segments.before ≡ 0) states
uncounted last [] are = tt
uncounted last (state ∷ states) are =
    let parts = and_parts (is_record_tier last state.tier (kept_of state)) _ are in
    let here = and_parts (state.segments.before == 0 && are_kept state.tier last (last / state.tier.width) state.segments) _ parts.0 in
    (eqb-true state.segments.before 0 (and_parts (state.segments.before == 0) _ here.0).0, uncounted last states parts.1)

-- ---- the two tiers of records

abbrev pub two_tiers : ℕ → Tier → KeptItems Stepped → RecordTierState → RecordTierState → TiersState
two_tiers last first points minutes hours = record { last = last; first = first; points = points; records = minutes ∷ hours ∷ [] }

module _ (body : Body) (kept : KeptPages) where
  -- what holds of tiers with two tiers of records holds of all tiers of a body
  by-two : (P : TiersState → Type 0)
      → ((last : ℕ) (first : Tier) (points : KeptItems Stepped) (minutes hours : RecordTierState) → AreTiersOfBody body kept (two_tiers last first points minutes hours) → P (two_tiers last first points minutes hours))
      → (state : TiersState) → AreTiersOfBody body kept state → P state
  by-two P holds state are = by state.records are
    where
      by : (records : List RecordTierState) → AreTiersOfBody body kept (record { last = state.last; first = state.first; points = state.points; records = records })
          → P (record { last = state.last; first = state.first; points = state.points; records = records })
      by [] are = absurd are.records
      by (minutes ∷ []) are = absurd are.records
      by (minutes ∷ hours ∷ []) are = holds state.last state.first state.points minutes hours are
      by (minutes ∷ hours ∷ other ∷ others) are = absurd are.records

  module _ (last : ℕ) (first : Tier) (points : KeptItems Stepped) (minutes hours : RecordTierState) (are : AreTiersOfBody body kept (two_tiers last first points minutes hours)) where
    form-records : are_record_tiers last (minutes.tier ∷ hours.tier ∷ []) (kept_of minutes ∷ kept_of hours ∷ []) ≡ true
    form-records = (and_parts (are_kept first last (last + 1) points) _ are.sound.form).1

    minutes-before : minutes.segments.before ≡ 0
    minutes-before = (uncounted last (minutes ∷ hours ∷ []) form-records).0

    hours-before : hours.segments.before ≡ 0
    hours-before = (uncounted last (minutes ∷ hours ∷ []) form-records).1.0

    minutes-order : AreOrdered (items_of minutes.segments)
    minutes-order = each-order (two_tiers last first points minutes hours) are.sound 0 minutes refl

    hours-order : AreOrdered (items_of hours.segments)
    hours-order = each-order (two_tiers last first points minutes hours) are.sound 1 hours refl

-- ---- one at most

two-one : (body : Body) (kept : KeptPages) (last other_last : ℕ) (first other_first : Tier) (points other_points : KeptItems Stepped) (minutes hours other_minutes other_hours : RecordTierState)
    → AreTiersOfBody body kept (two_tiers last first points minutes hours) → AreTiersOfBody body kept (two_tiers other_last other_first other_points other_minutes other_hours)
    → two_tiers last first points minutes hours ≡ two_tiers other_last other_first other_points other_minutes other_hours
two-one body kept last other_last first other_first points other_points minutes hours other_minutes other_hours are other =
    let tiers : ◌≡◌ {A = List Tier} (minutes.tier ∷ hours.tier ∷ []) (other_minutes.tier ∷ other_hours.tier ∷ []) = are.others ∙ sym other.others in
    let minutes_tier : minutes.tier ≡ other_minutes.tier = cc in
    let hours_tier : hours.tier ≡ other_hours.tier = cc in
    let points_same = point-tier-one body.points kept.points points other_points
    (points-order (two_tiers last first points minutes hours) are.sound) (points-order (two_tiers other_last other_first other_points other_minutes other_hours) other.sound) are.points other.points in
    let minutes_same = record-tier-one body.last body.minutes kept.minutes minutes other_minutes minutes_tier
    (minutes-before body kept last first points minutes hours are) (minutes-before body kept other_last other_first other_points other_minutes other_hours other)
    (minutes-order body kept last first points minutes hours are) (minutes-order body kept other_last other_first other_points other_minutes other_hours other) are.records.0 other.records.0 in
    let hours_same = record-tier-one body.last body.hours kept.hours hours other_hours hours_tier
    (hours-before body kept last first points minutes hours are) (hours-before body kept other_last other_first other_points other_minutes other_hours other)
    (hours-order body kept last first points minutes hours are) (hours-order body kept other_last other_first other_points other_minutes other_hours other) are.records.1 other.records.1 in
    ap (λ (n : ℕ). two_tiers n first points minutes hours) (are.last ∙ sym other.last)
    ∙ ap (λ (tier : Tier). two_tiers other_last tier points minutes hours) (are.first ∙ sym other.first)
    ∙ ap (λ (items : KeptItems Stepped). two_tiers other_last other_first items minutes hours) points_same
    ∙ ap (λ (one : RecordTierState). two_tiers other_last other_first other_points one hours) minutes_same
    ∙ ap (λ (one : RecordTierState). two_tiers other_last other_first other_points other_minutes one) hours_same

pub tiers-one : (body : Body) (kept : KeptPages) (tiers others : TiersState) → AreTiersOfBody body kept tiers → AreTiersOfBody body kept others → tiers ≡ others
tiers-one body kept tiers others are other =
    by-two body kept (λ state. state ≡ others)
    (λ last first points minutes hours one.
    by-two body kept (λ state. two_tiers last first points minutes hours ≡ state)
    (λ other_last other_first other_points other_minutes other_hours next.
    two-one body kept last other_last first other_first points other_points minutes hours other_minutes other_hours one next)
    others other)
    tiers are

-- ---- what is read of a body

pub tier-is : (tier : Tier) → is_tier tier ≡ true → 1 ≤ tier.width → IsTier tier
tier-is tier is width =
    let parts = and_parts (nat_le 1 tier.items && nat_le tier.items MOST_ITEMS && nat_le 1 tier.extents) _ is in
    let before = and_parts (nat_le 1 tier.items && nat_le tier.items MOST_ITEMS) _ parts.0 in
    record {
      width = width;
      items = leb-true 1 tier.items (and_parts (nat_le 1 tier.items) _ before.0).0;
      extents = leb-true 1 tier.extents before.1;
    }

module _ (body : Body) (kept : KeptPages) (spelt : HasSpelling body) (first of_minutes of_hours : Tier) (tiers : body.settings.tiers ≡ first ∷ of_minutes ∷ of_hours ∷ []) where
  widths-are : map (λ (tier : Tier). tier.width) (first ∷ of_minutes ∷ of_hours ∷ []) ≡ 1 ∷ 60 ∷ 3600 ∷ []
  widths-are = sym (ap (map (λ (tier : Tier). tier.width)) tiers) ∙ spelt.settings.widths

  pub first-width : first.width ≡ 1
  first-width = let w = widths-are in cc

  pub minutes-width : of_minutes.width ≡ 60
  minutes-width = let w = widths-are in cc

  pub hours-width : of_hours.width ≡ 3600
  hours-width = let w = widths-are in cc

  limits-are : list_all is_tier (first ∷ of_minutes ∷ of_hours ∷ []) ≡ true
  limits-are = sym (ap (list_all is_tier) tiers) ∙ spelt.settings.tiers

  first-is : is_tier first ≡ true
  first-is = (and_parts (is_tier first) _ limits-are).0

  minutes-is : is_tier of_minutes ≡ true
  minutes-is = (and_parts (is_tier of_minutes) _ (and_parts (is_tier first) _ limits-are).1).0

  hours-is : is_tier of_hours ≡ true
  hours-is = (and_parts (is_tier of_hours) _ (and_parts (is_tier of_minutes) _ (and_parts (is_tier first) _ limits-are).1).1).0

  pub first-tier : IsTier first
  first-tier = tier-is first first-is (omega (arith, first-width))

  pub other-tiers : AllByRecursion IsTier (of_minutes ∷ of_hours ∷ [])
  other-tiers = (tier-is of_minutes minutes-is (omega (arith, minutes-width)), (tier-is of_hours hours-is (omega (arith, hours-width)), tt))

  -- the tiers that come back are those of the body
  pub whole-found : (points : KeptItems Stepped) (minutes hours : KeptRecords) (state : TiersState) → HasPoints body.points kept.points points
      → HasRecords body.last of_minutes body.minutes kept.minutes minutes → HasRecords body.last of_hours body.hours kept.hours hours
      → restored first (of_minutes ∷ of_hours ∷ []) body.last points (minutes ∷ hours ∷ []) ≡ Some state → AreTiersOfBody body kept state
  whole-found points minutes hours state has_points has_minutes has_hours back =
      let parts = cond_some (are_in_form first (of_minutes ∷ of_hours ∷ []) body.last points (minutes ∷ hours ∷ [])) _ state back in
      subst (AreTiersOfBody body kept) parts.1 (record {
        last = refl;
        first = sym (ap (λ (ts : List Tier). option_map_or (λ (tier : Tier). tier) (slice_get ts 0) no_tier) tiers);
        others = sym (ap (drop 1) tiers);
        sound = record {
          last = spelt.fits.last;
          first = first-tier;
          others = other-tiers;
          form = parts.0;
          points = has_points.each;
          records = (has_minutes.each, (has_hours.each, tt));
        };
        points = has_points.is;
        records = (has_minutes.is, has_hours.is);
      })

  -- what the tiers of the body have is what is read of it
  pub record AreParts (state : TiersState) : Type 0 where
    pub points_order : AreOrdered (items_of state.points)
    pub points : HasPoints body.points kept.points state.points
    pub minutes : KeptRecords
    pub minutes_order : AreOrdered (items_of minutes.items)
    pub minutes_has : HasRecords body.last of_minutes body.minutes kept.minutes minutes
    pub hours : KeptRecords
    pub hours_order : AreOrdered (items_of hours.items)
    pub hours_has : HasRecords body.last of_hours body.hours kept.hours hours
    pub again : restored first (of_minutes ∷ of_hours ∷ []) body.last state.points (minutes ∷ hours ∷ []) ≡ Some state

  two-parts : (last : ℕ) (tier : Tier) (points : KeptItems Stepped) (minutes hours : RecordTierState) → AreTiersOfBody body kept (two_tiers last tier points minutes hours)
      → AreParts (two_tiers last tier points minutes hours)
  two-parts last tier points minutes hours are =
      let others : ◌≡◌ {A = List Tier} (minutes.tier ∷ hours.tier ∷ []) (of_minutes ∷ of_hours ∷ []) = are.others ∙ ap (drop 1) tiers in
      let minutes_tier : minutes.tier ≡ of_minutes = cc in
      let hours_tier : hours.tier ≡ of_hours = cc in
      let first_tier_is : tier ≡ first = are.first ∙ ap (λ (ts : List Tier). option_map_or (λ (one : Tier). one) (slice_get ts 0) no_tier) tiers in
      record {
        points_order = points-order (two_tiers last tier points minutes hours) are.sound;
        points = record { is = are.points; each = are.sound.points };
        minutes = kept_of minutes;
        minutes_order = minutes-order body kept last tier points minutes hours are;
        minutes_has = record {
          is = subst (λ (t : Tier). IsRecordTier body.last body.minutes kept.minutes (restored_tier t (kept_of minutes))) minutes_tier are.records.0;
          before = minutes-before body kept last tier points minutes hours are;
          each = are.sound.records.0;
        };
        hours = kept_of hours;
        hours_order = hours-order body kept last tier points minutes hours are;
        hours_has = record {
          is = subst (λ (t : Tier). IsRecordTier body.last body.hours kept.hours (restored_tier t (kept_of hours))) hours_tier are.records.1;
          before = hours-before body kept last tier points minutes hours are;
          each = are.sound.records.1.0;
        };
        again =
            sym (ap (λ (t : Tier). restored t (of_minutes ∷ of_hours ∷ []) body.last points (kept_of minutes ∷ kept_of hours ∷ [])) first_tier_is)
            ∙ sym (ap (λ (ts : List Tier). restored tier ts body.last points (kept_of minutes ∷ kept_of hours ∷ [])) others)
            ∙ sym (ap (λ (n : ℕ). restored tier (minutes.tier ∷ hours.tier ∷ []) n points (kept_of minutes ∷ kept_of hours ∷ [])) are.last)
            ∙ sound-again (two_tiers last tier points minutes hours) are.sound;
      }

  pub whole-parts : (state : TiersState) → AreTiersOfBody body kept state → AreParts state
  whole-parts state are = by-two body kept AreParts two-parts state are

  -- the tiers that come back, if some do
  pub found-of : (points : KeptItems Stepped) (minutes hours : KeptRecords) (found : Option TiersHeld) → HasPoints body.points kept.points points
      → HasRecords body.last of_minutes body.minutes kept.minutes minutes → HasRecords body.last of_hours body.hours kept.hours hours
      → option_map tiers_held found ≡ restored first (of_minutes ∷ of_hours ∷ []) body.last points (minutes ∷ hours ∷ [])
      → IfSome found (λ tiers. AreTiersOfBody body kept (tiers_held tiers))
  found-of points minutes hours None has_points has_minutes has_hours back = tt
  found-of points minutes hours (Some held) has_points has_minutes has_hours back = whole-found points minutes hours (tiers_held held) has_points has_minutes has_hours (sym back)

  -- some do where the body has tiers
  pub some-of : (points : KeptItems Stepped) (minutes hours : KeptRecords) (found : Option TiersHeld) (state : TiersState) (parts : AreParts state)
      → Some points ≡ Some state.points → Some minutes ≡ Some parts.minutes → Some hours ≡ Some parts.hours
      → option_map tiers_held found ≡ restored first (of_minutes ∷ of_hours ∷ []) body.last points (minutes ∷ hours ∷ []) → found ≡ None → ⊥
  some-of points minutes hours found state parts points_same minutes_same hours_same back none =
      let same : option_map tiers_held found ≡ Some state =
      back
      ∙ ap (λ (items : KeptItems Stepped). restored first (of_minutes ∷ of_hours ∷ []) body.last items (minutes ∷ hours ∷ [])) (same_Some points state.points points_same)
      ∙ ap (λ (one : KeptRecords). restored first (of_minutes ∷ of_hours ∷ []) body.last state.points (one ∷ hours ∷ [])) (same_Some minutes parts.minutes minutes_same)
      ∙ ap (λ (one : KeptRecords). restored first (of_minutes ∷ of_hours ∷ []) body.last state.points (parts.minutes ∷ one ∷ [])) (same_Some hours parts.hours hours_same)
      ∙ parts.again in
      none-some state (sym (ap (option_map tiers_held) none) ∙ same)

-- ---- the tiers of the settings, as they are read

-- all tiers but the first
abbrev pub rest_of : List Tier → List Tier
rest_of tiers = take (length tiers - 1) (drop 1 tiers)

record AreThree (all tiers : List Tier) : Type 0 where
  whole : all ≡ get_or tiers 0 no_tier ∷ get_or (rest_of tiers) 0 no_tier ∷ get_or (rest_of tiers) 1 no_tier ∷ []
  others : rest_of tiers ≡ get_or (rest_of tiers) 0 no_tier ∷ get_or (rest_of tiers) 1 no_tier ∷ []

three-of : (tiers : List Tier) → HasWidths tiers → AreThree tiers tiers
three-of [] widths = absurd cc
three-of (first ∷ []) widths = absurd cc
three-of (first ∷ minutes ∷ []) widths = absurd cc
three-of (first ∷ minutes ∷ hours ∷ []) widths = record { whole = refl; others = refl }
three-of (first ∷ minutes ∷ hours ∷ other ∷ others) widths = absurd cc

module _ (body : Body) (kept : KeptPages) (spelt : HasSpelling body) (tiers : List Tier) (same : tiers ≡ body.settings.tiers) where
  abbrev first_of : Tier
  first_of = get_or tiers 0 no_tier

  abbrev minutes_of : Tier
  minutes_of = get_or (rest_of tiers) 0 no_tier

  abbrev hours_of : Tier
  hours_of = get_or (rest_of tiers) 1 no_tier

  three : AreThree body.settings.tiers tiers
  three = subst (λ (all : List Tier). AreThree all tiers) same (three-of tiers (subst HasWidths (sym same) spelt.settings.widths))

  pub read-first : IsTier first_of
  read-first = first-tier body kept spelt first_of minutes_of hours_of three.whole

  pub read-others : AllByRecursion IsTier (rest_of tiers)
  read-others = subst (AllByRecursion IsTier) (sym three.others) (other-tiers body kept spelt first_of minutes_of hours_of three.whole)

  -- the records that are not sealed are in form
  pub read-hours_form : list_all (is_record_page hours_of.width) body.hours.pages ≡ true
  read-hours_form =
      let tier : tier_with body.settings 2 ≡ hours_of = ap (λ (ts : List Tier). option_map_or (λ (one : Tier). one) (slice_get ts 2) no_tier) three.whole in
      let is = subst (λ (one : Tier). is_body_tier one body.hours ≡ true) tier spelt.hours in
      let parts = and_parts (are_few hours_of body.hours.extents && are_open_records body.hours.open_records && list_all (is_record_page hours_of.width) body.hours.pages && are_in_order (map record_span body.hours.pages)) _ is in
      let before = and_parts (are_few hours_of body.hours.extents && are_open_records body.hours.open_records && list_all (is_record_page hours_of.width) body.hours.pages) _ parts.0 in
      (and_parts (are_few hours_of body.hours.extents && are_open_records body.hours.open_records) _ before.0).1

  parts-of : (state : TiersState) → AreTiersOfBody body kept state → AreParts body kept spelt first_of minutes_of hours_of three.whole state
  parts-of state are = whole-parts body kept spelt first_of minutes_of hours_of three.whole state are

  abbrev OnePoints : Option (KeptItems Stepped) → Type 0
  OnePoints found = (points : KeptItems Stepped) → AreOrdered (items_of points) → HasPoints body.points kept.points points → found ≡ Some points

  abbrev OneMinutes : Option KeptRecords → Type 0
  OneMinutes found = (records : KeptRecords) → AreOrdered (items_of records.items) → HasRecords body.last minutes_of body.minutes kept.minutes records → found ≡ Some records

  abbrev OneHours : Option KeptRecords → Type 0
  OneHours found = (records : KeptRecords) → AreOrdered (items_of records.items) → HasRecords body.last hours_of body.hours kept.hours records → found ≡ Some records

  -- where one tier is none of the body's, the body has no tiers
  pub no-points : OnePoints None → (state : TiersState) → AreTiersOfBody body kept state → ⊥
  no-points one state are = let parts = parts-of state are in none-some state.points (one state.points parts.points_order parts.points)

  pub no-minutes : OneMinutes None → (state : TiersState) → AreTiersOfBody body kept state → ⊥
  no-minutes one state are = let parts = parts-of state are in none-some parts.minutes (one parts.minutes parts.minutes_order parts.minutes_has)

  pub no-hours : OneHours None → (state : TiersState) → AreTiersOfBody body kept state → ⊥
  no-hours one state are = let parts = parts-of state are in none-some parts.hours (one parts.hours parts.hours_order parts.hours_has)

  module _ (points : KeptItems Stepped) (minutes hours : KeptRecords) (records : List KeptRecords) (put : records ≡ minutes ∷ hours ∷ []) (found : Option TiersHeld)
      (back : option_map tiers_held found ≡ restored first_of (rest_of tiers) body.last points records) where
    comes : option_map tiers_held found ≡ restored first_of (minutes_of ∷ hours_of ∷ []) body.last points (minutes ∷ hours ∷ [])
    comes =
        back ∙ ap (λ (list : List KeptRecords). restored first_of (rest_of tiers) body.last points list) put
        ∙ ap (λ (ts : List Tier). restored first_of ts body.last points (minutes ∷ hours ∷ [])) three.others

    pub read-found : HasPoints body.points kept.points points → HasRecords body.last minutes_of body.minutes kept.minutes minutes → HasRecords body.last hours_of body.hours kept.hours hours
        → IfSome found (λ held. AreTiersOfBody body kept (tiers_held held))
    read-found has_points has_minutes has_hours = found-of body kept spelt first_of minutes_of hours_of three.whole points minutes hours found has_points has_minutes has_hours comes

    pub read-none : OnePoints (Some points) → OneMinutes (Some minutes) → OneHours (Some hours) → found ≡ None → (state : TiersState) → AreTiersOfBody body kept state → ⊥
    read-none one_points one_minutes one_hours none state are =
        let parts = parts-of state are in
        some-of body kept spelt first_of minutes_of hours_of three.whole points minutes hours found state parts
        (one_points state.points parts.points_order parts.points) (one_minutes parts.minutes parts.minutes_order parts.minutes_has)
        (one_hours parts.hours parts.hours_order parts.hours_has) comes none
