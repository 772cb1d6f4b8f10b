use Rattle.std.proofs.Common.{◌≡◌, ℕ, ◌^◌, ◌<◌, List, [], ◌∷◌, length, arith, ap, sym, refl, ◌∙◌, subst}
use Rattle.beat_tiers.specs.declared.item.Stepped.{Stepped}
use Rattle.beat_tiers.specs.Room.{records_held, tiers_held, RecordTierHeld, SegmentsHeld}
use Rattle.beat_tiers.specs.Sound.{IsPointItem}
use Rattle.store_core.specs.bodies.Next.{CanBeNamed, IsNextPointTier, IsNextRecordTier}
use Rattle.store_core.proofs.BodyProofs.HeldLemmas.{both-ready, next-of, two-are, two-long}
use Rattle.store_core.proofs.BodyProofs.NextLemmas.{are-ready, is-made}
use Rattle.store_core.proofs.bodies.next.next_body.Goals as goal

pub bounds-records-0 : goal.bounds-records-0
bounds-records-0 c =
    let two : length c.kept_records-records.result.now ≡ 2 = ap (λ (records : List RecordTierHeld). length records) c.kept_records-records.ensures ∙ two-long c.args.body.now c.args.tiers.now.records (are-ready c.args.body.now c.requires.spelt c.requires.goes_on.0 c.requires.goes_on.1 (tiers_held c.args.tiers.now) c.requires.goes_on.2).records in
    omega (arith, two)

pub bounds-records-1 : goal.bounds-records-1
bounds-records-1 c =
    let two : length c.kept_records-records.result.now ≡ 2 = ap (λ (records : List RecordTierHeld). length records) c.kept_records-records.ensures ∙ two-long c.args.body.now c.args.tiers.now.records (are-ready c.args.body.now c.requires.spelt c.requires.goes_on.0 c.requires.goes_on.1 (tiers_held c.args.tiers.now) c.requires.goes_on.2).records in
    omega (arith, two)

pub next_points-requires : goal.next_points-requires
next_points-requires c =
    subst (λ (held : SegmentsHeld Stepped). CanBeNamed IsPointItem c.args.body.now.last c.args.body.now.points.extents held.kept) (sym c.kept_points.ensures)
    (are-ready c.args.body.now c.requires.spelt c.requires.goes_on.0 c.requires.goes_on.1 (tiers_held c.args.tiers.now) c.requires.goes_on.2).points

pub next_records-requires-clause-named : goal.next_records-requires-clause-named
next_records-requires-clause-named c =
    let two : length c.kept_records-records.result.now ≡ 2 = ap (λ (records : List RecordTierHeld). length records) c.kept_records-records.ensures ∙ two-long c.args.body.now c.args.tiers.now.records (are-ready c.args.body.now c.requires.spelt c.requires.goes_on.0 c.requires.goes_on.1 (tiers_held c.args.tiers.now) c.requires.goes_on.2).records in
    let both : c.args.tiers.now.records ≡ c.index-records-0.result ∷ c.index-records-1.result ∷ [] =
    sym c.kept_records-records.ensures ∙ two-are c.kept_records-records.result.now c.index-records-0.result c.index-records-1.result two
    c.index-records-0.is c.index-records-1.is in
    (both-ready c.args.body.now c.args.tiers.now c.index-records-0.result c.index-records-1.result both (are-ready c.args.body.now c.requires.spelt c.requires.goes_on.0 c.requires.goes_on.1 (tiers_held c.args.tiers.now) c.requires.goes_on.2).records).0.named

pub next_records-requires-clause-width : goal.next_records-requires-clause-width
next_records-requires-clause-width c =
    let two : length c.kept_records-records.result.now ≡ 2 = ap (λ (records : List RecordTierHeld). length records) c.kept_records-records.ensures ∙ two-long c.args.body.now c.args.tiers.now.records (are-ready c.args.body.now c.requires.spelt c.requires.goes_on.0 c.requires.goes_on.1 (tiers_held c.args.tiers.now) c.requires.goes_on.2).records in
    let both : c.args.tiers.now.records ≡ c.index-records-0.result ∷ c.index-records-1.result ∷ [] =
    sym c.kept_records-records.ensures ∙ two-are c.kept_records-records.result.now c.index-records-0.result c.index-records-1.result two
    c.index-records-0.is c.index-records-1.is in
    (both-ready c.args.body.now c.args.tiers.now c.index-records-0.result c.index-records-1.result both (are-ready c.args.body.now c.requires.spelt c.requires.goes_on.0 c.requires.goes_on.1 (tiers_held c.args.tiers.now) c.requires.goes_on.2).records).0.width

pub next_records-requires-2-clause-named : goal.next_records-requires-2-clause-named
next_records-requires-2-clause-named c =
    let two : length c.kept_records-records.result.now ≡ 2 = ap (λ (records : List RecordTierHeld). length records) c.kept_records-records.ensures ∙ two-long c.args.body.now c.args.tiers.now.records (are-ready c.args.body.now c.requires.spelt c.requires.goes_on.0 c.requires.goes_on.1 (tiers_held c.args.tiers.now) c.requires.goes_on.2).records in
    let both : c.args.tiers.now.records ≡ c.index-records-0.result ∷ c.index-records-1.result ∷ [] =
    sym c.kept_records-records.ensures ∙ two-are c.kept_records-records.result.now c.index-records-0.result c.index-records-1.result two
    c.index-records-0.is c.index-records-1.is in
    (both-ready c.args.body.now c.args.tiers.now c.index-records-0.result c.index-records-1.result both (are-ready c.args.body.now c.requires.spelt c.requires.goes_on.0 c.requires.goes_on.1 (tiers_held c.args.tiers.now) c.requires.goes_on.2).records).1.named

pub next_records-requires-2-clause-width : goal.next_records-requires-2-clause-width
next_records-requires-2-clause-width c =
    let two : length c.kept_records-records.result.now ≡ 2 = ap (λ (records : List RecordTierHeld). length records) c.kept_records-records.ensures ∙ two-long c.args.body.now c.args.tiers.now.records (are-ready c.args.body.now c.requires.spelt c.requires.goes_on.0 c.requires.goes_on.1 (tiers_held c.args.tiers.now) c.requires.goes_on.2).records in
    let both : c.args.tiers.now.records ≡ c.index-records-0.result ∷ c.index-records-1.result ∷ [] =
    sym c.kept_records-records.ensures ∙ two-are c.kept_records-records.result.now c.index-records-0.result c.index-records-1.result two
    c.index-records-0.is c.index-records-1.is in
    (both-ready c.args.body.now c.args.tiers.now c.index-records-0.result c.index-records-1.result both (are-ready c.args.body.now c.requires.spelt c.requires.goes_on.0 c.requires.goes_on.1 (tiers_held c.args.tiers.now) c.requires.goes_on.2).records).1.width

pub returns-clause-is : goal.returns-clause-is
returns-clause-is c =
    let two : length c.kept_records-records.result.now ≡ 2 = ap (λ (records : List RecordTierHeld). length records) c.kept_records-records.ensures ∙ two-long c.args.body.now c.args.tiers.now.records (are-ready c.args.body.now c.requires.spelt c.requires.goes_on.0 c.requires.goes_on.1 (tiers_held c.args.tiers.now) c.requires.goes_on.2).records in
    let both : c.args.tiers.now.records ≡ c.index-records-0.result ∷ c.index-records-1.result ∷ [] =
    sym c.kept_records-records.ensures ∙ two-are c.kept_records-records.result.now c.index-records-0.result c.index-records-1.result two
    c.index-records-0.is c.index-records-1.is in
    next-of c.args.body.now c.args.tiers.now c.index-records-0.result c.index-records-1.result both c.args.count c.args.side
    (record { settings = c.in_ok-settings.settings; count = c.args.count; last = c.last-last.result; points = c.in_ok-points.points; minutes = c.in_ok-minutes.minutes; hours = c.in_ok-hours.hours; side = c.args.side })
    (record { points = c.in_ok-points.new_points; minutes = c.in_ok-minutes.new_minutes; hours = c.in_ok-hours.new_hours })
    c.in_ok-settings.ensures refl c.last-last.ensures refl
    (subst (λ (held : SegmentsHeld Stepped). IsNextPointTier c.args.body.now.last c.args.body.now.points held.kept c.in_ok-points.points c.in_ok-points.new_points) c.kept_points.ensures c.in_ok-points.ensures)
    (subst (λ (last : ℕ). IsNextRecordTier 1 c.args.body.now.last last c.args.body.now.minutes (records_held c.index-records-0.result) c.in_ok-minutes.minutes c.in_ok-minutes.new_minutes) c.last-last.ensures c.in_ok-minutes.ensures)
    (subst (λ (last : ℕ). IsNextRecordTier 2 c.args.body.now.last last c.args.body.now.hours (records_held c.index-records-1.result) c.in_ok-hours.hours c.in_ok-hours.new_hours) c.last-last.ensures c.in_ok-hours.ensures)

pub returns-clause-spelt : goal.returns-clause-spelt
returns-clause-spelt c =
    let few : c.args.count < 2 ^ 64 = omega arith in
    (is-made c.args.body.now c.requires.spelt c.requires.goes_on.0 c.requires.goes_on.1 (tiers_held c.args.tiers.now) c.requires.goes_on.2 c.args.count c.args.side few c.requires.short
    (record { settings = c.in_ok-settings.settings; count = c.args.count; last = c.last-last.result; points = c.in_ok-points.points; minutes = c.in_ok-minutes.minutes; hours = c.in_ok-hours.hours; side = c.args.side })
    (record { points = c.in_ok-points.new_points; minutes = c.in_ok-minutes.new_minutes; hours = c.in_ok-hours.new_hours })
    (returns-clause-is c)).spelt

pub returns-clause-writable : goal.returns-clause-writable
returns-clause-writable c =
    let few : c.args.count < 2 ^ 64 = omega arith in
    (is-made c.args.body.now c.requires.spelt c.requires.goes_on.0 c.requires.goes_on.1 (tiers_held c.args.tiers.now) c.requires.goes_on.2 c.args.count c.args.side few c.requires.short
    (record { settings = c.in_ok-settings.settings; count = c.args.count; last = c.last-last.result; points = c.in_ok-points.points; minutes = c.in_ok-minutes.minutes; hours = c.in_ok-hours.hours; side = c.args.side })
    (record { points = c.in_ok-points.new_points; minutes = c.in_ok-minutes.new_minutes; hours = c.in_ok-hours.new_hours })
    (returns-clause-is c)).writable

pub returns-clause-own_slots : goal.returns-clause-own_slots
returns-clause-own_slots c =
    let few : c.args.count < 2 ^ 64 = omega arith in
    (is-made c.args.body.now c.requires.spelt c.requires.goes_on.0 c.requires.goes_on.1 (tiers_held c.args.tiers.now) c.requires.goes_on.2 c.args.count c.args.side few c.requires.short
    (record { settings = c.in_ok-settings.settings; count = c.args.count; last = c.last-last.result; points = c.in_ok-points.points; minutes = c.in_ok-minutes.minutes; hours = c.in_ok-hours.hours; side = c.args.side })
    (record { points = c.in_ok-points.new_points; minutes = c.in_ok-minutes.new_minutes; hours = c.in_ok-hours.new_hours })
    (returns-clause-is c)).own_slots

pub returns-clause-follows : goal.returns-clause-follows
returns-clause-follows c =
    let few : c.args.count < 2 ^ 64 = omega arith in
    (is-made c.args.body.now c.requires.spelt c.requires.goes_on.0 c.requires.goes_on.1 (tiers_held c.args.tiers.now) c.requires.goes_on.2 c.args.count c.args.side few c.requires.short
    (record { settings = c.in_ok-settings.settings; count = c.args.count; last = c.last-last.result; points = c.in_ok-points.points; minutes = c.in_ok-minutes.minutes; hours = c.in_ok-hours.hours; side = c.args.side })
    (record { points = c.in_ok-points.new_points; minutes = c.in_ok-minutes.new_minutes; hours = c.in_ok-hours.new_hours })
    (returns-clause-is c)).follows

pub returns-clause-counted : goal.returns-clause-counted
returns-clause-counted c =
    let few : c.args.count < 2 ^ 64 = omega arith in
    (is-made c.args.body.now c.requires.spelt c.requires.goes_on.0 c.requires.goes_on.1 (tiers_held c.args.tiers.now) c.requires.goes_on.2 c.args.count c.args.side few c.requires.short
    (record { settings = c.in_ok-settings.settings; count = c.args.count; last = c.last-last.result; points = c.in_ok-points.points; minutes = c.in_ok-minutes.minutes; hours = c.in_ok-hours.hours; side = c.args.side })
    (record { points = c.in_ok-points.new_points; minutes = c.in_ok-minutes.new_minutes; hours = c.in_ok-hours.new_hours })
    (returns-clause-is c)).counted

pub returns-clause-tiers : goal.returns-clause-tiers
returns-clause-tiers c = λ kept was on.
    let few : c.args.count < 2 ^ 64 = omega arith in
    (is-made c.args.body.now c.requires.spelt kept was (tiers_held c.args.tiers.now) on c.args.count c.args.side few c.requires.short
    (record { settings = c.in_ok-settings.settings; count = c.args.count; last = c.last-last.result; points = c.in_ok-points.points; minutes = c.in_ok-minutes.minutes; hours = c.in_ok-hours.hours; side = c.args.side })
    (record { points = c.in_ok-points.new_points; minutes = c.in_ok-minutes.new_minutes; hours = c.in_ok-hours.new_hours })
    (returns-clause-is c)).tiers
