use Rattle.std.proofs.Common.{◌≡◌, ℕ, zero, suc, ◌-◌, List, length, Option, Some, None, slice_get, refl, sym, ap, ◌∙◌, arith}
use Rattle.std.specs.Option.{option_map, option_map_or}
use Rattle.std.proofs.lemmas.Bool.{ltb-false}
use Rattle.std.proofs.lemmas.Option.{slice_get-map, slice_get_past, slice_get_read}
use Rattle.beat_tiers.specs.Room.{RecordTierHeld, TiersHeld, records_held, tiers_held}
use Rattle.beat_tiers.specs.State.{RecordTierState, TiersState, tier_floor}
use Rattle.beat_tiers.proofs.tiers.Tiers.floor.Goals as goal

behind : (state : TiersState) (number : ℕ) (found : Option RecordTierState) → (number ≡ 0 → ⊥) → slice_get state.records (number - 1) ≡ found
    → tier_floor state number ≡ option_map_or (λ (one : RecordTierState). one.segments.floor) found 0
behind state zero found some is = absurd (some refl)
behind state (suc place) found some is =
    let e : place ≡ suc place - 1 = omega arith in
    ap (λ n. option_map_or (λ (one : RecordTierState). one.segments.floor) (slice_get state.records n) 0) e
    ∙ ap (λ (found : Option RecordTierState). option_map_or (λ (one : RecordTierState). one.segments.floor) found 0) is

pub returns-then-tier-eq0 : goal.returns-then-tier-eq0
returns-then-tier-eq0 c = c.floor.ensures ∙ ap (λ (t : TiersHeld). t.points.kept.floor) c.self.view_is ∙ ap (tier_floor (tiers_held c.args.self.now)) (sym c.if-tier-eq0.true)

pub returns-in-Some : goal.returns-in-Some
returns-in-Some c =
    let state = tiers_held c.args.self.now in
    let tiers : c.deref.result.now ≡ c.args.self.now.records = c.deref.ensures.value ∙ ap (λ (t : TiersHeld). t.records) c.self.view_is in
    let read : slice_get state.records (c.from.result - 1) ≡ Some (records_held c.in-Some.tier.now) =
    slice_get-map records_held c.args.self.now.records (c.from.result - 1)
    ∙ ap (option_map records_held) (ap (λ (ts : List RecordTierHeld). slice_get ts (c.from.result - 1)) (sym tiers)
    ∙ slice_get_read c.deref.result.now (length c.deref.result.now) (c.from.result - 1) c.in-Some.tier.now refl c.in-Some.ensures.lookup.3.0 c.in-Some.ensures.lookup.1) in
    c.floor-in-Some.ensures
    ∙ sym (behind state c.from.result (Some (records_held c.in-Some.tier.now)) (λ e. c.if-tier-eq0.false (sym c.from.ensures ∙ e)) read)
    ∙ ap (tier_floor state) c.from.ensures

pub returns-in-None : goal.returns-in-None
returns-in-None c =
    let state = tiers_held c.args.self.now in
    let tiers : c.deref.result.now ≡ c.args.self.now.records = c.deref.ensures.value ∙ ap (λ (t : TiersHeld). t.records) c.self.view_is in
    let past : slice_get state.records (c.from.result - 1) ≡ None =
    slice_get-map records_held c.args.self.now.records (c.from.result - 1)
    ∙ ap (option_map records_held) (ap (λ (ts : List RecordTierHeld). slice_get ts (c.from.result - 1)) (sym tiers)
    ∙ slice_get_past c.deref.result.now (c.from.result - 1) (ltb-false (c.from.result - 1) (length c.deref.result.now) (sym c.in-None.ensures.lookup.0))) in
    sym (behind state c.from.result None (λ e. c.if-tier-eq0.false (sym c.from.ensures ∙ e)) past)
    ∙ ap (tier_floor state) c.from.ensures
