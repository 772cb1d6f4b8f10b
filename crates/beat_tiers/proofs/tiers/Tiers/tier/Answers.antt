use Rattle.std.proofs.Common.{◌≡◌, ℕ, zero, suc, ◌-◌, List, ◌∷◌, length, map, Some, slice_get, refl, sym, ap, ◌∙◌, arith}
use Rattle.std.specs.Option.{option_map}
use Rattle.std.proofs.lemmas.Bool.{ltb-false}
use Rattle.std.proofs.lemmas.Option.{slice_get-map, slice_get_past, slice_get_read}
use Rattle.tier_settings.specs.declared.tier.Tier.{Tier}
use Rattle.beat_tiers.specs.Room.{RecordTierHeld, TiersHeld, records_held, tiers_held}
use Rattle.beat_tiers.specs.State.{RecordTierState}
use Rattle.beat_tiers.proofs.tiers.Tiers.tier.Goals as goal

behind-first : (first : Tier) (tiers : List RecordTierState) (number : ℕ) → (number ≡ 0 → ⊥) → slice_get (first ∷ map (λ (one : RecordTierState). one.tier) tiers) number ≡ option_map (λ (one : RecordTierState). one.tier) (slice_get tiers (number - 1))
behind-first first tiers zero ne = absurd (ne refl)
behind-first first tiers (suc place) ne =
    let e : suc place - 1 ≡ place = omega arith in
    slice_get-map (λ (one : RecordTierState). one.tier) tiers place ∙ ap (λ n. option_map (λ (one : RecordTierState). one.tier) (slice_get tiers n)) (sym e)

pub returns-in-Some : goal.returns-in-Some
returns-in-Some c =
    let state = tiers_held c.args.self.now in
    let tiers : c.deref.result.now ≡ c.args.self.now.records = c.deref.ensures.value ∙ ap (λ (t : TiersHeld). t.records) c.self.view_is in
    ap Some c.tier.ensures
    ∙ sym (behind-first state.first state.records c.args.number c.if-number-eq0.false
    ∙ ap (option_map (λ (one : RecordTierState). one.tier)) (slice_get-map records_held c.args.self.now.records (c.args.number - 1)
    ∙ ap (option_map records_held) (ap (λ (ts : List RecordTierHeld). slice_get ts (c.args.number - 1)) (sym tiers)
    ∙ slice_get_read c.deref.result.now (length c.deref.result.now) (c.args.number - 1) c.in-Some.tier.now refl c.in-Some.ensures.lookup.3.0 c.in-Some.ensures.lookup.1)))

pub returns-in-None : goal.returns-in-None
returns-in-None c =
    let state = tiers_held c.args.self.now in
    let tiers : c.deref.result.now ≡ c.args.self.now.records = c.deref.ensures.value ∙ ap (λ (t : TiersHeld). t.records) c.self.view_is in
    sym (behind-first state.first state.records c.args.number c.if-number-eq0.false
    ∙ ap (option_map (λ (one : RecordTierState). one.tier)) (slice_get-map records_held c.args.self.now.records (c.args.number - 1)
    ∙ ap (option_map records_held) (ap (λ (ts : List RecordTierHeld). slice_get ts (c.args.number - 1)) (sym tiers)
    ∙ slice_get_past c.deref.result.now (c.args.number - 1) (ltb-false (c.args.number - 1) (length c.deref.result.now) (sym c.in-None.ensures.lookup.0)))))
