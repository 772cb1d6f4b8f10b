use Rattle.std.proofs.Common.{◌≡◌, ℕ, ◌-◌, List, length, Some, None, slice_get, refl, sym, ap, subst, ◌∙◌, arith}
use Rattle.std.proofs.lemmas.Bool.{ltb-false}
use Rattle.std.proofs.lemmas.Option.{none-some, same_Some, slice_get-map, slice_get_past, slice_get_read}
use Rattle.std.specs.Option.{option_map}
use Rattle.beat_tiers.specs.Room.{RecordTierHeld, TiersHeld, records_held, tiers_held}
use Rattle.beat_tiers.specs.Segments.{items_of}
use Rattle.beat_tiers.specs.State.{AreClosed, RecordTierState, record_in}
use Rattle.beat_tiers.specs.Tiers.{AreOrdered, IsFirstRecord}
use Rattle.beat_tiers.proofs.tiers.Tiers.next_record.Goals as goal

pub returns-in-Some-clause-kept : goal.returns-in-Some-clause-kept
returns-in-Some-clause-kept c = λ place one there number.
    let state = tiers_held c.args.self.now in
    let tiers : c.deref.result.now ≡ c.args.self.now.records = c.deref.ensures.value ∙ ap (λ (t : TiersHeld). t.records) c.self.view_is in
    let index : c.from.result - 1 ≡ place = omega (arith, c.from.ensures, number) in
    let read : slice_get state.records place ≡ Some (records_held c.in-Some.tier.now) =
    ap (λ (n : ℕ). slice_get state.records n) (sym index)
    ∙ slice_get-map records_held c.args.self.now.records (c.from.result - 1)
    ∙ ap (option_map records_held) (ap (λ (ts : List RecordTierHeld). slice_get ts (c.from.result - 1)) (sym tiers)
    ∙ slice_get_read c.deref.result.now (length c.deref.result.now) (c.from.result - 1) c.in-Some.tier.now refl c.in-Some.ensures.lookup.3.0 c.in-Some.ensures.lookup.1) in
    let same : records_held c.in-Some.tier.now ≡ one = same_Some _ _ (sym read ∙ there) in
    let last : c.self.inside.last ≡ c.args.self.now.last = ap (λ (t : TiersHeld). t.last) c.self.view_is in
    let given = λ (state : RecordTierState) (n : ℕ). AreOrdered (items_of state.segments) → AreClosed n state → IsFirstRecord (λ bucket. record_in state n c.args.series bucket) c.args.from c.args.to c.next_record.result in
    let here : given (records_held c.in-Some.tier.now) c.self.inside.last = λ ordered closed. c.next_record.ensures ordered closed in
    subst (λ (state : RecordTierState). given state c.args.self.now.last) same (subst (given (records_held c.in-Some.tier.now)) last here)

pub returns-in-None-clause-kept : goal.returns-in-None-clause-kept
returns-in-None-clause-kept c = λ place one there number ordered closed.
    let state = tiers_held c.args.self.now in
    let tiers : c.deref.result.now ≡ c.args.self.now.records = c.deref.ensures.value ∙ ap (λ (t : TiersHeld). t.records) c.self.view_is in
    let index : c.from.result - 1 ≡ place = omega (arith, c.from.ensures, number) in
    let past : slice_get state.records place ≡ None =
    ap (λ (n : ℕ). slice_get state.records n) (sym index)
    ∙ slice_get-map records_held c.args.self.now.records (c.from.result - 1)
    ∙ ap (option_map records_held) (ap (λ (ts : List RecordTierHeld). slice_get ts (c.from.result - 1)) (sym tiers)
    ∙ slice_get_past c.deref.result.now (c.from.result - 1) (ltb-false (c.from.result - 1) (length c.deref.result.now) (sym c.in-None.ensures.lookup.0))) in
    absurd (none-some one (sym past ∙ there))
