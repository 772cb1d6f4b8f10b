use Rattle.std.proofs.Common.{◌≡◌, ◌+◌, None, true, sym, ap, subst}
use Rattle.std.proofs.lemmas.Bool.{and_parts}
use Rattle.std.proofs.lemmas.Result.{err_from_is_err_and}
use Rattle.host_model.specs.Moments.{begins, Throughout}
use Rattle.store_core.specs.disk.Shares.{share, IsWithin}
use Rattle.tier_settings.specs.declared.settings.Settings.{Settings}
use Rattle.store_core.specs.Store.{can_advance, IsReady, IsReplayed, IsStoreOf, StoreState}
use Rattle.store_core.proofs.AdvanceLemmas.{advance-bound, advance-moments, advance-ready, advance-store, cause-of-files, nothing-moved, ready-goes}
use Rattle.store_core.proofs.store.Store.advance.Goals as goal

pub next_body-made-requires-clause-goes_on : goal.next_body-made-requires-clause-goes_on
next_body-made-requires-clause-goes_on g c =
    let old = (g.H.Host.seen c.args.host.now).past in
    ready-goes g.H.Host.honest old _ (subst (IsReady g.H.Host.honest old) (sym c.self.view_is) c.requires.ready)
    (subst (λ (s : StoreState). can_advance s ≡ true) (sym c.self.view_is) c.requires.going_on)

pub returns-in_default-clause-any_moment : goal.returns-in_default-clause-any_moment
returns-in_default-clause-any_moment g c h stored is_of =
    begins (nothing-moved (g.H.Host.seen c.args.host.now).past c.args.self.now stored c.args.side is_of)

pub returns-in_default-clause-bound : goal.returns-in_default-clause-bound
returns-in_default-clause-bound g c most short h within = begins within

pub returns-clause-any_moment : goal.returns-clause-any_moment
returns-clause-any_moment g c h stored is_of =
    let old = (g.H.Host.seen c.args.host.now).past in
    let new = (g.H.Host.seen c.checkpoint.new.host).past in
    let was = subst (λ (s : StoreState). IsStoreOf old s stored) (sym c.self.view_is) is_of in
    let goes = subst (λ (s : StoreState). can_advance s ≡ true) (sym c.self.view_is) c.requires.going_on in
    let numbered = (and_parts _ _ goes).1 in
    advance-moments old _ stored was numbered c.args.side c.in-Ok.body c.in-Ok.sealed
    (record { is = c.in-Ok.ensures.is; spelt = c.in-Ok.ensures.spelt; follows = c.in-Ok.ensures.follows; tiers = c.in-Ok.ensures.tiers; counted = c.in-Ok.ensures.counted })
    new (c.checkpoint.ensures.any_moment h)

pub returns-clause-advanced : goal.returns-clause-advanced
returns-clause-advanced g c h stored is_of =
    let old = (g.H.Host.seen c.args.host.now).past in
    let new = (g.H.Host.seen c.checkpoint.new.host).past in
    let was = subst (λ (s : StoreState). IsStoreOf old s stored) (sym c.self.view_is) is_of in
    let goes = subst (λ (s : StoreState). can_advance s ≡ true) (sym c.self.view_is) c.requires.going_on in
    let numbered = (and_parts _ _ goes).1 in
    let replayed = subst (λ (s : StoreState). IsReplayed s) (sym c.self.view_is) c.requires.replayed in
    advance-store old _ stored was numbered c.args.side c.in-Ok.body c.in-Ok.sealed
    (record { is = c.in-Ok.ensures.is; spelt = c.in-Ok.ensures.spelt; follows = c.in-Ok.ensures.follows; tiers = c.in-Ok.ensures.tiers; counted = c.in-Ok.ensures.counted })
    new c.checkpoint.new.self replayed (c.in_ok-checkpoint.ensures.done h)

pub returns-clause-ready : goal.returns-clause-ready
returns-clause-ready g c =
    let old = (g.H.Host.seen c.args.host.now).past in
    let new = (g.H.Host.seen c.checkpoint.new.host).past in
    let ready = subst (IsReady g.H.Host.honest old) (sym c.self.view_is) c.requires.ready in
    let goes = subst (λ (s : StoreState). can_advance s ≡ true) (sym c.self.view_is) c.requires.going_on in
    let replayed = subst (λ (s : StoreState). IsReplayed s) (sym c.self.view_is) c.requires.replayed in
    let going = subst (λ (s : StoreState). s.fault ≡ None) (sym c.self.view_is) c.requires.going in
    advance-ready g.H.Host.honest old new _ c.args.side c.in-Ok.body c.in-Ok.sealed c.checkpoint.new.self ready goes replayed going
    (record { is = c.in-Ok.ensures.is; spelt = c.in-Ok.ensures.spelt; follows = c.in-Ok.ensures.follows; tiers = c.in-Ok.ensures.tiers; counted = c.in-Ok.ensures.counted })
    c.in_ok-checkpoint.ensures.files c.in_ok-checkpoint.ensures.done

pub returns-clause-bound : goal.returns-clause-bound
returns-clause-bound g c most short h within =
    let old = (g.H.Host.seen c.args.host.now).past in
    let new = (g.H.Host.seen c.checkpoint.new.host).past in
    let same : c.self.inside.body.settings ≡ c.args.self.now.body.settings = ap (λ (s : StoreState). s.body.settings) c.self.view_is in
    subst (λ (set : Settings). IsWithin (share set most) old → Throughout (IsWithin (share set most)) old new) same
    (advance-bound old new (c.self.inside.files.number + 1) most c.args.side c.self.inside.body c.in-Ok.body c.in-Ok.sealed c.in-Ok.ensures.is.settings c.in-Ok.ensures.is.side c.in-Ok.ensures.spelt
    c.in-Ok.ensures.own_slots short (λ shares room slots. c.checkpoint.ensures.bound shares room slots h))
    within

pub returns-in_err-checkpoint-clause-any_moment : goal.returns-in_err-checkpoint-clause-any_moment
returns-in_err-checkpoint-clause-any_moment g c h stored is_of =
    let old = (g.H.Host.seen c.args.host.now).past in
    let new = (g.H.Host.seen c.checkpoint.new.host).past in
    let was = subst (λ (s : StoreState). IsStoreOf old s stored) (sym c.self.view_is) is_of in
    let goes = subst (λ (s : StoreState). can_advance s ≡ true) (sym c.self.view_is) c.requires.going_on in
    let numbered = (and_parts _ _ goes).1 in
    advance-moments old _ stored was numbered c.args.side c.in-Ok.body c.in-Ok.sealed
    (record { is = c.in-Ok.ensures.is; spelt = c.in-Ok.ensures.spelt; follows = c.in-Ok.ensures.follows; tiers = c.in-Ok.ensures.tiers; counted = c.in-Ok.ensures.counted })
    new (c.checkpoint.ensures.any_moment h)

pub returns-in_err-checkpoint-clause-bound : goal.returns-in_err-checkpoint-clause-bound
returns-in_err-checkpoint-clause-bound g c most short h within =
    let old = (g.H.Host.seen c.args.host.now).past in
    let new = (g.H.Host.seen c.checkpoint.new.host).past in
    let same : c.self.inside.body.settings ≡ c.args.self.now.body.settings = ap (λ (s : StoreState). s.body.settings) c.self.view_is in
    subst (λ (set : Settings). IsWithin (share set most) old → Throughout (IsWithin (share set most)) old new) same
    (advance-bound old new (c.self.inside.files.number + 1) most c.args.side c.self.inside.body c.in-Ok.body c.in-Ok.sealed c.in-Ok.ensures.is.settings c.in-Ok.ensures.is.side c.in-Ok.ensures.spelt
    c.in-Ok.ensures.own_slots short (λ shares room slots. c.checkpoint.ensures.bound shares room slots h))
    within

pub returns-in_err-checkpoint-clause-cause : goal.returns-in_err-checkpoint-clause-cause
returns-in_err-checkpoint-clause-cause g c =
    let p = err_from_is_err_and c.from_residual.result c.from_residual.ensures.1 in
    rw p.1 (cause-of-files _ _ c.in_err-checkpoint.field-0.0 p.0 p.2 c.in_err-checkpoint.ensures.cause)
