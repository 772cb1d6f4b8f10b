use Rattle.std.proofs.Common.{ℕ, Ok, Err, inl, inr, sym, ap, ◌∙◌}
use Rattle.std.specs.Result.{IsErrOf}
use Rattle.host_model.specs.Moments.{begins}
use Rattle.store_core.specs.declared.fault.StoreFault.{StoreFault}
use Rattle.store_core.specs.declared.fault.StoreFault.TheVariants.{MomentOrder}
use Rattle.store_core.specs.Faults.{IsStepFault}
use Rattle.store_core.specs.Store.{StoreState}
use Rattle.store_core.proofs.FollowLemmas.{later_not_before, nothing_done, step_refused}
use Rattle.store_core.proofs.store.Store.commit.Goals as goal

pub returns-in-Some-clause-bound : goal.returns-in-Some-clause-bound
returns-in-Some-clause-bound g c side numbered h within = begins within

pub returns-then-not-is_later-clause-any_moment : goal.returns-then-not-is_later-clause-any_moment
returns-then-not-is_later-clause-any_moment g c h stored is_of =
    begins (nothing_done (g.H.Host.seen c.args.host.now).past c.args.self.now stored c.args.beat.now is_of)

pub returns-then-not-is_later-clause-bound : goal.returns-then-not-is_later-clause-bound
returns-then-not-is_later-clause-bound g c side numbered h within = begins within

ok_no_err : (last : ℕ) → IsErrOf {T = Unit {0}} {E = StoreFault} (Ok tt) (MomentOrder last) → ⊥
ok_no_err last wrong = cc

pub returns-in-Ok-clause-order : goal.returns-in-Ok-clause-order
returns-in-Ok-clause-order g c = (
  λ wrong. absurd (ok_no_err _ wrong),
  λ both. absurd (later_not_before c.last-last.result c.args.self.now.tiers.last c.args.beat.now.moment (c.last-last.ensures ∙ ap (λ (s : StoreState). s.tiers.last) c.self.view_is)
      (sym c.if-not-is_later.ensures) both.1),
)

-- a step that failed is no refusal of the moment
step_no_order : (last : ℕ) (fault : StoreFault) → IsStepFault fault → IsErrOf {T = Unit {0}} {E = StoreFault} (Err fault) (MomentOrder last) → ⊥
step_no_order last fault (inl is) wrong = cc
step_no_order last fault (inr is) wrong = cc

pub returns-in-Err-clause-order : goal.returns-in-Err-clause-order
returns-in-Err-clause-order g c = (
  λ wrong. absurd (step_no_order _ c.in-Err.fault c.in-Err.ensures.faults wrong),
  λ both. absurd (later_not_before c.last-last.result c.args.self.now.tiers.last c.args.beat.now.moment (c.last-last.ensures ∙ ap (λ (s : StoreState). s.tiers.last) c.self.view_is)
      (sym c.if-not-is_later.ensures) both.1),
)

pub returns-in-Err-clause-ready : goal.returns-in-Err-clause-ready
returns-in-Err-clause-ready g c =
    step_refused g.H.Host.honest (g.H.Host.seen c.args.host.now).past (g.H.Host.seen c.add.new.host).past c.args.self.now _ c.in-Err.fault c.cause-self-inside.result c.in-Err.ensures.faults
    (c.self-2.view_is ∙ c.in-Err.ensures.stays) c.cause-self-inside.ensures c.requires.ready
