use Rattle.std.proofs.Common.{ap}
use Rattle.host_model.specs.Moments.{begins}
use Rattle.store_core.specs.Store.{StoreState}
use Rattle.store_core.proofs.AdvanceLemmas.{next-not-due, nothing-moved}
use Rattle.store_core.proofs.store.Store.checkpoint.Goals as goal

pub returns-then-not-can_advance-clause-any_moment : goal.returns-then-not-can_advance-clause-any_moment
returns-then-not-can_advance-clause-any_moment g c h stored is_of =
    begins (nothing-moved (g.H.Host.seen c.args.host.now).past c.args.self.now stored c.args.side is_of)

pub returns-then-not-can_advance-clause-bound : goal.returns-then-not-can_advance-clause-bound
returns-then-not-can_advance-clause-bound g c most short h within = begins within

pub returns-in-Some-clause-bound : goal.returns-in-Some-clause-bound
returns-in-Some-clause-bound g c most short h within = begins within

pub returns-in-Ok-clause-not_due : goal.returns-in-Ok-clause-not_due
returns-in-Ok-clause-not_due g c =
    next-not-due g.H.Host.honest (g.H.Host.seen c.advance.new.host).past _ c.advance.new.self (ap (λ (s : StoreState). s.tiers) c.in-Ok.ensures.moved) c.in-Ok.ensures.ready c.in-Ok.ensures.body.1
    c.in-Ok.ensures.journal
