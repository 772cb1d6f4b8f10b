use Rattle.std.proofs.Common.{◌∷◌, Option, refl, ap, sym, subst, ◌∙◌}
use Rattle.std.proofs.lemmas.Result.{err_from_is_err_and}
use Rattle.store_core.specs.declared.beats.beat.Beat.{Beat as StoreBeat}
use Rattle.store_core.specs.beats.Records.{TakesFirst}
use Rattle.store_core.specs.Store.{IsReady, Replays, StoreState}
use Rattle.store_core.proofs.FollowReplay.{ready_replayed}
use Rattle.agent_core.specs.Answers.{tier_beats}
use Rattle.agent_core.specs.Notes.{noted_in}
use Rattle.agent_core.specs.Replay.{HasTaken, IsReplaying}
use Rattle.agent_core.proofs.GapLemmas.{first-tier}
use Rattle.agent_core.proofs.NoteLemmas.{taken-broken, taken-more, taken-same}
use Rattle.agent_core.proofs.OpeningLemmas.{replaying-more, replaying-same, replaying-stands}
use Rattle.agent_core.proofs.replaying.replay_next.Goals as goal

pub returns-in_err-kept-clause-stands : goal.returns-in_err-kept-clause-stands
returns-in_err-kept-clause-stands g c =
    let error = err_from_is_err_and c.from_residual.result c.from_residual.ensures.1 in
    rw (error.1, error.2) (λ past set h was. refl)

pub returns-in_err-does-in-Some-clause-stands : goal.returns-in_err-does-in-Some-clause-stands
returns-in_err-does-in-Some-clause-stands g c =
    let error = err_from_is_err_and c.from_residual-in_err-does-in-Some.result c.from_residual-in_err-does-in-Some.ensures.1 in
    rw (error.1, error.2) (λ past set h was.
    replaying-stands past c.args.store.now c.replay.new.self c.args.left.now set h was c.in-Some.kept
    (λ stored rest is_at. subst (Replays past c.replay.new.self stored rest) c.in-Some.is (c.in_ok-kept.ensures.next past stored rest is_at))
    (c.in_err-does-in-Some.ensures.stands set))

pub returns-in_ok-follow-in-Some-clause-replaying : goal.returns-in_ok-follow-in-Some-clause-replaying
returns-in_ok-follow-in-Some-clause-replaying g c past set h was =
    subst (λ (s : StoreState). IsReplaying past s c.follow.new.left set h) (sym c.follow.ensures.store)
    (replaying-more past c.args.store.now c.replay.new.self c.args.left.now set h was c.in-Some.kept
    (λ stored rest is_at. subst (Replays past c.replay.new.self stored rest) c.in-Some.is (c.in_ok-kept.ensures.next past stored rest is_at))
    c.follow.new.left
    (λ g' beats beat all of applied before by.
    c.in_ok-follow-in-Some.ensures.left_by set g' beat applied (c.in_ok-does-in-Some.ensures.taken set g' beats beat (first-tier set (tier_beats (beat ∷ g')) c.replay.new.self applied) all of (c.last-before.ensures ∙ before) by)
    (c.in_ok-does-in-Some.ensures.does g' beat of)))

pub returns-in-None-clause-replaying : goal.returns-in-None-clause-replaying
returns-in-None-clause-replaying g c past set h was =
    replaying-same past c.args.store.now c.replay.new.self c.args.left.now set h was
    (λ stored rest is_at. subst (Replays past c.replay.new.self stored rest) c.in-None.is (c.in_ok-kept.ensures.next past stored rest is_at))

-- ---- whatever beats the store keeps
pub returns-in_err-does-in-Some-clause-broken : goal.returns-in_err-does-in-Some-clause-broken
returns-in_err-does-in-Some-clause-broken g c =
    let error = err_from_is_err_and c.from_residual-in_err-does-in-Some.result c.from_residual-in_err-does-in-Some.ensures.1 in
    rw (error.1, error.2) (λ damaged start beats was.
    taken-broken start beats c.args.store.now c.replay.new.self c.args.left.now was c.in-Some.kept
    (subst (λ (next : Option StoreBeat). TakesFirst c.args.store.now.waiting next c.replay.new.self.waiting) c.in-Some.is c.in_ok-kept.ensures.takes)
    (c.in_err-does-in-Some.ensures.broken damaged))

pub returns-in_ok-follow-in-Some-clause-notes : goal.returns-in_ok-follow-in-Some-clause-notes
returns-in_ok-follow-in-Some-clause-notes g c start beats was =
    subst (λ (s : StoreState). HasTaken start beats s c.follow.new.left) (sym c.follow.ensures.store)
    (taken-more start beats c.args.store.now c.replay.new.self c.args.left.now was c.in-Some.kept
    (subst (λ (next : Option StoreBeat). TakesFirst c.args.store.now.waiting next c.replay.new.self.waiting) c.in-Some.is c.in_ok-kept.ensures.takes)
    c.follow.new.left (ap noted_in c.follow.ensures.only ∙ c.in_ok-does-in-Some.ensures.left) c.in_ok-does-in-Some.ensures.next)

pub returns-in-None-clause-notes : goal.returns-in-None-clause-notes
returns-in-None-clause-notes g c start beats was =
    taken-same start beats c.args.store.now c.replay.new.self c.args.left.now was
    (subst (λ (next : Option StoreBeat). TakesFirst c.args.store.now.waiting next c.replay.new.self.waiting) c.in-None.is c.in_ok-kept.ensures.takes)

pub returns-in_ok-follow-in-Some-clause-ready : goal.returns-in_ok-follow-in-Some-clause-ready
returns-in_ok-follow-in-Some-clause-ready g c past ready =
    subst (IsReady g.H.Host.honest past) (sym c.follow.ensures.store)
    (ready_replayed g.H.Host.honest past c.args.store.now c.replay.new.self _ c.in_ok-kept.ensures.takes c.in_ok-kept.ensures.tiers c.in_ok-kept.ensures.count
    c.replay.ensures.files c.replay.ensures.body (λ going. c.requires.going) c.in_ok-kept.ensures.whole ready)

pub returns-in-None-clause-ready : goal.returns-in-None-clause-ready
returns-in-None-clause-ready g c past =
    ready_replayed g.H.Host.honest past c.args.store.now c.replay.new.self _ c.in_ok-kept.ensures.takes c.in_ok-kept.ensures.tiers c.in_ok-kept.ensures.count
    c.replay.ensures.files c.replay.ensures.body (λ going. c.requires.going) c.in_ok-kept.ensures.whole
