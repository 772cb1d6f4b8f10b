use Rattle.std.proofs.Common.{inl, ap, subst, ◌∙◌}
use Rattle.host_model.specs.Moments.{begins}
use Rattle.history.specs.History.{collected}
use Rattle.store_core.specs.beats.Records.{last_after}
use Rattle.agent_core.specs.Replay.{HasSeenBeat}
use Rattle.agent_core.proofs.KeptLemmas.{climbs, collected-awaits, collected-of, holds-beat, stays}
use Rattle.agent_core.proofs.BoundLemmas.{grows-none}
use Rattle.agent_core.proofs.keeping.add.Goals as goal

pub returns-in_err-kept-clause-any_moment : goal.returns-in_err-kept-clause-any_moment
returns-in_err-kept-clause-any_moment g c true_host before moment beat set h taken holds was follows = begins (λ disk images. inl (stays (g.H.Host.seen c.args.host.now).past c.args.store.now set h holds disk images))

pub returns-in_err-commit-clause-any_moment : goal.returns-in_err-commit-clause-any_moment
returns-in_err-commit-clause-any_moment g c true_host before moment beat set h taken holds was follows =
    let past = (g.H.Host.seen c.args.host.now).past in
    let of = collected-of past c.args.store.now set h holds before c.args.left.now was moment beat follows c.args.numbered.now taken c.in_ok-kept.kept (λ g' next. c.in_ok-kept.ensures.kept g' beat next) c.in_ok-kept.ensures.spelt in
    climbs past c.args.store.now set h holds (collected moment beat) c.in_ok-kept.kept of (g.H.Host.seen c.commit.new.host).past (c.commit.ensures.any_moment true_host holds.stored holds.store_of)

pub returns-in_err-take_rows-clause-any_moment : goal.returns-in_err-take_rows-clause-any_moment
returns-in_err-take_rows-clause-any_moment g c true_host before moment beat set h taken holds was follows =
    let past = (g.H.Host.seen c.args.host.now).past in
    let of = collected-of past c.args.store.now set h holds before c.args.left.now was moment beat follows c.args.numbered.now taken c.in_ok-kept.kept (λ g' next. c.in_ok-kept.ensures.kept g' beat next) c.in_ok-kept.ensures.spelt in
    climbs past c.args.store.now set h holds (collected moment beat) c.in_ok-kept.kept of (g.H.Host.seen c.commit.new.host).past (c.commit.ensures.any_moment true_host holds.stored holds.store_of)

pub returns-in_err-see_beat-clause-any_moment : goal.returns-in_err-see_beat-clause-any_moment
returns-in_err-see_beat-clause-any_moment g c true_host before moment beat set h taken holds was follows =
    let past = (g.H.Host.seen c.args.host.now).past in
    let of = collected-of past c.args.store.now set h holds before c.args.left.now was moment beat follows c.args.numbered.now taken c.in_ok-kept.kept (λ g' next. c.in_ok-kept.ensures.kept g' beat next) c.in_ok-kept.ensures.spelt in
    climbs past c.args.store.now set h holds (collected moment beat) c.in_ok-kept.kept of (g.H.Host.seen c.commit.new.host).past (c.commit.ensures.any_moment true_host holds.stored holds.store_of)

pub returns-clause-any_moment : goal.returns-clause-any_moment
returns-clause-any_moment g c true_host before moment beat set h taken holds was follows =
    let past = (g.H.Host.seen c.args.host.now).past in
    let of = collected-of past c.args.store.now set h holds before c.args.left.now was moment beat follows c.args.numbered.now taken c.in_ok-kept.kept (λ g' next. c.in_ok-kept.ensures.kept g' beat next) c.in_ok-kept.ensures.spelt in
    climbs past c.args.store.now set h holds (collected moment beat) c.in_ok-kept.kept of (g.H.Host.seen c.commit.new.host).past (c.commit.ensures.any_moment true_host holds.stored holds.store_of)

pub returns-clause-done : goal.returns-clause-done
returns-clause-done g c true_host before moment beat set h taken holds was follows =
    let past = (g.H.Host.seen c.args.host.now).past in
    let of = collected-of past c.args.store.now set h holds before c.args.left.now was moment beat follows c.args.numbered.now taken c.in_ok-kept.kept (λ g' next. c.in_ok-kept.ensures.kept g' beat next) c.in_ok-kept.ensures.spelt in
    let old = c.args.left.now in
    let new = c.see_beat.new.left in
    let kept = c.in_ok-kept.kept in
    let points = subst (HasSeenBeat old.registry old.latest new.latest c.args.numbered.now) c.as_slice.ensures c.in_ok-see_beat.ensures.seen in (
      holds-beat past c.args.store.now set h holds (collected moment beat) kept of (g.H.Host.seen c.commit.new.host).past c.commit.new.store (c.in_ok-commit.ensures.stored true_host holds.stored holds.store_of),
      collected-awaits past c.args.store.now set h holds before old was moment beat follows c.args.numbered.now taken kept (λ g' next. c.in_ok-kept.ensures.kept g' beat next) c.take_rows.new.last_rows new c.see_beat.ensures.only
          c.in_ok-take_rows.ensures points (c.in_ok-see_beat.ensures.before ∙ c.last-before.ensures),
    )

pub returns-clause-last : goal.returns-clause-last
returns-clause-last g c = c.in_ok-commit.ensures.last ∙ ap (last_after c.args.store.now.tiers.last) c.in_ok-kept.ensures.moment

pub returns-in_err-kept-clause-bound : goal.returns-in_err-kept-clause-bound
returns-in_err-kept-clause-bound g c true_host set h holds limit = grows-none set limit (g.H.Host.seen c.args.host.now).past c.args.store.now
