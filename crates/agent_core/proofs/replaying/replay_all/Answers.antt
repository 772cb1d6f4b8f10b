use Rattle.std.proofs.Common.{refl, rules, ◌∙◌}
use Rattle.std.proofs.lemmas.Result.{err_from_is_err_and}
use Rattle.agent_core.specs.Notes.{noted_in}
use Rattle.agent_core.specs.Replay.{IsReplaying}
use Rattle.agent_core.proofs.NoteLemmas.{taken-all, taken-begins, taken-left}
use Rattle.agent_core.proofs.OpeningLemmas.{replayed-holds, replayed-left}
use Rattle.agent_core.proofs.replaying.replay_all.Goals as goal

-- ---- a store of a history
pub returns-in_err-replay_next-clause-stands : goal.returns-in_err-replay_next-clause-stands
returns-in_err-replay_next-clause-stands g c =
    let error = err_from_is_err_and c.from_residual.result c.from_residual.ensures.1 in
    rw (error.1, error.2) (λ past set prefix h at by.
    let begun : IsReplaying past c.args.store.now c.args.left.now set h = record { prefix = prefix; at = at; left_by = by } in
    c.in_err-replay_next.ensures.stands past set h (c.loop.invariant.replaying past set h begun))

pub returns-clause-holds : goal.returns-clause-holds
returns-clause-holds g c past set prefix h at by =
    let begun : IsReplaying past c.args.store.now c.args.left.now set h = record { prefix = prefix; at = at; left_by = by } in
    replayed-holds past c.replay_next.new.store c.replay_next.new.left set h (c.in_ok-replay_next.ensures.replaying past set h (c.loop.invariant.replaying past set h begun)) (search rules)

pub returns-clause-left_by : goal.returns-clause-left_by
returns-clause-left_by g c past set prefix h at by =
    let begun : IsReplaying past c.args.store.now c.args.left.now set h = record { prefix = prefix; at = at; left_by = by } in
    replayed-left past c.replay_next.new.store c.replay_next.new.left set h (c.in_ok-replay_next.ensures.replaying past set h (c.loop.invariant.replaying past set h begun)) (search rules)

-- ---- whatever beats wait
pub returns-in_err-replay_next-clause-broken : goal.returns-in_err-replay_next-clause-broken
returns-in_err-replay_next-clause-broken g c =
    let error = err_from_is_err_and c.from_residual.result c.from_residual.ensures.1 in
    rw (error.1, error.2) (λ damaged.
    let start = noted_in c.args.left.now in
    let beats = c.args.store.now.waiting in
    c.in_err-replay_next.ensures.broken damaged start beats (c.loop.invariant.notes start beats (taken-begins start c.args.store.now c.args.left.now refl)))

pub returns-clause-notes : goal.returns-clause-notes
returns-clause-notes g c =
    let start = noted_in c.args.left.now in
    let beats = c.args.store.now.waiting in
    taken-all start beats c.replay_next.new.store c.replay_next.new.left
    (c.in_ok-replay_next.ensures.notes start beats (c.loop.invariant.notes start beats (taken-begins start c.args.store.now c.args.left.now refl))) (search rules)

pub returns-clause-noted : goal.returns-clause-noted
returns-clause-noted g c =
    let start = noted_in c.args.left.now in
    let beats = c.args.store.now.waiting in
    taken-left start beats c.replay_next.new.store c.replay_next.new.left
    (c.in_ok-replay_next.ensures.notes start beats (c.loop.invariant.notes start beats (taken-begins start c.args.store.now c.args.left.now refl))) (search rules)

-- ---- any store
pub loop-preserved : goal.loop-preserved
loop-preserved g c = record {
  host = c.replay_next.ensures.host ∙ c.loop.invariant.host;
  replaying = λ past set h was. c.in_ok-replay_next.ensures.replaying past set h (c.loop.invariant.replaying past set h was);
  notes = λ start beats was. c.in_ok-replay_next.ensures.notes start beats (c.loop.invariant.notes start beats was);
  ready = λ past was. c.in_ok-replay_next.ensures.ready past (c.loop.invariant.ready past was);
  going = c.in_ok-replay_next.ensures.going;
  files = c.replay_next.ensures.files ∙ c.loop.invariant.files;
  body = c.replay_next.ensures.body ∙ c.loop.invariant.body;
  fit = c.in_ok-replay_next.ensures.fit;
}

pub returns-clause-ready : goal.returns-clause-ready
returns-clause-ready g c past was = c.in_ok-replay_next.ensures.ready past (c.loop.invariant.ready past was)
