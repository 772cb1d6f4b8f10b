use Rattle.std.proofs.Common.{◌≡◌, ℕ, map, take, sym, ap, subst, ◌∙◌, arith}
use Rattle.std.specs.List.{filter}
use Rattle.beat_tiers.specs.Above.{is_above}
use Rattle.replication.specs.Answer.{data_of, from_of}
use Rattle.tier_settings.specs.declared.settings.Settings.{Settings}
use Rattle.store_core.specs.Tiers.{kept_of}
use Rattle.agent_core.specs.Answers.{tier_beats}
use Rattle.agent_core.specs.Copies.{names_of, sent_beat}
use Rattle.agent_core.proofs.StoredLemmas.{applied-all}
use Rattle.agent_core.proofs.AskLemmas.{answer-is, found-sendable, not-asked}
use Rattle.agent_core.proofs.SentBeats.{rise-lower}
use Rattle.agent_core.proofs.asking.answer.Goals as goal

pub returns-then-ask-child-clause-answered : goal.returns-then-ask-child-clause-answered
returns-then-ask-child-clause-answered g c past set h holds same =
    not-asked past c.args.store.now set h holds c.args.ask.now (λ e. c.if-ask-child.true (e ∙ sym (ap (λ (set : Settings). set.id) c.settings.ensures)))

pub returns-clause-answered : goal.returns-clause-answered
returns-clause-answered g c past set h holds same =
    let store = c.args.store.now in
    let registry = c.args.registry.now in
    let ask = c.args.ask.now in
    let floor = c.floor-floor.result in
    let kept = c.in_ok-kept.kept in
    let beats = tier_beats h in
    let has = applied-all past store set h holds in
    let floor_is = c.floor-floor.ensures.applied set beats has in
    let kept_is : kept ≡ take 64 (filter (is_above (from_of floor ask.last)) (kept_of set beats).beats) =
    subst (λ (from : ℕ). kept ≡ take 64 (filter (is_above from) (kept_of set beats).beats)) c.from_of.ensures (c.in_ok-kept.ensures.kept set beats has) in
    let sendable = found-sendable past store set h holds ask registry same floor floor_is kept kept_is in
    answer-is past store set h holds ask registry same floor floor_is kept kept_is c.in_ok-answer_by.field-0
    (c.in_ok-answer_by.ensures.answered sendable ∙ ap (λ (id : ℕ). data_of id floor (names_of registry) (map sent_beat kept) ask) (ap (λ (set : Settings). set.id) c.settings.ensures))

pub answer_by-requires-clause-rises : goal.answer_by-requires-clause-rises
answer_by-requires-clause-rises g c = rise-lower 0 c.from_of.result c.in_ok-kept.kept (omega arith) c.in_ok-kept.ensures.rises
