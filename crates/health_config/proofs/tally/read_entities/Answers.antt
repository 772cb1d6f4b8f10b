use Rattle.std.proofs.Common.{ℕ, List, length, take, drop, ◌∙◌, ap, arith}
use Rattle.std.proofs.lemmas.Result.{err_from_is_err_and}
use Rattle.health_config.specs.declared.lines.Line.{Line}
use Rattle.health_config.specs.Config.{Configuration, entities, entity, none_but, tally_of, then_entities}
use Rattle.health_config.specs.Sections.{sections}
use Rattle.health_config.proofs.ConfigLemmas.{refused_alike, none_read, turned, stopped}
use Rattle.health_config.proofs.SectionsLemmas.{none_before}
use Rattle.health_config.proofs.tally.read_entities.Goals as goal

pub loop-template-init : goal.loop-template-init
loop-template-init c = record {
  whole = ap (λ (done : Configuration). then_entities done (entities 0 (sections c.args.lines.now).groups)) (none_read c.new.result c.args.skipped c.new.ensures);
  here = c.requires.here;
  few = omega arith;
  room = omega arith;
}

pub returns-in_err-add_entity-clause-fault : goal.returns-in_err-add_entity-clause-fault
returns-in_err-add_entity-clause-fault c =
    let p = err_from_is_err_and c.from_residual.result c.from_residual.ensures.1 in
    let cut = c.split_at.ensures.front ∙ ap (λ (n : ℕ). take n c.in-Some.behind.now) c.leading_len.ensures.len in
    rw (p.1, p.2)
    (refused_alike
    (entity c.loop-template.before (record { template = c.in-Some.template; head = c.in-Some.head.now; body = c.split_at.result.0.now }))
    (then_entities (none_but c.args.skipped) (entities 0 (sections c.args.lines.now).groups)) c.in_err-add_entity.field-0.0
    (λ f e. c.loop-template.invariant.whole
    ∙ stopped c.loop-template.before (tally_of c.loop-template.tally) c.loop-template.ahead.now c.in-Some.template c.in-Some.head.now c.in-Some.behind.now
    c.split_at.result.0.now c.split_at.result.1.now c.in-Some.ensures cut f e)
    c.in_err-add_entity.ensures.fault)

pub loop-template-preserved : goal.loop-template-preserved
loop-template-preserved c =
    let kept = c.loop-template.invariant in
    let read = c.in_ok-add_entity.ensures in
    let found = ap length c.in-Some.ensures.whole in
    let halves = c.split_at.ensures in
    let cut = halves.front ∙ ap (λ (n : ℕ). take n c.in-Some.behind.now) c.leading_len.ensures.len in
    let rest = halves.back ∙ ap (λ (n : ℕ). drop n c.in-Some.behind.now) c.leading_len.ensures.len in
    record {
      whole = kept.whole
          ∙ turned c.loop-template.before (tally_of c.loop-template.tally) c.loop-template.ahead.now c.in-Some.template c.in-Some.head.now c.in-Some.behind.now
          c.split_at.result.0.now c.split_at.result.1.now c.in-Some.ensures cut (tally_of c.add_entity.new.tally) rest read.ok;
      here = ap (λ (lines : List Line). (sections lines).prefix) rest ∙ none_before c.in-Some.behind.now;
      few = omega (arith, read.skipped, halves.front_len, halves.back_len, kept.few);
      room = omega (arith, read.few);
    }
