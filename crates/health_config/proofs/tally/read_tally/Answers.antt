use Rattle.std.proofs.Common.{ℕ, List, Result, Ok, IfOk, IfErr, take, drop, ◌≡◌, ◌∙◌, sym, ap, subst}
use Rattle.std.proofs.lemmas.Result.{err_from_is_err_and}
use Rattle.health_config.specs.declared.fault.ConfigFault.{ConfigFault}
use Rattle.health_config.specs.declared.lines.Line.{Line}
use Rattle.health_config.specs.declared.tally.Tally.{Tally}
use Rattle.health_config.specs.Config.{Configuration, prefix_skipped, of_sections, tally_of}
use Rattle.health_config.specs.Fault.{IsRefusalFor}
use Rattle.health_config.specs.Sections.{sections}
use Rattle.health_config.proofs.ConfigLemmas.{refused_alike, prefix_refused, prefix_taken}
use Rattle.health_config.proofs.SectionsLemmas.{none_before}
use Rattle.health_config.proofs.tally.read_tally.Goals as goal

pub read_entities-requires-clause-here : goal.read_entities-requires-clause-here
read_entities-requires-clause-here c =
    ap (λ (lines : List Line). (sections lines).prefix) (c.split_at.ensures.back ∙ ap (λ (n : ℕ). drop n c.args.lines.now) c.leading_len.ensures.len)
    ∙ none_before c.args.lines.now

pub returns-in_err-skipped-clause-fault : goal.returns-in_err-skipped-clause-fault
returns-in_err-skipped-clause-fault c =
    let p = err_from_is_err_and c.from_residual.result c.from_residual.ensures.1 in
    let cut = c.split_at.ensures.front ∙ ap (λ (n : ℕ). take n c.args.lines.now) c.leading_len.ensures.len in
    rw (p.1, p.2)
    (refused_alike (prefix_skipped c.split_at.result.0.now) (of_sections (sections c.args.lines.now)) c.in_err-skipped.field-0.0
    (prefix_refused c.args.lines.now c.split_at.result.0.now cut) c.in_err-skipped.ensures.fault)

pub returns-clause-ok : goal.returns-clause-ok
returns-clause-ok c =
    let cut = c.split_at.ensures.front ∙ ap (λ (n : ℕ). take n c.args.lines.now) c.leading_len.ensures.len in
    let rest = c.split_at.ensures.back ∙ ap (λ (n : ℕ). drop n c.args.lines.now) c.leading_len.ensures.len in
    subst (λ (answer : Result Configuration ConfigFault). IfOk c.read_entities.result (λ (tally : Tally). answer ≡ Ok (tally_of tally)))
    (sym (prefix_taken c.args.lines.now c.split_at.result.0.now cut c.in_ok-skipped.skipped c.split_at.result.1.now c.in_ok-skipped.ensures.ok rest))
    c.read_entities.ensures.ok

pub returns-clause-fault : goal.returns-clause-fault
returns-clause-fault c =
    let cut = c.split_at.ensures.front ∙ ap (λ (n : ℕ). take n c.args.lines.now) c.leading_len.ensures.len in
    let rest = c.split_at.ensures.back ∙ ap (λ (n : ℕ). drop n c.args.lines.now) c.leading_len.ensures.len in
    subst (λ (answer : Result Configuration ConfigFault). IfErr c.read_entities.result (IsRefusalFor answer))
    (sym (prefix_taken c.args.lines.now c.split_at.result.0.now cut c.in_ok-skipped.skipped c.split_at.result.1.now c.in_ok-skipped.ensures.ok rest))
    c.read_entities.ensures.fault
