use Rattle.std.proofs.Common.{List, [], ◌∷◌, ◌++◌, ◌∙◌, ap, sym, arith}
use Rattle.health_config.specs.declared.lines.Line.{Line}
use Rattle.health_config.specs.Draft.{Draft, with}
use Rattle.health_config.specs.Setting.{settings}
use Rattle.health_config.proofs.DraftLemmas.{drafted-append, skips_one, then_read, onward}
use Rattle.health_config.proofs.draft.read_draft.Goals as goal

pub loop-line-preserved : goal.loop-line-preserved
loop-line-preserved c =
    let kept = c.loop-line.invariant in
    let said = c.in_ok-set_line.ensures.ok in
    let first = c.in-Some.ensures.cases in
    let one = skips_one said.0 in
    let count = ap (λ (draft : Draft). draft.skipped) said.2 in
    record {
      done = kept.done ++ said.0 ∷ [];
      set = said.2 ∙ ap (with said.0) kept.set ∙ sym (drafted-append kept.done said.0);
      whole = kept.whole
          ∙ ap (λ (lines : List Line). then_read kept.done (settings c.args.inside lines)) first.0
          ∙ onward c.args.inside kept.done c.in-Some.line.now c.in-Some.rest.now said.0 said.1;
      few = omega (arith, first.1);
    }
