use Rattle.std.proofs.Common.{ℕ, List, false, ◌∷◌, ◌∙◌, ap, sym, rules}
use Rattle.simple_pattern.specs.Words.{words}
use Rattle.health_config.proofs.DelayLemmas.{next}
use Rattle.health_config.proofs.delay.read_delay.Goals as goal

pub loop-word-preserved : goal.loop-word-preserved
loop-word-preserved c =
    let two = c.in-Some.ensures ∙ ap (λ (more : List (List ℕ)). c.in-Some.word.now ∷ more) c.in-Some-first_word.ensures in
    record {
      same = sym (next c.loop-word.delay (words false c.loop-word.ahead.now) c.in-Some.word.now c.in-Some-first_word.value.now (words false c.in-Some-first_word.rest.now) two c.in_ok-delay.delay c.in_ok-delay.ensures)
          ∙ c.loop-word.invariant.same;
      text = search rules;
    }
