use Rattle.agent_core.specs.Storing.{series_word}
use Rattle.agent_core.proofs.WordLemmas.{gathered-next}
use Rattle.agent_core.proofs.copying.gather_words.Goals as goal

pub loop-word-preserved : goal.loop-word-preserved
loop-word-preserved c =
    gathered-next (series_word c.args.series.now) c.args.words.now c.loop-word.word-index _
    c.loop-word.gathered.items c.push_word.new.words.items c.loop-word-test.true c.in_ok-push_word.ensures c.loop-word.invariant
