use Rattle.std.proofs.Common.{get_or, sym}
use Rattle.replication.specs.declared.beats.SeriesWord.{SeriesWord}
use Rattle.agent_core.proofs.SentBeats.{same-item}
use Rattle.agent_core.proofs.UsedRegistry.{series-more}
use Rattle.agent_core.proofs.used.add_series.Goals as goal

pub loop-word-preserved : goal.loop-word-preserved
loop-word-preserved c =
    let words = c.args.words.now in
    let n = c.loop-word.word-index in
    let lt = c.loop-word-test.true in
    let nothing : SeriesWord = record { series = 0; word = 0 } in
    series-more words n (get_or words n nothing) c.args.numbers.now.items c.loop-word.numbers.items c.push.new.self.items lt (sym (same-item words n nothing lt)) c.in_ok-push.ensures.items c.loop-word.invariant
