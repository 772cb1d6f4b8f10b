use Rattle.std.proofs.Common.{◌≡◌, ◌<◌, length, map, sym, subst, arith}
use Rattle.agent_core.specs.Asking.{AreSendable}
use Rattle.agent_core.specs.Copies.{sent_word}
use Rattle.agent_core.proofs.SentBeats.{all-more_beats, more-fits, more-rise, more-sendable}
use Rattle.agent_core.proofs.asking.sent_beats.Goals as goal

pub loop-beat-preserved : goal.loop-beat-preserved
loop-beat-preserved c =
    let kept = c.args.kept.now in
    let n = c.loop-beat.beat-index in
    let series = c.args.series in
    let beat = c.beat-item.result in
    let beats = c.loop-beat.beats in
    let new = c.add_beat.new.beats in
    let words = c.in_ok-words.words in
    let pushed = c.in_ok-add_beat.ensures in
    let within : n < length kept = omega arith in
    let so = c.loop-beat.invariant in
    let all : AreSendable series (map sent_word beat.points) → words ≡ map sent_word beat.points =
    subst (λ points. AreSendable series (map sent_word points) → words ≡ map sent_word points) c.as_slice.ensures c.in_ok-words.ensures.all in
    record {
      sendable = more-sendable series beat.moment words beats new pushed c.in_ok-words.ensures.sendable so.sendable;
      fits = more-fits beat.moment words beats new pushed (omega arith) c.in_ok-words.ensures.fits so.fits;
      rises = more-rise words beats new kept n beat within (sym c.beat-item.is) pushed so.rises;
      all = λ sendable. all-more_beats series words beats new kept n beat within (sym c.beat-item.is) pushed all (so.all sendable);
    }
