use Rattle.std.proofs.Common.{◌≡◌, ◌+◌, ◌<◌, ◌++◌, ◌∷◌, [], true, true≢false, length, get_or, sym, subst, ◌∙◌, arith}
use Rattle.beat_tiers.specs.declared.kept.KeptPoint.{KeptPoint}
use Rattle.agent_core.specs.Copies.{sent_word}
use Rattle.agent_core.proofs.SentBeats.{all-more, all-passes, may_follow, more-so_far, same-item, AllSoFar, SoFar}
use Rattle.agent_core.proofs.asking.sent_words.Goals as goal
use Rattle.agent_core.proofs.asking.sent_words.Goals.{then-may_follow+in_ok-push, else-may_follow}

pub loop-point-preserved : goal.loop-point-preserved
loop-point-preserved c =
    let points = c.args.points.now in
    let n = c.loop-point.point-index in
    let series = c.args.series in
    let least = c.loop-point.least in
    let words = c.loop-point.words in
    let nothing : KeptPoint = record { series = 0; word = 0 } in
    let point = get_or points n nothing in
    let within : n < length points = omega arith in
    let at = same-item points n nothing within in
    let so = c.loop-point.invariant in
    elim c.if-may_follow.branch [
      | then-may_follow+in_ok-push w ↦
          let may : may_follow least series point ≡ true = sym c.may_follow.ensures.value ∙ w.if-may_follow.true in
          let pushed : c.if-may_follow.words ≡ words ++ sent_word point ∷ [] = w.words-is ∙ w.in_ok-push.ensures.ok in
          record {
            taken = subst (λ next. SoFar series next c.if-may_follow.words) (sym w.least-is)
                (more-so_far series least words c.if-may_follow.words point so.taken may (record { series = omega arith; word = c.may_follow.ensures.small w.if-may_follow.true }) pushed);
            all = λ sendable. subst (λ next. AllSoFar series next c.if-may_follow.words points (n + 1)) (sym w.least-is)
                (all-more series least words points n point within at (so.all sendable) c.if-may_follow.words pushed);
          }
      | else-may_follow w ↦ record {
        taken = subst (λ next. SoFar series next c.if-may_follow.words) (sym w.least-is) (subst (SoFar series least) (sym w.words-is) so.taken);
        all = λ sendable. absurd (true≢false (sym (all-passes series least words points n point within at (so.all sendable)) ∙ sym c.may_follow.ensures.value ∙ w.if-may_follow.false));
      }
    ]
