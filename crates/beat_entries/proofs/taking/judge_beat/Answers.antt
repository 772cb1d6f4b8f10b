use Rattle.std.proofs.Common.{◌≡◌, Option, None, Result, Ok, Err, MatchResult, OnOk, sym, subst}
use Rattle.history.specs.declared.fault.BlockFault.{BlockFault}
use Rattle.history.specs.declared.numbered.NumberedBeat.{NumberedBeat}
use Rattle.beat_entries.specs.Rules.{content_refusal}
use Rattle.beat_entries.specs.Taking.{IsFaultOf}
use Rattle.beat_entries.proofs.TakingLemmas.{judged-either}
use Rattle.beat_entries.proofs.TestLemmas.{refused-content, refused-mixed, refused-order}
use Rattle.beat_entries.proofs.taking.judge_beat.Goals as goal

pub returns-then-copies-clause-judged : goal.returns-then-copies-clause-judged
returns-then-copies-clause-judged c = refused-mixed c.args.registry.now c.args.copies c.args.last c.args.moment c.args.beat.now c.if-copies.true

pub returns-then-moment-last-clause-judged : goal.returns-then-moment-last-clause-judged
returns-then-moment-last-clause-judged c = refused-order c.args.registry.now c.args.copies c.args.last c.args.moment c.args.beat.now c.if-copies.false c.if-moment-last.true

pub returns-clause-judged : goal.returns-clause-judged
returns-clause-judged c =
    subst (λ (reason : Option BlockFault). MatchResult c.number_content.result (λ numbered. reason ≡ None) (IsFaultOf reason))
    (sym (refused-content c.args.registry.now c.args.copies c.args.last c.args.moment c.args.beat.now c.if-copies.false c.if-moment-last.false)) c.number_content.ensures.judged

-- where the beat is not refused nothing is against what it says
free-either : {E : Type 0} (reason : Option BlockFault) (P : E → Type 0) (result : Result NumberedBeat E) → MatchResult result (λ numbered. reason ≡ None) P → OnOk result (reason ≡ None)
free-either reason P (Ok numbered) judged = judged
free-either reason P (Err fault) judged = tt

pub returns-clause-definable : goal.returns-clause-definable
returns-clause-definable c =
    let reason = content_refusal c.args.registry.now c.args.moment c.args.beat.now in
    judged-either c.args.registry.now c.args.moment c.args.beat.now c.number_content.result c.requires.is_open
    (free-either reason (IsFaultOf reason) c.number_content.result c.number_content.ensures.judged) c.number_content.ensures.numbered
