use Rattle.std.proofs.Common.{length, subst}
use Rattle.std.proofs.Math.Seq.{take-length}
use Rattle.history.specs.History.{copied, missing}
use Rattle.agent_core.specs.Copies.{IsCopyOfChild}
use Rattle.agent_core.specs.Copying.{added_to}
use Rattle.agent_core.specs.Kept.{onto}
use Rattle.agent_core.proofs.AnswerTruth.{answer-is_all, answer-is_true}
use Rattle.agent_core.proofs.CopyLemmas.{added-behind, added-copy, prefix-copy, gaps-end, seen-rises}
use Rattle.agent_core.proofs.GoingOnLemmas.{none-copy, stays-copy, stays-true}
use Rattle.agent_core.proofs.TakenLemmas.{each-follows}
use Rattle.agent_core.proofs.Within.{within-of}
use Rattle.agent_core.proofs.law.copy_stays_a_copy.Goals as goal

pub returns-clause-rises : goal.returns-clause-rises
returns-clause-rises c h beats are = (seen-rises h beats are).0

pub returns-clause-within : goal.returns-clause-within
returns-clause-within c h beats are = (seen-rises h beats are).1

pub returns-clause-ends : goal.returns-clause-ends
returns-clause-ends c = gaps-end

pub returns-clause-none : goal.returns-clause-none
returns-clause-none c = none-copy

pub returns-clause-keeps : goal.returns-clause-keeps
returns-clause-keeps c h beats floors child message n are data_is rises copies truth prev = prefix-copy h message data_is floors child rises (gaps-end h beats are) copies truth prev n

pub returns-clause-prefix : goal.returns-clause-prefix
returns-clause-prefix c h beats floors child message n are data_is rises copies truth = added-copy h message data_is floors child rises (gaps-end h beats are) copies truth n

pub returns-clause-added : goal.returns-clause-added
returns-clause-added c h beats floors child message are data_is rises copies truth =
    subst (λ more. IsCopyOfChild floors child (onto h more)) (take-length (added_to h message)) (added-copy h message data_is floors child rises (gaps-end h beats are) copies truth (length (added_to h message)))

pub returns-clause-behind : goal.returns-clause-behind
returns-clause-behind c h floors child message n data_is rises truth behind = added-behind h message data_is floors child rises behind truth n

pub returns-clause-answer : goal.returns-clause-answer
returns-clause-answer c set h beats ask floors message are = answer-is_true set h beats are ask floors message

pub returns-clause-all : goal.returns-clause-all
returns-clause-all c set h beats ask are = answer-is_all set h beats are ask

pub returns-clause-stays_true : goal.returns-clause-stays_true
returns-clause-stays_true c = stays-true

pub returns-clause-stays_copy : goal.returns-clause-stays_copy
returns-clause-stays_copy c = stays-copy

pub returns-clause-copies : goal.returns-clause-copies
returns-clause-copies c h before rest beats message copy are data_is free prev = each-follows h message (within-of h beats are) data_is free prev before (copied copy) rest

pub returns-clause-gaps : goal.returns-clause-gaps
returns-clause-gaps c h before rest beats message gap are data_is free prev = each-follows h message (within-of h beats are) data_is free prev before (missing gap) rest
