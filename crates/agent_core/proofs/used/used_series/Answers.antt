use Rattle.std.proofs.Common.{ap, ◌∙◌}
use Rattle.std.proofs.lemmas.Result.{IfOk-weaker}
use Rattle.replication.specs.Names.{words_of}
use Rattle.agent_core.specs.Used.{has}
use Rattle.agent_core.proofs.UsedRegistry.{has-series}
use Rattle.agent_core.proofs.used.used_series.Goals as goal

pub returns-clause-same : goal.returns-clause-same
returns-clause-same c =
    IfOk-weaker c.in_order.result _ _ (λ series same. same ∙ ap has c.in_ok-all.ensures ∙ has-series (words_of c.args.beats.now)) c.in_order.ensures.same
