use Rattle.chart_registry.proofs.AcceptedLemmas.{text-regular, text-few}
use Rattle.beat_points.proofs.TextLemmas.{text-before}
use Rattle.beat_points.proofs.law.accepted_text_is_regular.Goals as goal

pub returns-clause-regular : goal.returns-clause-regular
returns-clause-regular c = text-regular

pub returns-clause-few : goal.returns-clause-few
returns-clause-few c = text-few

pub returns-clause-before : goal.returns-clause-before
returns-clause-before c = text-before
