use Rattle.health_expr.proofs.FirstFault.{just_spelling, just_misfit, just_too_deep, just_too_wide}
use Rattle.health_expr.proofs.law.text_reads_as_it_spells.Goals as goal

pub returns-clause-spelling : goal.returns-clause-spelling
returns-clause-spelling c = just_spelling

pub returns-clause-misfit : goal.returns-clause-misfit
returns-clause-misfit c = just_misfit

pub returns-clause-too_deep : goal.returns-clause-too_deep
returns-clause-too_deep c = just_too_deep

pub returns-clause-too_wide : goal.returns-clause-too_wide
returns-clause-too_wide c = just_too_wide
