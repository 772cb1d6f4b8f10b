use Rattle.std.proofs.Common.{ap, sym, ◌∙◌, Some}
use Rattle.tier_rollup.proofs.RecordLemmas.{grown_is, room, single_is, within_is}
use Rattle.tier_rollup.proofs.law.records_grow_by_one_point.Goals as goal

pub returns-clause-first : goal.returns-clause-first
returns-clause-first c = single_is

pub returns-clause-next : goal.returns-clause-next
returns-clause-next c = λ before point points is within limit few.
    grown_is point points before is
    ∙ ap Some (sym (within_is before point.units point.anomalous (room points before point.units is within few limit)))
