use Rattle.std.proofs.Common.{ℕ, List, Some, ap, sym, ◌∙◌}
use Rattle.std.proofs.lemmas.List.{take_all}
use Rattle.fixed_num.specs.declared.units.Record.{Record as ARecord}
use Rattle.store_core.proofs.BodyProofs.TierLemmas.{open-one, open-starts}
use Rattle.store_core.proofs.bodies.kept_tiers.open_records_of.Goals as goal

pub returns-then-record-start-clause-one : goal.returns-then-record-start-clause-one
returns-then-record-start-clause-one c = λ current same.
    absurd (c.if-record-start.true (open-starts c.args.last c.args.width c.args.records.now current same c.loop-record.record-index _ c.loop-record-test.true))

pub returns-clause-one : goal.returns-clause-one
returns-clause-one c = λ current same.
    ap (λ (list : List (ℕ × ARecord)). Some list)
    (open-one c.args.last c.args.width c.loop-record.current current
    (sym c.loop-record.invariant ∙ take_all c.loop-record.record-index c.args.records.now c.loop-record-test.false ∙ same))
