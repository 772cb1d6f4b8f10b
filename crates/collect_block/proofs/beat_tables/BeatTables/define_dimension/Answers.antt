use Rattle.std.proofs.Common.{◌≡◌, ℕ, ◌+◌, min, List, length, true, sym, ap, subst, ◌∙◌}
use Rattle.std.proofs.lemmas.Result.{on_ok_weaker}
use Rattle.history.specs.Refusal.{has_dimension}
use Rattle.history.specs.declared.beat.OpenDim.{OpenDim}
use Rattle.collect_block.specs.BeatTables.{beat_of, CountsNew}
use Rattle.collect_block.proofs.CountLemmas.{dimension-old, dimension-new}
use Rattle.collect_block.proofs.beat_tables.BeatTables.define_dimension.Goals as goal

pub returns-then-has_dimension-clause-counts : goal.returns-then-has_dimension-clause-counts
returns-then-has_dimension-clause-counts c =
    let there : has_dimension c.args.registry.now (beat_of c.args.self.now) c.args.dimension.chart c.args.dimension.def.id ≡ true
    = (λ i. has_dimension c.args.registry.now (beat_of c.args.self.now) (sym c.as_str-chart.ensures i) (sym c.as_str.ensures i)) ∙ sym c.if-has_dimension.ensures in
    on_ok_weaker c.define.result (λ defined counts. dimension-old c.args.registry.now c.args.self.now counts c.args.dimension c.define.new.self defined there) c.define.ensures.ok

pub returns-clause-counts : goal.returns-clause-counts
returns-clause-counts c = λ counts.
    let tables = c.args.self.now in
    let raised : c.raised-self.result ≡ min (tables.counted_dimensions + 1) (length c.define-2.new.table)
    = c.raised-self.ensures ∙ ap (λ (dimensions : List OpenDim). min (tables.counted_dimensions + 1) (length dimensions)) c.as_slice.ensures in
    subst (λ (n : ℕ). CountsNew (record tables { dimensions = c.define-2.new.table; counted_dimensions = n; counted_of = c.define-2.new.self }) c.args.registry.now) (sym raised)
    (dimension-new c.args.registry.now tables counts c.args.dimension c.define-2.new.table c.in_ok-define.ensures.table c.define-2.new.self c.in_ok-define.ensures.counts)
