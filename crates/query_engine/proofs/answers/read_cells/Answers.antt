use Rattle.std.proofs.Common.{◌∙◌}
use Rattle.query_engine.specs.Windows.{cell}
use Rattle.query_engine.proofs.TableLemmas.{cells_more, cells_all}
use Rattle.query_engine.proofs.answers.read_cells.Goals as goal

pub loop-one-preserved : goal.loop-one-preserved
loop-one-preserved g c = record {
  same = c.read_cell.ensures.tiers ∙ c.loop-one.invariant.same;
  still = λ told tells. c.read_cell.ensures.told told (c.loop-one.invariant.still told tells);
  holds = c.read_cell.ensures.held ∙ c.loop-one.invariant.holds;
  unfailed = c.in_ok-found.ensures.cause.stays (λ e. absurd cc) ∙ c.loop-one.invariant.unfailed;
  so_far = λ told tells.
      cells_more (λ one. cell c.args.group c.args.plan.floor c.args.start c.args.window (told one)) c.args.series.now c.loop-one.one-index c.loop-one.cells _ c.in_ok-found.found
      c.loop-one-test.true (c.loop-one.invariant.so_far told tells) (c.in_ok-found.ensures.cell told (c.loop-one.invariant.still told tells)) c.in_ok-keep.ensures.ok;
}

pub returns-clause-cells : goal.returns-clause-cells
returns-clause-cells g c = λ told tells.
    cells_all (λ one. cell c.args.group c.args.plan.floor c.args.start c.args.window (told one)) c.args.series.now c.loop-one.one-index c.loop-one.cells
    c.loop-one-test.false (c.loop-one.invariant.so_far told tells)
