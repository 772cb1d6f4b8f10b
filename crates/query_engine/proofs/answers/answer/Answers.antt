use Rattle.std.proofs.Common.{arith, ◌∙◌}
use Rattle.query_engine.specs.Windows.{row_of}
use Rattle.query_engine.proofs.TableLemmas.{rows_more, table_made}
use Rattle.query_engine.proofs.answers.answer.Goals as goal

pub loop-i-preserved : goal.loop-i-preserved
loop-i-preserved g c = record {
  same = c.read_row.ensures.tiers ∙ c.loop-i.invariant.same;
  still = λ told tells. c.read_row.ensures.told told (c.loop-i.invariant.still told tells);
  holds = c.read_row.ensures.held ∙ c.loop-i.invariant.holds;
  unfailed = c.in_ok-row.ensures.cause.stays (λ e. absurd cc) ∙ c.loop-i.invariant.unfailed;
  so_far = λ told tells.
      rows_more (row_of c.plan_for-plan.result.floor told c.args.request.now) c.loop-i.i c.loop-i.rows c.push.new.self c.in_ok-row.row
      (c.loop-i.invariant.so_far told tells) (c.in_ok-row.ensures.row told (c.loop-i.invariant.still told tells)) c.in_ok-push.ensures.ok;
}

pub returns-clause-answered : goal.returns-clause-answered
returns-clause-answered g c = λ told tells.
    let tiers = g.P.Points.tiers c.args.points.now in
    table_made tiers.widths tiers.floor told c.args.request.now c.loop-i.rows c.plan_for-plan.result.floor c.plan_for-plan.result.tier c.loop-i.i
    (c.loop-i.invariant.so_far told tells) (omega arith) c.plan_for-plan.ensures.plan.floor c.plan_for-plan.ensures.tier
