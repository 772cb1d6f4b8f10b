use Rattle.std.proofs.Common.{ℕ, List, ◌++◌, ◌∙◌, ap, sym, refl, arith}
use Rattle.health_config.specs.Lines.{lines_from}
use Rattle.health_config.proofs.LinesLemmas.{behind, begun, taken, finished}
use Rattle.health_config.proofs.lines.cut_lines.Goals as goal

pub loop-part-init : goal.loop-part-init
loop-part-init c = record {
  lines = begun c.new-lines.result c.empty_line-line.result c.args.text.now c.new-lines.ensures c.empty_line-line.ensures.number c.empty_line-line.ensures.text;
  few = omega arith;
}

pub loop-part-preserved : goal.loop-part-preserved
loop-part-preserved c =
    let kept = c.loop-part.invariant in
    let shorter = c.in-Some.ensures.shorter in
    record {
      lines = taken c.loop-part.lines _ c.loop-part.line _ c.loop-part.number _ c.in-Some.part.now c.in-Some.left.now refl c.in_ok-take_part.ensures
          ∙ ap (λ (left : List (List ℕ)). c.loop-part.lines ++ behind c.loop-part.line (lines_from c.loop-part.number left)) (sym c.in-Some.ensures.parts)
          ∙ kept.lines;
      few = omega arith;
    }

pub returns : goal.returns
returns c =
    finished c.loop-part.lines _ c.loop-part.line c.loop-part.number c.loop-part.ahead.now c.args.text.now _ c.in_default.ensures.parts c.in_ok-add_part.ensures c.in_ok-push.ensures.ok c.loop-part.invariant.lines
