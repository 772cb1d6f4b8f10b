use Rattle.std.proofs.Common.{arith, ◌≡◌, [], ◌∷◌, ◌++◌, position, sym, ◌∙◌}
use Rattle.history.specs.Looking.{is_value, same_value}
use Rattle.chart_registry.proofs.Places.{put-present, put-absent}
use Rattle.collect_block.proofs.MarksLemmas.{marks-replaced}
use Rattle.collect_block.proofs.block_values.put_value.Goals as goal

pub returns-in-Some-clause-marked : goal.returns-in-Some-clause-marked
returns-in-Some-clause-marked c =
    marks-replaced c.args.marks.now.items c.args.values.now.items c.requires.marked c.args.value c.in-Some.place
    ((λ i. position (is_value (sym c.as_str-2.ensures i)) (sym c.as_slice-2.ensures.value i)) ∙ sym c.in-Some.ensures)

pub returns-in-Some-clause-ok : goal.returns-in-Some-clause-ok
returns-in-Some-clause-ok c =
    sym (put-present same_value c.args.value c.args.values.now.items c.in-Some.place
    ((λ i. position (is_value (sym c.as_str-2.ensures i)) (sym c.as_slice-2.ensures.value i)) ∙ sym c.in-Some.ensures))

pub returns-in_ok-push-in-None-clause-ok : goal.returns-in_ok-push-in-None-clause-ok
returns-in_ok-push-in-None-clause-ok c =
    let pushed : c.push-in-None.new.self.items ≡ c.args.values.now.items ++ c.args.value ∷ [] = grind arith in
    pushed
    ∙ sym (put-absent same_value c.args.value c.args.values.now.items
    ((λ i. position (is_value (sym c.as_str-2.ensures i)) (sym c.as_slice-2.ensures.value i)) ∙ sym c.in-None.ensures))
