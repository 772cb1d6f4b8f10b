use Rattle.std.proofs.Common.{◌-◌, List, Ok, arith, rules, ap, sym, ◌∙◌}
use Rattle.std.proofs.lemmas.Grind.{common_steps}
use Rattle.health_expr.specs.declared.word.Kind.TheVariants as kind
use Rattle.health_expr.specs.Grammar.{operand, row, steps, choice}
use Rattle.health_expr.specs.Tree.{Tree, nan, infinity}
use Rattle.health_expr.specs.TreeOf.{tree_of, row_of, chain}
use Rattle.health_expr.specs.Words.{Placed}
use Rattle.health_expr.proofs.GrammarLemmas.{reads_as, fails_as, misfit_by, operand_none, operand_more, expression_none, expression_more, choice_alone, choice_more, row_none, row_more, row_then, steps_end, steps_next, steps_turn, grown, reads_made}
use Rattle.health_expr.proofs.Trees.{tree_of-Nan, tree_of-Infinity}
use Rattle.health_expr.proofs.parser.+parser.Goals as goal

pub expression-returns-then-levels-eq0-clause-read : goal.expression-returns-then-levels-eq0-clause-read
expression-returns-then-levels-eq0-clause-read t c =
    fails_as _ _ (expression_none c.args.levels _ c.if-levels-eq0.true ∙ c.blocked.ensures)

pub expression-returns-in_err-condition-clause-read : goal.expression-returns-in_err-condition-clause-read
unfolding choice
expression-returns-in_err-condition-clause-read t c =
    reads_as _ _ _ _ (expression_more c.args.levels c.args.words.now (omega arith)) (first_of (search rules, grind (arith, common_steps)))

pub expression-returns-then-not-sees-clause-read : goal.expression-returns-then-not-sees-clause-read
expression-returns-then-not-sees-clause-read t c =
    expression_more c.args.levels c.args.words.now (omega arith) ∙ choice_alone _ _ _ _ _ c.in_ok-condition.ensures.read c.if-not-sees.ensures.value

pub expression-returns-clause-read : goal.expression-returns-clause-read
expression-returns-clause-read t c =
    reads_as _ _ _ _ (expression_more c.args.levels c.args.words.now (omega arith) ∙ choice_more _ _ _ _ _ c.in_ok-condition.ensures.read c.if-not-sees.ensures.value) c.chosen.ensures.read

pub operand-returns-then-levels-eq0-clause-read : goal.operand-returns-then-levels-eq0-clause-read
operand-returns-then-levels-eq0-clause-read t c =
    fails_as _ _ (operand_none c.args.levels _ c.if-levels-eq0.true ∙ c.blocked.ensures)

pub operand-returns-in-Number-clause-read : goal.operand-returns-in-Number-clause-read
operand-returns-in-Number-clause-read t c =
    reads_as _ _ _ _ (operand_more c.args.levels c.args.words.now kind.Number (omega arith) c.in-Number.ensures) c.number.ensures.read

pub operand-returns-in-Name-clause-read : goal.operand-returns-in-Name-clause-read
operand-returns-in-Name-clause-read t c =
    reads_as _ _ _ _ (operand_more c.args.levels c.args.words.now kind.Name (omega arith) c.in-Name.ensures) c.name.ensures.read

pub operand-returns-in-Abs-clause-read : goal.operand-returns-in-Abs-clause-read
operand-returns-in-Abs-clause-read t c =
    reads_as _ _ _ _ (operand_more c.args.levels c.args.words.now kind.Abs (omega arith) c.in-Abs.ensures) c.size.ensures.read

pub operand-returns-in-Open-clause-read : goal.operand-returns-in-Open-clause-read
operand-returns-in-Open-clause-read t c =
    reads_as _ _ _ _ (operand_more c.args.levels c.args.words.now kind.Open (omega arith) c.in-Open.ensures) c.parenthesized.ensures.read

pub operand-returns-in-Not-clause-read : goal.operand-returns-in-Not-clause-read
operand-returns-in-Not-clause-read t c =
    reads_as _ _ _ _ (operand_more c.args.levels c.args.words.now kind.Not (omega arith) c.in-Not.ensures) c.with_prefix.ensures.read

pub operand-returns-in-Plus-clause-read : goal.operand-returns-in-Plus-clause-read
operand-returns-in-Plus-clause-read t c =
    reads_as _ _ _ _ (operand_more c.args.levels c.args.words.now kind.Plus (omega arith) c.in-Plus.ensures) c.with_prefix-in-Plus.ensures.read

pub operand-returns-in-Minus-clause-read : goal.operand-returns-in-Minus-clause-read
operand-returns-in-Minus-clause-read t c =
    reads_as _ _ _ _ (operand_more c.args.levels c.args.words.now kind.Minus (omega arith) c.in-Minus.ensures) c.with_prefix-in-Minus.ensures.read

pub operand-returns-in-Nan-clause-read : goal.operand-returns-in-Nan-clause-read
operand-returns-in-Nan-clause-read t c =
    operand_more c.args.levels c.args.words.now kind.Nan (omega arith) c.in-Nan.ensures ∙ ap (λ (words : List Placed). Ok (nan, words)) (sym c.pass.ensures.next) ∙ ap (λ (tree : Tree). Ok (tree, c.pass.new.self)) (sym tree_of-Nan)

pub operand-returns-in-Infinity-clause-read : goal.operand-returns-in-Infinity-clause-read
operand-returns-in-Infinity-clause-read t c =
    operand_more c.args.levels c.args.words.now kind.Infinity (omega arith) c.in-Infinity.ensures ∙ ap (λ (words : List Placed). Ok (infinity, words)) (sym c.pass-in-Infinity.ensures.next) ∙ ap (λ (tree : Tree). Ok (tree, c.pass-in-Infinity.new.self)) (sym tree_of-Infinity)

pub operand-returns-in_default : goal.operand-returns-in_default
operand-returns-in_default t c =
    record {
      read = fails_as _ _ (operand_more c.args.levels c.args.words.now c.kind.result (omega arith) c.kind.ensures
          ∙ misfit_by c.kind.result _ _ _ _ c.in_default.not-Number c.in_default.not-Name c.in_default.not-Nan c.in_default.not-Infinity c.in_default.not-Abs c.in_default.not-Open c.in_default.not-Not c.in_default.not-Plus c.in_default.not-Minus
          ∙ c.misfit.ensures);
      shorter = omega arith;
    }

pub row-returns-then-loose-eq0-clause-read : goal.row-returns-then-loose-eq0-clause-read
row-returns-then-loose-eq0-clause-read t c =
    reads_as _ _ _ _ (row_none c.args.loose _ _ c.if-loose-eq0.true) c.operand.ensures.read

pub row-returns-in_err-left-clause-read : goal.row-returns-in_err-left-clause-read
row-returns-in_err-left-clause-read t c =
    reads_as _ _ _ _ (row_more c.args.loose (operand c.args.levels) c.args.words.now (omega arith)) (first_of (search rules, grind (arith, common_steps)))

pub row-returns-clause-read : goal.row-returns-clause-read
row-returns-clause-read t c =
    reads_as _ _ _ _ (row_then c.args.loose (operand c.args.levels) c.args.words.now _ _ (omega arith) c.in_ok-left.ensures.read) c.steps.ensures.read

pub steps-returns-in_err-right-clause-read : goal.steps-returns-in_err-right-clause-read
steps-returns-in_err-right-clause-read t c =
    let kept = c.loop-operator.invariant.0 in
    let shorter = c.pass.ensures.shorter in
    let within = kept.1 in
    reads_as _ _ _ _ (sym kept.2 ∙ steps_next kept.0 c.args.loose _ _ _ _ _ (omega arith) c.in-Some.ensures.operator c.pass.ensures.next) (first_of (search rules, grind (arith, common_steps)))

pub steps-loop-operator-preserved : goal.steps-loop-operator-preserved
steps-loop-operator-preserved t c =
    let kept = c.loop-operator.invariant.0 in
    let within = kept.1 in
    let shorter = c.pass.ensures.shorter in
    let read = c.in_ok-right.ensures.shorter in
    let before = c.loop-operator.invariant.1 in
    let chain_is = grown (tree_of c.args.left) c.loop-operator.rest.items c.push.new.rest.items c.in-Some.operator c.in_ok-right.right c.in_ok-push.ensures.ok in (
      (
        kept.0 - 1,
        omega arith,
        ap (λ (tree : Tree). steps (kept.0 - 1) c.args.loose (row (c.args.loose - 1) (operand c.args.levels)) tree c.row.new.words) (sym chain_is)
            ∙ sym (steps_turn kept.0 c.args.loose _ _ _ _ _ _ _ (omega arith) c.in-Some.ensures.operator c.pass.ensures.next c.in_ok-right.ensures.read)
            ∙ kept.2,
      ),
      omega arith,
      c.loop-operator.invariant.2,
    )

pub steps-returns-clause-read : goal.steps-returns-clause-read
steps-returns-clause-read t c =
    let kept = c.loop-operator.invariant.0 in
    reads_made _ _ _ _ (sym kept.2 ∙ steps_end kept.0 c.args.loose _ _ _ c.in_default.ensures.operator ∙ ap (λ (tree : Tree). Ok (chain tree (row_of c.loop-operator.rest.items), c.loop-operator.words)) (sym c.loop-operator.invariant.2))
    c.chain.ensures.ok c.chain.ensures.memory
