use Rattle.alarm_core.proofs.ExprLemmas.{words-Binary, words-Choice}
use Rattle.alarm_core.proofs.expr_words.+push.Goals as goal

pub push_words-returns-in_ok-push_words-in-Binary : goal.push_words-returns-in_ok-push_words-in-Binary
push_words-returns-in_ok-push_words-in-Binary t c =
    words-Binary c.args.expr.now c.deref-in-Binary.result.now c.in-Binary.first c.in-Binary.rest c.args.words.now c.push_words-in-Binary.new.words c.push_rest.new.words c.push_rest.result
    c.in-Binary.is c.deref-in-Binary.ensures c.in_ok-push_words-in-Binary.ensures c.push_rest.ensures

pub push_words-returns-in_ok-push_words-in-Choice-3 : goal.push_words-returns-in_ok-push_words-in-Choice-3
push_words-returns-in_ok-push_words-in-Choice-3 t c =
    words-Choice c.args.expr.now c.deref-in-Choice.result.now c.deref-in-Choice-2.result.now c.deref-in-Choice-3.result.now c.in-Choice.condition c.in-Choice.yes c.in-Choice.no
    c.args.words.now c.push_words-in-Choice.new.words c.push_words-in-Choice-2.new.words c.push_words-in-Choice-3.new.words c.push-in-Choice.new.words c.push-in-Choice.result
    c.in-Choice.is c.deref-in-Choice.ensures c.deref-in-Choice-2.ensures c.deref-in-Choice-3.ensures
    c.in_ok-push_words-in-Choice.ensures c.in_ok-push_words-in-Choice-2.ensures c.in_ok-push_words-in-Choice-3.ensures c.push-in-Choice.ensures
