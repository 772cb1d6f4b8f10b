use Rattle.std.proofs.Common.{ℕ, List, arith, ap, ◌∙◌}
use Rattle.std.specs.List.{prefix_len}
use Rattle.words.specs.Words.{is_blank}
use Rattle.health_expr.proofs.WordsLemmas.{stripped, begun, begun_shorter}
use Rattle.health_expr.proofs.cursor.Words.new.Goals as goal

pub invariant_of-result : goal.invariant_of-result
invariant_of-result c =
    let shorter = begun_shorter c.args.text.now _ c.without_blanks-ahead.ensures in
    record {
      no_blank = ap (λ (bytes : List ℕ). prefix_len is_blank bytes) c.without_blanks-ahead.ensures ∙ stripped c.args.text.now;
      next = c.first_word.ensures;
      fits = omega arith;
    }

pub returns : goal.returns
returns c = begun c.args.text.now _ c.without_blanks-ahead.ensures
