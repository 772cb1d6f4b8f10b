use Rattle.std.proofs.Common.{◌≡◌, true, length, nat_lt, rules, ◌∙◌, arith}
use Rattle.std.proofs.lemmas.Bool.Decides.{nat_tests}
use Rattle.std.proofs.lemmas.Iterator.{YieldsList-from_slice}
use Rattle.std.proofs.lemmas.Iterator.Search.{all_from_yields_List}
use Rattle.std.specs.Char.{is_ascii_digit}
use Rattle.agent_app.proofs.command.is_numeral.Goals as goal

pub returns-then-not-is_empty : goal.returns-then-not-is_empty
returns-then-not-is_empty c =
    let some : nat_lt 0 (length c.args.word.now) ≡ true = grind (arith, nat_tests) in
    let bytes = YieldsList-from_slice c.args.word.now (c.iter.ensures.rest ∙ c.as_bytes.ensures.value) in
    rw some (all_from_yields_List is_ascii_digit _ _ c.all.result c.all.ensures.ran bytes (λ x b q k. search rules))
