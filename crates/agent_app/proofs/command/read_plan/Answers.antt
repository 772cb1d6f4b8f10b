use Rattle.std.proofs.Common.{◌<◌, length, map, sym, arith}
use Rattle.std.proofs.lemmas.List.{length-map}
use Rattle.agent_app.proofs.CommandLemmas.{plan-between, plan-past}
use Rattle.agent_app.proofs.command.read_plan.Goals as goal

pub returns-in_default-2 : goal.returns-in_default-2
returns-in_default-2 c =
    let words = map (λ word. word.now) c.args.words.now in
    let least : 1 < length words = rw (length-map c.args.words.now (λ word. word.now)) (omega (arith, c.in_default.len_at_least)) in
    let most : length words < 7 = rw (length-map c.args.words.now (λ word. word.now)) c.in_default.len_below in
    record { plan = sym (plan-between words least most); limits = tt }

pub returns-in_default-3 : goal.returns-in_default-3
returns-in_default-3 c =
    let words = map (λ word. word.now) c.args.words.now in
    let past : 7 < length words = rw (length-map c.args.words.now (λ word. word.now)) (omega (arith, c.in_default.len_at_least)) in
    record { plan = sym (plan-past words past); limits = tt }
