use Rattle.std.proofs.Common.{◌<◌, ◌∙◌, length, map, sym, arith}
use Rattle.std.proofs.lemmas.List.{length-map}
use Rattle.agent_app.proofs.CommandLemmas.{collect-read, collect-short}
use Rattle.agent_app.proofs.command.read_collect.Goals as goal

pub returns-in_default : goal.returns-in_default
returns-in_default c =
    let words = map (λ word. word.now) c.args.words.now in
    let few : length words < 3 = rw (length-map c.args.words.now (λ word. word.now)) c.in_default.len_below in
    sym (collect-short words few)

pub returns-in_ok-read_up_to-in-len3-up-2 : goal.returns-in_ok-read_up_to-in-len3-up-2
returns-in_ok-read_up_to-in-len3-up-2 c =
    let every = sym c.read_up_to.ensures.number ∙ c.in_ok-read_up_to-in-len3-up.was in
    let starts = sym c.read_up_to-in-len3-up.ensures.number ∙ c.in_ok-read_up_to-in-len3-up-2.was in
    collect-read (λ word. word.now) c.args.words.now _ _ _ (omega (arith, c.in-len3-up.len_at_least)) every starts
