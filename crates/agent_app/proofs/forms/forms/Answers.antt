use Rattle.std.proofs.Common.{ap, ap₂, ◌∙◌}
use Rattle.std.proofs.lemmas.Result.{IfOk-weaker}
use Rattle.clap.specs.Simple.{App, with_subcommand}
use Rattle.agent_app.proofs.forms.forms.Goals as goal

pub returns : goal.returns
returns c =
    let collect = c.in_ok-subcommand.ensures.shape c.in_ok-with_words.ensures.local ∙ ap₂ with_subcommand c.program.ensures.app (ap (λ (a : App). a.top) c.in_ok-with_words.ensures.app) in
    let convert = c.in_ok-subcommand-2.ensures.shape c.new.ensures.local ∙ ap₂ with_subcommand collect (ap (λ (a : App). a.top) c.new.ensures.app) in
    let health = c.in_ok-subcommand-3.ensures.shape c.new-2.ensures.local ∙ ap₂ with_subcommand convert (ap (λ (a : App). a.top) c.new-2.ensures.app) in
    let log = c.in_ok-subcommand-4.ensures.shape c.in_ok-with_words-2.ensures.local ∙ ap₂ with_subcommand health (ap (λ (a : App). a.top) c.in_ok-with_words-2.ensures.app) in
    let new = c.in_ok-subcommand-5.ensures.shape c.in_ok-with_words-3.ensures.local ∙ ap₂ with_subcommand log (ap (λ (a : App). a.top) c.in_ok-with_words-3.ensures.app) in
    let query = c.in_ok-subcommand-6.ensures.shape c.in_ok-with_words-4.ensures.local ∙ ap₂ with_subcommand new (ap (λ (a : App). a.top) c.in_ok-with_words-4.ensures.app) in
    let receive = c.in_ok-subcommand-7.ensures.shape c.in_ok-with_words-5.ensures.local ∙ ap₂ with_subcommand query (ap (λ (a : App). a.top) c.in_ok-with_words-5.ensures.app) in
    let run = c.in_ok-subcommand-8.ensures.shape c.new-3.ensures.local ∙ ap₂ with_subcommand receive (ap (λ (a : App). a.top) c.new-3.ensures.app) in
    IfOk-weaker c.subcommand-9.result _ _ (λ command h. h.shape c.in_ok-with_words-6.ensures.local ∙ ap₂ with_subcommand run (ap (λ (a : App). a.top) c.in_ok-with_words-6.ensures.app)) c.subcommand-9.ensures
