use Rattle.std.proofs.Common.{map}
use Rattle.clap.specs.Simple.{app_of}
use Rattle.agent_app.proofs.FormLemmas.{fails_as_forms, matches_as_forms}
use Rattle.agent_app.proofs.forms.parse.Goals as goal

pub returns : goal.returns
returns c =
    let a = app_of c.in_ok-forms.field-0 in
    let words = map (λ word. word.now) c.args.words.now in
    let parse = c.try_get_matches_from in
    record {
      fails = fails_as_forms a c.in_ok-forms.ensures words parse.result parse.ensures.kinds;
      matches = matches_as_forms a c.in_ok-forms.ensures words parse.result parse.ensures.matches;
    }
