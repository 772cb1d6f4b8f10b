use Rattle.std.proofs.Common.{◌≡◌, None, sym, subst, ◌∙◌}
use Rattle.std.proofs.lemmas.Result.{err_from_is_err_and}
use Rattle.history.specs.Registry.{Registry}
use Rattle.beat_entries.specs.Defined.{IsDefinedIn}
use Rattle.beat_entries.specs.Rules.{content_refusal}
use Rattle.beat_entries.proofs.TakingLemmas.{can-tested, same-after, tested-defined}
use Rattle.beat_entries.proofs.TestLemmas.{tested}
use Rattle.beat_entries.proofs.taking.number_content.Goals as goal

pub returns-in-Some-content_refusal-clause-judged : goal.returns-in-Some-content_refusal-clause-judged
returns-in-Some-content_refusal-clause-judged c =
    (λ i. content_refusal (sym c.new-coming.ensures.registry i) c.args.moment (sym c.new-coming.ensures.beat i)) ∙ sym c.content_refusal.ensures ∙ c.in-Some-content_refusal.is

pub number-requires-clause-can : goal.number-requires-clause-can
number-requires-clause-can c =
    let registry = c.args.registry.now in
    let beat = c.args.beat.now in
    let free : content_refusal registry c.args.moment beat ≡ None
    = (λ i. content_refusal (sym c.new-coming.ensures.registry i) c.args.moment (sym c.new-coming.ensures.beat i)) ∙ sym c.content_refusal.ensures ∙ c.in_default-content_refusal.is in
    can-tested registry beat c.new-coming.result c.new-coming.ensures.registry c.new-coming.ensures.beat c.requires.dimensions c.requires.is_open (tested registry c.args.moment beat free)

pub number-requires-clause-defined : goal.number-requires-clause-defined
number-requires-clause-defined c =
    let registry = c.args.registry.now in
    let beat = c.args.beat.now in
    let free : content_refusal registry c.args.moment beat ≡ None
    = (λ i. content_refusal (sym c.new-coming.ensures.registry i) c.args.moment (sym c.new-coming.ensures.beat i)) ∙ sym c.content_refusal.ensures ∙ c.in_default-content_refusal.is in
    subst (λ (r : Registry). IsDefinedIn r beat) (same-after registry beat c.new-coming.result c.new-coming.ensures.registry c.new-coming.ensures.beat)
    (tested-defined registry beat c.requires.is_open c.requires.charts c.requires.dimensions (tested registry c.args.moment beat free))

pub returns-in_err-numbered-clause-judged : goal.returns-in_err-numbered-clause-judged
returns-in_err-numbered-clause-judged c =
    let error = err_from_is_err_and c.from_residual.result c.from_residual.ensures.1 in
    rw (error.1, error.2)
    ((λ i. content_refusal (sym c.new-coming.ensures.registry i) c.args.moment (sym c.new-coming.ensures.beat i)) ∙ sym c.content_refusal.ensures ∙ c.in_default-content_refusal.is)

pub returns-clause-judged : goal.returns-clause-judged
returns-clause-judged c =
    (λ i. content_refusal (sym c.new-coming.ensures.registry i) c.args.moment (sym c.new-coming.ensures.beat i)) ∙ sym c.content_refusal.ensures ∙ c.in_default-content_refusal.is
