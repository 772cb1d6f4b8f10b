use Rattle.std.proofs.Common.{◌≡◌, ℕ, ◌<◌, List, length, take, get_or, ap, arith, ◌∙◌, sym, subst}
use Rattle.host_model.specs.Images.{contents}
use Rattle.host_model.specs.Past.{of}
use Rattle.journal_core.specs.Form.{header}
use Rattle.journal_core.proofs.HeaderLemmas.{header_seen_fails}
use Rattle.journal_core.proofs.reading.check_header.Goals as goal

pub returns-then-same-lt16-clause-broken : goal.returns-then-same-lt16-clause-broken
returns-then-same-lt16-clause-broken g c h =
    let bytes = contents (of c.args.file (g.H.Host.seen c.args.host.now).past) in
    let count = c.in_ok-count.count in
    let same = c.same_prefix-same.result in
    let head : c.header_of.result ≡ header c.args.generation = c.header_of.ensures in
    header_seen_fails c.args.generation bytes (take count c.fill.new.into) count same
    (c.in_ok-count.ensures.end h ∙ omega (arith, c.requires.size h))
    (c.in_ok-count.ensures.bytes h)
    c.same_prefix-same.ensures.within.0
    (c.same_prefix-same.ensures.same ∙ ap (λ (l : List ℕ). take same l) head)
    (λ before inside e. c.same_prefix-same.ensures.differs before (subst (λ (l : List ℕ). same < length l) (sym head) inside) (e ∙ ap (λ (l : List ℕ). get_or l same 0) (sym head)))
    c.if-same-lt16.true
