use Rattle.std.proofs.Common.{◌≡◌, List, ◌++◌, drop, ◌∙◌, subst}
use Rattle.std.proofs.lemmas.Result.{MatchResult-weaker}
use Rattle.host_model.specs.Images.{contents}
use Rattle.host_model.specs.Past.{Event, of}
use Rattle.journal_core.specs.Form.{header}
use Rattle.journal_core.specs.Reading.{FailsFrom}
use Rattle.journal_core.proofs.ReadLemmas.{fails_at, IfNotAJournal-weaker}
use Rattle.journal_core.proofs.reading.read_journal.Goals as goal

pub returns-clause-broken : goal.returns-clause-broken
returns-clause-broken g c =
    let file = c.args.file in
    let old = (g.H.Host.seen c.args.host.now).past in
    MatchResult-weaker c.read_records.result c.read_records.ensures.broken
    (λ read here. here)
    (λ fault. IfNotAJournal-weaker fault
    (λ place from h.
    let same = c.in-Ok.ensures.past h in
    fails_at c.args.generation (contents (of file old)) place
    (subst (λ (past : List Event). contents (of file past) ≡ header c.args.generation ++ drop 16 (contents (of file past))) same (c.in_ok-check_header.ensures.header h))
    (subst (λ (past : List Event). FailsFrom 16 (contents (of file past)) place) (c.in_ok-check_header.ensures.past h ∙ same) (from h))))
