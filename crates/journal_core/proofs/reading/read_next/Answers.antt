use Rattle.std.proofs.Common.{◌≡◌, ◌+◌, ◌-◌, List, take, drop, ap, ◌∙◌, subst, arith}
use Rattle.std.proofs.lemmas.Result.{err_from_is_err_and}
use Rattle.host_model.specs.Images.{contents}
use Rattle.host_model.specs.Past.{Event, of}
use Rattle.journal_core.specs.Reading.{TailFails}
use Rattle.journal_core.proofs.ReadLemmas.{record_read, record_cut, IfNotAJournal-weaker}
use Rattle.journal_core.proofs.reading.read_next.Goals as goal

pub returns-in-Broken-clause-broken : goal.returns-in-Broken-clause-broken
returns-in-Broken-clause-broken g c h =
    let bytes = contents (of c.args.file (g.H.Host.seen c.args.host.now).past) in
    let begins = rw c.in-Broken.is at (c.in_ok-gate_at.ensures.begins h) in
    let there : c.in-Broken.more ≡ c.args.place + c.in-Broken.more - c.args.place = omega arith in
    record { after = omega arith; fails = subst (TailFails (drop c.args.place bytes)) there begins }

pub returns-in_ok-body-in-Record-clause-begins : goal.returns-in_ok-body-in-Record-clause-begins
returns-in_ok-body-in-Record-clause-begins g c h =
    let bytes = contents (of c.args.file (g.H.Host.seen c.args.host.now).past) in
    let begins = rw c.in-Record.is at (c.in_ok-gate_at.ensures.begins h) in
    record_read bytes c.args.place c.in-Record.count c.in_ok-body-in-Record.body begins
    (c.in_ok-body-in-Record.ensures.body h ∙ ap (λ (past : List Event). take c.in-Record.count (drop (c.args.place + 5) (contents (of c.args.file past)))) (c.in_ok-gate_at.ensures.past h))
    c.in_ok-body-in-Record.ensures.whole.0

pub returns-in_err-body-in-Record-clause-broken : goal.returns-in_err-body-in-Record-clause-broken
returns-in_err-body-in-Record-clause-broken g c =
    let bytes = contents (of c.args.file (g.H.Host.seen c.args.host.now).past) in
    let p = err_from_is_err_and c.from_residual-in_err-body-in-Record.result c.from_residual-in_err-body-in-Record.ensures.1 in
    rw (p.1, p.2)
    (IfNotAJournal-weaker c.in_err-body-in-Record.field-0.0
    (λ end cut h.
    let begins = rw c.in-Record.is at (c.in_ok-gate_at.ensures.begins h) in
    let within = rw c.in-Record.is at c.in_ok-gate_at.ensures.within in
    record_cut bytes c.args.place c.args.size c.in-Record.count end (c.requires.size h) (omega (arith, within.0)) begins (cut h))
    c.in_err-body-in-Record.ensures.cut)
