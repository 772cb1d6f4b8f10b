use Rattle.std.proofs.Common.{◌+◌, ◌-◌, ◌≤◌, sym, subst, inl, arith}
use Rattle.host_model.specs.Past.{of}
use Rattle.host_model.specs.Images.{contents, greatest}
use Rattle.host_model.specs.Moments.{Throughout, begins}
use Rattle.journal_core.specs.Form.{record_size}
use Rattle.journal_core.specs.Journal.{IsOpen, JournalState}
use Rattle.journal_core.proofs.StoreLemmas.{gate_inside, open_stands, after_store}
use Rattle.journal_core.proofs.journal.Journal.append.Goals as goal

pub returns-then-body-gt-RECORD_LIMIT-clause-any_moment : goal.returns-then-body-gt-RECORD_LIMIT-clause-any_moment
returns-then-body-gt-RECORD_LIMIT-clause-any_moment g c h records is_open =
    begins (λ bytes image. inl (open_stands c.args.self.now (g.H.Host.seen c.args.host.now).past records is_open bytes image))

pub store-requires-clause-inside : goal.store-requires-clause-inside
store-requires-clause-inside g c h =
    let old = (g.H.Host.seen c.args.host.now).past in
    let now_open = c.requires.open h in
    let is_open = subst (λ (journal : JournalState). IsOpen (of journal.file old) journal now_open.0) (sym c.self.view_is) now_open.1 in
    gate_inside c.self.inside.generation (contents (of c.self.inside.file old)) now_open.0 (c.self.inside.bytes - 1) is_open.stands (omega (arith, is_open.size))

pub returns-clause-stored : goal.returns-clause-stored
returns-clause-stored g c h records is_open =
    after_store g.H.Host.honest c.store.result (record { file = c.self.inside.file; generation = c.self.inside.generation; bytes = c.self.inside.bytes }) c.args.self.now (g.H.Host.seen c.args.host.now).past (g.H.Host.seen c.store.new.host).past records c.args.body.now
    c.self.view_is (sym c.if-is_err.ensures.value) h c.store.ensures.stored c.store.ensures.synced is_open

pub returns-then-body-gt-RECORD_LIMIT-clause-bound : goal.returns-then-body-gt-RECORD_LIMIT-clause-bound
returns-then-body-gt-RECORD_LIMIT-clause-bound g c size fits h short = begins short

pub returns-then-is_err-clause-bound : goal.returns-then-is_err-clause-bound
returns-then-is_err-clause-bound g c size fits h short =
    let old = (g.H.Host.seen c.args.host.now).past in
    let new = (g.H.Host.seen c.store.new.host).past in
    subst (λ (j : JournalState). j.bytes + record_size c.args.body.now ≤ size → greatest (of j.file old) ≤ size → Throughout (λ past. greatest (of j.file past) ≤ size) old new) c.self.view_is
    (λ room before. c.store.ensures.bound size (omega (arith, room)) h before) fits short

pub returns-clause-bound : goal.returns-clause-bound
returns-clause-bound g c size fits h short =
    let old = (g.H.Host.seen c.args.host.now).past in
    let new = (g.H.Host.seen c.store.new.host).past in
    subst (λ (j : JournalState). j.bytes + record_size c.args.body.now ≤ size → greatest (of j.file old) ≤ size → Throughout (λ past. greatest (of j.file past) ≤ size) old new) c.self.view_is
    (λ room before. c.store.ensures.bound size (omega (arith, room)) h before) fits short
