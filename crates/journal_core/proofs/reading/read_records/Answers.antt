use Rattle.std.proofs.Common.{ℕ, ◌+◌, List, length, drop, Some, sym, ◌∙◌, subst, arith}
use Rattle.std.proofs.lemmas.Result.{err_from_is_err_and}
use Rattle.host_model.specs.Images.{contents}
use Rattle.host_model.specs.Past.{Event, of}
use Rattle.journal_core.specs.Piece.{ReadsAhead}
use Rattle.journal_core.specs.Reading.{BeginsWithRecord, FailsFrom}
use Rattle.journal_core.proofs.ReadLemmas.{Reached, reached_more, reached_fails, IfNotAJournal-weaker}
use Rattle.journal_core.proofs.reading.read_records.Goals as goal

pub returns-in_err-body-clause-broken : goal.returns-in_err-body-clause-broken
returns-in_err-body-clause-broken g c =
    let bytes = contents (of c.args.file (g.H.Host.seen c.args.host.now).past) in
    let place = c.loop-records.place in
    let p = err_from_is_err_and c.from_residual.result c.from_residual.ensures.1 in
    rw (p.1, p.2)
    (IfNotAJournal-weaker c.in_err-body.field-0.0
    (λ end from h.
    reached_fails bytes place end c.loop-records.records (c.loop-records.invariant.read h)
    (subst (λ (past : List Event). FailsFrom place (contents (of c.args.file past)) end) (c.loop-records.invariant.same h) (from h)))
    c.in_err-body.ensures.broken)

pub loop-records-preserved : goal.loop-records-preserved
loop-records-preserved g c =
    let within = rw c.in-Some.is at c.in_ok-body.ensures.within in
    let place = c.loop-records.place in
    record {
      after = omega (arith, c.loop-records.invariant.after);
      within = omega (arith, within.1, c.len.ensures);
      same = λ h. c.read_next.ensures.past h ∙ c.loop-records.invariant.same h;
      read_ahead = λ h.
          subst (λ (past : List Event). ReadsAhead (contents (of c.args.file past)) c.read_next.new.piece) (c.loop-records.invariant.same h) (c.in_ok-body.ensures.ahead h);
      read = λ h.
          let bytes = contents (of c.args.file (g.H.Host.seen c.args.host.now).past) in
          let body = c.in-Some.body in
          let begins = rw c.in-Some.is at (c.in_ok-body.ensures.begins h) in
          let here =
          subst (λ (past : List Event). BeginsWithRecord (drop place (contents (of c.args.file past))) (Some body)) (c.loop-records.invariant.same h) begins in
          subst (λ (n : ℕ). Reached bytes (place + (5 + n)) c.keep.new.records) (sym c.len.ensures)
          (subst (Reached bytes (place + (5 + length body))) (sym c.in_ok-keep.ensures.kept)
          (reached_more bytes place c.loop-records.records body (c.loop-records.invariant.read h) here within.0));
      unfailed = c.in_ok-body.ensures.cause.stays (λ e. absurd cc) ∙ c.loop-records.invariant.unfailed;
      said = c.read_next.ensures.output ∙ c.loop-records.invariant.said;
    }
