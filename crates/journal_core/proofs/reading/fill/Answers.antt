use Rattle.std.proofs.Common.{◌≤◌, refl, ap, arith}
use Rattle.host_model.specs.Images.{contents}
use Rattle.host_model.specs.Past.{of}
use Rattle.journal_core.specs.declared.piece.Piece.{Piece}
use Rattle.journal_core.specs.Piece.{ReadsAhead}
use Rattle.journal_core.proofs.PieceLemmas.{copied}
use Rattle.journal_core.proofs.reading.fill.Goals as goal
use Rattle.journal_core.proofs.reading.fill.Goals.{then-not-covers+in_ok-read, else-not-covers}

pub returns-clause-bytes : goal.returns-clause-bytes
returns-clause-bytes g c h =
    let bytes = contents (of c.args.file (g.H.Host.seen c.args.host.now).past) in
    let piece = c.if-not-covers.piece in
    let ahead : ReadsAhead bytes piece =
    elim c.if-not-covers.branch [
      | then-not-covers+in_ok-read w ↦ rw w.piece-is (w.in_ok-read.ensures.ahead h)
      | else-not-covers w ↦ rw w.piece-is (c.requires.ahead h)
    ] in
    let behind : piece.place ≤ c.args.place =
    elim c.if-not-covers.branch [
      | then-not-covers+in_ok-read w ↦ omega (arith, ap (λ (p : Piece). p.place) w.piece-is, w.in_ok-read.ensures.place)
      | else-not-covers w ↦ let said = w.if-not-covers.ensures refl in omega (arith, ap (λ (p : Piece). p.place) w.piece-is, said.0)
    ] in
    copied bytes c.copy.new.into piece c.args.place c.copy.result ahead behind (omega (arith, c.copy.ensures.count)) c.copy.ensures.bytes
