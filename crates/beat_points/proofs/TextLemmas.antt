-- What the accepted lines of a text leave of moments: all that was collected lies before the next one.
use Rattle.std.proofs.Common.{ℕ, ◌<◌, List, [], ◌∷◌, arith}
use Rattle.history.specs.declared.line.Line.{Line}
use Rattle.history.specs.declared.line.Line.TheVariants as line
use Rattle.history.specs.History.{Beat, last}
use Rattle.history.specs.Looking.{beat}
use Rattle.history.specs.Read.{history_at}
use Rattle.chart_registry.specs.Accepted.{AreAccepted}
use Rattle.chart_registry.proofs.AcceptedLemmas.{later-free}
use Rattle.beat_points.specs.Points.{IsBefore}
use Rattle.beat_points.proofs.LawLemmas.{before-collected}

module _ (every : ℕ) (h : List Beat) where
  abbrev Rises : List Beat → Type 0
  Rises h = (later : ℕ) → last h < later → IsBefore h later

  before-all : (past : List Line) → Rises h → AreAccepted every h past → Rises (history_at every h past)
  before-all [] before accepted = before
  before-all (line.Moment moment ∷ past) before accepted = λ later above.
      before-collected (history_at every h past) moment later (beat every past) (before-all past before accepted.1 later (omega (arith, later-free every h past moment accepted, above))) above
  before-all (line.Chart def ∷ past) before accepted = before-all past before accepted.1
  before-all (line.Dimension def ∷ past) before accepted = before-all past before accepted.1
  before-all (line.Begin chart ∷ past) before accepted = before-all past before accepted.1
  before-all (line.Set id value anomalous ∷ past) before accepted = before-all past before accepted.1
  before-all (line.End ∷ past) before accepted = before-all past before accepted.1
  before-all (line.Flush ∷ past) before accepted = before-all past before accepted.1
  before-all (line.Disable ∷ past) before accepted = before-all past before accepted.1
  before-all (line.Query text ∷ past) before accepted = before-all past before accepted.1
  before-all (line.Skipped ∷ past) before accepted = before-all past before accepted.1

  pub text-before : (past : List Line) (moment : ℕ) → ((later : ℕ) → last h < later → IsBefore h later) → AreAccepted every h (line.Moment moment ∷ past) → IsBefore (history_at every h past) moment
  text-before past moment before accepted = before-all past before accepted.1 moment (later-free every h past moment accepted)
