use Rattle.std.proofs.Common.{◌≡◌, ℕ, ◌<◌, ◌≤◌, List, ◌++◌, Option, Result, Err, ap, ◌∙◌, length-append, length-take, arith}
use Rattle.std.proofs.lemmas.Result.{err_from_is_err_and}
use Rattle.line_stream.proofs.RunLemmas.{Takes-append}
use Rattle.agent_app.specs.declared.health_text.HealthEnd.{HealthEnd}
use Rattle.agent_app.specs.HealthText.{HasTaken, Stops, TakesText}
use Rattle.agent_app.proofs.health_text.take_pieces.Goals as goal

-- a piece that stops stops the whole
stops-all : (taken : List ℕ) (room size : ℕ) (end : HealthEnd) (left middle right : Option (List ℕ)) (result : Result (List ℕ) HealthEnd) → HasTaken taken room left middle → 0 < room
    → Stops end size middle right → size ≤ room → result ≡ Err end → TakesText result left right
stops-all taken room size end left middle right result before some stops fits_in is = record {
  taken = taken ++ stops.piece;
  takes = Takes-append left middle right taken stops.piece before.takes stops.takes;
  within = omega (arith, length-append taken stops.piece, before.within, stops.within, fits_in);
  ended = rw is (record {
    too_long = λ long. absurd (stops.short long);
    failed = λ failed. omega (arith, length-append taken stops.piece, before.within, stops.failed failed, some);
  });
}

pub returns-in_err-taken-clause-takes : goal.returns-in_err-taken-clause-takes
returns-in_err-taken-clause-takes g c =
    let p = err_from_is_err_and c.from_residual.result c.from_residual.ensures.1 in
    stops-all c.loop-room.text c.loop-room.room _ _ _ _ _ c.from_residual.result c.loop-room.invariant.0 (omega (arith, c.loop-room-test.true)) c.in_err-taken.ensures.stops
    (omega (arith, length-take {A = ℕ} c.min-size.result c.loop-room.piece, c.min-size.ensures)) (p.1 ∙ ap Err p.2)
