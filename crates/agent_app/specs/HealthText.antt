-- How the text of a configuration is taken from a source.
use Rattle.std.specs.Prelude.{◌≡◌, ℕ, ◌+◌, ◌≤◌, List, [], length, Option, IfSome, Result, MatchResult}
use Rattle.host_model.specs.Source.{Takes}
use Rattle.health_config.specs.declared.config.TheConstants.{TEXT_LIMIT}
use Rattle.agent_app.specs.declared.health_text.HealthEnd.{HealthEnd}
use Rattle.agent_app.specs.declared.health_text.HealthEnd.TheVariants.{ReadFault, TooLong}

-- the bytes are all that were taken, and the source has no more, where it tells
pub record IsWhole (bytes taken : List ℕ) (left : Option (List ℕ)) : Type 0 where
  pub all : bytes ≡ taken
  pub short : length taken ≤ TEXT_LIMIT
  pub ended : IfSome left (λ more. more ≡ [])

-- a text is too long where one byte above the most came, and a source that fails does so before that
pub record IsCut (end : HealthEnd) (taken : List ℕ) : Type 0 where
  pub too_long : end ≡ TooLong → length taken ≡ TEXT_LIMIT + 1
  pub failed : end ≡ ReadFault → length taken ≤ TEXT_LIMIT

-- bytes of the source were taken, at most one above the most, and this is the text or why there is none
pub record TakesText (result : Result (List ℕ) HealthEnd) (left left' : Option (List ℕ)) : Type 0 where
  pub taken : List ℕ
  pub takes : Takes left taken left'
  pub within : length taken ≤ TEXT_LIMIT + 1
  pub ended : MatchResult result (λ bytes. IsWhole bytes taken left') (λ end. IsCut end taken)

-- ---- piece by piece

-- this was taken, and so many bytes more may be
pub record HasTaken (taken : List ℕ) (room : ℕ) (left left' : Option (List ℕ)) : Type 0 where
  pub takes : Takes left taken left'
  pub within : length taken + room ≡ TEXT_LIMIT + 1

-- a piece of at most so many bytes was the last that was taken: nothing of it where the source failed
pub record Stops (end : HealthEnd) (size : ℕ) (left left' : Option (List ℕ)) : Type 0 where
  pub piece : List ℕ
  pub takes : Takes left piece left'
  pub within : length piece ≤ size
  pub failed : end ≡ ReadFault → length piece ≡ 0
  pub short : end ≡ TooLong → ⊥
