-- What two words more give.
use Rattle.std.proofs.Common.{◌≡◌, ◌<◌, ℕ, false, List, [], ◌∷◌, length, Result, Ok, Err, refl, sym, ap, ◌∙◌, arith}
use Rattle.simple_pattern.specs.Words.{words}
use Rattle.health_config.specs.declared.delay.Delay.{Delay}
use Rattle.health_config.specs.declared.fault.ValueFault.{ValueFault}
use Rattle.health_config.specs.declared.fault.ValueFault.TheVariants.{Bad}
use Rattle.health_config.specs.Delay.{none, with, with_all, delay}
use Rattle.health_config.specs.Fault.{◌>>=◌}

module _ (given : Delay) (all : List (List ℕ)) where
  pub end : all ≡ [] → with_all given all ≡ Ok given
  end e = ap (with_all given) e

  pub alone : (word : List ℕ) → all ≡ word ∷ [] → with_all given all ≡ Err Bad
  alone word e = ap (with_all given) e

  module _ (word value : List ℕ) (more : List (List ℕ)) (e : all ≡ word ∷ value ∷ more) where
    pub refused : (fault : ValueFault) → Err fault ≡ with word value given → with_all given all ≡ Err fault
    refused fault read = ap (with_all given) e ∙ ap (λ (r : Result Delay ValueFault). r >>= λ next. with_all next more) (sym read)

    pub next : (then : Delay) → Ok then ≡ with word value given → with_all given all ≡ with_all then more
    next then read = ap (with_all given) e ∙ ap (λ (r : Result Delay ValueFault). r >>= λ next. with_all next more) (sym read)

    pub shorter : length more < length all
    shorter = rw e (omega arith)

pub delay_is : (text : List ℕ) → delay text ≡ with_all none (words false text)
unfolding delay
delay_is text = refl
