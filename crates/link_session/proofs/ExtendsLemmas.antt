-- A history that goes on.
use Rattle.std.proofs.Common.{ℕ, zero, suc, ◌≤◌, List, [], ◌∷◌, length, take, arith}
use Rattle.history.specs.History.{Beat}
use Rattle.agent_core.specs.Kept.{onto}
use Rattle.link_session.specs.Keeps.{no_more, one_more, Extends}

pub extends-further : (a b c : List Beat) → Extends a b → Extends b c → Extends a c
extends-further a b c first no_more = first
extends-further a b c first (one_more beat g before) = one_more beat g (extends-further a b g first before)

pub extends-length : (a b : List Beat) → Extends a b → length a ≤ length b
extends-length a b no_more = omega arith
extends-length a b (one_more beat g before) = omega (arith, extends-length a g before)

-- with more beats on top
pub extends-onto : (h more : List Beat) → Extends h (onto h more)
extends-onto h [] = no_more
extends-onto h (beat ∷ more) = extends-further h (beat ∷ h) (onto (beat ∷ h) more) (one_more beat h no_more) (extends-onto (beat ∷ h) more)

-- with the first of them
pub extends-prefix : (n : ℕ) (h more : List Beat) → Extends (onto h (take n more)) (onto h more)
extends-prefix zero h more = extends-onto h more
extends-prefix (suc n) h [] = no_more
extends-prefix (suc n) h (beat ∷ more) = extends-prefix n (beat ∷ h) more
