use Rattle.std.specs.Prelude.{◌≡◌, ℕ, ◌-◌, ◌^◌, ◌<◌, ◌≤◌, ◌⊎◌}

-- a count rose, or stands at the largest number that it can say
abbrev pub Rose : ℕ → ℕ → Type 0
Rose old new = (old < new) ⊎ (old ≡ 2 ^ 64 - 1)

-- over a call the count of failures stayed, unless the call failed so, and the call failed so only where it rose
pub record HasCause (old new : ℕ) (Failure : Type 0) : Type 0 where
  pub later : old ≤ new
  pub failed : Failure → Rose old new
  pub stays : (Failure → ⊥) → new ≡ old
