-- Lines of a child that are put, one after the other.
use Rattle.std.proofs.Common.{◌≡◌, ℕ, false, List, [], ◌∷◌, ◌++◌, Option, refl}
use Rattle.plugin_runner.specs.declared.follower.Follower.{Follower}
use Rattle.plugin_runner.specs.Steps.{Puts, PutsPrefix, IsPlain}
use Rattle.plugin_runner.specs.Text.{Origin, put, after, disables}
use Rattle.plugin_runner.proofs.StepLemmas.{Grows, grows-put, grows-then, then_, IsSame, Puts-as, PutsPrefix-as, Puts-then, PutsPrefix-then, PutsPrefix-more, behind-self}

pub after-append : (xs ys : List (List ℕ)) (o : Origin) (rs : List ℕ) (past : List (List ℕ)) → after (xs ++ ys) o rs past ≡ after ys o rs (after xs o rs past)
after-append [] ys o rs past = refl
after-append (x ∷ xs) ys o rs past = after-append xs ys o rs (put x o rs past)

pub grows-after : (lines : List (List ℕ)) → Grows (after lines)
grows-after [] o rs past = behind-self past
grows-after (x ∷ xs) o rs past = grows-then (put x) (after xs) (grows-put x) (grows-after xs) o rs past

pub IsPlain-snoc : (lines : List (List ℕ)) (line : List ℕ) → IsPlain lines → disables line ≡ false → IsPlain (lines ++ line ∷ [])
IsPlain-snoc [] line plain here = (here, tt)
IsPlain-snoc (x ∷ xs) line (first, plain) here = (first, IsPlain-snoc xs line plain here)

module _ (prefix : List (List ℕ)) (line : List ℕ) (old mid : Follower) (before between now : Option (List ℕ)) (out out1 out2 : List ℕ) (p : Puts (after prefix) old mid before between out out1) where
  same : IsSame old (then_ (after prefix) (put line)) (after (prefix ++ line ∷ []))
  same o rs past later f = after-append prefix (line ∷ []) o (rs ++ later) past

  pub Puts-next : (new : Follower) → Puts (put line) mid new between now out1 out2 → Puts (after (prefix ++ line ∷ [])) old new before now out out2
  Puts-next new q = Puts-as (then_ (after prefix) (put line)) (after (prefix ++ line ∷ [])) old new before now out out2 same (Puts-then (after prefix) (put line) old mid before between now out out1 out2 p new q)

  pub PutsPrefix-next : (more : List (List ℕ)) → PutsPrefix (put line) mid between now out1 out2 → PutsPrefix (after (prefix ++ line ∷ more)) old before now out out2
  PutsPrefix-next more q =
      PutsPrefix-as (then_ (then_ (after prefix) (put line)) (after more)) (after (prefix ++ line ∷ more)) old before now out out2
      (λ o rs past later f. after-append prefix (line ∷ more) o (rs ++ later) past)
      (PutsPrefix-more (then_ (after prefix) (put line)) (after more) old before now out out2 (grows-after more) (PutsPrefix-then (after prefix) (put line) old mid before between now out out1 out2 p q))
