-- What holds at each moment, of several things at once.
use Rattle.std.proofs.Common.{◌≡◌, ℕ, ◌<◌, List, [], ◌∷◌, ◌++◌, length, get_or, sym, ap, ◌∙◌, subst, arith}
use Rattle.std.specs.List.{All}
use Rattle.std.proofs.lemmas.List.{length-append, nil_from_length}
use Rattle.host_model.specs.Past.{Event}
use Rattle.host_model.specs.Moments.{Throughout, begins, goes_on}
use Rattle.host_model.proofs.MomentLemmas.{Grows, strengthened}

-- nothing has come between two pasts that have grown from each other
same_past : (old past : List Event) → Grows old past → Grows past old → old ≡ past
same_past old past there back =
    let one = length-append there.more old in let two = length-append back.more past in
    let first = ap length there.whole in let second = ap length back.whole in
    let none : there.more ≡ [] = nil_from_length there.more (omega (arith, one, two, first, second)) in
    sym (there.whole ∙ ap (λ (l : List Event). l ++ old) none)

at_event : (P : List Event → Type 0) (more : List Event) (event : Event) (past earlier : List Event) → event ∷ earlier ≡ more ++ past
    → P (event ∷ earlier) → (Grows past earlier → P past) → P past
at_event P [] event past earlier whole here before = subst P whole here
at_event P (first ∷ more) event past earlier whole here before = before (record { more = more; whole = cc })

-- what holds at each moment holds at one of them
pub at_moment : {P : List Event → Type 0} {old new : List Event} → Throughout P old new → (past : List Event) → Grows old past → Grows past new → P past
at_moment {P} {old} (begins first) past from_old to_new = subst P (same_past old past from_old to_new) first
at_moment {P} {old} (goes_on event earlier before here) past from_old to_new =
    at_event P to_new.more event past earlier to_new.whole here (λ grown. at_moment before past from_old grown)

pub both_throughout : {P Q : List Event → Type 0} {old new : List Event} → Throughout P old new → Throughout Q old new → Throughout (λ past. P past × Q past) old new
both_throughout {P} {Q} {old} {new} first second = strengthened (λ past from_old to_new held. (held, at_moment second past from_old to_new)) first

-- of each of some things
pub all_throughout : {X : Type 0} {T : List Event → Type 0} {old new : List Event} (P : X → List Event → Type 0) (xs : List X) → Throughout T old new
    → ((k : ℕ) (d : X) → k < length xs → Throughout (P (get_or xs k d)) old new)
    → Throughout (λ past. All (λ x. P x past) xs) old new
all_throughout {X} {T} {old} {new} P xs moments each =
    strengthened (λ past from_old to_new _ k d within. at_moment (each k d within) past from_old to_new) moments
