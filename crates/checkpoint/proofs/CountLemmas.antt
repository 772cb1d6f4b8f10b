-- which of two slots counts
use Rattle.std.proofs.Common.{◌≡◌, ℕ, ◌%◌, Bool, true, false, cond, ltb, List, Option, Some, None, refl, ap, arith}
use Rattle.std.proofs.lemmas.Bool.{lt-ltb, le-ltb}
use Rattle.checkpoint.specs.declared.head.Head.{Head}
use Rattle.checkpoint.specs.Form.{head_in}
use Rattle.checkpoint.specs.Files.{Slot, slot_in, later_slot, new_slot, IsNext}
use Rattle.checkpoint.proofs.FormLemmas.{head_in-odd}

-- the number of the slot, if there is one, is odd (1) or even (0)
abbrev pub HasParity : ℕ → Option Slot → Type 0
HasParity odd None = Unit {0}
HasParity odd (Some slot) = slot.number % 2 ≡ odd

parity_of : (head : Option Head) (odd : ℕ) (bytes : List ℕ) → head_in odd bytes ≡ head → HasParity odd (slot_in odd bytes)
parity_of None odd bytes e = rw e tt
parity_of (Some head) odd bytes e = rw e (head_in-odd odd bytes head e)

pub slot_in-parity : (odd : ℕ) (bytes : List ℕ) → HasParity odd (slot_in odd bytes)
slot_in-parity odd bytes = parity_of (head_in odd bytes) odd bytes refl

some_is : (one other : Slot) → Some one ≡ Some other → one ≡ other
some_is one other e = cc

-- a slot of the next number's parity is not the one before it
not_before : (slot : Slot) (old : Option Slot) (number : ℕ) → slot.number % 2 ≡ number % 2 → Some slot ≡ old → IsNext old number → ⊥
not_before slot None number same e next = cc
not_before slot (Some before) number same e next =
    let one : slot.number ≡ before.number = ap (λ (s : Slot). s.number) (some_is slot before e) in
    omega (arith, next)

-- where a slot of the next number's parity stands beside another, the other one counts
other_second : (b : Bool) (mine other : Slot) (old : Option Slot) (number : ℕ) → mine.number % 2 ≡ number % 2 → IsNext old number
    → cond b (Some other) (Some mine) ≡ old → Some other ≡ old
other_second true mine other old number same next e = e
other_second false mine other old number same next e = absurd (not_before mine old number same e next)

pub counts_second : (mine other old : Option Slot) (number : ℕ) → HasParity (number % 2) mine → IsNext old number → later_slot mine other ≡ old → other ≡ old
counts_second None other old number parity next e = e
counts_second (Some mine) None old number parity next e = absurd (not_before mine old number parity e next)
counts_second (Some mine) (Some other) old number parity next e =
    other_second (ltb mine.number other.number) mine other old number parity next e

other_first : (b : Bool) (mine other : Slot) (old : Option Slot) (number : ℕ) → mine.number % 2 ≡ number % 2 → IsNext old number
    → cond b (Some mine) (Some other) ≡ old → Some other ≡ old
other_first true mine other old number same next e = absurd (not_before mine old number same e next)
other_first false mine other old number same next e = e

none_counts : (mine old : Option Slot) (number : ℕ) → HasParity (number % 2) mine → IsNext old number → later_slot None mine ≡ old → None ≡ old
none_counts None old number parity next e = e
none_counts (Some mine) old number parity next e = absurd (not_before mine old number parity e next)

pub counts_first : (mine other old : Option Slot) (number : ℕ) → HasParity (number % 2) mine → IsNext old number → later_slot other mine ≡ old → other ≡ old
counts_first mine None old number parity next e = none_counts mine old number parity next e
counts_first None (Some other) old number parity next e = e
counts_first (Some mine) (Some other) old number parity next e =
    other_first (ltb other.number mine.number) mine other old number parity next e

-- beside a slot that is not there, the other one counts
pub later_slot-none : (other : Option Slot) → later_slot other None ≡ other
later_slot-none None = refl
later_slot-none (Some other) = refl

-- the next number counts
pub new_second : (old : Option Slot) (number : ℕ) (body : List ℕ) → IsNext old number → later_slot old (new_slot number body) ≡ new_slot number body
new_second None number body next = refl
new_second (Some old) number body next = rw (lt-ltb old.number number (omega arith)) refl

pub new_first : (old : Option Slot) (number : ℕ) (body : List ℕ) → IsNext old number → later_slot (new_slot number body) old ≡ new_slot number body
new_first None number body next = refl
new_first (Some old) number body next = rw (le-ltb number old.number (omega arith)) refl
