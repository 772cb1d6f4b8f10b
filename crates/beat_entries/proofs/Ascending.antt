-- What is picked at the places of a list is in the order of its numbers.
use Rattle.std.proofs.Common.{◌≡◌, ℕ, ◌+◌, ◌<◌, Bool, true, ◌&&◌, List, [], ◌∷◌, map, Option, Some, None, lt-ltb, refl, ap, subst, ◌∙◌, arith}
use Rattle.std.specs.List.{list_all, filter_map, cons_option, enumerate_from}
use Rattle.entry_codec.specs.Lists.{is_ascending}

module _ {A C : Type 0} (pick : ℕ × A → Option C) (key : C → ℕ) (own : (n : ℕ) (a : A) (c : C) → pick (n, a) ≡ Some c → n ≡ key c) where
  abbrev keys : ℕ → List A → List ℕ
  keys n things = map key (filter_map pick (enumerate_from n things))

  behind : (m : ℕ) (things : List A) (n : ℕ) → m < n → is_ascending (m ∷ keys n things) ≡ true
  behind m [] n lt = refl
  behind m (a ∷ things) n lt = by (pick (n, a)) refl (behind m things (n + 1) (omega (arith, lt))) (behind n things (n + 1) (omega arith))
    where
      by : (found : Option C) → pick (n, a) ≡ found → is_ascending (m ∷ keys (n + 1) things) ≡ true → is_ascending (n ∷ keys (n + 1) things) ≡ true
          → is_ascending (m ∷ map key (cons_option found (filter_map pick (enumerate_from (n + 1) things)))) ≡ true
      by None e far near = far
      by (Some c) e far near =
          let at : n ≡ key c = own n a c e in
          subst (λ (k : ℕ). is_ascending (m ∷ k ∷ keys (n + 1) things) ≡ true) at (ap (λ (b : Bool). b && is_ascending (n ∷ keys (n + 1) things)) (lt-ltb m n lt) ∙ near)

  pub picked-ascending : (things : List A) (n : ℕ) → is_ascending (keys n things) ≡ true
  picked-ascending [] n = refl
  picked-ascending (a ∷ things) n = by (pick (n, a)) refl (picked-ascending things (n + 1)) (behind n things (n + 1) (omega arith))
    where
      by : (found : Option C) → pick (n, a) ≡ found → is_ascending (keys (n + 1) things) ≡ true → is_ascending (n ∷ keys (n + 1) things) ≡ true
          → is_ascending (map key (cons_option found (filter_map pick (enumerate_from (n + 1) things)))) ≡ true
      by None e far near = far
      by (Some c) e far near = subst (λ (k : ℕ). is_ascending (k ∷ keys (n + 1) things) ≡ true) (own n a c e) near

pub all-picked : {X C : Type 0} (p : C → Bool) (pick : X → Option C) → ((x : X) (c : C) → pick x ≡ Some c → p c ≡ true) → (xs : List X) → list_all p (filter_map pick xs) ≡ true
all-picked p pick holds [] = refl
all-picked {X} {C} p pick holds (x ∷ xs) = by (pick x) refl (all-picked p pick holds xs)
  where
    by : (found : Option C) → pick x ≡ found → list_all p (filter_map pick xs) ≡ true → list_all p (cons_option found (filter_map pick xs)) ≡ true
    by None e rest = rest
    by (Some c) e rest = ap (λ (b : Bool). b && list_all p (filter_map pick xs)) (holds x c e) ∙ rest
