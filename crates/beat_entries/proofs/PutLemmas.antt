-- What a list has that took more things: each thing once, by its last definition, and the same again once it
-- takes, in its own order, those that were put.
use Rattle.std.proofs.Common.{◌≡◌, Bool, true, false, cond, ◌||◌, List, [], ◌∷◌, filter, Option, Some, None, refl, sym, ap, ◌∙◌, true≢false, if◌then◌else◌}
use Rattle.std.specs.List.{find, list_any, AllByRecursion}
use Rattle.std.specs.Option.{option_map_or}
use Rattle.list_lemmas.proofs.Every.{all-filter}
use Rattle.history.specs.Put.{put, put_all}
use Rattle.chart_registry.proofs.ApartLemmas.{apart-put}
use Rattle.chart_registry.proofs.Applying.{all-put}
use Rattle.history.specs.Regular.{AreApart}
use Rattle.chart_registry.proofs.Finding.{all-weaker, find-none}
use Rattle.beat_entries.proofs.Slots.{all-both, none-all}

or-true : (b : Bool) → (b || true) ≡ true
or-true true = refl
or-true false = refl

module _ {A : Type 0} (same : A → A → Bool) (itself : (x : A) → same x x ≡ true) (alike : (x y z : A) → same x y ≡ true → same x z ≡ same y z) where
  pub turned : (x y : A) → same x y ≡ same y x
  turned x y = by (same x y) refl (same y x) refl
    where
      by : (a : Bool) → same x y ≡ a → (b : Bool) → same y x ≡ b → same x y ≡ same y x
      by true e b f = e ∙ sym (itself x) ∙ alike x y x e
      by false e true f = absurd (true≢false (sym (itself y) ∙ alike y x y f ∙ e))
      by false e false f = e ∙ sym f

  pub alike_right : (k x y : A) → same x y ≡ true → same k x ≡ same k y
  alike_right k x y e = turned k x ∙ alike x y k e ∙ turned y k

  -- ---- each thing stands once
  pub apart-put_all : (ys xs : List A) → AreApart same ys → AreApart same (put_all same ys xs)
  apart-put_all ys [] apart = apart
  apart-put_all ys (x ∷ xs) apart = apart-put_all (put same ys x) xs (apart-put same itself (λ x y e i z. alike x y z e i) alike_right ys x apart)

  -- ---- by its last definition
  pub find-put : (k : A) (ys : List A) (x : A) → find (same k) (put same ys x) ≡ cond (same k x) (Some x) (find (same k) ys)
  find-put k [] x = refl
  find-put k (y ∷ ys) x = by (same x y) refl (same k x) refl (same k y) refl (find-put k ys x)
    where
      by : (b : Bool) → same x y ≡ b → (kx : Bool) → same k x ≡ kx → (ky : Bool) → same k y ≡ ky → find (same k) (put same ys x) ≡ cond (same k x) (Some x) (find (same k) ys)
          → find (same k) (if b then x ∷ ys else y ∷ put same ys x) ≡ cond (same k x) (Some x) (cond (same k y) (Some y) (find (same k) ys))
      by true e true f ky g rest = ap (λ (b : Bool). cond b (Some x) (find (same k) ys)) f ∙ ap (λ (b : Bool). cond b (Some x) (cond (same k y) (Some y) (find (same k) ys))) (sym f)
      by true e false f true g rest = absurd (true≢false (sym g ∙ sym (alike_right k x y e) ∙ f))
      by true e false f false g rest = ap (λ (b : Bool). cond (same k x) (Some x) (cond b (Some y) (find (same k) ys))) (sym g)
      by false e true f true g rest = absurd (true≢false (sym g ∙ alike k x y f ∙ e))
      by false e false f true g rest =
          ap (λ (b : Bool). cond b (Some y) (find (same k) (put same ys x))) g
          ∙ sym (λ i. cond (f i) (Some x) (cond (g i) (Some y) (find (same k) ys)))
      by false e kx f false g rest =
          ap (λ (b : Bool). cond b (Some y) (find (same k) (put same ys x))) g ∙ rest
          ∙ ap (λ (b : Bool). cond (same k x) (Some x) (cond b (Some y) (find (same k) ys))) (sym g)

  find-put_all : (k : A) (ys xs : List A) → AreApart same xs → find (same k) (put_all same ys xs) ≡ option_map_or Some (find (same k) xs) (find (same k) ys)
  find-put_all k ys [] apart = refl
  find-put_all k ys (x ∷ xs) apart =
      find-put_all k (put same ys x) xs apart.1 ∙ ap (option_map_or Some (find (same k) xs)) (find-put k ys x) ∙ by (same k x) refl
    where
      by : (b : Bool) → same k x ≡ b → option_map_or Some (find (same k) xs) (cond b (Some x) (find (same k) ys)) ≡ option_map_or Some (cond b (Some x) (find (same k) xs)) (find (same k) ys)
      by true e =
          let none : find (same k) xs ≡ None = find-none (same k) xs (ap (λ (p : A → Bool). list_any p xs) (λ i z. alike k x z e i) ∙ apart.0) in
          ap (λ (found : Option A). option_map_or Some found (Some x)) none
      by false e = refl

  apart-self : (xs : List A) → AreApart same xs → AllByRecursion (λ (x : A). find (same x) xs ≡ Some x) xs
  apart-self [] apart = tt
  apart-self (x ∷ xs) apart = (
    ap (λ (b : Bool). cond b (Some x) (find (same x) xs)) (itself x),
    all-weaker (λ (y : A). (same x y ≡ false) × (find (same y) xs ≡ Some y)) (λ (y : A). find (same y) (x ∷ xs) ≡ Some y)
        (λ y both. ap (λ (b : Bool). cond b (Some x) (find (same y) xs)) (turned y x ∙ both.0) ∙ both.1) xs
        (all-both (λ (y : A). same x y ≡ false) (λ (y : A). find (same y) xs ≡ Some y) xs (none-all (same x) xs apart.0) (apart-self xs apart.1)),
  )

  pub put-found : (ys xs : List A) → AreApart same xs → AllByRecursion (λ (x : A). find (same x) (put_all same ys xs) ≡ Some x) xs
  put-found ys xs apart =
      all-weaker (λ (x : A). find (same x) xs ≡ Some x) (λ (x : A). find (same x) (put_all same ys xs) ≡ Some x)
      (λ x found. find-put_all x ys xs apart ∙ ap (λ (in_xs : Option A). option_map_or Some in_xs (find (same x) ys)) found) xs (apart-self xs apart)

  -- ---- the same again
  pub self-any : (xs : List A) → AllByRecursion (λ (x : A). list_any (same x) xs ≡ true) xs
  self-any [] = tt
  self-any (x ∷ xs) = (
    ap (λ (b : Bool). b || list_any (same x) xs) (itself x),
    all-weaker (λ (y : A). list_any (same y) xs ≡ true) (λ (y : A). list_any (same y) (x ∷ xs) ≡ true) (λ y e. ap (λ (b : Bool). same y x || b) e ∙ or-true (same y x)) xs (self-any xs),
  )

  module _ (put_there : A → Bool) where
    -- a list with things put: in each place the same thing, another only where it was put, and behind them
    -- what was put
    abbrev Extends : List A → List A → Type 0
    Extends [] ps = AllByRecursion (λ (p : A). put_there p ≡ true) ps
    Extends (c ∷ cs) [] = ⊥
    Extends (c ∷ cs) (p ∷ ps) = ((same p c ≡ true) × (put_there p ≡ false → p ≡ c)) × Extends cs ps

    extends-itself : (cs : List A) → Extends cs cs
    extends-itself [] = tt
    extends-itself (c ∷ cs) = ((itself c, λ e. refl), extends-itself cs)

    extends-put : (cs ps : List A) (x : A) → put_there x ≡ true → Extends cs ps → Extends cs (put same ps x)
    extends-put [] ps x there extends = all-put same (λ (p : A). put_there p ≡ true) ps x extends there
    extends-put (c ∷ cs) [] x there extends = absurd extends
    extends-put (c ∷ cs) (p ∷ ps) x there extends = by (same x p) refl (extends-put cs ps x there extends.1)
      where
        by : (b : Bool) → same x p ≡ b → Extends cs (put same ps x) → Extends (c ∷ cs) (if b then x ∷ ps else p ∷ put same ps x)
        by true e rest = ((alike x p c e ∙ extends.0.0, λ f. absurd (true≢false (sym there ∙ f))), extends.1)
        by false e rest = (extends.0, rest)

    extends-put_all : (cs ps xs : List A) → AllByRecursion (λ (x : A). put_there x ≡ true) xs → Extends cs ps → Extends cs (put_all same ps xs)
    extends-put_all cs ps [] there extends = extends
    extends-put_all cs ps (x ∷ xs) there extends = extends-put_all cs (put same ps x) xs there.1 (extends-put cs ps x there.0 extends)

    behind : (p : A) (cs zs : List A) → AllByRecursion (λ (z : A). same z p ≡ false) zs → put_all same (p ∷ cs) zs ≡ p ∷ put_all same cs zs
    behind p cs [] other = refl
    behind p cs (z ∷ zs) other =
        ap (λ (b : Bool). put_all same (if b then z ∷ cs else p ∷ put same cs z) zs) other.0 ∙ behind p (put same cs z) zs other.1

    others : (p : A) (ps : List A) → list_any (same p) ps ≡ false → AllByRecursion (λ (z : A). same z p ≡ false) (filter put_there ps)
    others p ps none =
        all-filter (λ (z : A). same z p ≡ false) put_there ps
        (all-weaker (λ (z : A). same p z ≡ false) (λ (z : A). same z p ≡ false) (λ z e. turned z p ∙ e) ps (none-all (same p) ps none))

    again : (cs ps : List A) → AreApart same ps → Extends cs ps → put_all same cs (filter put_there ps) ≡ ps
    again [] [] apart extends = refl
    again [] (p ∷ ps) apart extends =
        ap (λ (b : Bool). put_all same [] (cond b (p ∷ filter put_there ps) (filter put_there ps))) extends.0
        ∙ behind p [] (filter put_there ps) (others p ps apart.0) ∙ ap (λ (l : List A). p ∷ l) (again [] ps apart.1 extends.1)
    again (c ∷ cs) [] apart extends = absurd extends
    again (c ∷ cs) (p ∷ ps) apart extends = by (put_there p) refl (again cs ps apart.1 extends.1)
      where
        by : (b : Bool) → put_there p ≡ b → put_all same cs (filter put_there ps) ≡ ps → put_all same (c ∷ cs) (cond b (p ∷ filter put_there ps) (filter put_there ps)) ≡ p ∷ ps
        by true e done =
            ap (λ (b : Bool). put_all same (if b then p ∷ cs else c ∷ put same cs p) (filter put_there ps)) extends.0.0
            ∙ behind p cs (filter put_there ps) (others p ps apart.0) ∙ ap (λ (l : List A). p ∷ l) done
        by false e done =
            ap (λ (first : A). put_all same (first ∷ cs) (filter put_there ps)) (sym (extends.0.1 e))
            ∙ behind p cs (filter put_there ps) (others p ps apart.0) ∙ ap (λ (l : List A). p ∷ l) done

  -- what was put leaves the same list in the order of that list
  pub put-again : (cs xs : List A) → AreApart same cs → put_all same cs (filter (λ (c : A). list_any (same c) xs) (put_all same cs xs)) ≡ put_all same cs xs
  put-again cs xs apart =
      again (λ (c : A). list_any (same c) xs) cs (put_all same cs xs) (apart-put_all cs xs apart)
      (extends-put_all (λ (c : A). list_any (same c) xs) cs cs xs (self-any xs) (extends-itself (λ (c : A). list_any (same c) xs) cs))
