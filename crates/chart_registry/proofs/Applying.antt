-- Definitions that are taken one by one.
use Rattle.std.proofs.Common.{◌≡◌, ℕ, ◌+◌, Bool, true, false, cond, ◌||◌, List, [], ◌∷◌, ◌++◌, Some, is_some, refl, sym, ap, ◌∙◌, if◌then◌else◌}
use Rattle.std.specs.List.{find, list_any, AllByRecursion}
use Rattle.std.specs.Option.{option_map_or}
use Rattle.std.specs.Str.{bytes_eq}
use Rattle.std.proofs.lemmas.Slice.Eq.{bytes_eq-Decides}
use Rattle.history.specs.declared.beat.OpenBeat.{OpenBeat}
use Rattle.history.specs.declared.chart.ChartDef.{ChartDef}
use Rattle.history.specs.Put.{put, put_all}
use Rattle.history.specs.Refusal.{has_chart}
use Rattle.history.specs.Registry.{Registry, is_chart, same_chart, with_definitions}

module _ {A : Type 0} (same : A → A → Bool) where
  pub put_all-push : (xs ys : List A) (y : A) → put_all same xs (ys ++ y ∷ []) ≡ put same (put_all same xs ys) y
  put_all-push xs [] y = refl
  put_all-push xs (z ∷ ys) y = put_all-push (put same xs z) ys y

-- ---- what a test finds in a list that has taken more, and what is true of all in it
or-last : (x y : Bool) → (x || y) ≡ (y || x)
or-last true true = refl
or-last true false = refl
or-last false true = refl
or-last false false = refl

or-apart : (x y z : Bool) → (x || (y || z)) ≡ ((x || y) || z)
or-apart true y z = refl
or-apart false y z = refl

or-again : (x y : Bool) → (x || y) ≡ ((x || y) || x)
or-again true y = refl
or-again false y = or-last false y

module _ {A : Type 0} (same : A → A → Bool) (p : A → Bool) (alike : (x y : A) → same x y ≡ true → p x ≡ p y) where
  pub any-put : (xs : List A) (x : A) → list_any p (put same xs x) ≡ (list_any p xs || p x)
  any-put [] x = or-last (p x) false
  any-put (y ∷ ys) x = by (same x y) refl (any-put ys x)
    where
      by : (b : Bool) → same x y ≡ b → list_any p (put same ys x) ≡ (list_any p ys || p x) → list_any p (if b then x ∷ ys else y ∷ put same ys x) ≡ ((p y || list_any p ys) || p x)
      by true e rest = ap (λ b. b || list_any p ys) (alike x y e) ∙ or-again (p y) (list_any p ys) ∙ ap (λ b. (p y || list_any p ys) || b) (sym (alike x y e))
      by false e rest = ap (λ b. p y || b) rest ∙ or-apart (p y) (list_any p ys) (p x)

  pub any-put_all : (xs ys : List A) → list_any p (put_all same xs ys) ≡ (list_any p xs || list_any p ys)
  any-put_all xs [] = or-last false (list_any p xs)
  any-put_all xs (y ∷ ys) = any-put_all (put same xs y) ys ∙ ap (λ b. b || list_any p ys) (any-put xs y) ∙ sym (or-apart (list_any p xs) (p y) (list_any p ys))

module _ {A : Type 0} (same : A → A → Bool) (P : A → Type 0) where
  pub all-put : (xs : List A) (x : A) → AllByRecursion P xs → P x → AllByRecursion P (put same xs x)
  all-put [] x h p = (p, tt)
  all-put (y ∷ ys) x h p = by (same x y) (all-put ys x h.1 p)
    where
      by : (b : Bool) → AllByRecursion P (put same ys x) → AllByRecursion P (if b then x ∷ ys else y ∷ put same ys x)
      by true rest = (p, h.1)
      by false rest = (h.0, rest)

module _ {A : Type 0} (p : A → Bool) where
  pub some-find : (xs : List A) → is_some (find p xs) ≡ list_any p xs
  some-find [] = refl
  some-find (x ∷ xs) = by (p x) (some-find xs)
    where
      by : (b : Bool) → is_some (find p xs) ≡ list_any p xs → is_some (cond b (Some x) (find p xs)) ≡ (b || list_any p xs)
      by true rest = refl
      by false rest = rest

  some-find_first : (xs ys : List A) → is_some (option_map_or Some (find p xs) (find p ys)) ≡ (list_any p xs || list_any p ys)
  some-find_first [] ys = some-find ys
  some-find_first (x ∷ xs) ys = by (p x) (some-find_first xs ys)
    where
      by : (b : Bool) → is_some (option_map_or Some (find p xs) (find p ys)) ≡ (list_any p xs || list_any p ys) → is_some (option_map_or Some (cond b (Some x) (find p xs)) (find p ys)) ≡ ((b || list_any p xs) || list_any p ys)
      by true rest = refl
      by false rest = rest

pub same_chart-alike : (id : List ℕ) (x y : ChartDef) → same_chart x y ≡ true → is_chart id x ≡ is_chart id y
same_chart-alike id x y same = ap (bytes_eq id) ((bytes_eq-Decides x.id y.id).0 same)

pub has_chart-any : (registry : Registry) (beat : OpenBeat) (id : List ℕ) → has_chart registry beat id ≡ (list_any (is_chart id) beat.charts || list_any (is_chart id) registry.charts)
has_chart-any registry beat id = some-find_first (is_chart id) beat.charts registry.charts

-- a chart that the registry or the beat has is there once the beat's charts are
pub has_chart-applied : (registry : Registry) (beat : OpenBeat) (id : List ℕ) → list_any (is_chart id) (with_definitions registry beat.charts []).charts ≡ has_chart registry beat id
has_chart-applied registry beat id =
    any-put_all same_chart (is_chart id) (same_chart-alike id) registry.charts beat.charts
    ∙ or-last (list_any (is_chart id) registry.charts) (list_any (is_chart id) beat.charts)
    ∙ sym (has_chart-any registry beat id)
