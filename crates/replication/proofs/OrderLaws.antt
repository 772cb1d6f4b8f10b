-- Points in order rise by name, and the last of each name is among them.
use Rattle.std.proofs.Common.{◌≡◌, Bool, true, false, List, [], ◌∷◌, ◌++◌, cond, refl, sym, ap, ◌∙◌, append_assoc, Some, is_eq, reverse}
use Rattle.std.specs.Cmp.{Equal-is, IsTotalOrder}
use Rattle.std.specs.Cmp.Lexicographic.{on_texts}
use Rattle.std.specs.declared.cmp.Ordering.{Ordering}
use Rattle.std.specs.declared.cmp.Ordering.TheVariants.{Less, Equal, Greater}
use Rattle.std.specs.List.{AllByRecursion, find}
use Rattle.std.specs.List.Sorted.{IsStrictlySortedBy}
use Rattle.std.specs.Option.{option_or}
use Rattle.std.specs.Ordering.{match_ordering, ordering_reverse}
use Rattle.std.proofs.lemmas.Cmp.{alike_right, then_total}
use Rattle.std.proofs.lemmas.List.{append-nil, reverse-append}
use Rattle.std.proofs.lemmas.List.Folds.{find-append}
use Rattle.replication.specs.declared.named.NamedPoint.{NamedPoint}
use Rattle.replication.specs.Points.{name_cmp, has_name_of, put, put_all, in_order}
use Rattle.replication.proofs.Copies.{all-map}

name_total : IsTotalOrder name_cmp
name_total = then_total (on_texts (λ (point : NamedPoint). point.chart)) (on_texts (λ (point : NamedPoint). point.dimension))

-- ---- names rise
all-put : (P : NamedPoint → Type 0) (point : NamedPoint) (ps : List NamedPoint) → P point → AllByRecursion P ps → AllByRecursion P (put point ps)
all-put P point [] this all = (this, tt)
all-put P point (p ∷ ps) this all = by (name_cmp point p) (all-put P point ps this all.1)
  where
    by : (o : Ordering) → AllByRecursion P (put point ps) → AllByRecursion P (match_ordering o (point ∷ p ∷ ps) (point ∷ ps) (p ∷ put point ps))
    by Less rest = (this, all)
    by Equal rest = (this, all.1)
    by Greater rest = (all.0, rest)

rises-put : (point : NamedPoint) (ps : List NamedPoint) → IsStrictlySortedBy name_cmp ps → IsStrictlySortedBy name_cmp (put point ps)
unfolding IsStrictlySortedBy
rises-put point [] rises = (tt, tt)
rises-put point (p ∷ ps) rises = by (name_cmp point p) refl (rises-put point ps rises.1)
  where
    by : (o : Ordering) → name_cmp point p ≡ o → IsStrictlySortedBy name_cmp (put point ps) → IsStrictlySortedBy name_cmp (match_ordering o (point ∷ p ∷ ps) (point ∷ ps) (p ∷ put point ps))
    by Less is rest = ((is, all-map (λ q. name_cmp p q ≡ Less) (λ q. name_cmp point q ≡ Less) ps (λ q less. name_total.trans point p q is less) rises.0), rises)
    by Equal is rest = (all-map (λ q. name_cmp p q ≡ Less) (λ q. name_cmp point q ≡ Less) ps (λ q less. name_total.congr point p q is ∙ less) rises.0, rises.1)
    by Greater is rest = (all-put (λ q. name_cmp p q ≡ Less) point ps (name_total.antisymm p point ∙ ap ordering_reverse is) rises.0, rest)

rises-put_all : (points ps : List NamedPoint) → IsStrictlySortedBy name_cmp points → IsStrictlySortedBy name_cmp (put_all points ps)
rises-put_all points [] rises = rises
rises-put_all points (p ∷ ps) rises = rises-put_all (put p points) ps (rises-put p points rises)

pub in_order-rises : (points : List NamedPoint) → IsStrictlySortedBy name_cmp (in_order points)
unfolding IsStrictlySortedBy
in_order-rises points = rises-put_all [] points tt

-- ---- the last of each name is found
cond-alike : {X : Type 0} (a b : Bool) (x y z : X) → a ≡ b → cond a x z ≡ cond a x (cond b y z)
cond-alike true b x y z same = refl
cond-alike false true x y z same = absurd (cc)
cond-alike false false x y z same = refl

cond-swap : {X : Type 0} (a b : Bool) (x y z : X) → (a ≡ true → b ≡ true → ⊥) → cond a x (cond b y z) ≡ cond b y (cond a x z)
cond-swap true true x y z never = absurd (never refl refl)
cond-swap true false x y z never = refl
cond-swap false b x y z never = refl

not_both : (q a b : NamedPoint) → name_cmp b a ≡ Greater → has_name_of q a ≡ true → has_name_of q b ≡ true → ⊥
not_both q a b greater one other =
    let equal : name_cmp a b ≡ Equal = sym (name_total.congr q a b ((Equal-is (name_cmp q a)).0 one)) ∙ (Equal-is (name_cmp q b)).0 other in
    let wrong : Greater ≡ Equal = sym greater ∙ name_total.antisymm b a ∙ ap ordering_reverse equal in
    cc

find-put : (q point : NamedPoint) (ps : List NamedPoint) → find (has_name_of q) (put point ps) ≡ find (has_name_of q) (point ∷ ps)
find-put q point [] = refl
find-put q point (p ∷ ps) = by (name_cmp point p) refl (find-put q point ps)
  where
    by : (o : Ordering) → name_cmp point p ≡ o → find (has_name_of q) (put point ps) ≡ find (has_name_of q) (point ∷ ps)
        → find (has_name_of q) (match_ordering o (point ∷ p ∷ ps) (point ∷ ps) (p ∷ put point ps)) ≡ find (has_name_of q) (point ∷ p ∷ ps)
    by Less is rest = refl
    by Equal is rest = cond-alike (has_name_of q point) (has_name_of q p) (Some point) (Some p) (find (has_name_of q) ps) (ap is_eq (alike_right name_total point p q is))
    by Greater is rest =
        ap (cond (has_name_of q p) (Some p)) rest
        ∙ cond-swap (has_name_of q p) (has_name_of q point) (Some p) (Some point) (find (has_name_of q) ps) (not_both q p point is)

find-put_all : (q : NamedPoint) (points ps : List NamedPoint) → find (has_name_of q) (put_all points ps) ≡ find (has_name_of q) (reverse ps ++ points)
find-put_all q points [] = refl
find-put_all q points (p ∷ ps) =
    find-put_all q (put p points) ps ∙ find-append (has_name_of q) (reverse ps) (put p points)
    ∙ ap (option_or (find (has_name_of q) (reverse ps))) (find-put q p points) ∙ sym (find-append (has_name_of q) (reverse ps) (p ∷ points))
    ∙ ap (find (has_name_of q)) (sym (append_assoc (reverse ps) (p ∷ []) points) ∙ ap (λ prefix. prefix ++ points) (sym (reverse-append (p ∷ []) ps)))

pub in_order-find : (points : List NamedPoint) (point : NamedPoint) → find (has_name_of point) (in_order points) ≡ find (has_name_of point) (reverse points)
in_order-find points point = find-put_all point [] points ∙ ap (find (has_name_of point)) (append-nil (reverse points))
