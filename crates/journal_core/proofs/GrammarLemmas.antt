-- that bytes are a journal in one way
use Rattle.std.proofs.Common.{◌≡◌, ◌≢◌, ℕ, ◌+◌, ◌<◌, ◌≤◌, ⊎_elim, List, [], ◌∷◌, ◌++◌, length, take, drop, refl, sym, ap, ◌∙◌, subst, arith, append_assoc, append-nil}
use Rattle.std.specs.List.{AllByRecursion}
use Rattle.std.proofs.lemmas.Bool.{cases_lt}
use Rattle.std.proofs.lemmas.List.{take_at, drop_at, take-take, take-append-drop, append_cancel_left}
use Rattle.journal_core.specs.Form.{header, length_field, opened, IsShort, StandsFor, GoesOn, FailsAt}
use Rattle.journal_core.specs.Reading.{Tail}
use Rattle.journal_core.proofs.FormLemmas.{length-length_field, length_field_once}

pub tail_of : (generation : ℕ) (bytes : List ℕ) (records : List (List ℕ)) → StandsFor generation (header generation ++ bytes) records → Tail bytes records
tail_of generation bytes records stands = record {
  gate = stands.gate;
  rest = stands.rest;
  form = append_cancel_left (header generation) bytes (opened records ++ stands.gate ∷ stands.rest) stands.form;
  closed = stands.closed;
  fits = stands.fits;
}

-- two records at the start of the same bytes are one, and the same bytes follow it
pub record SamePrefix (body other rest others : List ℕ) : Type 0 where
  pub body_same : body ≡ other
  pub rest_same : rest ≡ others

pub same_prefix : (body other rest others : List ℕ) → IsShort body → IsShort other
    → length_field (length body) ++ (body ++ rest) ≡ length_field (length other) ++ (other ++ others) → SamePrefix body other rest others
same_prefix body other rest others short short_other same =
    let field = length_field (length body) in
    let field_other = length_field (length other) in
    let fields : field ≡ field_other =
    sym (take_at field (body ++ rest) 4 (length-length_field (length body)))
    ∙ ap (λ (l : List ℕ). take 4 l) same
    ∙ take_at field_other (other ++ others) 4 (length-length_field (length other)) in
    let behind : body ++ rest ≡ other ++ others =
    sym (drop_at field (body ++ rest) 4 (length-length_field (length body)))
    ∙ ap (λ (l : List ℕ). drop 4 l) same
    ∙ drop_at field_other (other ++ others) 4 (length-length_field (length other)) in
    let sizes : length body ≡ length other = length_field_once (length body) (length other) (omega arith) (omega arith) fields in
    record {
      body_same =
          sym (take_at body rest (length other) sizes)
          ∙ ap (λ (l : List ℕ). take (length other) l) behind
          ∙ take_at other others (length other) refl;
      rest_same =
          sym (drop_at body rest (length other) sizes)
          ∙ ap (λ (l : List ℕ). drop (length other) l) behind
          ∙ drop_at other others (length other) refl;
    }

-- one open record at the start
pub one_open : (body rest : List ℕ) (records : List (List ℕ))
    → opened (body ∷ records) ++ rest ≡ 1 ∷ (length_field (length body) ++ (body ++ (opened records ++ rest)))
one_open body rest records =
    ap (λ (l : List ℕ). 1 ∷ l)
    (append_assoc (length_field (length body)) (body ++ opened records) rest
    ∙ ap (λ (l : List ℕ). length_field (length body) ++ l) (append_assoc body (opened records) rest))

-- behind the records at the start stand the others
pub record Behind (before records : List (List ℕ)) (bytes : List ℕ) : Type 0 where
  pub others : List (List ℕ)
  pub all : records ≡ before ++ others
  pub tail : Tail bytes others

pub behind : (before records : List (List ℕ)) (bytes : List ℕ) → AllByRecursion IsShort before → Tail (opened before ++ bytes) records → Behind before records bytes
behind [] records bytes fits tail = record { others = records; all = refl; tail = tail }
behind (body ∷ before) [] bytes fits tail = absurd (tail.closed cc)
behind (body ∷ before) (other ∷ records) bytes fits tail =
    let same : length_field (length body) ++ (body ++ (opened before ++ bytes)) ≡ length_field (length other) ++ (other ++ (opened records ++ tail.gate ∷ tail.rest)) =
    ap (λ (l : List ℕ). drop 1 l) (sym (one_open body bytes before) ∙ tail.form ∙ one_open other (tail.gate ∷ tail.rest) records) in
    let prefix = same_prefix body other (opened before ++ bytes) (opened records ++ tail.gate ∷ tail.rest) fits.0 tail.fits.0 same in
    let there = behind before records bytes fits.1 (record { gate = tail.gate; rest = tail.rest; form = prefix.rest_same; closed = tail.closed; fits = tail.fits.1 }) in
    record {
      others = there.others;
      all = ap (λ (r : List ℕ). r ∷ records) (sym prefix.body_same) ∙ ap (λ (l : List (List ℕ)). body ∷ l) there.all;
      tail = there.tail;
    }

-- no record stands at a closed gate
pub none_at_closed : (gate : ℕ) (rest : List ℕ) (records : List (List ℕ)) → gate ≢ 1 → Tail (gate ∷ rest) records → records ≡ []
none_at_closed gate rest [] closed tail = refl
none_at_closed gate rest (body ∷ records) closed tail = absurd (closed cc)

pub records_once : (generation : ℕ) (bytes : List ℕ) (records others : List (List ℕ)) → StandsFor generation bytes records → StandsFor generation bytes others → records ≡ others
records_once generation bytes records others stands again =
    let tail = tail_of generation (opened records ++ stands.gate ∷ stands.rest) others (subst (λ (b : List ℕ). StandsFor generation b others) stands.form again) in
    let there = behind records others (stands.gate ∷ stands.rest) stands.fits tail in
    let none = none_at_closed stands.gate stands.rest there.others stands.closed there.tail in
    sym (there.all ∙ ap (λ (l : List (List ℕ)). records ++ l) none ∙ append-nil records)

-- where a journal goes on from some bytes, one goes on from their prefix
pub goes_on_prefix : (generation : ℕ) (prefix rest : List ℕ) → GoesOn generation (prefix ++ rest) → GoesOn generation prefix
goes_on_prefix generation prefix rest on =
    (rest ++ on.0, (on.1.0, subst (λ (b : List ℕ). StandsFor generation b on.1.0) (append_assoc prefix rest on.0) on.1.1))

pub goes_on_take : (generation less more : ℕ) (bytes : List ℕ) → less ≤ more → GoesOn generation (take more bytes) → GoesOn generation (take less bytes)
goes_on_take generation less more bytes before on =
    let prefix : take less (take more bytes) ≡ take less bytes = take-take less more bytes before in
    subst (GoesOn generation) prefix
    (goes_on_prefix generation (take less (take more bytes)) (drop less (take more bytes))
    (subst (GoesOn generation) (sym (take-append-drop less (take more bytes))) on))

not_before : (generation : ℕ) (bytes : List ℕ) (place other : ℕ) → FailsAt generation bytes place → FailsAt generation bytes other → place < other → ⊥
not_before generation bytes place other fails later before =
    fails.here (omega (arith, later.within)) (goes_on_take generation (place + 1) other bytes (omega arith) later.before)

pub place_once : (generation : ℕ) (bytes : List ℕ) (place other : ℕ) → FailsAt generation bytes place → FailsAt generation bytes other → place ≡ other
place_once generation bytes place other fails again =
    ⊎_elim
    (λ before. absurd (not_before generation bytes place other fails again before))
    (λ from. ⊎_elim
    (λ after. absurd (not_before generation bytes other place again fails after))
    (λ to. omega arith)
    (cases_lt other place))
    (cases_lt place other)
