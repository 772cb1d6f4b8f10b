-- Of a text only one thing can be told: the tree that it spells, or its first fault.
use Rattle.std.proofs.Common.{◌≡◌, ◌≢◌, ◌<◌, ◌≤◌, ◌⊎◌, inl, inr, ℕ, suc, List, [], ◌∷◌, ◌++◌, length, Some, Result, Ok, Err, arith, subst, sym, refl, ap, ◌∙◌, append_assoc, append-nil, ℤ}
use Rattle.std.specs.List.{AllByRecursion}
use Rattle.std.specs.Prelude.{◌↔◌, IsErr, IsOk}
use Rattle.fixed_num.specs.declared.units.NumberFault.{NumberFault}
use Rattle.fixed_num.specs.UnitsText.{units_read}
use Rattle.health_expr.specs.declared.fault.ExprFault.{ExprFault}
use Rattle.health_expr.specs.declared.fault.ExprFault.TheVariants.{Syntax, TooDeep, NumberTooWide, Memory}
use Rattle.health_expr.specs.declared.operator.Prefix.{Prefix}
use Rattle.health_expr.specs.declared.operator.Operator.{Operator}
use Rattle.health_expr.specs.declared.word.Kind.{Kind}
use Rattle.health_expr.specs.declared.word.Kind.TheVariants.{End, Number, Name, Nan, Infinity, Abs, Open, Close, Question, Colon}
use Rattle.health_expr.specs.Faults.{kinds, GoesOn, IsBegun, Reaches, IsMisfit, IsTooDeep, IsTooWide}
use Rattle.health_expr.specs.Grammar.{operator_of, tree_read}
use Rattle.health_expr.specs.Spelling.{Spelled, at, placed_in, levels_of, prefix_of, IsLow, Spells, number, nan, infinity, name, prefixed, enclosed, size, tighter, combined, chosen, IsSpelling}
use Rattle.health_expr.specs.Tree.{Tree}
use Rattle.health_expr.specs.Words.{Placed, end_at, words_of}
use Rattle.health_expr.proofs.Joined.{joined}
use Rattle.health_expr.proofs.Course.{kinds_of, kinds-append}
use Rattle.health_expr.proofs.PlaceLevels.{same_levels}
use Rattle.health_expr.proofs.SpelledBack.{low_front, spelled_back}
use Rattle.health_expr.proofs.SpelledTexts.{IsTold, told, HasNoEnd, no_end_in, front_none, spelling_of, misfit_of, too_deep_of, too_wide_of}

-- ---- the numbers of a spelling

abbrev IsReadable : Spelled → Type 0
IsReadable spelled = spelled.word.kind ≡ Number → IsOk (units_read spelled.word.said)

other_kind : (spelled : Spelled) (kind : Kind) → spelled.word.kind ≡ kind → kind ≢ Number → IsReadable spelled
other_kind spelled kind e other = λ is. absurd (other (sym e ∙ is))

readable-append : (xs ys : List Spelled) → AllByRecursion IsReadable xs → AllByRecursion IsReadable ys → AllByRecursion IsReadable (xs ++ ys)
readable-append [] ys p q = q
readable-append (x ∷ xs) ys p q = (p.0, readable-append xs ys p.1 q)

prefix_readable : (spelled : Spelled) (prefix : Prefix) → prefix_of spelled.word.kind ≡ Some prefix → IsReadable spelled
prefix_readable spelled prefix e = λ is.
    let clash : prefix_of Number ≡ Some prefix = ap (λ (k : Kind). prefix_of k) (sym is) ∙ e in
    cc

operator_readable : (spelled : Spelled) (operator : Operator) → operator_of spelled.word.kind ≡ Some operator → IsReadable spelled
operator_readable spelled operator e = λ is.
    let clash : operator_of Number ≡ Some operator = ap (λ (k : Kind). operator_of k) (sym is) ∙ e in
    cc

-- each number of a spelling is one of the language
readable : (loose levels : ℕ) (tree : Tree) (words : List Spelled) → Spells loose levels tree words → AllByRecursion IsReadable words
readable _ _ _ _ (number levels word units kind read) = (λ is. subst (λ (r : Result ℤ NumberFault). IsOk r) (sym read) refl, tt)
readable _ _ _ _ (nan levels word kind) = (other_kind (at word levels) Nan kind (λ e. cc), tt)
readable _ _ _ _ (infinity levels word kind) = (other_kind (at word levels) Infinity kind (λ e. cc), tt)
readable _ _ _ _ (name levels word kind) = (other_kind (at word levels) Name kind (λ e. cc), tt)
readable _ _ _ _ (prefixed levels word prefix inner words kind is) = (prefix_readable (at word levels) prefix kind, readable _ _ _ _ is)
readable _ _ _ _ (enclosed levels open_word close_word inner words opens closes is) = (
  other_kind (at open_word (suc levels)) Open opens (λ e. cc),
  readable-append words (at close_word (suc levels) ∷ []) (readable _ _ _ _ is) (other_kind (at close_word (suc levels)) Close closes (λ e. cc), tt),
)
readable _ _ _ _ (size levels word open_word close_word inner words kind opens closes is) = (
  other_kind (at word levels) Abs kind (λ e. cc),
  (
    other_kind (at open_word (suc levels)) Open opens (λ e. cc),
    readable-append words (at close_word (suc levels) ∷ []) (readable _ _ _ _ is) (other_kind (at close_word (suc levels)) Close closes (λ e. cc), tt),
  ),
)
readable _ _ _ _ (tighter loose levels inner words is) = readable _ _ _ _ is
readable _ _ _ _ (combined loose levels word operator left right one two joins first second) =
    readable-append one (at word levels ∷ two) (readable _ _ _ _ first) (operator_readable (at word levels) operator (joined loose word.kind operator joins).0, readable _ _ _ _ second)
readable _ _ _ _ (chosen levels question colon condition if_true if_false one two three asks colons a b c) =
    readable-append one (at question levels ∷ (two ++ at colon levels ∷ three)) (readable _ _ _ _ a) (
      other_kind (at question levels) Question asks (λ e. cc),
      readable-append two (at colon levels ∷ three) (readable _ _ _ _ b) (other_kind (at colon levels) Colon colons (λ e. cc), readable _ _ _ _ c),
    )

-- ---- words in front

-- the last of some words
last_of : {X : Type 0} (P : X → Type 0) (xs : List X) (x : X) → AllByRecursion P (xs ++ x ∷ []) → P x
last_of P [] x all = all.0
last_of P (y ∷ xs) x all = last_of P xs x all.1

front_readable : (xs ys : List Spelled) → AllByRecursion IsReadable (xs ++ ys) → AllByRecursion IsReadable xs
front_readable [] ys all = tt
front_readable (x ∷ xs) ys all = (all.0, front_readable xs ys all.1)

-- what is said of words that are spelled holds of them as words of the text
on_words : (P : Placed → Type 0) (spelled : List Spelled) → AllByRecursion (λ s. P s.word) spelled → AllByRecursion P (placed_in spelled)
on_words P [] all = tt
on_words P (s ∷ spelled) all = (all.0, on_words P spelled all.1)

on_levels : (spelled : List Spelled) → AllByRecursion IsLow spelled → AllByRecursion (λ n. n ≤ 64) (levels_of spelled)
on_levels [] all = tt
on_levels (s ∷ spelled) all = (all.0, on_levels spelled all.1)

levels-push : (front : List Spelled) (next : Spelled) → levels_of (front ++ next ∷ []) ≡ levels_of front ++ next.levels ∷ []
levels-push [] next = refl
levels-push (s ∷ front) next = ap (λ (ns : List ℕ). s.levels ∷ ns) (levels-push front next)

kinds-push : (before : List Placed) (word : Placed) → kinds (before ++ word ∷ []) ≡ kinds before ++ word.kind ∷ []
kinds-push [] word = refl
kinds-push (w ∷ before) word = ap (λ (ks : List Kind). w.kind ∷ ks) (kinds-push before word)

kinds_of-push : (front : List Spelled) (next : Spelled) → kinds_of (front ++ next ∷ []) ≡ kinds_of front ++ next.word.kind ∷ []
kinds_of-push [] next = refl
kinds_of-push (s ∷ front) next = ap (λ (ks : List Kind). s.word.kind ∷ ks) (kinds_of-push front next)

-- a spelling's words, in two parts
record Parted (front : List Spelled) (xs : List Placed) : Type 0 where
  one : List Spelled
  two : List Spelled
  whole : front ≡ one ++ two
  are : placed_in one ≡ xs

part : (front : List Spelled) (xs ys : List Placed) → placed_in front ≡ xs ++ ys → Parted front xs
part front [] ys e = record { one = []; two = front; whole = refl; are = refl }
part [] (x ∷ xs) ys e = cc
part (s ∷ front) (x ∷ xs) ys e =
    let head : s.word ≡ x = cc in
    let tails : placed_in front ≡ xs ++ ys = cc in
    let below = part front xs ys tails in
    record {
      one = s ∷ below.one;
      two = below.two;
      whole = ap (λ (ss : List Spelled). s ∷ ss) below.whole;
      are = ap (λ (ws : List Placed). s.word ∷ ws) below.are ∙ ap (λ (w : Placed). w ∷ xs) head;
    }

-- the front of what is begun is begun
begun_front : (xs ys : List Placed) → IsBegun (xs ++ ys) → IsBegun xs
begun_front xs ys begun =
    let parts = part begun.front xs ys begun.begins in
    record {
      tree = begun.tree;
      front = parts.one;
      more = parts.two ++ begun.more;
      spells = subst (λ (ss : List Spelled). Spells 7 0 begun.tree ss) (ap (λ (ss : List Spelled). ss ++ begun.more) parts.whole ∙ append_assoc parts.one parts.two begun.more) begun.spells;
      begins = parts.are;
      low = low_front parts.one parts.two (subst (λ (ss : List Spelled). AllByRecursion IsLow ss) parts.whole begun.low);
    }

-- what reaches a word begins with the words before it, and goes on with that word
reached_begun : (before : List Placed) (kind : Kind) (levels : ℕ) → Reaches before kind levels → IsBegun before
reached_begun before kind levels reaches = record {
  tree = reaches.tree;
  front = reaches.front;
  more = reaches.next ∷ reaches.more;
  spells = reaches.spells;
  begins = reaches.begins;
  low = reaches.low;
}

goes_on : (tree : Tree) (front more : List Spelled) (begun : List Kind) → Spells 7 0 tree (front ++ more) → kinds_of front ≡ begun → GoesOn begun
goes_on tree front more begun is e = record {
  tree = tree;
  words = front ++ more;
  more = kinds_of more ++ End ∷ [];
  spells = is;
  begins = kinds-append front more (End ∷ []) ∙ ap (λ (ks : List Kind). ks ++ (kinds_of more ++ End ∷ [])) e;
}

begun_goes_on : (words : List Placed) → IsBegun words → GoesOn (kinds words)
begun_goes_on words begun = goes_on begun.tree begun.front begun.more (kinds words) begun.spells (ap kinds begun.begins)

reached_spells : (before : List Placed) (kind : Kind) (levels : ℕ) (reaches : Reaches before kind levels) → Spells 7 0 reaches.tree ((reaches.front ++ reaches.next ∷ []) ++ reaches.more)
reached_spells before kind levels reaches =
    subst (λ (ss : List Spelled). Spells 7 0 reaches.tree ss) (sym (append_assoc reaches.front (reaches.next ∷ []) reaches.more)) reaches.spells

reached_kinds : (before : List Placed) (kind : Kind) (levels : ℕ) (reaches : Reaches before kind levels) → kinds_of (reaches.front ++ reaches.next ∷ []) ≡ kinds before ++ kind ∷ []
reached_kinds before kind levels reaches =
    kinds_of-push reaches.front reaches.next
    ∙ ap (λ (ws : List Placed). kinds ws ++ reaches.next.word.kind ∷ []) reaches.begins
    ∙ ap (λ (k : Kind). kinds before ++ k ∷ []) reaches.kind_is

reached_goes_on : (before : List Placed) (kind : Kind) (levels : ℕ) → Reaches before kind levels → GoesOn (kinds before ++ kind ∷ [])
reached_goes_on before kind levels reaches =
    goes_on reaches.tree (reaches.front ++ reaches.next ∷ []) reaches.more (kinds before ++ kind ∷ []) (reached_spells before kind levels reaches) (reached_kinds before kind levels reaches)

reached_other : (before : List Placed) (kind : Kind) (levels : ℕ) → Reaches before kind levels → kind ≢ End
reached_other before kind levels reaches ended =
    let all = front_none (reaches.front ++ reaches.next ∷ []) reaches.more (no_end_in 7 0 reaches.tree ((reaches.front ++ reaches.next ∷ []) ++ reaches.more) (reached_spells before kind levels reaches)) in
    last_of (λ (k : Kind). k ≢ End) (kinds before) kind (subst HasNoEnd (reached_kinds before kind levels reaches) all) ended

-- how many levels hold a word hangs on no choice of what follows
begun_levels : (before : List Placed) (word : Placed) (levels : ℕ) → Reaches before word.kind levels → IsBegun (before ++ word ∷ []) → levels ≤ 64
begun_levels before word levels reaches begun =
    let kinds_are : kinds_of (reaches.front ++ reaches.next ∷ []) ≡ kinds_of begun.front =
    reached_kinds before word.kind levels reaches ∙ sym (kinds-push before word) ∙ sym (ap kinds begun.begins) in
    let same = same_levels reaches.tree begun.tree (reaches.front ++ reaches.next ∷ []) begun.front reaches.more begun.more (reached_spells before word.kind levels reaches) begun.spells kinds_are in
    let all = subst (λ (ns : List ℕ). AllByRecursion (λ n. n ≤ 64) ns) (sym same ∙ levels-push reaches.front reaches.next) (on_levels begun.front begun.low) in
    let last : reaches.next.levels ≤ 64 = last_of (λ (n : ℕ). n ≤ 64) (levels_of reaches.front) reaches.next.levels all in
    let are = reaches.levels_are in
    omega arith

both_levels : (before : List Placed) (kind : Kind) (levels other : ℕ) → Reaches before kind levels → Reaches before kind other → levels ≡ other
both_levels before kind levels other one two =
    let same = same_levels one.tree two.tree (one.front ++ one.next ∷ []) (two.front ++ two.next ∷ []) one.more two.more (reached_spells before kind levels one) (reached_spells before kind other two)
    (reached_kinds before kind levels one ∙ sym (reached_kinds before kind other two)) in
    let pushed : levels_of one.front ++ one.next.levels ∷ [] ≡ levels_of two.front ++ two.next.levels ∷ [] = sym (levels-push one.front one.next) ∙ same ∙ levels-push two.front two.next in
    sym one.levels_are ∙ last_same (levels_of one.front) (levels_of two.front) one.next.levels two.next.levels pushed ∙ two.levels_are
  where
    nothing_more : (ys : List ℕ) (x y : ℕ) → x ∷ [] ≡ ys ++ y ∷ [] → x ≡ y
    nothing_more [] x y e = cc
    nothing_more (z ∷ []) x y e = cc
    nothing_more (z ∷ w ∷ ys) x y e = cc

    last_same : (xs ys : List ℕ) (x y : ℕ) → xs ++ x ∷ [] ≡ ys ++ y ∷ [] → x ≡ y
    last_same [] ys x y e = nothing_more ys x y e
    last_same (z ∷ xs) [] x y e = sym (nothing_more (z ∷ xs) y x (sym e))
    last_same (z ∷ xs) (w ∷ ys) x y e =
        let tails : xs ++ x ∷ [] ≡ ys ++ y ∷ [] = cc in
        last_same xs ys x y tails

-- ---- a fault at a word

abbrev Why : ExprFault → List Placed → Placed → Type 0
Why (Syntax place) before word = (place ≡ word.place) × (GoesOn (kinds before ++ word.kind ∷ []) → ⊥)
Why TooDeep before word = (levels : ℕ) × Reaches before word.kind levels × (64 < levels)
Why NumberTooWide before word = (levels : ℕ) × Reaches before word.kind levels × (levels ≤ 64) × (word.kind ≡ Number) × IsErr (units_read word.said)
Why Memory before word = ⊥

record FaultAt (text : List ℕ) (fault : ExprFault) : Type 0 where
  before : List Placed
  word : Placed
  behind : List Placed
  words : words_of text ≡ before ++ word ∷ behind
  begun : IsBegun before
  why : Why fault before word

fault_at : (text : List ℕ) (fault : ExprFault) → IsTold text (Err fault) → FaultAt text fault
fault_at text (Syntax place) is = record { before = is.before; word = is.word; behind = is.splits.behind; words = is.splits.words; begun = is.fits; why = (is.place_is, is.never) }
fault_at text TooDeep is = record {
  before = is.before;
  word = is.word;
  behind = is.splits.behind;
  words = is.splits.words;
  begun = reached_begun is.before is.word.kind is.levels is.fits;
  why = (is.levels, is.fits, is.deep);
}
fault_at text NumberTooWide is = record {
  before = is.before;
  word = is.word;
  behind = is.splits.behind;
  words = is.splits.words;
  begun = reached_begun is.before is.word.kind is.levels is.fits;
  why = (is.levels, is.fits, is.low, is.number, subst (λ (r : Result ℤ NumberFault). IsErr r) (sym is.wide) refl);
}
fault_at text Memory is = absurd is

ok_or_err : (r : Result ℤ NumberFault) → IsOk r → IsErr r → ⊥
ok_or_err (Ok units) is other = cc
ok_or_err (Err fault) is other = cc

-- a word that is at fault is not one of those that begin a spelling
not_begun : (fault : ExprFault) (before : List Placed) (word : Placed) → Why fault before word → IsBegun (before ++ word ∷ []) → ⊥
not_begun (Syntax place) before word why begun = why.1 (subst GoesOn (kinds-push before word) (begun_goes_on (before ++ word ∷ []) begun))
not_begun TooDeep before word why begun =
    let low = begun_levels before word why.0 why.1 begun in
    let deep = why.2 in
    omega arith
not_begun NumberTooWide before word why begun =
    let all = on_words (λ (w : Placed). w.kind ≡ Number → IsOk (units_read w.said)) begun.front (front_readable begun.front begun.more (readable 7 0 begun.tree (begun.front ++ begun.more) begun.spells)) in
    let here = last_of (λ (w : Placed). w.kind ≡ Number → IsOk (units_read w.said)) before word (subst (λ (ws : List Placed). AllByRecursion (λ w. w.kind ≡ Number → IsOk (units_read w.said)) ws) begun.begins all) in
    ok_or_err (units_read word.said) (here why.3) why.4
not_begun Memory before word why begun = why

-- two faults at one word are one
same_why : (fault other : ExprFault) (before : List Placed) (word : Placed) → Why fault before word → Why other before word → fault ≡ other
same_why (Syntax place) (Syntax there) before word one two = ap (λ (n : ℕ). Syntax n) (one.0 ∙ sym two.0)
same_why (Syntax place) TooDeep before word one two = absurd (one.1 (reached_goes_on before word.kind two.0 two.1))
same_why (Syntax place) NumberTooWide before word one two = absurd (one.1 (reached_goes_on before word.kind two.0 two.1))
same_why (Syntax place) Memory before word one two = absurd two
same_why TooDeep (Syntax there) before word one two = absurd (two.1 (reached_goes_on before word.kind one.0 one.1))
same_why TooDeep TooDeep before word one two = refl
same_why TooDeep NumberTooWide before word one two =
    let same = both_levels before word.kind one.0 two.0 one.1 two.1 in
    let deep = one.2 in
    let low = two.2 in
    absurd (omega arith)
same_why TooDeep Memory before word one two = absurd two
same_why NumberTooWide (Syntax there) before word one two = absurd (two.1 (reached_goes_on before word.kind one.0 one.1))
same_why NumberTooWide TooDeep before word one two =
    let same = both_levels before word.kind one.0 two.0 one.1 two.1 in
    let deep = two.2 in
    let low = one.2 in
    absurd (omega arith)
same_why NumberTooWide NumberTooWide before word one two = refl
same_why NumberTooWide Memory before word one two = absurd two
same_why Memory other before word one two = absurd one

-- ---- two places of one text

-- one place, the first before the second, or the second before the first
abbrev Order : List Placed → Placed → List Placed → Placed → Type 0
Order before word before' word' =
    ((before ≡ before') × (word ≡ word')) ⊎ (((between : List Placed) × (before' ≡ before ++ word ∷ between)) ⊎ ((between : List Placed) × (before ≡ before' ++ word' ∷ between)))

order_push : (w : Placed) (before : List Placed) (word : Placed) (before' : List Placed) (word' : Placed) → Order before word before' word' → Order (w ∷ before) word (w ∷ before') word'
order_push w before word before' word' (inl same) = inl (ap (λ (ws : List Placed). w ∷ ws) same.0, same.1)
order_push w before word before' word' (inr (inl first)) = inr (inl (first.0, ap (λ (ws : List Placed). w ∷ ws) first.1))
order_push w before word before' word' (inr (inr second)) = inr (inr (second.0, ap (λ (ws : List Placed). w ∷ ws) second.1))

order : (before : List Placed) (word : Placed) (behind before' : List Placed) (word' : Placed) (behind' : List Placed) → before ++ word ∷ behind ≡ before' ++ word' ∷ behind' → Order before word before' word'
order [] word behind [] word' behind' e = let same : word ≡ word' = cc in inl (refl, same)
order [] word behind (w ∷ before') word' behind' e = let same : w ≡ word = cc in inr (inl (before', ap (λ (x : Placed). x ∷ before') same))
order (w ∷ before) word behind [] word' behind' e = let same : w ≡ word' = cc in inr (inr (before, ap (λ (x : Placed). x ∷ before) same))
order (w ∷ before) word behind (w' ∷ before') word' behind' e =
    let head : w ≡ w' = cc in
    let tails : before ++ word ∷ behind ≡ before' ++ word' ∷ behind' = cc in
    subst (λ (x : Placed). Order (w ∷ before) word (x ∷ before') word') head (order_push w before word before' word' (order before word behind before' word' behind' tails))

-- a fault excludes that words up to its place begin a spelling
later : (fault : ExprFault) (before : List Placed) (word : Placed) (between more : List Placed) → Why fault before word → IsBegun more → more ≡ before ++ word ∷ between → ⊥
later fault before word between more why begun e =
    not_begun fault before word why
    (begun_front (before ++ word ∷ []) between (subst IsBegun (e ∙ sym (append_assoc before (word ∷ []) between)) begun))

same_fault : (fault other : ExprFault) (before : List Placed) (word : Placed) (before' : List Placed) (word' : Placed) → IsBegun before → IsBegun before' → Why fault before word → Why other before' word' → Order before word before' word' → fault ≡ other
same_fault fault other before word before' word' begun begun' why why' (inl same) =
    same_why fault other before' word' (subst (λ (ws : List Placed). Why fault ws word') same.0 (subst (λ (w : Placed). Why fault before w) same.1 why)) why'
same_fault fault other before word before' word' begun begun' why why' (inr (inl first)) = absurd (later fault before word first.0 before' why begun' first.1)
same_fault fault other before word before' word' begun begun' why why' (inr (inr second)) = absurd (later other before' word' second.0 before why' begun second.1)

-- ---- a text that spells a tree

spelling_begun : (text : List ℕ) (inner : Tree) (is : IsSpelling text inner) → IsBegun (placed_in is.words)
spelling_begun text inner is = record {
  tree = inner;
  front = is.words;
  more = [];
  spells = subst (λ (ss : List Spelled). Spells 7 0 inner ss) (sym (append-nil is.words)) is.spells;
  begins = refl;
  low = is.low;
}

-- nothing is at fault at the end of a spelling
end_fits : (fault : ExprFault) (inner : Tree) (words : List Spelled) (end : Placed) → end.kind ≡ End → Spells 7 0 inner words → Why fault (placed_in words) end → ⊥
end_fits (Syntax place) inner words end e is why =
    why.1 (record { tree = inner; words = words; more = []; spells = is; begins = ap (λ (k : Kind). kinds_of words ++ k ∷ []) (sym e) ∙ sym (append-nil (kinds_of words ++ end.kind ∷ [])) })
end_fits TooDeep inner words end e is why = reached_other (placed_in words) end.kind why.0 why.1 e
end_fits NumberTooWide inner words end e is why = reached_other (placed_in words) end.kind why.0 why.1 e
end_fits Memory inner words end e is why = why

-- no word that begins a spelling is the end
begun_none : (before : List Placed) (word : Placed) (between : List Placed) → word.kind ≡ End → IsBegun (before ++ word ∷ between) → ⊥
begun_none before word between e begun =
    let fronted = begun_front (before ++ word ∷ []) between (subst IsBegun (sym (append_assoc before (word ∷ []) between)) begun) in
    let all = front_none fronted.front fronted.more (no_end_in 7 0 fronted.tree (fronted.front ++ fronted.more) fronted.spells) in
    last_of (λ (k : Kind). k ≢ End) (kinds before) word.kind (subst HasNoEnd (ap kinds fronted.begins ∙ kinds-push before word) all) e

spelling_fits : (fault : ExprFault) (inner : Tree) (words : List Spelled) (end : Placed) (before : List Placed) (word : Placed) → end.kind ≡ End → Spells 7 0 inner words → IsBegun (placed_in words) → IsBegun before → Why fault before word
    → Order before word (placed_in words) end → ⊥
spelling_fits fault inner words end before word ended is all begun why (inl same) =
    end_fits fault inner words end ended is (subst (λ (ws : List Placed). Why fault ws end) same.0 (subst (λ (w : Placed). Why fault before w) same.1 why))
spelling_fits fault inner words end before word ended is all begun why (inr (inl first)) = later fault before word first.0 (placed_in words) why all first.1
spelling_fits fault inner words end before word ended is all begun why (inr (inr second)) = begun_none (placed_in words) end second.0 ended (subst IsBegun second.1 begun)

-- ---- what is told

same_told : (text : List ℕ) (fault : ExprFault) (outcome : Result Tree ExprFault) → FaultAt text fault → IsTold text outcome → outcome ≡ Err fault
same_told text fault (Ok inner) at_fault is =
    absurd
    (spelling_fits fault inner is.words (end_at (length text)) at_fault.before at_fault.word refl is.spells (spelling_begun text inner is) at_fault.begun at_fault.why
    (order at_fault.before at_fault.word at_fault.behind (placed_in is.words) (end_at (length text)) [] (sym at_fault.words ∙ is.all)))
same_told text fault (Err other) at_fault is =
    let told_at = fault_at text other is in
    ap (λ (f : ExprFault). Err f)
    (sym
    (same_fault fault other at_fault.before at_fault.word told_at.before told_at.word at_fault.begun told_at.begun at_fault.why told_at.why
    (order at_fault.before at_fault.word at_fault.behind told_at.before told_at.word told_at.behind (sym at_fault.words ∙ told_at.words))))

-- a text with a first fault is refused for it
pub refused_for : (text : List ℕ) (fault : ExprFault) → IsTold text (Err fault) → tree_read text ≡ Err fault
refused_for text fault is = same_told text fault (tree_read text) (fault_at text fault is) (told text)

-- ---- in both directions

pub just_spelling : (text : List ℕ) (inner : Tree) → (tree_read text ≡ Ok inner) ↔ IsSpelling text inner
just_spelling text inner = (spelling_of text inner, spelled_back text inner)

pub just_misfit : (text : List ℕ) (place : ℕ) → (tree_read text ≡ Err (Syntax place)) ↔ IsMisfit text place
just_misfit text place = (misfit_of text place, λ is. refused_for text (Syntax place) is)

pub just_too_deep : (text : List ℕ) → (tree_read text ≡ Err TooDeep) ↔ IsTooDeep text
just_too_deep text = (too_deep_of text, λ is. refused_for text TooDeep is)

pub just_too_wide : (text : List ℕ) → (tree_read text ≡ Err NumberTooWide) ↔ IsTooWide text
just_too_wide text = (too_wide_of text, λ is. refused_for text NumberTooWide is)
