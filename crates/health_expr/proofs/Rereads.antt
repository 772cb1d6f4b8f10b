-- The words of a tree are read as that tree.
use Rattle.std.proofs.Common.{◌≡◌, ◌==◌, ◌<◌, ◌≤◌, ℕ, zero, suc, ◌+◌, ◌-◌, max, Bool, true, false, nat_lt, cond, List, [], ◌∷◌, ◌++◌, length, Option, Some, None, Result, Ok, Err, arith, subst, sym, refl, ap, ◌∙◌, ℤ, pos, negsuc, lit≤}
use Rattle.std.proofs.lemmas.Bool.Decides.{nat_tests}
use Rattle.fixed_num.proofs.ReadsBack.{reads_back}
use Rattle.fixed_num.specs.declared.units.NumberFault.{NumberFault}
use Rattle.health_expr.specs.declared.fault.ExprFault.TheVariants.{TooDeep}
use Rattle.health_expr.specs.declared.operator.Prefix.{Prefix}
use Rattle.health_expr.specs.declared.operator.Prefix.TheVariants as prefix
use Rattle.health_expr.specs.declared.operator.Operator.{Operator}
use Rattle.health_expr.specs.declared.operator.Operator.TheVariants as operator
use Rattle.health_expr.specs.declared.word.Kind.TheVariants.{Abs, Open, Close, Question, Colon}
use Rattle.health_expr.specs.Grammar.{looseness, operator_of, Outcome, Reader, ◌>>=◌, misfit, number_by, parenthesized, with_prefix, operand_by, operand, if_loose, operator_at, steps, row, chosen_by, expression}
use Rattle.health_expr.specs.Tree.{Tree, number, nan, infinity, name, prefixed, combined, chosen}
use Rattle.health_expr.specs.Words.{Placed, end_at, first, after, sees}
use Rattle.health_expr.specs.Written.{Lexeme, plain, open_word, close_word, question_word, colon_word, operator_word, number_word, name_word, enclosed, words_in, opened, levels_in, IsLiteral, IsWritable}
use Rattle.health_expr.proofs.GrammarLemmas.{operand_suc, expression_suc, row_none, row_suc, steps_end, steps_more, choice_alone, choice_more}

-- ---- words, one behind the other, and what follows them

-- what stands from a place on
abbrev pub Laid : Type 0
Laid = ℕ → List Placed

abbrev pub laid_word : Lexeme → Laid → Laid
laid_word word next at = record { kind = word.kind; said = word.said; place = suc at } ∷ next (suc at + length word.bytes)

abbrev pub laid : List Lexeme → Laid → Laid
laid [] next at = next at
laid (word ∷ words) next at = laid_word word (laid words next) at

pub laid-append : (xs ys : List Lexeme) (next : Laid) (at : ℕ) → laid (xs ++ ys) next at ≡ laid xs (laid ys next) at
laid-append [] ys next at = refl
laid-append (x ∷ xs) ys next at = ap (λ (rest : List Placed). record { kind = x.kind; said = x.said; place = suc at } ∷ rest) (laid-append xs ys next (suc at + length x.bytes))

-- a tree is read, and what follows is left
pub record Gives (words : List Placed) (outcome : Outcome) (tree : Tree) (next : Laid) : Type 0 where
  pub at : ℕ
  pub shorter : length (next at) ≤ length words
  pub is : outcome ≡ Ok (tree, next at)

-- a tree is read, and what follows is read on with it on the left
pub record GivesLeft (words : List Placed) (outcome : Outcome) (loose : ℕ) (tighter : Reader) (tree : Tree) (next : Laid) : Type 0 where
  pub at : ℕ
  pub count : ℕ
  pub enough : length (next at) ≤ count
  pub shorter : length (next at) ≤ length words
  pub is : outcome ≡ steps count loose tighter tree (next at)

-- no operator of this looseness or a lesser one follows
pub record Quiet (loose : ℕ) (next : Laid) : Type 0 where
  pub none : (k at : ℕ) → k ≤ loose → None ≡ operator_at k (next at)

-- an expression ends
pub record Ends (next : Laid) : Type 0 where
  pub quiet : Quiet 6 next
  pub other : (at : ℕ) → false ≡ sees Question (next at)

-- ---- what follows

loose_zero : (o : Option Operator) → None ≡ if_loose 0 o
loose_zero None = refl
loose_zero (Some operator.Or) = refl
loose_zero (Some operator.And) = refl
loose_zero (Some operator.Equal) = refl
loose_zero (Some operator.NotEqual) = refl
loose_zero (Some operator.Less) = refl
loose_zero (Some operator.AtMost) = refl
loose_zero (Some operator.Greater) = refl
loose_zero (Some operator.AtLeast) = refl
loose_zero (Some operator.Add) = refl
loose_zero (Some operator.Subtract) = refl
loose_zero (Some operator.Multiply) = refl
loose_zero (Some operator.Divide) = refl

at_zero : (k : ℕ) (ws : List Placed) → k ≤ 0 → None ≡ operator_at k ws
unfolding operator_at
at_zero zero ws h = loose_zero (operator_of (first ws).kind)
at_zero (suc k) ws h = absurd (omega arith)

quiet_zero : (next : Laid) → Quiet 0 next
quiet_zero next = record { none = λ k at h. at_zero k (next at) h }

quiet_less : (j k : ℕ) (next : Laid) → j ≤ k → Quiet k next → Quiet j next
quiet_less j k next less quiet = record { none = λ i at h. quiet.none i at (omega arith) }

-- a word that is no operator
pub quiet_word : (loose : ℕ) (word : Lexeme) (next : Laid) → operator_of word.kind ≡ None → Quiet loose (laid_word word next)
unfolding operator_at first
quiet_word loose word next e = record { none = λ k at h. ap (λ (o : Option Operator). if_loose k o) (sym e) }

-- the end is no operator
pub quiet_end : Quiet 6 (λ at. end_at at ∷ [])
unfolding operator_at first
quiet_end = record { none = λ k at h. refl }

operator_is : (op : Operator) → Some op ≡ operator_of (operator_word op).kind
operator_is operator.Or = refl
operator_is operator.And = refl
operator_is operator.Equal = refl
operator_is operator.NotEqual = refl
operator_is operator.Less = refl
operator_is operator.AtMost = refl
operator_is operator.Greater = refl
operator_is operator.AtLeast = refl
operator_is operator.Add = refl
operator_is operator.Subtract = refl
operator_is operator.Multiply = refl
operator_is operator.Divide = refl

pub looseness_bounds : (op : Operator) → (1 ≤ looseness op) × (looseness op ≤ 6)
looseness_bounds operator.Or = (lit≤ tt, lit≤ tt)
looseness_bounds operator.And = (lit≤ tt, lit≤ tt)
looseness_bounds operator.Equal = (lit≤ tt, lit≤ tt)
looseness_bounds operator.NotEqual = (lit≤ tt, lit≤ tt)
looseness_bounds operator.Less = (lit≤ tt, lit≤ tt)
looseness_bounds operator.AtMost = (lit≤ tt, lit≤ tt)
looseness_bounds operator.Greater = (lit≤ tt, lit≤ tt)
looseness_bounds operator.AtLeast = (lit≤ tt, lit≤ tt)
looseness_bounds operator.Add = (lit≤ tt, lit≤ tt)
looseness_bounds operator.Subtract = (lit≤ tt, lit≤ tt)
looseness_bounds operator.Multiply = (lit≤ tt, lit≤ tt)
looseness_bounds operator.Divide = (lit≤ tt, lit≤ tt)

pub other_looseness : (k : ℕ) (op : Operator) (b : Bool) → (looseness op == k) ≡ b → k < looseness op → None ≡ cond b (Some op) None
other_looseness k op true e h = absurd (grind (arith, nat_tests))
other_looseness k op false e h = refl

pub this_looseness : (k : ℕ) (op : Operator) (b : Bool) → (looseness op == k) ≡ b → k ≡ looseness op → Some op ≡ cond b (Some op) None
this_looseness k op true e h = refl
this_looseness k op false e h = absurd (grind (arith, nat_tests))

-- an operator is quiet where only tighter ones are looked for
quiet_operator : (loose : ℕ) (op : Operator) (next : Laid) → loose < looseness op → Quiet loose (laid_word (operator_word op) next)
unfolding operator_at first
quiet_operator loose op next less = record { none = λ k at h. other_looseness k op (looseness op == k) refl (omega arith) ∙ ap (λ (o : Option Operator). if_loose k o) (operator_is op) }

operator_here : (op : Operator) (next : Laid) (at : ℕ) → Some op ≡ operator_at (looseness op) (laid_word (operator_word op) next at)
unfolding operator_at first
operator_here op next at = this_looseness (looseness op) op (looseness op == looseness op) refl refl ∙ ap (λ (o : Option Operator). if_loose (looseness op) o) (operator_is op)

ends_word : (word : Lexeme) (next : Laid) → operator_of word.kind ≡ None → ((at : ℕ) → false ≡ sees Question (laid_word word next at)) → Ends (laid_word word next)
ends_word word next e other = record { quiet = quiet_word 6 word next e; other = other }

-- ---- the forms of what is read, for the words of a tree that opens so many levels

record IsOperand (words : List Lexeme) (levels : ℕ) (tree : Tree) : Type 0 where
  pub reads : (n : ℕ) (next : Laid) (at : ℕ) → levels < n → Gives (laid words next at) (operand n (laid words next at)) tree next

pub record IsRow (loose : ℕ) (words : List Lexeme) (levels : ℕ) (tree : Tree) : Type 0 where
  pub reads : (n : ℕ) (next : Laid) (at : ℕ) → levels < n → Quiet loose next → Gives (laid words next at) (row loose (operand n) (laid words next at)) tree next

pub record IsLeft (tighter : ℕ) (words : List Lexeme) (levels : ℕ) (tree : Tree) : Type 0 where
  pub reads : (n : ℕ) (next : Laid) (at : ℕ) → levels < n → Quiet tighter next
      → GivesLeft (laid words next at) (row (suc tighter) (operand n) (laid words next at)) (suc tighter) (row tighter (operand n)) tree next

pub record IsWhole (words : List Lexeme) (levels : ℕ) (tree : Tree) : Type 0 where
  pub reads : (n : ℕ) (next : Laid) (at : ℕ) → levels < n → Ends next → Gives (laid words next at) (expression n (laid words next at)) tree next

row_of_operand : (words : List Lexeme) (levels : ℕ) (tree : Tree) → IsOperand words levels tree → IsRow 0 words levels tree
row_of_operand words levels tree is = record {
  reads = λ n next at below quiet.
      let given = is.reads n next at below in
      record { at = given.at; shorter = given.shorter; is = row_none 0 (operand n) (laid words next at) refl ∙ given.is };
}

left_of_row : (loose : ℕ) (words : List Lexeme) (levels : ℕ) (tree : Tree) → IsRow loose words levels tree → IsLeft loose words levels tree
left_of_row loose words levels tree is = record {
  reads = λ n next at below quiet.
      let given = is.reads n next at below quiet in
      record {
        at = given.at;
        count = length (next given.at);
        enough = omega arith;
        shorter = given.shorter;
        is = row_suc loose (operand n) (laid words next at) ∙ ap (λ (o : Outcome). o >>= λ left behind. steps (length behind) (suc loose) (row loose (operand n)) left behind) given.is;
      };
}

row_of_left : (loose : ℕ) (words : List Lexeme) (levels : ℕ) (tree : Tree) → IsLeft loose words levels tree → IsRow (suc loose) words levels tree
row_of_left loose words levels tree is = record {
  reads = λ n next at below quiet.
      let given = is.reads n next at below (quiet_less loose (suc loose) next (omega arith) quiet) in
      record {
        at = given.at;
        shorter = given.shorter;
        is = given.is ∙ steps_end given.count (suc loose) (row loose (operand n)) tree (next given.at) (quiet.none (suc loose) given.at (omega arith));
      };
}

row_up : (more loose : ℕ) (words : List Lexeme) (levels : ℕ) (tree : Tree) → IsRow loose words levels tree → IsRow (more + loose) words levels tree
row_up zero loose words levels tree is =
    let same : loose ≡ zero + loose = omega arith in
    subst (λ (k : ℕ). IsRow k words levels tree) same is
row_up (suc more) loose words levels tree is =
    let same : suc (more + loose) ≡ suc more + loose = omega arith in
    subst (λ (k : ℕ). IsRow k words levels tree) same (row_of_left (more + loose) words levels tree (left_of_row (more + loose) words levels tree (row_up more loose words levels tree is)))

row_at : (loose k : ℕ) (words : List Lexeme) (levels : ℕ) (tree : Tree) → loose ≤ k → IsRow loose words levels tree → IsRow k words levels tree
row_at loose k words levels tree less is =
    let same : k - loose + loose ≡ k = omega arith in
    subst (λ (i : ℕ). IsRow i words levels tree) same (row_up (k - loose) loose words levels tree is)

whole_suc : (n : ℕ) (words : List Lexeme) (levels : ℕ) (tree : Tree) (next : Laid) (at : ℕ) → Ends next → Gives (laid words next at) (row 6 (operand (suc n)) (laid words next at)) tree next
    → Gives (laid words next at) (expression (suc n) (laid words next at)) tree next
whole_suc n words levels tree next at ends given = record {
  at = given.at;
  shorter = given.shorter;
  is = expression_suc n (laid words next at) ∙ choice_alone (operand (suc n)) (expression n) (laid words next at) (next given.at) tree given.is (ends.other given.at);
}

whole_at : (n : ℕ) (words : List Lexeme) (levels : ℕ) (tree : Tree) (next : Laid) (at : ℕ) → levels < n → Ends next → IsRow 6 words levels tree → Gives (laid words next at) (expression n (laid words next at)) tree next
whole_at zero words levels tree next at below ends is = absurd (omega arith)
whole_at (suc n) words levels tree next at below ends is = whole_suc n words levels tree next at ends (is.reads (suc n) next at below ends.quiet)

whole_of_row : (words : List Lexeme) (levels : ℕ) (tree : Tree) → IsRow 6 words levels tree → IsWhole words levels tree
whole_of_row words levels tree is = record { reads = λ n next at below ends. whole_at n words levels tree next at below ends is }

-- ---- parentheses

sees_close : (next : Laid) (at : ℕ) → true ≡ sees Close (laid_word close_word next at)
unfolding sees first
sees_close next at = refl

sees_open : (next : Laid) (at : ℕ) → true ≡ sees Open (laid_word open_word next at)
unfolding sees first
sees_open next at = refl

close_ends : (next : Laid) → Ends (laid_word close_word next)
unfolding sees first
close_ends next = ends_word close_word next refl (λ at. refl)

colon_ends : (next : Laid) → Ends (laid_word colon_word next)
unfolding sees first
colon_ends next = ends_word colon_word next refl (λ at. refl)

in_parentheses : (m : ℕ) (words : List Lexeme) (tree : Tree) (next : Laid) (at : ℕ) → 0 < m
    → ((inner : ℕ) → Gives (laid words (laid_word close_word next) inner) (expression m (laid words (laid_word close_word next) inner)) tree (laid_word close_word next))
    → Gives (laid (enclosed true words) next at) (parenthesized m (expression m) (laid (enclosed true words) next at)) tree next
unfolding parenthesized sees first after
in_parentheses m words tree next at some inner =
    let start = suc at + 1 in
    let given = inner start in
    let split : laid (words ++ close_word ∷ []) next start ≡ laid words (laid_word close_word next) start = laid-append words (close_word ∷ []) next start in
    let room : (m == 0) ≡ false = grind (arith, nat_tests) in
    let long = ap length split in
    let shorter = given.shorter in
    record {
      at = suc given.at + 1;
      shorter = omega arith;
      is = ap (λ (b : Bool). cond b (Err TooDeep) (expression m (laid (words ++ close_word ∷ []) next start) >>= λ found rest. cond (sees Close rest) (Ok (found, after rest)) (misfit rest))) room
          ∙ ap (λ (ws : List Placed). expression m ws >>= λ found rest. cond (sees Close rest) (Ok (found, after rest)) (misfit rest)) split
          ∙ ap (λ (o : Outcome). o >>= λ found rest. cond (sees Close rest) (Ok (found, after rest)) (misfit rest)) given.is;
    }

operand_in : (m : ℕ) (words : List Lexeme) (levels : ℕ) (tree : Tree) (next : Laid) (at : ℕ) → levels < m → IsWhole words levels tree
    → Gives (laid (enclosed true words) next at) (parenthesized m (expression m) (laid (enclosed true words) next at)) tree next
operand_in m words levels tree next at below is =
    in_parentheses m words tree next at (omega arith) (λ inner. is.reads m (laid_word close_word next) inner below (close_ends next))

-- ---- operands

operand_enclosed_suc : (m : ℕ) (words : List Lexeme) (levels : ℕ) (tree : Tree) (next : Laid) (at : ℕ) → levels < m → IsWhole words levels tree
    → Gives (laid (enclosed true words) next at) (operand (suc m) (laid (enclosed true words) next at)) tree next
unfolding first
operand_enclosed_suc m words levels tree next at below is =
    let given = operand_in m words levels tree next at below is in
    record { at = given.at; shorter = given.shorter; is = operand_suc m (laid (enclosed true words) next at) Open refl ∙ given.is }

operand_enclosed_at : (n : ℕ) (words : List Lexeme) (levels : ℕ) (tree : Tree) (next : Laid) (at : ℕ) → suc levels < n → IsWhole words levels tree
    → Gives (laid (enclosed true words) next at) (operand n (laid (enclosed true words) next at)) tree next
operand_enclosed_at zero words levels tree next at below is = absurd (omega arith)
operand_enclosed_at (suc m) words levels tree next at below is = operand_enclosed_suc m words levels tree next at (omega arith) is

operand_enclosed : (words : List Lexeme) (levels : ℕ) (tree : Tree) → IsWhole words levels tree → IsOperand (enclosed true words) (suc levels) tree
operand_enclosed words levels tree is = record { reads = λ n next at below. operand_enclosed_at n words levels tree next at below is }

-- a prefix and its operand
prefix_suc : (m : ℕ) (p : Prefix) (word : Lexeme) (words : List Lexeme) (levels : ℕ) (tree : Tree) (next : Laid) (at : ℕ)
    → ((ws : List Placed) → operand_by m (operand m) (expression m) word.kind ws ≡ with_prefix p (operand m) (after ws)) → levels < m → IsRow 0 words levels tree
    → Gives (laid (word ∷ words) next at) (operand (suc m) (laid (word ∷ words) next at)) (prefixed p tree) next
unfolding with_prefix first after
prefix_suc m p word words levels tree next at by below is =
    let start = suc at + length word.bytes in
    let given = is.reads m next start below (quiet_zero next) in
    let shorter = given.shorter in
    record {
      at = given.at;
      shorter = omega arith;
      is = operand_suc m (laid (word ∷ words) next at) word.kind refl
          ∙ by (laid (word ∷ words) next at)
          ∙ ap (λ (o : Outcome). o >>= λ found rest. Ok (prefixed p found, rest)) (sym (row_none 0 (operand m) (laid words next start) refl) ∙ given.is);
    }

prefix_at : (n : ℕ) (p : Prefix) (word : Lexeme) (words : List Lexeme) (levels : ℕ) (tree : Tree) (next : Laid) (at : ℕ)
    → ((m : ℕ) (ws : List Placed) → operand_by m (operand m) (expression m) word.kind ws ≡ with_prefix p (operand m) (after ws)) → suc levels < n → IsRow 0 words levels tree
    → Gives (laid (word ∷ words) next at) (operand n (laid (word ∷ words) next at)) (prefixed p tree) next
prefix_at zero p word words levels tree next at by below is = absurd (omega arith)
prefix_at (suc m) p word words levels tree next at by below is = prefix_suc m p word words levels tree next at (by m) (omega arith) is

with_prefix_operand : (p : Prefix) (word : Lexeme) (words : List Lexeme) (levels : ℕ) (tree : Tree)
    → ((m : ℕ) (ws : List Placed) → operand_by m (operand m) (expression m) word.kind ws ≡ with_prefix p (operand m) (after ws)) → IsRow 0 words levels tree
    → IsOperand (word ∷ words) (suc levels) (prefixed p tree)
with_prefix_operand p word words levels tree by is = record { reads = λ n next at below. prefix_at n p word words levels tree next at by below is }

abs_suc : (m : ℕ) (words : List Lexeme) (levels : ℕ) (tree : Tree) (next : Laid) (at : ℕ) → levels < m → IsWhole words levels tree
    → Gives (laid (plain Abs (97 ∷ 98 ∷ 115 ∷ []) ∷ enclosed true words) next at) (operand (suc m) (laid (plain Abs (97 ∷ 98 ∷ 115 ∷ []) ∷ enclosed true words) next at)) (prefixed prefix.Abs tree) next
unfolding with_prefix first after
abs_suc m words levels tree next at below is =
    let ws = laid (plain Abs (97 ∷ 98 ∷ 115 ∷ []) ∷ enclosed true words) next at in
    let given = operand_in m words levels tree next (suc at + 3) below is in
    let shorter = given.shorter in
    record {
      at = given.at;
      shorter = omega arith;
      is = operand_suc m ws Abs refl ∙ ap (λ (o : Outcome). o >>= λ found rest. Ok (prefixed prefix.Abs found, rest)) given.is;
    }

abs_at : (n : ℕ) (words : List Lexeme) (levels : ℕ) (tree : Tree) (next : Laid) (at : ℕ) → suc levels < n → IsWhole words levels tree
    → Gives (laid (plain Abs (97 ∷ 98 ∷ 115 ∷ []) ∷ enclosed true words) next at) (operand n (laid (plain Abs (97 ∷ 98 ∷ 115 ∷ []) ∷ enclosed true words) next at)) (prefixed prefix.Abs tree) next
abs_at zero words levels tree next at below is = absurd (omega arith)
abs_at (suc m) words levels tree next at below is = abs_suc m words levels tree next at (omega arith) is

abs_operand : (words : List Lexeme) (levels : ℕ) (tree : Tree) → IsWhole words levels tree → IsOperand (plain Abs (97 ∷ 98 ∷ 115 ∷ []) ∷ enclosed true words) (suc levels) (prefixed prefix.Abs tree)
abs_operand words levels tree is = record { reads = λ n next at below. abs_at n words levels tree next at below is }

-- a word that is an operand by itself
leaf_at : (n : ℕ) (word : Lexeme) (tree : Tree) (next : Laid) (at : ℕ) → 0 < n
    → ((m at : ℕ) → operand_by m (operand m) (expression m) word.kind (laid_word word next at) ≡ Ok (tree, next (suc at + length word.bytes)))
    → Gives (laid (word ∷ []) next at) (operand n (laid (word ∷ []) next at)) tree next
unfolding first
leaf_at zero word tree next at some by = absurd (omega arith)
leaf_at (suc m) word tree next at some by = record {
  at = suc at + length word.bytes;
  shorter = omega arith;
  is = operand_suc m (laid_word word next at) word.kind refl ∙ by m at;
}

leaf : (word : Lexeme) (tree : Tree) → ((m at : ℕ) (next : Laid) → operand_by m (operand m) (expression m) word.kind (laid_word word next at) ≡ Ok (tree, next (suc at + length word.bytes)))
    → IsOperand (word ∷ []) 0 tree
leaf word tree by = record { reads = λ n next at below. leaf_at n word tree next at below (λ m at. by m at next) }

number_leaf : (units : ℤ) → IsLiteral units → IsOperand (number_word units ∷ []) 0 (number units)
unfolding first after
number_leaf (pos units) fits =
    leaf (number_word (pos units)) (number (pos units)) (λ m at next. ap (λ (r : Result ℤ NumberFault). number_by r (laid_word (number_word (pos units)) next at)) (reads_back (pos units) fits))
number_leaf (negsuc units) fits = absurd fits

-- ---- what is read of a tree, in each place where it may stand

pub record Rereads (words : ℕ → List Lexeme) (levels : ℕ → ℕ) (tree : Tree) : Type 0 where
  pub row_of : (k : ℕ) → k ≤ 6 → IsRow k (words k) (levels k) tree
  pub left_of : (k : ℕ) → k ≤ 5 → IsLeft k (words (suc k)) (levels (suc k)) tree
  pub whole_of : IsWhole (words 7) (levels 7) tree

of_operand : (words : List Lexeme) (levels : ℕ) (tree : Tree) → IsOperand words levels tree → Rereads (λ k. words) (λ k. levels) tree
of_operand words levels tree is =
    let at_row : (k : ℕ) → IsRow k words levels tree = λ k. row_at 0 k words levels tree (omega arith) (row_of_operand words levels tree is) in
    record {
      row_of = λ k h. at_row k;
      left_of = λ k h. left_of_row k words levels tree (at_row k);
      whole_of = whole_of_row words levels tree (at_row 6);
    }

module _ (q : ℕ) (bare : List Lexeme) (levels : ℕ) (tree : Tree) (most : q ≤ 7)
    (rows : (k : ℕ) → q ≤ k → k ≤ 6 → IsRow k bare levels tree) (lefts : (k : ℕ) → q ≤ suc k → k ≤ 5 → IsLeft k bare levels tree) (whole : IsWhole bare levels tree) where
  closed_row : (k : ℕ) → IsRow k (enclosed true bare) (suc levels) tree
  closed_row k = row_at 0 k (enclosed true bare) (suc levels) tree (omega arith) (row_of_operand (enclosed true bare) (suc levels) tree (operand_enclosed bare levels tree whole))

  row_by : (k : ℕ) (b : Bool) → k ≤ 6 → nat_lt k q ≡ b → IsRow k (enclosed b bare) (opened b levels) tree
  row_by k true h e = closed_row k
  row_by k false h e = rows k (grind (arith, nat_tests)) h

  left_by : (k : ℕ) (b : Bool) → k ≤ 5 → nat_lt (suc k) q ≡ b → IsLeft k (enclosed b bare) (opened b levels) tree
  left_by k true h e = left_of_row k (enclosed true bare) (suc levels) tree (closed_row k)
  left_by k false h e = lefts k (grind (arith, nat_tests)) h

  whole_by : (b : Bool) → nat_lt 7 q ≡ b → IsWhole (enclosed b bare) (opened b levels) tree
  whole_by true e = absurd (grind (arith, nat_tests))
  whole_by false e = whole

  of_bare : Rereads (λ k. enclosed (nat_lt k q) bare) (λ k. opened (nat_lt k q) levels) tree
  of_bare = record {
    row_of = λ k h. row_by k (nat_lt k q) h refl;
    left_of = λ k h. left_by k (nat_lt (suc k) q) h refl;
    whole_of = whole_by (nat_lt 7 q) refl;
  }

-- ---- operators

module _ (op : Operator) (left right : Tree) (lw rw' : List Lexeme) (ll rl : ℕ)
    (l : IsLeft (looseness op - 1) lw ll left) (r : IsRow (looseness op - 1) rw' rl right) where
  combined_reads : (n : ℕ) (next : Laid) (at : ℕ) → max ll rl < n → Quiet (looseness op - 1) next
      → GivesLeft (laid (lw ++ operator_word op ∷ rw') next at) (row (suc (looseness op - 1)) (operand n) (laid (lw ++ operator_word op ∷ rw') next at)) (suc (looseness op - 1)) (row (looseness op - 1) (operand n)) (combined op left right) next
  unfolding after
  combined_reads n next at below quiet =
      let tight = looseness op - 1 in
      let bounds = looseness_bounds op in
      let some = bounds.0 in
      let same : looseness op ≡ suc tight = omega arith in
      let middle : Laid = laid_word (operator_word op) (laid rw' next) in
      let split : laid (lw ++ operator_word op ∷ rw') next at ≡ laid lw middle at = laid-append lw (operator_word op ∷ rw') next at in
      let first_given = l.reads n middle at (omega arith) (quiet_operator tight op (laid rw' next) (omega arith)) in
      let start = suc first_given.at + length (operator_word op).bytes in
      let second_given = r.reads n next start (omega arith) quiet in
      let here : Some op ≡ operator_at (suc tight) (middle first_given.at) = subst (λ (k : ℕ). Some op ≡ operator_at k (middle first_given.at)) same (operator_here op (laid rw' next) first_given.at) in
      let enough = first_given.enough in
      let shorter = first_given.shorter in
      let behind = second_given.shorter in
      let long = ap length split in
      record {
        at = second_given.at;
        count = first_given.count - 1;
        enough = omega arith;
        shorter = omega arith;
        is = ap (λ (ws : List Placed). row (suc tight) (operand n) ws) split
            ∙ first_given.is
            ∙ steps_more first_given.count (suc tight) (row tight (operand n)) left op (middle first_given.at) (omega arith) here
            ∙ ap (λ (o : Outcome). o >>= λ found. steps (first_given.count - 1) (suc tight) (row tight (operand n)) (combined op left found)) second_given.is;
      }

  combined_left : IsLeft (looseness op - 1) (lw ++ operator_word op ∷ rw') (max ll rl) (combined op left right)
  combined_left = record { reads = combined_reads }

  combined_row : (k : ℕ) → looseness op ≤ k → IsRow k (lw ++ operator_word op ∷ rw') (max ll rl) (combined op left right)
  combined_row k h =
      let bounds = looseness_bounds op in
      let some = bounds.0 in
      row_at (suc (looseness op - 1)) k (lw ++ operator_word op ∷ rw') (max ll rl) (combined op left right) (omega arith) (row_of_left (looseness op - 1) (lw ++ operator_word op ∷ rw') (max ll rl) (combined op left right) combined_left)

  combined_left_by : (k : ℕ) (b : Bool) → nat_lt k (looseness op) ≡ b → looseness op ≤ suc k → IsLeft k (lw ++ operator_word op ∷ rw') (max ll rl) (combined op left right)
  combined_left_by k true e h =
      let below : k < looseness op = grind (arith, nat_tests) in
      let same : looseness op - 1 ≡ k = omega arith in
      subst (λ (i : ℕ). IsLeft i (lw ++ operator_word op ∷ rw') (max ll rl) (combined op left right)) same combined_left
  combined_left_by k false e h = left_of_row k (lw ++ operator_word op ∷ rw') (max ll rl) (combined op left right) (combined_row k (grind (arith, nat_tests)))

  combined_rereads : Rereads (λ k. enclosed (nat_lt k (looseness op)) (lw ++ operator_word op ∷ rw')) (λ k. opened (nat_lt k (looseness op)) (max ll rl)) (combined op left right)
  combined_rereads =
      let bounds = looseness_bounds op in
      let most = bounds.1 in
      of_bare (looseness op) (lw ++ operator_word op ∷ rw') (max ll rl) (combined op left right) (omega arith)
      (λ k h less. combined_row k h)
      (λ k h less. combined_left_by k (nat_lt k (looseness op)) refl h)
      (whole_of_row (lw ++ operator_word op ∷ rw') (max ll rl) (combined op left right) (combined_row 6 (omega arith)))

-- ---- choices

module _ (c a b : Tree) (cw aw bw : List Lexeme) (cl al bl : ℕ) (condition : IsRow 6 cw cl c) (one : IsWhole aw al a) (two : IsWhole bw bl b) where
  chosen_reads : (m : ℕ) (next : Laid) (at : ℕ) → max cl (suc (max al bl)) < suc m → Ends next
      → Gives (laid (cw ++ question_word ∷ (aw ++ colon_word ∷ bw)) next at) (expression (suc m) (laid (cw ++ question_word ∷ (aw ++ colon_word ∷ bw)) next at)) (chosen c a b) next
  unfolding chosen_by sees first after
  chosen_reads m next at below ends =
      let colon : Laid = laid_word colon_word (laid bw next) in
      let question : Laid = laid_word question_word (laid (aw ++ colon_word ∷ bw) next) in
      let split : laid (cw ++ question_word ∷ (aw ++ colon_word ∷ bw)) next at ≡ laid cw question at = laid-append cw (question_word ∷ (aw ++ colon_word ∷ bw)) next at in
      let c_given = condition.reads (suc m) question at (omega arith) (quiet_word 6 question_word (laid (aw ++ colon_word ∷ bw) next) refl) in
      let a_start = suc c_given.at + 1 in
      let a_split : laid (aw ++ colon_word ∷ bw) next a_start ≡ laid aw colon a_start = laid-append aw (colon_word ∷ bw) next a_start in
      let a_given = one.reads m colon a_start (omega arith) (colon_ends (laid bw next)) in
      let b_start = suc a_given.at + 1 in
      let b_given = two.reads m next b_start (omega arith) ends in
      let c_shorter = c_given.shorter in
      let a_shorter = a_given.shorter in
      let b_shorter = b_given.shorter in
      let long = ap length split in
      let a_long = ap length a_split in
      record {
        at = b_given.at;
        shorter = omega arith;
        is = ap (λ (ws : List Placed). expression (suc m) ws) split
            ∙ expression_suc m (laid cw question at)
            ∙ choice_more (operand (suc m)) (expression m) (laid cw question at) (question c_given.at) c c_given.is refl
            ∙ ap (λ (ws : List Placed). expression m ws >>= λ found rest. cond (sees Colon rest) (expression m (after rest) >>= λ last more. Ok (chosen c found last, more)) (misfit rest)) a_split
            ∙ ap (λ (o : Outcome). o >>= λ found rest. cond (sees Colon rest) (expression m (after rest) >>= λ last more. Ok (chosen c found last, more)) (misfit rest)) a_given.is
            ∙ ap (λ (o : Outcome). o >>= λ last more. Ok (chosen c a last, more)) b_given.is;
      }

  chosen_at : (n : ℕ) (next : Laid) (at : ℕ) → max cl (suc (max al bl)) < n → Ends next
      → Gives (laid (cw ++ question_word ∷ (aw ++ colon_word ∷ bw)) next at) (expression n (laid (cw ++ question_word ∷ (aw ++ colon_word ∷ bw)) next at)) (chosen c a b) next
  chosen_at zero next at below ends = absurd (omega arith)
  chosen_at (suc m) next at below ends = chosen_reads m next at below ends

  chosen_rereads : Rereads (λ k. enclosed (nat_lt k 7) (cw ++ question_word ∷ (aw ++ colon_word ∷ bw))) (λ k. opened (nat_lt k 7) (max cl (suc (max al bl)))) (chosen c a b)
  chosen_rereads =
      of_bare 7 (cw ++ question_word ∷ (aw ++ colon_word ∷ bw)) (max cl (suc (max al bl))) (chosen c a b) (omega arith)
      (λ k h less. absurd (omega arith))
      (λ k h less. absurd (omega arith))
      (record { reads = chosen_at })

-- ---- every tree

pub rereads : (tree : Tree) → IsWritable tree → Rereads (λ k. words_in k tree) (λ k. levels_in k tree) tree
unfolding first after
rereads (number units) fits = of_operand (number_word units ∷ []) 0 (number units) (number_leaf units fits)
rereads nan fits = of_operand _ 0 nan (leaf _ nan (λ m at next. refl))
rereads infinity fits = of_operand _ 0 infinity (leaf _ infinity (λ m at next. refl))
rereads (name text) fits = of_operand (name_word text ∷ []) 0 (name text) (leaf (name_word text) (name text) (λ m at next. refl))
rereads (prefixed prefix.Not operand) fits =
    of_operand _ _ (prefixed prefix.Not operand) (with_prefix_operand prefix.Not _ (words_in 0 operand) (levels_in 0 operand) operand (λ m ws. refl) ((rereads operand fits).row_of 0 (omega arith)))
rereads (prefixed prefix.Minus operand) fits =
    of_operand _ _ (prefixed prefix.Minus operand) (with_prefix_operand prefix.Minus _ (words_in 0 operand) (levels_in 0 operand) operand (λ m ws. refl) ((rereads operand fits).row_of 0 (omega arith)))
rereads (prefixed prefix.Plus operand) fits =
    of_operand _ _ (prefixed prefix.Plus operand) (with_prefix_operand prefix.Plus _ (words_in 0 operand) (levels_in 0 operand) operand (λ m ws. refl) ((rereads operand fits).row_of 0 (omega arith)))
rereads (prefixed prefix.Abs operand) fits =
    of_operand _ _ (prefixed prefix.Abs operand) (abs_operand (words_in 7 operand) (levels_in 7 operand) operand (rereads operand fits).whole_of)
rereads (combined op left right) fits =
    let bounds = looseness_bounds op in
    let some = bounds.0 in
    let most = bounds.1 in
    let same : suc (looseness op - 1) ≡ looseness op = omega arith in
    combined_rereads op left right (words_in (looseness op) left) (words_in (looseness op - 1) right) (levels_in (looseness op) left) (levels_in (looseness op - 1) right)
    (subst (λ (k : ℕ). IsLeft (looseness op - 1) (words_in k left) (levels_in k left) left) same ((rereads left fits.0).left_of (looseness op - 1) (omega arith)))
    ((rereads right fits.1).row_of (looseness op - 1) (omega arith))
rereads (chosen c a b) fits =
    chosen_rereads c a b (words_in 6 c) (words_in 7 a) (words_in 7 b) (levels_in 6 c) (levels_in 7 a) (levels_in 7 b)
    ((rereads c fits.0).row_of 6 (omega arith)) (rereads a fits.1).whole_of (rereads b fits.2).whole_of
