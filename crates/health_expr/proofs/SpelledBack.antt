-- A spelling is read as its tree.
use Rattle.std.proofs.Common.{◌≡◌, ◌≢◌, ◌==◌, ◌<◌, ◌≤◌, ℕ, zero, suc, ◌+◌, ◌-◌, Bool, true, false, nat_lt, cond, List, [], ◌∷◌, ◌++◌, length, Option, Some, None, Result, Ok, Err, arith, rules, subst, sym, refl, ap, ◌∙◌, ℤ}
use Rattle.std.proofs.lemmas.Bool.Decides.{nat_tests}
use Rattle.std.proofs.lemmas.List.{length-append}
use Rattle.std.specs.List.{AllByRecursion}
use denote.Enum.Bare.{sameb, same_true}
use Rattle.fixed_num.specs.declared.units.NumberFault.{NumberFault}
use Rattle.health_expr.specs.contracts.word.Kind.{the_type}
use Rattle.health_expr.specs.declared.fault.ExprFault.TheVariants.{TooDeep}
use Rattle.health_expr.specs.declared.operator.Prefix.{Prefix}
use Rattle.health_expr.specs.declared.operator.Prefix.TheVariants as prefix
use Rattle.health_expr.specs.declared.operator.Operator.{Operator}
use Rattle.health_expr.specs.declared.word.Kind.{Kind}
use Rattle.health_expr.specs.declared.word.Kind.TheVariants.{End, Number, Name, Nan, Infinity, Abs, Open, Close, Question, Colon, Not, Plus, Minus}
use Rattle.health_expr.specs.Grammar.{looseness, operator_of, Outcome, Reader, ◌>>=◌, misfit, number_by, parenthesized, with_prefix, operand_by, operand, if_loose, operator_at, steps, row, chosen_by, expression, whole, tree_read}
use Rattle.health_expr.specs.Spelling.{Spelled, at, placed_in, prefix_of, IsLow, Spells, number, nan, infinity, name, prefixed, enclosed, size, tighter, combined, chosen, IsSpelling}
use Rattle.health_expr.specs.Tree as tree
use Rattle.health_expr.specs.Tree.{Tree}
use Rattle.health_expr.specs.Words.{Placed, end_at, first, after, sees}
use Rattle.health_expr.proofs.Joined.{joined}
use Rattle.health_expr.proofs.GrammarLemmas.{operand_more, expression_more, row_none, row_suc, steps_end, steps_more, choice_alone, choice_more}
use Rattle.health_expr.proofs.Rereads.{looseness_bounds, this_looseness, other_looseness}
use Rattle.health_expr.proofs.Spellings.{IsQuiet, words-append}

-- ---- what stands behind

quiet_less : (j k : ℕ) (rest : List Placed) → j ≤ k → k ≤ 6 → IsQuiet k rest → IsQuiet j rest
quiet_less j k rest less most quiet = record {
  operators = λ operator is. let looser = quiet.operators operator is in omega arith;
  choices = λ seven. absurd (omega arith);
}

quiet_six : (rest : List Placed) → IsQuiet 7 rest → IsQuiet 6 rest
quiet_six rest quiet = record {
  operators = λ operator is. let looser = quiet.operators operator is in omega arith;
  choices = λ seven. absurd (omega arith);
}

none_by : (k loose : ℕ) (rest : List Placed) (o : Option Operator) → k ≤ loose → IsQuiet loose rest → operator_of (first rest).kind ≡ o → None ≡ if_loose k o
none_by k loose rest None less quiet is = refl
none_by k loose rest (Some operator) less quiet is =
    let looser = quiet.operators operator is in
    other_looseness k operator (looseness operator == k) refl (omega arith)

none_at : (k loose : ℕ) (rest : List Placed) → k ≤ loose → IsQuiet loose rest → None ≡ operator_at k rest
unfolding operator_at
none_at k loose rest less quiet = none_by k loose rest (operator_of (first rest).kind) less quiet refl

unseen_by : (a kind : Kind) (b : Bool) → sameb the_type a kind ≡ b → a ≢ kind → false ≡ b
unseen_by a kind true same other = absurd (other (same_true the_type (search rules) _ _ same))
unseen_by a kind false same other = refl

not_seen : (kind : Kind) (rest : List Placed) → (first rest).kind ≢ kind → false ≡ sees kind rest
unfolding sees
not_seen kind rest other = unseen_by (first rest).kind kind (sameb the_type (first rest).kind kind) refl other

-- a word that is no operator
quiet_word : (loose : ℕ) (word : Placed) (rest : List Placed) (kind : Kind) → word.kind ≡ kind → operator_of kind ≡ None → (loose ≡ 7 → kind ≢ Question) → IsQuiet loose (word ∷ rest)
unfolding first
quiet_word loose word rest kind e none other = record {
  operators = λ operator is.
      let clash : None ≡ Some operator = sym none ∙ ap (λ (k : Kind). operator_of k) (sym e) ∙ is in
      absurd (cc);
  choices = λ seven is. other seven (sym e ∙ is);
}

-- an operator, where only tighter ones are looked for
quiet_operator : (loose : ℕ) (word : Placed) (rest : List Placed) (operator : Operator) → operator_of word.kind ≡ Some operator → loose < looseness operator → loose ≤ 6 → IsQuiet loose (word ∷ rest)
unfolding first
quiet_operator loose word rest operator is looser most = record {
  operators = λ other is_other.
      let same : operator ≡ other = let both : Some operator ≡ Some other = sym is ∙ is_other in cc in
      subst (λ (o : Operator). loose < looseness o) same looser;
  choices = λ seven. absurd (omega arith);
}

-- ---- the forms of what is read

record IsOperand (levels : ℕ) (words : List Spelled) (inner : Tree) : Type 0 where
  reads : (n : ℕ) (rest : List Placed) → levels + n ≡ 65 → operand n (placed_in words ++ rest) ≡ Ok (inner, rest)

record IsRow (loose levels : ℕ) (words : List Spelled) (inner : Tree) : Type 0 where
  reads : (n : ℕ) (rest : List Placed) → levels + n ≡ 65 → IsQuiet loose rest → row loose (operand n) (placed_in words ++ rest) ≡ Ok (inner, rest)

-- read as what stands on the left of operators
record Turns (loose n : ℕ) (words : List Spelled) (inner : Tree) (rest : List Placed) : Type 0 where
  count : ℕ
  enough : length rest ≤ count
  is : row (suc loose) (operand n) (placed_in words ++ rest) ≡ steps count (suc loose) (row loose (operand n)) inner rest

record IsLeft (loose levels : ℕ) (words : List Spelled) (inner : Tree) : Type 0 where
  reads : (n : ℕ) (rest : List Placed) → levels + n ≡ 65 → IsQuiet loose rest → Turns loose n words inner rest

record IsWhole (levels : ℕ) (words : List Spelled) (inner : Tree) : Type 0 where
  reads : (n : ℕ) (rest : List Placed) → levels + n ≡ 65 → IsQuiet 7 rest → expression n (placed_in words ++ rest) ≡ Ok (inner, rest)

row_of_operand : (levels : ℕ) (words : List Spelled) (inner : Tree) → IsOperand levels words inner → IsRow 0 levels words inner
row_of_operand levels words inner is = record { reads = λ n rest room quiet. row_none 0 (operand n) (placed_in words ++ rest) refl ∙ is.reads n rest room }

left_of_row : (loose levels : ℕ) (words : List Spelled) (inner : Tree) → IsRow loose levels words inner → IsLeft loose levels words inner
left_of_row loose levels words inner is = record {
  reads = λ n rest room quiet. record {
    count = length rest;
    enough = omega arith;
    is = row_suc loose (operand n) (placed_in words ++ rest)
        ∙ ap (λ (o : Outcome). o >>= λ left behind. steps (length behind) (suc loose) (row loose (operand n)) left behind) (is.reads n rest room quiet);
  };
}

row_of_left : (loose levels : ℕ) (words : List Spelled) (inner : Tree) → suc loose ≤ 6 → IsLeft loose levels words inner → IsRow (suc loose) levels words inner
row_of_left loose levels words inner most is = record {
  reads = λ n rest room quiet.
      let given = is.reads n rest room (quiet_less loose (suc loose) rest (omega arith) most quiet) in
      given.is ∙ steps_end given.count (suc loose) (row loose (operand n)) inner rest (none_at (suc loose) (suc loose) rest (omega arith) quiet);
}

row_up : (more loose levels : ℕ) (words : List Spelled) (inner : Tree) → more + loose ≤ 6 → IsRow loose levels words inner → IsRow (more + loose) levels words inner
row_up zero loose levels words inner most is =
    let same : loose ≡ zero + loose = omega arith in
    subst (λ (k : ℕ). IsRow k levels words inner) same is
row_up (suc more) loose levels words inner most is =
    let same : suc (more + loose) ≡ suc more + loose = omega arith in
    subst (λ (k : ℕ). IsRow k levels words inner) same (row_of_left (more + loose) levels words inner (omega arith) (left_of_row (more + loose) levels words inner (row_up more loose levels words inner (omega arith) is)))

row_at : (loose k levels : ℕ) (words : List Spelled) (inner : Tree) → loose ≤ k → k ≤ 6 → IsRow loose levels words inner → IsRow k levels words inner
row_at loose k levels words inner less most is =
    let same : k - loose + loose ≡ k = omega arith in
    subst (λ (i : ℕ). IsRow i levels words inner) same (row_up (k - loose) loose levels words inner (omega arith) is)

whole_of_row : (levels : ℕ) (words : List Spelled) (inner : Tree) → levels ≤ 64 → IsRow 6 levels words inner → IsWhole levels words inner
whole_of_row levels words inner low is = record {
  reads = λ n rest room quiet.
      expression_more n (placed_in words ++ rest) (omega arith)
      ∙ choice_alone (operand n) (expression (n - 1)) (placed_in words ++ rest) rest inner (is.reads n rest room (quiet_six rest quiet)) (not_seen Question rest (quiet.choices refl));
}

-- what is read of a spelling, in each place where it may stand
record Backs (loose levels : ℕ) (words : List Spelled) (inner : Tree) : Type 0 where
  low : levels ≤ 64
  as_operand : loose ≡ 0 → IsOperand levels words inner
  row_of : (k : ℕ) → loose ≤ k → k ≤ 6 → IsRow k levels words inner
  left_of : (k : ℕ) → loose ≤ suc k → k ≤ 5 → IsLeft k levels words inner
  whole_of : IsWhole levels words inner

of_operand : (levels : ℕ) (words : List Spelled) (inner : Tree) → levels ≤ 64 → IsOperand levels words inner → Backs 0 levels words inner
of_operand levels words inner low is =
    let at_row : (k : ℕ) → k ≤ 6 → IsRow k levels words inner = λ k most. row_at 0 k levels words inner (omega arith) most (row_of_operand levels words inner is) in
    record {
      low = low;
      as_operand = λ zero_is. is;
      row_of = λ k h most. at_row k most;
      left_of = λ k h most. left_of_row k levels words inner (at_row k (omega arith));
      whole_of = whole_of_row levels words inner low (at_row 6 (omega arith));
    }

-- ---- operands

leaf : (levels : ℕ) (word : Placed) (kind : Kind) (inner : Tree) → levels ≤ 64 → word.kind ≡ kind
    → ((m : ℕ) (rest : List Placed) → operand_by m (operand m) (expression m) kind (word ∷ rest) ≡ Ok (inner, rest)) → Backs 0 levels (at word levels ∷ []) inner
unfolding first
leaf levels word kind inner low e is =
    of_operand levels (at word levels ∷ []) inner low (record { reads = λ n rest room. operand_more n (word ∷ rest) kind (omega arith) (sym e) ∙ is (n - 1) rest })

prefix_by : (m : ℕ) (o e : Reader) (kind : Kind) (p : Prefix) (ws : List Placed) → prefix_of kind ≡ Some p → operand_by m o e kind ws ≡ with_prefix p o (after ws)
prefix_by m o e Not p ws is = let same : prefix.Not ≡ p = cc in ap (λ (q : Prefix). with_prefix q o (after ws)) same
prefix_by m o e Minus p ws is = let same : prefix.Minus ≡ p = cc in ap (λ (q : Prefix). with_prefix q o (after ws)) same
prefix_by m o e Plus p ws is = let same : prefix.Plus ≡ p = cc in ap (λ (q : Prefix). with_prefix q o (after ws)) same
prefix_by m o e _ p ws is = cc

prefixed_back : (levels : ℕ) (word : Placed) (p : Prefix) (inner : Tree) (words : List Spelled) → levels ≤ 64 → prefix_of word.kind ≡ Some p → IsOperand (suc levels) words inner
    → IsOperand levels (at word levels ∷ words) (tree.prefixed p inner)
unfolding with_prefix first after
prefixed_back levels word p inner words low is deeper = record {
  reads = λ n rest room.
      let ws : List Placed = word ∷ (placed_in words ++ rest) in
      operand_more n ws word.kind (omega arith) refl
      ∙ prefix_by (n - 1) (operand (n - 1)) (expression (n - 1)) word.kind p ws is
      ∙ ap (λ (o : Outcome). o >>= λ found more. Ok (tree.prefixed p found, more)) (deeper.reads (n - 1) rest (omega arith));
}

close_quiet : (word : Placed) (rest : List Placed) → word.kind ≡ Close → IsQuiet 7 (word ∷ rest)
close_quiet word rest e = quiet_word 7 word rest Close e refl (λ seven is. cc)

in_parentheses : (m levels : ℕ) (open_word close_word : Placed) (inner : Tree) (words : List Spelled) (rest : List Placed) → 0 < m → levels + m ≡ 65 → open_word.kind ≡ Open → close_word.kind ≡ Close → IsWhole levels words inner
    → parenthesized m (expression m) (open_word ∷ (placed_in (words ++ at close_word levels ∷ []) ++ rest)) ≡ Ok (inner, rest)
unfolding parenthesized sees first after
in_parentheses m levels open_word close_word inner words rest some room opens closes is =
    let behind : List Placed = placed_in (words ++ at close_word levels ∷ []) ++ rest in
    let found = is.reads m (close_word ∷ rest) room (close_quiet close_word rest closes) in
    let positive : (m == 0) ≡ false = grind (arith, nat_tests) in
    ap (λ (k : Kind). cond (sameb the_type k Open) (cond (m == 0) (Err TooDeep) (expression m behind >>= λ tree words. cond (sees Close words) (Ok (tree, after words)) (misfit words))) (misfit (open_word ∷ behind))) opens
    ∙ ap (λ (b : Bool). cond b (Err TooDeep) (expression m behind >>= λ tree words. cond (sees Close words) (Ok (tree, after words)) (misfit words))) positive
    ∙ ap (λ (ws : List Placed). expression m ws >>= λ tree words. cond (sees Close words) (Ok (tree, after words)) (misfit words)) (words-append words (at close_word levels ∷ []) rest)
    ∙ ap (λ (o : Outcome). o >>= λ tree words. cond (sees Close words) (Ok (tree, after words)) (misfit words)) found
    ∙ ap (λ (k : Kind). cond (sameb the_type k Close) (Ok (inner, rest)) (misfit (close_word ∷ rest))) closes

enclosed_back : (levels : ℕ) (open_word close_word : Placed) (inner : Tree) (words : List Spelled) → suc levels ≤ 64 → open_word.kind ≡ Open → close_word.kind ≡ Close → IsWhole (suc levels) words inner
    → IsOperand levels (at open_word (suc levels) ∷ (words ++ at close_word (suc levels) ∷ [])) inner
unfolding first
enclosed_back levels open_word close_word inner words low opens closes is = record {
  reads = λ n rest room.
      operand_more n (open_word ∷ (placed_in (words ++ at close_word (suc levels) ∷ []) ++ rest)) Open (omega arith) (sym opens)
      ∙ in_parentheses (n - 1) (suc levels) open_word close_word inner words rest (omega arith) (omega arith) opens closes is;
}

size_back : (levels : ℕ) (word open_word close_word : Placed) (inner : Tree) (words : List Spelled) → suc levels ≤ 64 → word.kind ≡ Abs → open_word.kind ≡ Open → close_word.kind ≡ Close → IsWhole (suc levels) words inner
    → IsOperand levels (at word levels ∷ at open_word (suc levels) ∷ (words ++ at close_word (suc levels) ∷ [])) (tree.prefixed prefix.Abs inner)
unfolding with_prefix first after
size_back levels word open_word close_word inner words low kind opens closes is = record {
  reads = λ n rest room.
      operand_more n (word ∷ open_word ∷ (placed_in (words ++ at close_word (suc levels) ∷ []) ++ rest)) Abs (omega arith) (sym kind)
      ∙ ap (λ (o : Outcome). o >>= λ found more. Ok (tree.prefixed prefix.Abs found, more)) (in_parentheses (n - 1) (suc levels) open_word close_word inner words rest (omega arith) (omega arith) opens closes is);
}

-- ---- operators

module _ (levels : ℕ) (word : Placed) (operator : Operator) (left right : Tree) (one two : List Spelled) (k : ℕ) (is : operator_of word.kind ≡ Some operator) (loose : looseness operator ≡ suc k) (low : levels ≤ 64)
    (on_left : IsLeft k levels one left) (on_right : IsRow k levels two right) where
  here : (rest : List Placed) → Some operator ≡ operator_at (suc k) (word ∷ rest)
  unfolding operator_at first
  here rest = this_looseness (suc k) operator (looseness operator == suc k) refl (sym loose) ∙ ap (λ (o : Option Operator). if_loose (suc k) o) (sym is)

  combined_left : IsLeft k levels (one ++ at word levels ∷ two) (tree.combined operator left right)
  unfolding after
  combined_left = record {
    reads = λ n rest room quiet.
        let bounds = looseness_bounds operator in
        let most = bounds.1 in
        let behind : List Placed = placed_in two ++ rest in
        let given = on_left.reads n (word ∷ behind) room (quiet_operator k word behind operator is (omega arith) (omega arith)) in
        let enough = given.enough in
        let long = length-append (placed_in two) rest in
        record {
          count = given.count - 1;
          enough = omega arith;
          is = ap (λ (ws : List Placed). row (suc k) (operand n) ws) (words-append one (at word levels ∷ two) rest)
              ∙ given.is
              ∙ steps_more given.count (suc k) (row k (operand n)) left operator (word ∷ behind) (omega arith) (here behind)
              ∙ ap (λ (o : Outcome). o >>= λ found. steps (given.count - 1) (suc k) (row k (operand n)) (tree.combined operator left found)) (on_right.reads n rest room quiet);
        };
  }

  combined_row : (j : ℕ) → suc k ≤ j → j ≤ 6 → IsRow j levels (one ++ at word levels ∷ two) (tree.combined operator left right)
  combined_row j h most =
      row_at (suc k) j levels (one ++ at word levels ∷ two) (tree.combined operator left right) h most (row_of_left k levels (one ++ at word levels ∷ two) (tree.combined operator left right) (omega arith) combined_left)

  combined_left_by : (j : ℕ) (b : Bool) → nat_lt k j ≡ b → suc k ≤ suc j → j ≤ 5 → IsLeft j levels (one ++ at word levels ∷ two) (tree.combined operator left right)
  combined_left_by j true e h most = left_of_row j levels (one ++ at word levels ∷ two) (tree.combined operator left right) (combined_row j (grind (arith, nat_tests)) (omega arith))
  combined_left_by j false e h most =
      let least : j ≤ k = grind (arith, nat_tests) in
      let same : k ≡ j = omega arith in
      subst (λ (i : ℕ). IsLeft i levels (one ++ at word levels ∷ two) (tree.combined operator left right)) same combined_left

  combined_back : Backs (suc k) levels (one ++ at word levels ∷ two) (tree.combined operator left right)
  combined_back =
      let bounds = looseness_bounds operator in
      let most = bounds.1 in
      record {
        low = low;
        as_operand = λ zero_is. absurd (omega arith);
        row_of = λ j h below. combined_row j h below;
        left_of = λ j h below. combined_left_by j (nat_lt k j) refl h below;
        whole_of = whole_of_row levels (one ++ at word levels ∷ two) (tree.combined operator left right) low (combined_row 6 (omega arith) (omega arith));
      }

-- ---- choices

module _ (levels : ℕ) (question colon : Placed) (condition if_true if_false : Tree) (one two three : List Spelled) (asks : question.kind ≡ Question) (colons : colon.kind ≡ Colon) (low : levels ≤ 64)
    (on_condition : IsRow 6 levels one condition) (on_first : IsWhole (suc levels) two if_true) (on_second : IsWhole (suc levels) three if_false) where
  chosen_whole : IsWhole levels (one ++ at question levels ∷ (two ++ at colon levels ∷ three)) (tree.chosen condition if_true if_false)
  unfolding chosen_by sees first after
  chosen_whole = record {
    reads = λ n rest room quiet.
        let m : ℕ = n - 1 in
        let last : List Placed = placed_in three ++ rest in
        let middle : List Placed = placed_in (two ++ at colon levels ∷ three) ++ rest in
        let split = words-append one (at question levels ∷ (two ++ at colon levels ∷ three)) rest in
        let middle_split : middle ≡ placed_in two ++ (colon ∷ last) = words-append two (at colon levels ∷ three) rest in
        let asked = on_condition.reads n (question ∷ middle) room (quiet_word 6 question middle Question asks refl (λ seven. absurd (omega arith))) in
        let first_read = on_first.reads m (colon ∷ last) (omega arith) (quiet_word 7 colon last Colon colons refl (λ seven is. cc)) in
        let second_read = on_second.reads m rest (omega arith) quiet in
        ap (λ (ws : List Placed). expression n ws) split
        ∙ expression_more n (placed_in one ++ (question ∷ middle)) (omega arith)
        ∙ choice_more (operand n) (expression m) (placed_in one ++ (question ∷ middle)) (question ∷ middle) condition asked (sym (ap (λ (k : Kind). sameb the_type k Question) asks))
        ∙ ap (λ (ws : List Placed). expression m ws >>= λ found more. cond (sees Colon more) (expression m (after more) >>= λ second after_all. Ok (tree.chosen condition found second, after_all)) (misfit more)) middle_split
        ∙ ap (λ (o : Outcome). o >>= λ found more. cond (sees Colon more) (expression m (after more) >>= λ second after_all. Ok (tree.chosen condition found second, after_all)) (misfit more)) first_read
        ∙ ap (λ (k : Kind). cond (sameb the_type k Colon) (expression m last >>= λ second after_all. Ok (tree.chosen condition if_true second, after_all)) (misfit (colon ∷ last))) colons
        ∙ ap (λ (o : Outcome). o >>= λ second after_all. Ok (tree.chosen condition if_true second, after_all)) second_read;
  }

  chosen_back : Backs 7 levels (one ++ at question levels ∷ (two ++ at colon levels ∷ three)) (tree.chosen condition if_true if_false)
  chosen_back = record {
    low = low;
    as_operand = λ zero_is. absurd (omega arith);
    row_of = λ j h below. absurd (omega arith);
    left_of = λ j h below. absurd (omega arith);
    whole_of = chosen_whole;
  }

-- ---- every spelling

pub low_front : (xs ys : List Spelled) → AllByRecursion IsLow (xs ++ ys) → AllByRecursion IsLow xs
low_front [] ys low = tt
low_front (x ∷ xs) ys low = (low.0, low_front xs ys low.1)

low_back : (xs ys : List Spelled) → AllByRecursion IsLow (xs ++ ys) → AllByRecursion IsLow ys
low_back [] ys low = low
low_back (x ∷ xs) ys low = low_back xs ys low.1

backs : (loose levels : ℕ) (inner : Tree) (words : List Spelled) → Spells loose levels inner words → AllByRecursion IsLow words → Backs loose levels words inner
unfolding first after
backs _ _ _ _ (number levels word units kind read) low =
    leaf levels word Number (tree.number units) low.0 kind (λ m rest. ap (λ (r : Result ℤ NumberFault). number_by r (word ∷ rest)) read)
backs _ _ _ _ (nan levels word kind) low = leaf levels word Nan tree.nan low.0 kind (λ m rest. refl)
backs _ _ _ _ (infinity levels word kind) low = leaf levels word Infinity tree.infinity low.0 kind (λ m rest. refl)
backs _ _ _ _ (name levels word kind) low = leaf levels word Name (tree.name word.said) low.0 kind (λ m rest. refl)
backs _ _ _ _ (prefixed levels word p inner words kind is) low =
    let deeper = backs _ _ _ _ is low.1 in
    of_operand levels (at word levels ∷ words) (tree.prefixed p inner) low.0 (prefixed_back levels word p inner words low.0 kind (deeper.as_operand refl))
backs _ _ _ _ (enclosed levels open_word close_word inner words opens closes is) low =
    let deeper = backs _ _ _ _ is (low_front words (at close_word (suc levels) ∷ []) low.1) in
    let here_low : suc levels ≤ 64 = low.0 in
    of_operand levels (at open_word (suc levels) ∷ (words ++ at close_word (suc levels) ∷ [])) inner (omega arith) (enclosed_back levels open_word close_word inner words here_low opens closes deeper.whole_of)
backs _ _ _ _ (size levels word open_word close_word inner words kind opens closes is) low =
    let deeper = backs _ _ _ _ is (low_front words (at close_word (suc levels) ∷ []) low.1.1) in
    of_operand levels (at word levels ∷ at open_word (suc levels) ∷ (words ++ at close_word (suc levels) ∷ [])) (tree.prefixed prefix.Abs inner) low.0 (size_back levels word open_word close_word inner words low.1.0 kind opens closes deeper.whole_of)
backs _ _ _ _ (tighter loose levels inner words is) low =
    let same = backs _ _ _ _ is low in
    record {
      low = same.low;
      as_operand = λ zero_is. absurd (omega arith);
      row_of = λ k h most. same.row_of k (omega arith) most;
      left_of = λ k h most. same.left_of k (omega arith) most;
      whole_of = same.whole_of;
    }
backs _ _ _ _ (combined loose levels word operator left right one two joins first_is second_is) low =
    let is = joined loose word.kind operator joins in
    let bounds = looseness_bounds operator in
    let some : 1 ≤ loose = omega (arith, bounds.0, is.1) in
    let most : loose ≤ 6 = omega (arith, bounds.1, is.1) in
    let k : ℕ = loose - 1 in
    let next : loose ≡ suc k = omega arith in
    let behind = low_back one (at word levels ∷ two) low in
    let on_left = backs _ _ _ _ first_is (low_front one (at word levels ∷ two) low) in
    let on_right = backs _ _ _ _ second_is behind.1 in
    subst (λ (l : ℕ). Backs l levels (one ++ at word levels ∷ two) (tree.combined operator left right)) (sym next)
    (combined_back levels word operator left right one two k is.0 (is.1 ∙ next) behind.0 (on_left.left_of k (omega arith) (omega arith)) (on_right.row_of k (omega arith) (omega arith)))
backs _ _ _ _ (chosen levels question colon condition if_true if_false one two three asks colons a b c) low =
    let after_colon : List Spelled = at colon levels ∷ three in
    let behind = low_back one (at question levels ∷ (two ++ after_colon)) low in
    let last = low_back two after_colon behind.1 in
    let on_condition = backs _ _ _ _ a (low_front one (at question levels ∷ (two ++ after_colon)) low) in
    let on_first = backs _ _ _ _ b (low_front two after_colon behind.1) in
    let on_second = backs _ _ _ _ c last.1 in
    chosen_back levels question colon condition if_true if_false one two three asks colons behind.0 (on_condition.row_of 6 (omega arith) (omega arith)) on_first.whole_of on_second.whole_of

-- a spelling is read as its tree
pub spelled_back : (text : List ℕ) (inner : Tree) → IsSpelling text inner → tree_read text ≡ Ok inner
unfolding tree_read sees first
spelled_back text inner is =
    let end : Placed = end_at (length text) in
    let given = (backs 7 0 inner is.words is.spells is.low).whole_of.reads 65 (end ∷ []) refl (quiet_word 7 end [] End refl refl (λ seven ended. cc)) in
    ap (λ (words : List Placed). whole (expression 65 words)) is.all ∙ ap (λ (o : Outcome). whole o) given
