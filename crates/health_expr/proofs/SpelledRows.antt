-- Rows of operators, choices, and expressions of every depth: what is read is a spelling, and what is
-- refused begins none.
use Rattle.std.proofs.Common.{◌≡◌, ◌≢◌, ◌==◌, ◌<◌, ◌≤◌, ℕ, zero, suc, ◌+◌, ◌-◌, Bool, true, false, cond, List, [], ◌∷◌, ◌++◌, length, Option, Some, None, Ok, Err, arith, subst, sym, refl, ap, ◌∙◌, append_assoc, append-nil}
use Rattle.std.proofs.lemmas.Bool.Decides.{nat_tests}
use Rattle.std.proofs.lemmas.List.{length-append}
use Rattle.std.specs.List.{AllByRecursion}
use Rattle.health_expr.specs.declared.fault.ExprFault.{ExprFault}
use Rattle.health_expr.specs.declared.fault.ExprFault.TheVariants.{Syntax, TooDeep}
use Rattle.health_expr.specs.declared.operator.Operator.{Operator}
use Rattle.health_expr.specs.declared.word.Kind.{Kind}
use Rattle.health_expr.specs.declared.word.Kind.TheVariants.{End, Question, Colon}
use Rattle.health_expr.specs.Grammar.{looseness, operator_of, begins_operand, Outcome, Reader, ◌>>=◌, misfit, behind, blocked, operand, if_loose, operator_at, step, steps, row, chosen_by, choice, expression}
use Rattle.health_expr.specs.Spelling as spell
use Rattle.health_expr.specs.Spelling.{Spelled, at, placed_in, Spells, IsLow}
use Rattle.health_expr.specs.Tree as tree
use Rattle.health_expr.specs.Tree.{Tree}
use Rattle.health_expr.specs.Words.{Placed, first, after, sees}
use Rattle.health_expr.proofs.Joined.{joins}
use Rattle.health_expr.proofs.Course as go
use Rattle.health_expr.proofs.Course.{Frame, State, course, kinds_of, kinds-append, spells-course}
use Rattle.health_expr.proofs.GrammarLemmas.{expression_suc}
use Rattle.health_expr.proofs.Rereads.{looseness_bounds}
use Rattle.health_expr.proofs.Spellings.{ahead, seen, unseen, Starts, IsQuiet, Reading, Stops, Sound, low-append, words-append, stops_behind, starts_seven, starts_combined, starts_second, starts_third, starts_read, blocked_sound, sound_up, mark_choice, stuck_behind_expression, operand_sound}

-- ---- the next operator

here_by : (loose : ℕ) (other operator : Operator) (b : Bool) → (looseness other == loose) ≡ b → Some operator ≡ cond b (Some other) None → (Some other ≡ Some operator) × (looseness operator ≡ loose)
here_by loose other operator true e is =
    let same : operator ≡ other = cc in
    let loose_is : looseness other ≡ loose = grind (arith, nat_tests) in
    (sym is, ap looseness same ∙ loose_is)
here_by loose other operator false e is = cc

-- the operator of a looseness
here : (loose : ℕ) (o : Option Operator) (operator : Operator) → Some operator ≡ if_loose loose o → (o ≡ Some operator) × (looseness operator ≡ loose)
here loose None operator e = cc
here loose (Some other) operator e = here_by loose other operator (looseness other == loose) refl e

not_here_by : (loose : ℕ) (operator : Operator) (b : Bool) → (looseness operator == loose) ≡ b → None ≡ cond b (Some operator) None → looseness operator ≢ loose
not_here_by loose operator true e is = cc
not_here_by loose operator false e is = λ same. grind (arith, nat_tests)

not_here : (loose : ℕ) (o : Option Operator) (operator : Operator) → o ≡ Some operator → None ≡ if_loose loose o → looseness operator ≢ loose
not_here loose o operator e is = not_here_by loose operator (looseness operator == loose) refl (is ∙ ap (λ (p : Option Operator). if_loose loose p) e)

operator_seen : (loose : ℕ) (ws : List Placed) (operator : Operator) → Some operator ≡ operator_at loose ws → (operator_of (first ws).kind ≡ Some operator) × (looseness operator ≡ loose)
unfolding operator_at
operator_seen loose ws operator e = here loose (operator_of (first ws).kind) operator e

quiet_more : (loose : ℕ) (ws : List Placed) → suc loose ≤ 6 → IsQuiet loose ws → None ≡ operator_at (suc loose) ws → IsQuiet (suc loose) ws
unfolding operator_at
quiet_more loose ws most quiet none = record {
  operators = λ operator is.
      let looser = quiet.operators operator is in
      let other = not_here (suc loose) (operator_of (first ws).kind) operator is none in
      omega arith;
  choices = λ seven. absurd (omega arith);
}

not_end : (ws : List Placed) (operator : Operator) → operator_of (first ws).kind ≡ Some operator → (first ws).kind ≢ End
not_end ws operator is ended =
    let clash : operator_of End ≡ Some operator = ap (λ (k : Kind). operator_of k) (sym ended) ∙ is in
    cc

combine : (n levels : ℕ) (word : Placed) (operator : Operator) (left right : Tree) (one two : List Spelled) → operator_of word.kind ≡ Some operator → looseness operator ≡ suc n
    → Spells (suc n) levels left one → Spells n levels right two → Spells (suc n) levels (tree.combined operator left right) (one ++ at word levels ∷ two)
combine n levels word operator left right one two is loose first_is second_is =
    let less : n ≡ looseness operator - 1 = omega arith in
    subst (λ (l : ℕ). Spells l levels (tree.combined operator left right) (one ++ at word levels ∷ two)) loose
    (spell.combined (looseness operator) levels word operator left right one two (joins word.kind operator is) (subst (λ (l : ℕ). Spells l levels left one) (sym loose) first_is) (subst (λ (l : ℕ). Spells l levels right two) less second_is))

starts_combine : (n levels : ℕ) (word : Placed) (operator : Operator) (left : Tree) (one front : List Spelled) → operator_of word.kind ≡ Some operator → looseness operator ≡ suc n
    → Spells (suc n) levels left one → Starts n levels front → Starts (suc n) levels ((one ++ at word levels ∷ []) ++ front)
starts_combine n levels word operator left one front is loose first_is starts =
    let less : n ≡ looseness operator - 1 = omega arith in
    subst (λ (l : ℕ). Starts l levels ((one ++ at word levels ∷ []) ++ front)) loose
    (starts_combined levels word operator left one front is (subst (λ (l : ℕ). Spells l levels left one) (sym loose) first_is) (subst (λ (l : ℕ). Starts l levels front) less starts))

-- words, and one more word behind them
words_push : (used : List Spelled) (levels : ℕ) (ws : List Placed) → (first ws).kind ≢ End → placed_in used ++ ws ≡ placed_in (used ++ at (first ws) levels ∷ []) ++ after ws
words_push used levels ws some = ap (λ (rest : List Placed). placed_in used ++ rest) (ahead ws some) ∙ sym (words-append used (at (first ws) levels ∷ []) (after ws))

-- ---- rows

-- what was read on the left of the words ahead
record Left (loose levels : ℕ) (all ws : List Placed) (left : Tree) : Type 0 where
  used : List Spelled
  spells : Spells (suc loose) levels left used
  low : AllByRecursion IsLow used
  words_are : all ≡ placed_in used ++ ws
  quiet : IsQuiet loose ws

module _ (levels : ℕ) (low_here : levels ≤ 64) (k : ℕ) (most : suc k ≤ 6) (tight : Reader) (tights : (ws : List Placed) → Sound k levels ws (tight ws)) (all : List Placed) where
  -- one operator more
  turn_outcome : (count : ℕ) (left : Tree) (operator : Operator) (ws : List Placed) (o : Outcome)
      → ((more : Tree) (rest : List Placed) → length rest ≤ count → Left k levels all rest more → Sound (suc k) levels all (steps count (suc k) tight more rest))
      → operator_of (first ws).kind ≡ Some operator → looseness operator ≡ suc k → length ws ≤ suc count → Left k levels all ws left → Sound k levels (after ws) o
      → Sound (suc k) levels all (o >>= λ right. steps count (suc k) tight (tree.combined operator left right))
  turn_outcome count left operator ws (Ok read) more is loose enough so_far reading =
      let word : Spelled = at (first ws) levels in
      let some = not_end ws operator is in
      let long = ap length (ahead ws some) in
      let behind_long = ap length reading.words_are in
      let both = length-append (placed_in reading.used) read.1 in
      more (tree.combined operator left read.0) read.1 (omega arith) (record {
        used = so_far.used ++ word ∷ reading.used;
        spells = combine k levels (first ws) operator left read.0 so_far.used reading.used is loose so_far.spells reading.spells;
        low = low-append so_far.used (word ∷ reading.used) so_far.low (low_here, reading.low);
        words_are = so_far.words_are
            ∙ ap (λ (rest : List Placed). placed_in so_far.used ++ rest) (ahead ws some ∙ ap (λ (rest : List Placed). first ws ∷ rest) reading.words_are)
            ∙ sym (words-append so_far.used (word ∷ reading.used) read.1);
        quiet = reading.quiet;
      })
  turn_outcome count left operator ws (Err fault) more is loose enough so_far stops =
      let word : Spelled = at (first ws) levels in
      stops_behind fault k levels (suc k) levels (so_far.used ++ word ∷ []) (after ws) all
      (low-append so_far.used (word ∷ []) so_far.low (low_here, tt))
      (λ front starts. starts_combine k levels (first ws) operator left so_far.used front is loose so_far.spells starts)
      (λ around. (
        around,
        λ ks. ap (λ (kinds : List Kind). course kinds (go.operand around)) (kinds-append so_far.used (word ∷ []) ks)
            ∙ spells-course (suc k) levels left so_far.used so_far.spells ((first ws).kind ∷ ks) around
            ∙ ap (λ (o : Option Operator). go.on (go.on_operated around (first ws).kind o) (course ks)) is,
      ))
      (so_far.words_are ∙ words_push so_far.used levels ws (not_end ws operator is)) stops

  step_outcome : (count : ℕ) (left : Tree) (ws : List Placed) (o : Option Operator)
      → ((more : Tree) (rest : List Placed) → length rest ≤ count → Left k levels all rest more → Sound (suc k) levels all (steps count (suc k) tight more rest))
      → o ≡ operator_at (suc k) ws → length ws ≤ suc count → Left k levels all ws left → Sound (suc k) levels all (step (steps count (suc k) tight) tight left o ws)
  step_outcome count left ws None more e enough so_far = record {
    used = so_far.used;
    spells = so_far.spells;
    low = so_far.low;
    words_are = so_far.words_are;
    quiet = quiet_more k ws most so_far.quiet e;
  }
  step_outcome count left ws (Some operator) more e enough so_far =
      let is = operator_seen (suc k) ws operator e in
      turn_outcome count left operator ws (tight (after ws)) more is.0 is.1 enough so_far (tights (after ws))

  nothing_left : (ws : List Placed) → length ws ≤ 0 → None ≡ operator_at (suc k) ws
  unfolding operator_at first
  nothing_left [] none = refl
  nothing_left (w ∷ ws) none = absurd (omega arith)

  steps_sound : (count : ℕ) (left : Tree) (ws : List Placed) → length ws ≤ count → Left k levels all ws left → Sound (suc k) levels all (steps count (suc k) tight left ws)
  unfolding steps
  steps_sound zero left ws enough so_far = record {
    used = so_far.used;
    spells = so_far.spells;
    low = so_far.low;
    words_are = so_far.words_are;
    quiet = quiet_more k ws most so_far.quiet (nothing_left ws enough);
  }
  steps_sound (suc count) left ws enough so_far = step_outcome count left ws (operator_at (suc k) ws) (λ more rest fits left_of. steps_sound count more rest fits left_of) refl enough so_far

module _ (levels : ℕ) (low_here : levels ≤ 64) (o : Reader) (operands : (ws : List Placed) → Sound 0 levels ws (o ws)) where
  row_outcome : (k : ℕ) (ws : List Placed) (found : Outcome) → suc k ≤ 6 → ((rest : List Placed) → Sound k levels rest (row k o rest)) → Sound k levels ws found
      → Sound (suc k) levels ws (found >>= λ left rest. steps (length rest) (suc k) (row k o) left rest)
  row_outcome k ws (Ok read) most tights reading =
      steps_sound levels low_here k most (row k o) tights ws (length read.1) read.0 read.1 (omega arith) (record {
        used = reading.used;
        spells = spell.tighter k levels read.0 reading.used reading.spells;
        low = reading.low;
        words_are = reading.words_are;
        quiet = reading.quiet;
      })
  row_outcome k ws (Err fault) most tights stops = sound_up k levels ws fault stops

  row_sound : (k : ℕ) → k ≤ 6 → (ws : List Placed) → Sound k levels ws (row k o ws)
  unfolding row
  row_sound zero most ws = operands ws
  row_sound (suc k) most ws = row_outcome k ws (row k o ws) most (row_sound k (omega arith)) (row_sound k (omega arith) ws)

-- ---- choices

module _ (levels : ℕ) (low_here : levels ≤ 64) (e : Reader) (expressions : (ws : List Placed) → Sound 7 (suc levels) ws (e ws)) (all : List Placed)
    (condition : Tree × List Placed) (asked : Reading 6 levels all condition.0 condition.1) (asks : (first condition.1).kind ≡ Question) where
  question : Spelled
  question = at (first condition.1) levels

  question_some : (first condition.1).kind ≢ End
  question_some ended =
      let clash : Question ≡ End = sym asks ∙ ended in
      cc

  asked_words : all ≡ placed_in (asked.used ++ question ∷ []) ++ after condition.1
  unfolding question
  asked_words = asked.words_are ∙ words_push asked.used levels condition.1 question_some

  asked_low : AllByRecursion IsLow (asked.used ++ question ∷ [])
  unfolding question
  asked_low = low-append asked.used (question ∷ []) asked.low (low_here, tt)

  asked_course : (around : List Frame) (ks : List Kind) → course (kinds_of (asked.used ++ question ∷ []) ++ ks) (go.operand around) ≡ course ks (go.operand (go.choice ∷ around))
  unfolding question
  asked_course around ks =
      ap (λ (kinds : List Kind). course kinds (go.operand around)) (kinds-append asked.used (question ∷ []) ks)
      ∙ spells-course 6 levels condition.0 asked.used asked.spells ((first condition.1).kind ∷ ks) around
      ∙ ap (λ (k : Kind). course (k ∷ ks) (go.operated around)) asks

  module _ (if_true : Tree × List Placed) (first_read : Reading 7 (suc levels) (after condition.1) if_true.0 if_true.1) where
    module _ (colons : (first if_true.1).kind ≡ Colon) where
      colon : Spelled
      colon = at (first if_true.1) levels

      before_no : List Spelled
      before_no = asked.used ++ question ∷ (first_read.used ++ colon ∷ [])

      colon_some : (first if_true.1).kind ≢ End
      colon_some ended =
          let clash : Colon ≡ End = sym colons ∙ ended in
          cc

      before_is : (asked.used ++ question ∷ []) ++ (first_read.used ++ colon ∷ []) ≡ before_no
      unfolding before_no
      before_is = append_assoc asked.used (question ∷ []) (first_read.used ++ colon ∷ [])

      no_words : all ≡ placed_in before_no ++ after if_true.1
      unfolding colon
      no_words =
          asked_words
          ∙ ap (λ (rest : List Placed). placed_in (asked.used ++ question ∷ []) ++ rest) (first_read.words_are ∙ words_push first_read.used levels if_true.1 colon_some)
          ∙ sym (words-append (asked.used ++ question ∷ []) (first_read.used ++ colon ∷ []) (after if_true.1))
          ∙ ap (λ (ss : List Spelled). placed_in ss ++ after if_true.1) before_is

      no_low : AllByRecursion IsLow before_no
      unfolding colon
      no_low = subst (λ (ss : List Spelled). AllByRecursion IsLow ss) before_is
          (low-append (asked.used ++ question ∷ []) (first_read.used ++ colon ∷ []) asked_low (low-append first_read.used (colon ∷ []) first_read.low (low_here, tt)))

      no_course : (around : List Frame) (ks : List Kind) → course (kinds_of before_no ++ ks) (go.operand around) ≡ course ks (go.operand around)
      unfolding colon
      no_course around ks =
          ap (λ (ss : List Spelled). course (kinds_of ss ++ ks) (go.operand around)) (sym before_is)
          ∙ ap (λ (kinds : List Kind). course kinds (go.operand around)) (kinds-append (asked.used ++ question ∷ []) (first_read.used ++ colon ∷ []) ks)
          ∙ asked_course around (kinds_of (first_read.used ++ colon ∷ []) ++ ks)
          ∙ ap (λ (kinds : List Kind). course kinds (go.operand (go.choice ∷ around))) (kinds-append first_read.used (colon ∷ []) ks)
          ∙ spells-course 7 (suc levels) if_true.0 first_read.used first_read.spells ((first if_true.1).kind ∷ ks) (go.choice ∷ around)
          ∙ ap (λ (k : Kind). course (k ∷ ks) (go.operated (go.choice ∷ around))) colons

      no_outcome : (o : Outcome) → Sound 7 (suc levels) (after if_true.1) o → Sound 7 levels all (o >>= λ second rest. Ok (tree.chosen condition.0 if_true.0 second, rest))
      unfolding colon question before_no
      no_outcome (Ok read) reading =
          let whole : List Spelled = asked.used ++ question ∷ (first_read.used ++ colon ∷ reading.used) in
          let split : before_no ++ reading.used ≡ whole =
          append_assoc asked.used (question ∷ (first_read.used ++ colon ∷ [])) reading.used
          ∙ ap (λ (ss : List Spelled). asked.used ++ question ∷ ss) (append_assoc first_read.used (colon ∷ []) reading.used) in
          record {
            used = whole;
            spells = spell.chosen levels (first condition.1) (first if_true.1) condition.0 if_true.0 read.0 asked.used first_read.used reading.used asks colons asked.spells first_read.spells reading.spells;
            low = subst (λ (ss : List Spelled). AllByRecursion IsLow ss) split (low-append before_no reading.used no_low reading.low);
            words_are = no_words
                ∙ ap (λ (rest : List Placed). placed_in before_no ++ rest) reading.words_are
                ∙ sym (words-append before_no reading.used read.1)
                ∙ ap (λ (ss : List Spelled). placed_in ss ++ read.1) split;
            quiet = reading.quiet;
          }
      no_outcome (Err fault) stops =
          stops_behind fault 7 (suc levels) 7 levels before_no (after if_true.1) all no_low
          (λ front starts. starts_third levels (first condition.1) (first if_true.1) condition.0 if_true.0 asked.used first_read.used front asks colons asked.spells first_read.spells starts)
          (λ around. (around, no_course around))
          no_words stops

    colon_outcome : (b : Bool) → b ≡ sees Colon if_true.1
        → Sound 7 levels all (cond b (e (after if_true.1) >>= λ second rest. Ok (tree.chosen condition.0 if_true.0 second, rest)) (misfit if_true.1))
    unfolding question
    colon_outcome true is = no_outcome (seen Colon if_true.1 is) (e (after if_true.1)) (expressions (after if_true.1))
    colon_outcome false is =
        let before : List Spelled = asked.used ++ question ∷ [] in
        record {
          front = before ++ first_read.used;
          next = [];
          rest = if_true.1;
          starts = subst (λ (ss : List Spelled). Starts 7 levels ss) (sym (append-nil (before ++ first_read.used)))
              (starts_second levels (first condition.1) condition.0 asked.used first_read.used asks asked.spells (starts_read 7 (suc levels) if_true.0 first_read.used first_read.spells));
          low = low-append before first_read.used asked_low first_read.low;
          words_are = asked_words ∙ ap (λ (rest : List Placed). placed_in before ++ rest) first_read.words_are ∙ sym (words-append before first_read.used if_true.1);
          cause = refl;
          stuck = λ around.
              ap (λ (ks : List Kind). course ks (go.operand around)) (kinds-append before first_read.used ((first if_true.1).kind ∷ []))
              ∙ asked_course around (kinds_of first_read.used ++ (first if_true.1).kind ∷ [])
              ∙ spells-course 7 (suc levels) if_true.0 first_read.used first_read.spells ((first if_true.1).kind ∷ []) (go.choice ∷ around)
              ∙ stuck_behind_expression if_true.1 (go.choice ∷ around) first_read.quiet (mark_choice (first if_true.1).kind around (first_read.quiet.choices refl) (unseen Colon if_true.1 refl is));
        }

  yes_outcome : (o : Outcome) → Sound 7 (suc levels) (after condition.1) o
      → Sound 7 levels all (o >>= λ found. behind Colon (λ words. e words >>= λ second rest. Ok (tree.chosen condition.0 found second, rest)))
  unfolding question
  yes_outcome (Ok read) reading = colon_outcome read reading (sees Colon read.1) refl
  yes_outcome (Err fault) stops =
      stops_behind fault 7 (suc levels) 7 levels (asked.used ++ question ∷ []) (after condition.1) all asked_low
      (λ front starts. starts_second levels (first condition.1) condition.0 asked.used front asks asked.spells starts)
      (λ around. (go.choice ∷ around, asked_course around))
      asked_words stops

module _ (levels : ℕ) (low_here : levels ≤ 64) (e : Reader) (expressions : (ws : List Placed) → Sound 7 (suc levels) ws (e ws)) where
  asked_outcome : (ws : List Placed) (read : Tree × List Placed) (b : Bool) → b ≡ sees Question read.1 → Reading 6 levels ws read.0 read.1
      → Sound 7 levels ws (cond b (chosen_by read.0 e (after read.1)) (Ok (read.0, read.1)))
  unfolding chosen_by
  asked_outcome ws read true is reading = yes_outcome levels low_here e expressions ws read reading (seen Question read.1 is) (e (after read.1)) (expressions (after read.1))
  asked_outcome ws read false is reading = record {
    used = reading.used;
    spells = spell.tighter 6 levels read.0 reading.used reading.spells;
    low = reading.low;
    words_are = reading.words_are;
    quiet = record {
      operators = λ operator found.
          let bounds = looseness_bounds operator in
          let most = bounds.1 in
          let looser = reading.quiet.operators operator found in
          absurd (omega arith);
      choices = λ seven. unseen Question read.1 refl is;
    };
  }

  condition_outcome : (ws : List Placed) (o : Outcome) → Sound 6 levels ws o
      → Sound 7 levels ws (o >>= λ condition words. cond (sees Question words) (chosen_by condition e (after words)) (Ok (condition, words)))
  condition_outcome ws (Ok read) reading = asked_outcome ws read (sees Question read.1) refl reading
  condition_outcome ws (Err fault) stops = sound_up 6 levels ws fault stops

-- ---- every depth

record Both (n levels : ℕ) : Type 0 where
  operands : (ws : List Placed) → Sound 0 levels ws (operand n ws)
  expressions : (ws : List Placed) → Sound 7 levels ws (expression n ws)

stops_seven : (levels : ℕ) (ws : List Placed) (fault : ExprFault) → Stops fault 0 levels ws → Stops fault 7 levels ws
stops_seven levels ws fault stops = stops_behind fault 0 levels 7 levels [] ws ws tt (λ front. starts_seven levels front) (λ around. (around, λ ks. refl)) refl stops

blocked_seven : (levels : ℕ) (ws : List Placed) (b : Bool) → Sound 0 levels ws (cond b (Err TooDeep) (misfit ws)) → Sound 7 levels ws (cond b (Err TooDeep) (misfit ws))
blocked_seven levels ws true stops = stops_seven levels ws TooDeep stops
blocked_seven levels ws false stops = stops_seven levels ws (Syntax (first ws).place) stops

blocked_both : (levels : ℕ) → 64 < levels → Both 0 levels
unfolding operand expression blocked
blocked_both levels deep = record {
  operands = λ ws. blocked_sound levels ws deep;
  expressions = λ ws. blocked_seven levels ws (begins_operand (first ws).kind) (blocked_sound levels ws deep);
}

choice_sound : (levels m : ℕ) (ws : List Placed) → levels ≤ 64 → ((ws : List Placed) → Sound 0 levels ws (operand (suc m) ws)) → ((ws : List Placed) → Sound 7 (suc levels) ws (expression m ws))
    → Sound 7 levels ws (choice (operand (suc m)) (expression m) ws)
unfolding choice
choice_sound levels m ws low operands expressions =
    condition_outcome levels low (expression m) expressions ws (row 6 (operand (suc m)) ws) (row_sound levels low (operand (suc m)) operands 6 (omega arith) ws)

more_both : (levels m : ℕ) → suc levels + m ≡ 65 → Both m (suc levels) → Both (suc m) levels
more_both levels m room deeper =
    let here_sound : (ws : List Placed) → Sound 0 levels ws (operand (suc m) ws) = operand_sound levels m room deeper.operands deeper.expressions in
    record {
      operands = here_sound;
      expressions = λ ws. subst (λ (o : Outcome). Sound 7 levels ws o) (sym (expression_suc m ws)) (choice_sound levels m ws (omega arith) here_sound deeper.expressions);
    }

both : (n levels : ℕ) → levels + n ≡ 65 → Both n levels
both zero levels room = blocked_both levels (omega arith)
both (suc m) levels room = more_both levels m (omega arith) (both m (suc levels) (omega arith))

-- what the grammar reads of the words of a text
pub expression_sound : (ws : List Placed) → Sound 7 0 ws (expression 65 ws)
expression_sound ws = (both 65 0 (omega arith)).expressions ws
