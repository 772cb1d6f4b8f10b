-- What the grammar reads is a spelling, and what it refuses begins none.
use Rattle.std.proofs.Common.{◌≡◌, ◌≢◌, ◌==◌, ◌<◌, ◌≤◌, ℕ, suc, ◌+◌, ◌-◌, Bool, true, false, cond, List, [], ◌∷◌, ◌++◌, Option, Some, None, Result, Ok, Err, arith, rules, subst, sym, refl, ap, ◌∙◌, ℤ, pos, append_assoc, append-nil}
use Rattle.std.proofs.lemmas.Bool.Decides.{nat_tests}
use Rattle.std.specs.Prelude.{IsErr, ⊤}
use Rattle.std.specs.List.{AllByRecursion}
use denote.Enum.Bare.{sameb, same_true}
use Rattle.fixed_num.proofs.ReadsBack.{reads_back}
use Rattle.fixed_num.specs.declared.units.NumberFault.{NumberFault}
use Rattle.fixed_num.specs.UnitsText.{units_read, units_text}
use Rattle.health_expr.specs.contracts.word.Kind.{the_type}
use Rattle.health_expr.specs.declared.fault.ExprFault.{ExprFault}
use Rattle.health_expr.specs.declared.fault.ExprFault.TheVariants.{Syntax, TooDeep, NumberTooWide, Memory}
use Rattle.health_expr.specs.declared.operator.Prefix.{Prefix}
use Rattle.health_expr.specs.declared.operator.Prefix.TheVariants as prefix
use Rattle.health_expr.specs.declared.operator.Operator.{Operator}
use Rattle.health_expr.specs.declared.word.Kind.{Kind}
use Rattle.health_expr.specs.declared.word.Kind.TheVariants.{End, Number, Name, Nan, Infinity, Abs, Open, Close, Question, Colon, Not, Plus, Minus}
use Rattle.health_expr.specs.Grammar.{looseness, operator_of, begins_operand, Outcome, ◌>>=◌, misfit, behind, blocked, number_by, parenthesized, with_prefix, operand_by, operand_at, operand, expression}
use Rattle.health_expr.specs.Spelling as spell
use Rattle.health_expr.specs.Spelling.{Spelled, at, placed_in, prefix_of, Spells, IsLow}
use Rattle.health_expr.specs.Tree as tree
use Rattle.health_expr.specs.Tree.{Tree}
use Rattle.health_expr.specs.Words.{Placed, first, after, sees}
use Rattle.health_expr.proofs.Joined.{joins}
use Rattle.health_expr.proofs.Course as go
use Rattle.health_expr.proofs.Course.{Frame, State, course, kinds_of, kinds-append, spells-course, prefix_goes_on}
use Rattle.health_expr.proofs.Rereads.{looseness_bounds}

-- ---- words ahead

pub ahead : (ws : List Placed) → (first ws).kind ≢ End → ws ≡ first ws ∷ after ws
unfolding first after
ahead [] more = absurd (more refl)
ahead (w ∷ ws) more = refl

pub seen : (kind : Kind) (ws : List Placed) → true ≡ sees kind ws → (first ws).kind ≡ kind
unfolding sees
seen kind ws e = same_true the_type (search rules) _ _ (sym e)

-- a word that is not seen is of another kind
pub unseen : (kind : Kind) (ws : List Placed) → sameb the_type kind kind ≡ true → false ≡ sees kind ws → (first ws).kind ≢ kind
unfolding sees
unseen kind ws same e is =
    let other : false ≡ sameb the_type kind kind = e ∙ ap (λ (k : Kind). sameb the_type k kind) is in
    let clash : false ≡ true = other ∙ same in
    cc

-- ---- what is read, and what is refused

-- words that begin a spelling
pub record Starts (loose levels : ℕ) (front : List Spelled) : Type 0 where
  pub inner : Tree
  pub more : List Spelled
  pub spells : Spells loose levels inner (front ++ more)

-- behind what is read stands no operator that would be read on
pub record IsQuiet (loose : ℕ) (rest : List Placed) : Type 0 where
  pub operators : (operator : Operator) → operator_of (first rest).kind ≡ Some operator → loose < looseness operator
  pub choices : loose ≡ 7 → (first rest).kind ≢ Question

pub record Reading (loose levels : ℕ) (words : List Placed) (inner : Tree) (rest : List Placed) : Type 0 where
  pub used : List Spelled
  pub spells : Spells loose levels inner used
  pub low : AllByRecursion IsLow used
  pub words_are : words ≡ placed_in used ++ rest
  pub quiet : IsQuiet loose rest

-- a word that would fit, but for its levels or its number
pub record Next (P : Placed → ℕ → Type 0) (next : List Spelled) (rest : List Placed) : Type 0 where
  pub spelled : Spelled
  pub word : Placed
  pub behind : List Placed
  pub next_is : next ≡ spelled ∷ []
  pub rest_is : rest ≡ word ∷ behind
  pub kind : spelled.word.kind ≡ word.kind
  pub holds : P word spelled.levels

abbrev pub Deep : Placed → ℕ → Type 0
Deep word levels = 64 < levels

abbrev pub Wide : Placed → ℕ → Type 0
Wide word levels = (levels ≤ 64) × (word.kind ≡ Number) × IsErr (units_read word.said)

abbrev pub Cause : ExprFault → List Spelled → List Placed → Type 0
Cause (Syntax place) next rest = place ≡ (first rest).place
Cause TooDeep next rest = Next Deep next rest
Cause NumberTooWide next rest = Next Wide next rest
Cause Memory next rest = ⊥

abbrev pub IsStuck : ExprFault → List Kind → Type 0
IsStuck (Syntax place) kinds = (around : List Frame) → course kinds (go.operand around) ≡ None
IsStuck TooDeep kinds = ⊤
IsStuck NumberTooWide kinds = ⊤
IsStuck Memory kinds = ⊤

pub record Stops (fault : ExprFault) (loose levels : ℕ) (words : List Placed) : Type 0 where
  pub front : List Spelled
  pub next : List Spelled
  pub rest : List Placed
  pub starts : Starts loose levels (front ++ next)
  pub low : AllByRecursion IsLow front
  pub words_are : words ≡ placed_in front ++ rest
  pub cause : Cause fault next rest
  pub stuck : IsStuck fault (kinds_of front ++ (first rest).kind ∷ [])

abbrev pub Sound : ℕ → ℕ → List Placed → Outcome → Type 0
Sound loose levels words (Ok read) = Reading loose levels words read.0 read.1
Sound loose levels words (Err fault) = Stops fault loose levels words

-- ---- lists

pub low-append : (xs ys : List Spelled) → AllByRecursion IsLow xs → AllByRecursion IsLow ys → AllByRecursion IsLow (xs ++ ys)
low-append [] ys p q = q
low-append (x ∷ xs) ys p q = (p.0, low-append xs ys p.1 q)

pub words-append : (xs ys : List Spelled) (rest : List Placed) → placed_in (xs ++ ys) ++ rest ≡ placed_in xs ++ (placed_in ys ++ rest)
words-append [] ys rest = refl
words-append (x ∷ xs) ys rest = ap (λ (ws : List Placed). x.word ∷ ws) (words-append xs ys rest)

-- ---- what is refused inside, with the words before it

stuck_behind : (fault : ExprFault) (pre front : List Spelled) (kind : Kind)
    → ((around : List Frame) → (deeper : List Frame) × ((ks : List Kind) → course (kinds_of pre ++ ks) (go.operand around) ≡ course ks (go.operand deeper)))
    → IsStuck fault (kinds_of front ++ kind ∷ []) → IsStuck fault (kinds_of (pre ++ front) ++ kind ∷ [])
stuck_behind (Syntax place) pre front kind opens stuck = λ around.
    let inside = opens around in
    ap (λ (ks : List Kind). course ks (go.operand around)) (kinds-append pre front (kind ∷ [])) ∙ inside.1 (kinds_of front ++ kind ∷ []) ∙ stuck inside.0
stuck_behind TooDeep pre front kind opens stuck = tt
stuck_behind NumberTooWide pre front kind opens stuck = tt
stuck_behind Memory pre front kind opens stuck = tt

pub stops_behind : (fault : ExprFault) (inner_loose inner_levels loose levels : ℕ) (pre : List Spelled) (inner words : List Placed)
    → AllByRecursion IsLow pre
    → ((front : List Spelled) → Starts inner_loose inner_levels front → Starts loose levels (pre ++ front))
    → ((around : List Frame) → (deeper : List Frame) × ((ks : List Kind) → course (kinds_of pre ++ ks) (go.operand around) ≡ course ks (go.operand deeper)))
    → words ≡ placed_in pre ++ inner → Stops fault inner_loose inner_levels inner → Stops fault loose levels words
stops_behind fault inner_loose inner_levels loose levels pre inner words low lift opens words_are stops = record {
  front = pre ++ stops.front;
  next = stops.next;
  rest = stops.rest;
  starts = subst (λ (ss : List Spelled). Starts loose levels ss) (sym (append_assoc pre stops.front stops.next)) (lift (stops.front ++ stops.next) stops.starts);
  low = low-append pre stops.front low stops.low;
  words_are = words_are ∙ ap (λ (ws : List Placed). placed_in pre ++ ws) stops.words_are ∙ sym (words-append pre stops.front stops.rest);
  cause = stops.cause;
  stuck = stuck_behind fault pre stops.front (first stops.rest).kind opens stops.stuck;
}

-- ---- words that end a spelling

dummy : Kind → Placed
dummy kind = record { kind = kind; said = []; place = 0 }

nan_at : ℕ → List Spelled
nan_at levels = at (dummy Nan) levels ∷ []

spells_nan : (levels : ℕ) → Spells 0 levels tree.nan (nan_at levels)
unfolding nan_at dummy
spells_nan levels = spell.nan levels (dummy Nan) refl

up_seven : (levels : ℕ) (inner : Tree) (words : List Spelled) → Spells 0 levels inner words → Spells 7 levels inner words
up_seven levels inner words is =
    spell.tighter 6 levels inner words (spell.tighter 5 levels inner words (spell.tighter 4 levels inner words (spell.tighter 3 levels inner words (spell.tighter 2 levels inner words (spell.tighter 1 levels inner words (spell.tighter 0 levels inner words is))))))

pub starts_up : (loose levels : ℕ) (front : List Spelled) → Starts loose levels front → Starts (suc loose) levels front
starts_up loose levels front starts = record { inner = starts.inner; more = starts.more; spells = spell.tighter loose levels starts.inner (front ++ starts.more) starts.spells }

pub starts_seven : (levels : ℕ) (front : List Spelled) → Starts 0 levels front → Starts 7 levels front
starts_seven levels front starts = record { inner = starts.inner; more = starts.more; spells = up_seven levels starts.inner (front ++ starts.more) starts.spells }

starts_prefixed : (levels : ℕ) (word : Placed) (p : Prefix) (front : List Spelled) → prefix_of word.kind ≡ Some p → Starts 0 (suc levels) front → Starts 0 levels (at word levels ∷ front)
starts_prefixed levels word p front kind starts = record {
  inner = tree.prefixed p starts.inner;
  more = starts.more;
  spells = spell.prefixed levels word p starts.inner (front ++ starts.more) kind starts.spells;
}

closed : (front more : List Spelled) (levels : ℕ) → (front ++ more) ++ at (dummy Close) levels ∷ [] ≡ front ++ (more ++ at (dummy Close) levels ∷ [])
closed front more levels = append_assoc front more (at (dummy Close) levels ∷ [])

starts_enclosed : (levels : ℕ) (word : Placed) (front : List Spelled) → word.kind ≡ Open → Starts 7 (suc levels) front → Starts 0 levels (at word (suc levels) ∷ front)
unfolding dummy
starts_enclosed levels word front kind starts = record {
  inner = starts.inner;
  more = starts.more ++ at (dummy Close) (suc levels) ∷ [];
  spells = subst (λ (ss : List Spelled). Spells 0 levels starts.inner (at word (suc levels) ∷ ss)) (closed front starts.more (suc levels))
      (spell.enclosed levels word (dummy Close) starts.inner (front ++ starts.more) kind refl starts.spells);
}

starts_size : (levels : ℕ) (abs word : Placed) (front : List Spelled) → abs.kind ≡ Abs → word.kind ≡ Open → Starts 7 (suc levels) front → Starts 0 levels (at abs levels ∷ at word (suc levels) ∷ front)
unfolding dummy
starts_size levels abs word front is kind starts = record {
  inner = tree.prefixed prefix.Abs starts.inner;
  more = starts.more ++ at (dummy Close) (suc levels) ∷ [];
  spells = subst (λ (ss : List Spelled). Spells 0 levels (tree.prefixed prefix.Abs starts.inner) (at abs levels ∷ at word (suc levels) ∷ ss)) (closed front starts.more (suc levels))
      (spell.size levels abs word (dummy Close) starts.inner (front ++ starts.more) is kind refl starts.spells);
}

-- nothing at all begins a spelling
starts_none : (levels : ℕ) → Starts 0 levels []
starts_none levels = record { inner = tree.nan; more = nan_at levels; spells = spells_nan levels }

-- words, one more, and what stands behind
regroup : (one two three : List Spelled) (word : Spelled) → one ++ word ∷ (two ++ three) ≡ ((one ++ word ∷ []) ++ two) ++ three
regroup one two three word =
    sym (ap (λ (ss : List Spelled). ss ++ three) (append_assoc one (word ∷ []) two) ∙ append_assoc one (word ∷ two) three)

pub starts_combined : (levels : ℕ) (word : Placed) (op : Operator) (left : Tree) (one front : List Spelled)
    → operator_of word.kind ≡ Some op → Spells (looseness op) levels left one → Starts (looseness op - 1) levels front → Starts (looseness op) levels ((one ++ at word levels ∷ []) ++ front)
starts_combined levels word op left one front kind first_is starts = record {
  inner = tree.combined op left starts.inner;
  more = starts.more;
  spells = subst (λ (ss : List Spelled). Spells (looseness op) levels (tree.combined op left starts.inner) ss) (regroup one front starts.more (at word levels))
      (spell.combined (looseness op) levels word op left starts.inner one (front ++ starts.more) (joins word.kind op kind) first_is starts.spells);
}

pub starts_second : (levels : ℕ) (word : Placed) (condition : Tree) (one front : List Spelled)
    → word.kind ≡ Question → Spells 6 levels condition one → Starts 7 (suc levels) front → Starts 7 levels ((one ++ at word levels ∷ []) ++ front)
unfolding dummy
starts_second levels word condition one front kind is starts =
    let last : List Spelled = at (dummy Colon) levels ∷ nan_at (suc levels) in
    record {
      inner = tree.chosen condition starts.inner tree.nan;
      more = starts.more ++ last;
      spells = subst (λ (ss : List Spelled). Spells 7 levels (tree.chosen condition starts.inner tree.nan) ss)
          (ap (λ (ss : List Spelled). one ++ at word levels ∷ ss) (append_assoc front starts.more last) ∙ regroup one front (starts.more ++ last) (at word levels))
          (spell.chosen levels word (dummy Colon) condition starts.inner tree.nan one (front ++ starts.more) (nan_at (suc levels)) kind refl is starts.spells
          (up_seven (suc levels) tree.nan (nan_at (suc levels)) (spells_nan (suc levels))));
    }

pub starts_third : (levels : ℕ) (word colon : Placed) (condition if_true : Tree) (one two front : List Spelled)
    → word.kind ≡ Question → colon.kind ≡ Colon → Spells 6 levels condition one → Spells 7 (suc levels) if_true two → Starts 7 (suc levels) front
    → Starts 7 levels ((one ++ at word levels ∷ (two ++ at colon levels ∷ [])) ++ front)
starts_third levels word colon condition if_true one two front kind colons is first_is starts =
    let between : two ++ at colon levels ∷ (front ++ starts.more) ≡ ((two ++ at colon levels ∷ []) ++ front) ++ starts.more = regroup two front starts.more (at colon levels) in
    let before : List Spelled = two ++ at colon levels ∷ [] in
    record {
      inner = tree.chosen condition if_true starts.inner;
      more = starts.more;
      spells = subst (λ (ss : List Spelled). Spells 7 levels (tree.chosen condition if_true starts.inner) ss)
          (ap (λ (ss : List Spelled). one ++ at word levels ∷ ss) between
          ∙ sym (append_assoc one (at word levels ∷ (before ++ front)) starts.more)
          ∙ ap (λ (ss : List Spelled). ss ++ starts.more) (sym (append_assoc one (at word levels ∷ before) front)))
          (spell.chosen levels word colon condition if_true starts.inner one two (front ++ starts.more) kind colons is first_is starts.spells);
    }

-- ---- one fault

misfit_here : (levels : ℕ) (ws : List Placed) (kind : Kind) → (first ws).kind ≡ kind → ((around : List Frame) → go.on_operand around kind ≡ None) → Sound 0 levels ws (misfit ws)
misfit_here levels ws kind e none = record {
  front = [];
  next = [];
  rest = ws;
  starts = starts_none levels;
  low = tt;
  words_are = refl;
  cause = refl;
  stuck = λ around. ap (λ (k : Kind). course (k ∷ []) (go.operand around)) e ∙ ap (λ (o : Option State). go.on o (course [])) (none around);
}

-- a word that would fit is too deep
deep_here : (levels : ℕ) (ws : List Placed) (kind : Kind) (inner : Tree) (next : Spelled) (more : List Spelled) → (first ws).kind ≡ kind → kind ≢ End → next.word.kind ≡ kind → 64 < next.levels → Spells 0 levels inner (next ∷ more) → Stops TooDeep 0 levels ws
deep_here levels ws kind inner next more e some same deep is = record {
  front = [];
  next = next ∷ [];
  rest = ws;
  starts = record { inner = inner; more = more; spells = is };
  low = tt;
  words_are = refl;
  cause = record {
    spelled = next;
    word = first ws;
    behind = after ws;
    next_is = refl;
    rest_is = ahead ws (λ is_end. some (sym e ∙ is_end));
    kind = same ∙ sym e;
    holds = deep;
  };
  stuck = tt;
}

zero_word : Placed
zero_word = record { kind = Number; said = units_text (pos 0); place = 0 }

spells_zero : (levels : ℕ) → Spells 0 levels (tree.number (pos 0)) (at zero_word levels ∷ [])
unfolding zero_word
spells_zero levels = spell.number levels zero_word (pos 0) refl (reads_back (pos 0) (omega arith))

spells_enclosed_nan : (levels : ℕ) → Spells 0 levels tree.nan (at (dummy Open) (suc levels) ∷ (nan_at (suc levels) ++ at (dummy Close) (suc levels) ∷ []))
unfolding dummy
spells_enclosed_nan levels = spell.enclosed levels (dummy Open) (dummy Close) tree.nan (nan_at (suc levels)) refl refl (up_seven (suc levels) tree.nan (nan_at (suc levels)) (spells_nan (suc levels)))

spells_size_nan : (levels : ℕ) (abs : Placed) → abs.kind ≡ Abs → Spells 0 levels (tree.prefixed prefix.Abs tree.nan) (at abs levels ∷ at (dummy Open) (suc levels) ∷ (nan_at (suc levels) ++ at (dummy Close) (suc levels) ∷ []))
unfolding dummy
spells_size_nan levels abs kind = spell.size levels abs (dummy Open) (dummy Close) tree.nan (nan_at (suc levels)) kind refl refl (up_seven (suc levels) tree.nan (nan_at (suc levels)) (spells_nan (suc levels)))

spells_prefixed_nan : (levels : ℕ) (kind : Kind) (p : Prefix) → prefix_of kind ≡ Some p → Spells 0 levels (tree.prefixed p tree.nan) (at (dummy kind) levels ∷ nan_at (suc levels))
unfolding dummy
spells_prefixed_nan levels kind p e = spell.prefixed levels (dummy kind) p tree.nan (nan_at (suc levels)) e (spells_nan (suc levels))

blocked_kind : (levels : ℕ) (ws : List Placed) (kind : Kind) → 64 < levels → (first ws).kind ≡ kind → Sound 0 levels ws (cond (begins_operand kind) (Err TooDeep) (misfit ws))
unfolding dummy zero_word
blocked_kind levels ws Number deep e = deep_here levels ws Number _ (at zero_word levels) [] e (λ is. cc) refl deep (spells_zero levels)
blocked_kind levels ws Name deep e = deep_here levels ws Name _ (at (dummy Name) levels) [] e (λ is. cc) refl deep (spell.name levels (dummy Name) refl)
blocked_kind levels ws Nan deep e = deep_here levels ws Nan _ (at (dummy Nan) levels) [] e (λ is. cc) refl deep (spell.nan levels (dummy Nan) refl)
blocked_kind levels ws Infinity deep e = deep_here levels ws Infinity _ (at (dummy Infinity) levels) [] e (λ is. cc) refl deep (spell.infinity levels (dummy Infinity) refl)
blocked_kind levels ws Abs deep e = deep_here levels ws Abs _ (at (dummy Abs) levels) _ e (λ is. cc) refl deep (spells_size_nan levels (dummy Abs) refl)
blocked_kind levels ws Open deep e = deep_here levels ws Open _ (at (dummy Open) (suc levels)) _ e (λ is. cc) refl (omega arith) (spells_enclosed_nan levels)
blocked_kind levels ws Not deep e = deep_here levels ws Not _ (at (dummy Not) levels) _ e (λ is. cc) refl deep (spells_prefixed_nan levels Not prefix.Not refl)
blocked_kind levels ws Plus deep e = deep_here levels ws Plus _ (at (dummy Plus) levels) _ e (λ is. cc) refl deep (spells_prefixed_nan levels Plus prefix.Plus refl)
blocked_kind levels ws Minus deep e = deep_here levels ws Minus _ (at (dummy Minus) levels) _ e (λ is. cc) refl deep (spells_prefixed_nan levels Minus prefix.Minus refl)
blocked_kind levels ws kind deep e = misfit_here levels ws kind e (λ around. refl)

pub blocked_sound : (levels : ℕ) (ws : List Placed) → 64 < levels → Sound 0 levels ws (blocked ws)
unfolding blocked
blocked_sound levels ws deep = blocked_kind levels ws (first ws).kind deep refl

pub sound_up : (loose levels : ℕ) (ws : List Placed) (fault : ExprFault) → Stops fault loose levels ws → Stops fault (suc loose) levels ws
sound_up loose levels ws fault stops =
    stops_behind fault loose levels (suc loose) levels [] ws ws tt (λ front. starts_up loose levels front) (λ around. (around, λ ks. refl)) refl stops

-- ---- one word

quiet_zero : (rest : List Placed) → IsQuiet 0 rest
quiet_zero rest = record {
  operators = λ operator is. let bounds = looseness_bounds operator in let some = bounds.0 in omega arith;
  choices = λ seven. absurd (omega arith);
}

word_here : (levels : ℕ) (ws : List Placed) (inner : Tree) → levels ≤ 64 → (first ws).kind ≢ End → Spells 0 levels inner (at (first ws) levels ∷ []) → Sound 0 levels ws (Ok (inner, after ws))
word_here levels ws inner low some is = record {
  used = at (first ws) levels ∷ [];
  spells = is;
  low = (low, tt);
  words_are = ahead ws some;
  quiet = quiet_zero (after ws);
}

number_sound : (levels : ℕ) (ws : List Placed) (r : Result ℤ NumberFault) → levels ≤ 64 → (first ws).kind ≡ Number → units_read (first ws).said ≡ r → Sound 0 levels ws (number_by r ws)
unfolding zero_word
number_sound levels ws (Ok units) low kind read = word_here levels ws (tree.number units) low (λ is. let clash : Number ≡ End = sym kind ∙ is in cc) (spell.number levels (first ws) units kind read)
number_sound levels ws (Err fault) low kind read = record {
  front = [];
  next = at zero_word levels ∷ [];
  rest = ws;
  starts = record { inner = tree.number (pos 0); more = []; spells = spells_zero levels };
  low = tt;
  words_are = refl;
  cause = record {
    spelled = at zero_word levels;
    word = first ws;
    behind = after ws;
    next_is = refl;
    rest_is = ahead ws (λ is. let clash : Number ≡ End = sym kind ∙ is in cc);
    kind = sym kind;
    holds = (low, kind, subst (λ (r : Result ℤ NumberFault). IsErr r) (sym read) refl);
  };
  stuck = tt;
}

-- ---- what may stand behind an operand

-- behind an expression stands no operator
quiet_none : (kind : Kind) (around : List Frame) (o : Option Operator) → operator_of kind ≡ o → ((op : Operator) → operator_of kind ≡ Some op → 7 < looseness op) → go.on_mark around kind ≡ None
    → go.on_operated around kind o ≡ None
quiet_none kind around (Some op) is none mark =
    let bounds = looseness_bounds op in
    let most = bounds.1 in
    let loose = none op is in
    absurd (omega arith)
quiet_none kind around None is none mark = mark

mark_parenthesis : (kind : Kind) (around : List Frame) → kind ≢ Question → kind ≢ Close → go.on_mark (go.parenthesis ∷ around) kind ≡ None
mark_parenthesis Question around ask close = absurd (ask refl)
mark_parenthesis Close around ask close = absurd (close refl)
mark_parenthesis _ around ask close = refl

pub mark_choice : (kind : Kind) (around : List Frame) → kind ≢ Question → kind ≢ Colon → go.on_mark (go.choice ∷ around) kind ≡ None
mark_choice Question around ask colon = absurd (ask refl)
mark_choice Colon around ask colon = absurd (colon refl)
mark_choice _ around ask colon = refl

pub mark_whole : (kind : Kind) → kind ≢ Question → kind ≢ End → go.on_mark [] kind ≡ None
mark_whole Question ask end = absurd (ask refl)
mark_whole End ask end = absurd (end refl)
mark_whole _ ask end = refl

-- what stands behind an expression and closes nothing is stuck
pub stuck_behind_expression : (rest : List Placed) (around : List Frame) → IsQuiet 7 rest → go.on_mark around (first rest).kind ≡ None → course ((first rest).kind ∷ []) (go.operated around) ≡ None
stuck_behind_expression rest around quiet mark =
    ap (λ (o : Option State). go.on o (course [])) (quiet_none (first rest).kind around (operator_of (first rest).kind) refl quiet.operators mark)

pub starts_read : (loose levels : ℕ) (inner : Tree) (used : List Spelled) → Spells loose levels inner used → Starts loose levels used
starts_read loose levels inner used is = record { inner = inner; more = []; spells = subst (λ (ss : List Spelled). Spells loose levels inner ss) (sym (append-nil used)) is }

starts_nothing : (levels : ℕ) → Starts 7 levels []
starts_nothing levels = starts_seven levels [] (starts_none levels)

-- ---- levels

-- what is read one level deeper, with so many levels left there
module _ (levels m : ℕ) (room : suc levels + m ≡ 65)
    (operands : (ws : List Placed) → Sound 0 (suc levels) ws (operand m ws))
    (expressions : (ws : List Placed) → Sound 7 (suc levels) ws (expression m ws)) where
  low_here : levels ≤ 64
  low_here = omega arith

  -- ---- prefixes

  prefixed_outcome : (ws : List Placed) (p : Prefix) (o : Outcome) → prefix_of (first ws).kind ≡ Some p → (first ws).kind ≢ End → Sound 0 (suc levels) (after ws) o → Sound 0 levels ws (o >>= λ found rest. Ok (tree.prefixed p found, rest))
  prefixed_outcome ws p (Ok read) kind some reading = record {
    used = at (first ws) levels ∷ reading.used;
    spells = spell.prefixed levels (first ws) p read.0 reading.used kind reading.spells;
    low = (low_here, reading.low);
    words_are = ahead ws some ∙ ap (λ (rest : List Placed). first ws ∷ rest) reading.words_are;
    quiet = reading.quiet;
  }
  prefixed_outcome ws p (Err fault) kind some stops =
      stops_behind fault 0 (suc levels) 0 levels (at (first ws) levels ∷ []) (after ws) ws (low_here, tt)
      (λ front starts. starts_prefixed levels (first ws) p front kind starts)
      (λ around. (around, λ ks. ap (λ (o : Option State). go.on o (course ks)) (prefix_goes_on (first ws).kind p around kind)))
      (ahead ws some) stops

  prefix_sound : (ws : List Placed) (kind : Kind) (p : Prefix) → (first ws).kind ≡ kind → prefix_of kind ≡ Some p → kind ≢ End → Sound 0 levels ws (with_prefix p (operand m) (after ws))
  unfolding with_prefix
  prefix_sound ws kind p e is some =
      prefixed_outcome ws p (operand m (after ws)) (ap (λ (k : Kind). prefix_of k) e ∙ is) (λ ended. some (sym e ∙ ended)) (operands (after ws))

  -- ---- parentheses

  -- behind these words, and a parenthesis, an expression and a parenthesis make this of its tree
  module _ (pre : List Spelled) (make : Tree → Tree) (pre_low : AllByRecursion IsLow pre)
      (spells : (open_word close_word : Placed) (inner : Tree) (words : List Spelled) → open_word.kind ≡ Open → close_word.kind ≡ Close → Spells 7 (suc levels) inner words
      → Spells 0 levels (make inner) ((pre ++ at open_word (suc levels) ∷ []) ++ (words ++ at close_word (suc levels) ∷ [])))
      (starts : (open_word : Placed) (front : List Spelled) → open_word.kind ≡ Open → Starts 7 (suc levels) front → Starts 0 levels ((pre ++ at open_word (suc levels) ∷ []) ++ front))
      (opens : (around : List Frame) (kind : Kind) (ks : List Kind) → kind ≡ Open → course (kinds_of pre ++ kind ∷ ks) (go.operand around) ≡ course ks (go.operand (go.parenthesis ∷ around))) where
    front_of : List Placed → List Spelled
    front_of ws = pre ++ at (first ws) (suc levels) ∷ []

    inside : (ws : List Placed) → (first ws).kind ≡ Open → (around : List Frame) (ks : List Kind) → course (kinds_of (front_of ws) ++ ks) (go.operand around) ≡ course ks (go.operand (go.parenthesis ∷ around))
    unfolding front_of
    inside ws e around ks = ap (λ (all : List Kind). course all (go.operand around)) (kinds-append pre (at (first ws) (suc levels) ∷ []) ks) ∙ opens around (first ws).kind ks e

    inside_words : (ws : List Placed) → (first ws).kind ≡ Open → placed_in pre ++ ws ≡ placed_in (front_of ws) ++ after ws
    unfolding front_of
    inside_words ws e =
        ap (λ (rest : List Placed). placed_in pre ++ rest) (ahead ws (λ ended. let clash : Open ≡ End = sym e ∙ ended in cc))
        ∙ sym (words-append pre (at (first ws) (suc levels) ∷ []) (after ws))

    module _ (ws : List Placed) (is_open : (first ws).kind ≡ Open) where
      -- the parenthesis is read, and so is what stands in it
      close_outcome : (read : Tree × List Placed) (b : Bool) → b ≡ sees Close read.1 → suc levels ≤ 64 → Reading 7 (suc levels) (after ws) read.0 read.1
          → Sound 0 levels (placed_in pre ++ ws) (cond b (Ok (read.0, after read.1)) (misfit read.1) >>= λ found rest. Ok (make found, rest))
      unfolding front_of
      close_outcome read true e low reading =
          let closing = seen Close read.1 e in
          let last : Spelled = at (first read.1) (suc levels) in
          let ended : read.1 ≡ first read.1 ∷ after read.1 = ahead read.1 (λ is. let clash : Close ≡ End = sym closing ∙ is in cc) in
          record {
            used = front_of ws ++ (reading.used ++ last ∷ []);
            spells = spells (first ws) (first read.1) read.0 reading.used is_open closing reading.spells;
            low = low-append (front_of ws) (reading.used ++ last ∷ []) (low-append pre (at (first ws) (suc levels) ∷ []) pre_low (low, tt)) (low-append reading.used (last ∷ []) reading.low (low, tt));
            words_are = inside_words ws is_open
                ∙ ap (λ (rest : List Placed). placed_in (front_of ws) ++ rest) (reading.words_are ∙ ap (λ (rest : List Placed). placed_in reading.used ++ rest) ended ∙ sym (words-append reading.used (last ∷ []) (after read.1)))
                ∙ sym (words-append (front_of ws) (reading.used ++ last ∷ []) (after read.1));
            quiet = quiet_zero (after read.1);
          }
      close_outcome read false e low reading = record {
        front = front_of ws ++ reading.used;
        next = [];
        rest = read.1;
        starts = subst (λ (ss : List Spelled). Starts 0 levels ss) (sym (append-nil (front_of ws ++ reading.used))) (starts (first ws) reading.used is_open (starts_read 7 (suc levels) read.0 reading.used reading.spells));
        low = low-append (front_of ws) reading.used (low-append pre (at (first ws) (suc levels) ∷ []) pre_low (low, tt)) reading.low;
        words_are = inside_words ws is_open ∙ ap (λ (rest : List Placed). placed_in (front_of ws) ++ rest) reading.words_are ∙ sym (words-append (front_of ws) reading.used read.1);
        cause = refl;
        stuck = λ around.
            ap (λ (ks : List Kind). course ks (go.operand around)) (kinds-append (front_of ws) reading.used ((first read.1).kind ∷ []))
            ∙ inside ws is_open around (kinds_of reading.used ++ (first read.1).kind ∷ [])
            ∙ spells-course 7 (suc levels) read.0 reading.used reading.spells ((first read.1).kind ∷ []) (go.parenthesis ∷ around)
            ∙ stuck_behind_expression read.1 (go.parenthesis ∷ around) reading.quiet (mark_parenthesis (first read.1).kind around (reading.quiet.choices refl) (unseen Close read.1 refl e));
      }

      inner_outcome : (o : Outcome) → suc levels ≤ 64 → Sound 7 (suc levels) (after ws) o
          → Sound 0 levels (placed_in pre ++ ws) ((o >>= λ found. behind Close (λ words. Ok (found, words))) >>= λ found rest. Ok (make found, rest))
      unfolding front_of
      inner_outcome (Ok read) low reading = close_outcome read (sees Close read.1) refl low reading
      inner_outcome (Err fault) low stops =
          stops_behind fault 7 (suc levels) 0 levels (front_of ws) (after ws) (placed_in pre ++ ws) (low-append pre (at (first ws) (suc levels) ∷ []) pre_low (low, tt))
          (λ front starting. starts (first ws) front is_open starting)
          (λ around. (go.parenthesis ∷ around, λ ks. inside ws is_open around ks))
          (inside_words ws is_open) stops

      room_outcome : (b : Bool) → (m == 0) ≡ b
          → Sound 0 levels (placed_in pre ++ ws) (cond b (Err TooDeep) (expression m (after ws) >>= λ found. behind Close (λ words. Ok (found, words))) >>= λ found rest. Ok (make found, rest))
      unfolding front_of
      room_outcome true e = record {
        front = pre;
        next = at (first ws) (suc levels) ∷ [];
        rest = ws;
        starts = subst (λ (ss : List Spelled). Starts 0 levels ss) (append-nil (front_of ws)) (starts (first ws) [] is_open (starts_nothing (suc levels)));
        low = pre_low;
        words_are = refl;
        cause = record {
          spelled = at (first ws) (suc levels);
          word = first ws;
          behind = after ws;
          next_is = refl;
          rest_is = ahead ws (λ is. let clash : Open ≡ End = sym is_open ∙ is in cc);
          kind = refl;
          holds = let none : m ≡ 0 = grind (arith, nat_tests) in omega arith;
        };
        stuck = tt;
      }
      room_outcome false e = inner_outcome (expression m (after ws)) (let some : 0 < m = grind (arith, nat_tests) in omega arith) (expressions (after ws))

    enclosed_sound : (ws : List Placed) → (false ≡ sees Open ws → Stops (Syntax (first ws).place) 0 levels (placed_in pre ++ ws))
        → Sound 0 levels (placed_in pre ++ ws) (parenthesized m (expression m) ws >>= λ found rest. Ok (make found, rest))
    unfolding parenthesized
    enclosed_sound ws unopened = by_open (sees Open ws) refl
      where
        by_open : (b : Bool) → b ≡ sees Open ws
            → Sound 0 levels (placed_in pre ++ ws)
            (cond b (cond (m == 0) (Err TooDeep) (expression m (after ws) >>= λ found. behind Close (λ words. Ok (found, words)))) (misfit ws) >>= λ found rest. Ok (make found, rest))
        by_open true e = room_outcome ws (seen Open ws e) (m == 0) refl
        by_open false e = unopened e

  -- ---- operands

  bare : (o : Outcome) → (o >>= λ found rest. Ok (found, rest)) ≡ o
  bare (Ok read) = refl
  bare (Err fault) = refl

  open_sound : (ws : List Placed) → (first ws).kind ≡ Open → Sound 0 levels ws (parenthesized m (expression m) ws)
  open_sound ws kind =
      subst (λ (o : Outcome). Sound 0 levels ws o) (bare (parenthesized m (expression m) ws))
      (enclosed_sound [] (λ inner. inner) tt
      (λ open_word close_word inner words opens closes is. spell.enclosed levels open_word close_word inner words opens closes is)
      (λ open_word front opens starting. starts_enclosed levels open_word front opens starting)
      (λ around k ks is_open. ap (λ (kind : Kind). course (kind ∷ ks) (go.operand around)) is_open)
      ws (λ e. absurd (unseen Open ws refl e kind)))

  opening_none : (kind : Kind) (around : List Frame) → kind ≢ Open → go.on_opening around kind ≡ None
  opening_none Open around other = absurd (other refl)
  opening_none _ around other = refl

  size_sound : (ws : List Placed) → (first ws).kind ≡ Abs → Sound 0 levels ws (with_prefix prefix.Abs (parenthesized m (expression m)) (after ws))
  unfolding with_prefix
  size_sound ws kind =
      let head : List Spelled = at (first ws) levels ∷ [] in
      let rest : List Placed = after ws in
      subst (λ (words : List Placed). Sound 0 levels words (parenthesized m (expression m) rest >>= λ found more. Ok (tree.prefixed prefix.Abs found, more)))
      (sym (ahead ws (λ is. let clash : Abs ≡ End = sym kind ∙ is in cc)))
      (enclosed_sound head (λ inner. tree.prefixed prefix.Abs inner) (low_here, tt)
      (λ open_word close_word inner words opens closes is. spell.size levels (first ws) open_word close_word inner words kind opens closes is)
      (λ open_word front opens starting. starts_size levels (first ws) open_word front kind opens starting)
      (λ around k ks is_open. ap (λ (kind : Kind). course (kind ∷ k ∷ ks) (go.operand around)) kind ∙ ap (λ (kind : Kind). course (kind ∷ ks) (go.opening around)) is_open)
      rest
      (λ e. record {
        front = head;
        next = [];
        rest = rest;
        starts = record {
          inner = tree.prefixed prefix.Abs tree.nan;
          more = at (dummy Open) (suc levels) ∷ (nan_at (suc levels) ++ at (dummy Close) (suc levels) ∷ []);
          spells = spells_size_nan levels (first ws) kind;
        };
        low = (low_here, tt);
        words_are = refl;
        cause = refl;
        stuck = λ around.
            ap (λ (k : Kind). course (k ∷ (first rest).kind ∷ []) (go.operand around)) kind
            ∙ ap (λ (o : Option State). go.on o (course [])) (opening_none (first rest).kind around (unseen Open rest refl e));
      }))

  operand_kind : (ws : List Placed) (kind : Kind) → (first ws).kind ≡ kind → Sound 0 levels ws (operand_by m (operand m) (expression m) kind ws)
  operand_kind ws Number e = number_sound levels ws (units_read (first ws).said) low_here e refl
  operand_kind ws Name e = word_here levels ws (tree.name (first ws).said) low_here (λ is. let clash : Name ≡ End = sym e ∙ is in cc) (spell.name levels (first ws) e)
  operand_kind ws Nan e = word_here levels ws tree.nan low_here (λ is. let clash : Nan ≡ End = sym e ∙ is in cc) (spell.nan levels (first ws) e)
  operand_kind ws Infinity e = word_here levels ws tree.infinity low_here (λ is. let clash : Infinity ≡ End = sym e ∙ is in cc) (spell.infinity levels (first ws) e)
  operand_kind ws Abs e = size_sound ws e
  operand_kind ws Open e = open_sound ws e
  operand_kind ws Not e = prefix_sound ws Not prefix.Not e refl (λ is. cc)
  operand_kind ws Plus e = prefix_sound ws Plus prefix.Plus e refl (λ is. cc)
  operand_kind ws Minus e = prefix_sound ws Minus prefix.Minus e refl (λ is. cc)
  operand_kind ws kind e = misfit_here levels ws kind e (λ around. refl)

  pub operand_sound : (ws : List Placed) → Sound 0 levels ws (operand (suc m) ws)
  unfolding operand operand_at
  operand_sound ws = operand_kind ws (first ws).kind refl
