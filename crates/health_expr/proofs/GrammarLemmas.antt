-- The grammar, step by step.
use Rattle.std.proofs.Common.{◌≡◌, ◌≢◌, ◌<◌, ℕ, zero, suc, ◌-◌, Bool, true, false, List, [], ◌∷◌, ◌++◌, length, Option, Some, None, Result, Ok, Err, arith, subst, sym, refl, ap, ◌∙◌, cond, IfOk, IsOkUnless}
use Rattle.health_expr.specs.declared.expr.Expr.{Expr}
use Rattle.health_expr.specs.declared.fault.ExprFault.{ExprFault}
use Rattle.health_expr.specs.declared.fault.ExprFault.TheVariants.{Syntax, TooDeep, NumberTooWide, Memory}
use Rattle.health_expr.specs.declared.operator.Operator.{Operator}
use Rattle.health_expr.specs.declared.word.Kind.{Kind}
use Rattle.health_expr.specs.declared.word.Kind.TheVariants.{End, Number, Name, Nan, Infinity, Abs, Open, Close, Question, Colon, Not, Plus, Minus, Star, Slash, Or, And, Equal, NotEqual, Less, AtMost, Greater, AtLeast, Unknown}
use Rattle.health_expr.specs.Grammar.{Outcome, Reader, ◌>>=◌, misfit, blocked, operand_by, operand_at, operand, expression, choice, chosen_by, row, steps, step, operator_at}
use Rattle.health_expr.specs.Reads.{Reads, Fails}
use Rattle.health_expr.specs.Tree.{Tree, combined}
use Rattle.health_expr.specs.TreeOf.{tree_of, row_of, chain}
use Rattle.health_expr.specs.Words.{Placed, first, after, sees}

-- ---- what is read, and what was returned

pub reads_as : (read other : Outcome) (result : Result Expr ExprFault) (behind : List Placed) → other ≡ read → Reads read result behind → Reads other result behind
reads_as read other result behind e is = subst (λ (o : Outcome). Reads o result behind) (sym e) is

-- ---- levels

pub operand_none : (levels : ℕ) (ws : List Placed) → levels ≡ 0 → operand levels ws ≡ blocked ws
unfolding operand
operand_none levels ws e = ap (λ (n : ℕ). operand n ws) e

pub expression_none : (levels : ℕ) (ws : List Placed) → levels ≡ 0 → expression levels ws ≡ blocked ws
unfolding expression
expression_none levels ws e = ap (λ (n : ℕ). expression n ws) e

pub operand_suc : (levels : ℕ) (ws : List Placed) (kind : Kind) → kind ≡ (first ws).kind
    → operand (suc levels) ws ≡ operand_by levels (operand levels) (expression levels) kind ws
unfolding operand operand_at
operand_suc levels ws kind e = ap (λ (k : Kind). operand_by levels (operand levels) (expression levels) k ws) (sym e)

-- an operand by the kind of its first word
pub operand_more : (levels : ℕ) (ws : List Placed) (kind : Kind) → 0 < levels → kind ≡ (first ws).kind
    → operand levels ws ≡ operand_by (levels - 1) (operand (levels - 1)) (expression (levels - 1)) kind ws
operand_more zero ws kind some e = absurd (omega arith)
operand_more (suc levels) ws kind some e =
    let less : levels ≡ suc levels - 1 = omega arith in
    operand_suc levels ws kind e ∙ ap (λ (n : ℕ). operand_by n (operand n) (expression n) kind ws) less

pub expression_suc : (levels : ℕ) (ws : List Placed) → expression (suc levels) ws ≡ choice (operand (suc levels)) (expression levels) ws
unfolding expression operand
expression_suc levels ws = refl

pub expression_more : (levels : ℕ) (ws : List Placed) → 0 < levels → expression levels ws ≡ choice (operand levels) (expression (levels - 1)) ws
expression_more zero ws some = absurd (omega arith)
expression_more (suc levels) ws some =
    let less : levels ≡ suc levels - 1 = omega arith in
    expression_suc levels ws ∙ ap (λ (n : ℕ). choice (operand (suc levels)) (expression n) ws) less

-- ---- rows

pub row_none : (loose : ℕ) (o : Reader) (ws : List Placed) → loose ≡ 0 → row loose o ws ≡ o ws
unfolding row
row_none loose o ws e = ap (λ (n : ℕ). row n o ws) e

pub row_suc : (loose : ℕ) (o : Reader) (ws : List Placed) → row (suc loose) o ws ≡ (row loose o ws >>= λ left behind. steps (length behind) (suc loose) (row loose o) left behind)
unfolding row
row_suc loose o ws = refl

pub row_more : (loose : ℕ) (o : Reader) (ws : List Placed) → 0 < loose
    → row loose o ws ≡ (row (loose - 1) o ws >>= λ left behind. steps (length behind) loose (row (loose - 1) o) left behind)
row_more zero o ws some = absurd (omega arith)
row_more (suc loose) o ws some =
    let less : loose ≡ suc loose - 1 = omega arith in
    row_suc loose o ws ∙ ap (λ (n : ℕ). row n o ws >>= λ left behind. steps (length behind) (suc loose) (row n o) left behind) less

pub steps_end : (count loose : ℕ) (tighter : Reader) (left : Tree) (ws : List Placed) → None ≡ operator_at loose ws → steps count loose tighter left ws ≡ Ok (left, ws)
unfolding steps
steps_end zero loose tighter left ws e = refl
steps_end (suc count) loose tighter left ws e = ap (λ (o : Option Operator). step (steps count loose tighter) tighter left o ws) (sym e)

pub steps_more : (count loose : ℕ) (tighter : Reader) (left : Tree) (operator : Operator) (ws : List Placed) → 0 < count → Some operator ≡ operator_at loose ws
    → steps count loose tighter left ws ≡ (tighter (after ws) >>= λ right. steps (count - 1) loose tighter (combined operator left right))
unfolding steps
steps_more zero loose tighter left operator ws some e = absurd (omega arith)
steps_more (suc count) loose tighter left operator ws some e =
    let less : count ≡ suc count - 1 = omega arith in
    ap (λ (o : Option Operator). step (steps count loose tighter) tighter left o ws) (sym e) ∙ ap (λ (n : ℕ). tighter (after ws) >>= λ right. steps n loose tighter (combined operator left right)) less

-- ---- chains

chain-push : (left : Tree) (rest : List (Operator × Tree)) (operator : Operator) (right : Tree) → chain left (rest ++ (operator, right) ∷ []) ≡ combined operator (chain left rest) right
chain-push left [] operator right = refl
chain-push left (s ∷ rest) operator right = chain-push (combined s.0 left s.1) rest operator right

row_of-push : (rest : List (Operator × Expr)) (operator : Operator) (right : Expr) → row_of (rest ++ (operator, right) ∷ []) ≡ row_of rest ++ (operator, tree_of right) ∷ []
row_of-push [] operator right = refl
row_of-push (s ∷ rest) operator right = ap (λ (more : List (Operator × Tree)). (s.0, tree_of s.1) ∷ more) (row_of-push rest operator right)

pub grown : (left : Tree) (rest more : List (Operator × Expr)) (operator : Operator) (right : Expr) → more ≡ rest ++ (operator, right) ∷ [] → combined operator (chain left (row_of rest)) (tree_of right) ≡ chain left (row_of more)
grown left rest more operator right e =
    sym (ap (λ (s : List (Operator × Expr)). chain left (row_of s)) e
    ∙ ap (λ (s : List (Operator × Tree)). chain left s) (row_of-push rest operator right)
    ∙ chain-push left (row_of rest) operator (tree_of right))

pub fails_as : (fault : ExprFault) (read : Outcome) → read ≡ Err fault → Fails fault read
fails_as (Syntax place) read is = is
fails_as TooDeep read is = is
fails_as NumberTooWide read is = is
fails_as Memory read is = tt

pub misfit_by : (kind : Kind) (levels : ℕ) (o e : Reader) (ws : List Placed) → kind ≢ Number → kind ≢ Name → kind ≢ Nan → kind ≢ Infinity → kind ≢ Abs → kind ≢ Open → kind ≢ Not → kind ≢ Plus → kind ≢ Minus
    → operand_by levels o e kind ws ≡ misfit ws
misfit_by End levels o e ws _ _ _ _ _ _ _ _ _ = refl
misfit_by Number levels o e ws never _ _ _ _ _ _ _ _ = absurd (never refl)
misfit_by Name levels o e ws _ never _ _ _ _ _ _ _ = absurd (never refl)
misfit_by Nan levels o e ws _ _ never _ _ _ _ _ _ = absurd (never refl)
misfit_by Infinity levels o e ws _ _ _ never _ _ _ _ _ = absurd (never refl)
misfit_by Abs levels o e ws _ _ _ _ never _ _ _ _ = absurd (never refl)
misfit_by Open levels o e ws _ _ _ _ _ never _ _ _ = absurd (never refl)
misfit_by Close levels o e ws _ _ _ _ _ _ _ _ _ = refl
misfit_by Question levels o e ws _ _ _ _ _ _ _ _ _ = refl
misfit_by Colon levels o e ws _ _ _ _ _ _ _ _ _ = refl
misfit_by Not levels o e ws _ _ _ _ _ _ never _ _ = absurd (never refl)
misfit_by Plus levels o e ws _ _ _ _ _ _ _ never _ = absurd (never refl)
misfit_by Minus levels o e ws _ _ _ _ _ _ _ _ never = absurd (never refl)
misfit_by Star levels o e ws _ _ _ _ _ _ _ _ _ = refl
misfit_by Slash levels o e ws _ _ _ _ _ _ _ _ _ = refl
misfit_by Or levels o e ws _ _ _ _ _ _ _ _ _ = refl
misfit_by And levels o e ws _ _ _ _ _ _ _ _ _ = refl
misfit_by Equal levels o e ws _ _ _ _ _ _ _ _ _ = refl
misfit_by NotEqual levels o e ws _ _ _ _ _ _ _ _ _ = refl
misfit_by Less levels o e ws _ _ _ _ _ _ _ _ _ = refl
misfit_by AtMost levels o e ws _ _ _ _ _ _ _ _ _ = refl
misfit_by Greater levels o e ws _ _ _ _ _ _ _ _ _ = refl
misfit_by AtLeast levels o e ws _ _ _ _ _ _ _ _ _ = refl
misfit_by Unknown levels o e ws _ _ _ _ _ _ _ _ _ = refl

pub choice_alone : (o e : Reader) (ws behind : List Placed) (tree : Tree) → row 6 o ws ≡ Ok (tree, behind) → false ≡ sees Question behind → choice o e ws ≡ Ok (tree, behind)
unfolding choice
choice_alone o e ws behind tree read other =
    ap (λ (r : Outcome). r >>= λ condition words. cond (sees Question words) (chosen_by condition e (after words)) (Ok (condition, words))) read
    ∙ ap (λ (b : Bool). cond b (chosen_by tree e (after behind)) (Ok (tree, behind))) (sym other)

pub choice_more : (o e : Reader) (ws behind : List Placed) (tree : Tree) → row 6 o ws ≡ Ok (tree, behind) → true ≡ sees Question behind → choice o e ws ≡ chosen_by tree e (after behind)
unfolding choice
choice_more o e ws behind tree read other =
    ap (λ (r : Outcome). r >>= λ condition words. cond (sees Question words) (chosen_by condition e (after words)) (Ok (condition, words))) read
    ∙ ap (λ (b : Bool). cond b (chosen_by tree e (after behind)) (Ok (tree, behind))) (sym other)

pub row_then : (loose : ℕ) (o : Reader) (ws behind : List Placed) (left : Tree) → 0 < loose → row (loose - 1) o ws ≡ Ok (left, behind) → row loose o ws ≡ steps (length behind) loose (row (loose - 1) o) left behind
row_then loose o ws behind left some read =
    row_more loose o ws some ∙ ap (λ (r : Outcome). r >>= λ tree words. steps (length words) loose (row (loose - 1) o) tree words) read

-- one operator more
pub steps_next : (count loose : ℕ) (tighter : Reader) (left : Tree) (operator : Operator) (ws next : List Placed) → 0 < count → Some operator ≡ operator_at loose ws → next ≡ after ws
    → steps count loose tighter left ws ≡ (tighter next >>= λ right. steps (count - 1) loose tighter (combined operator left right))
steps_next count loose tighter left operator ws next some e n =
    steps_more count loose tighter left operator ws some e ∙ ap (λ (words : List Placed). tighter words >>= λ right. steps (count - 1) loose tighter (combined operator left right)) (sym n)

-- and what was read of its right operand
pub steps_turn : (count loose : ℕ) (tighter : Reader) (left right : Tree) (operator : Operator) (ws next behind : List Placed) → 0 < count → Some operator ≡ operator_at loose ws → next ≡ after ws
    → tighter next ≡ Ok (right, behind) → steps count loose tighter left ws ≡ steps (count - 1) loose tighter (combined operator left right) behind
steps_turn count loose tighter left right operator ws next behind some e n read =
    steps_next count loose tighter left operator ws next some e n ∙ ap (λ (r : Outcome). r >>= λ tree. steps (count - 1) loose tighter (combined operator left tree)) read

-- a tree that was made in memory, where there was some
pub reads_made : (read : Outcome) (tree : Tree) (result : Result Expr ExprFault) (behind : List Placed) → read ≡ Ok (tree, behind) → IfOk result (λ expr. tree_of expr ≡ tree) → IsOkUnless result Memory → Reads read result behind
reads_made read tree (Ok expr) behind is made memory = is ∙ ap (λ (t : Tree). Ok (t, behind)) (sym made)
reads_made read tree (Err fault) behind is made memory = subst (λ (f : ExprFault). Fails f read) (sym memory) tt
