-- The operators that join operands are those of the grammar's tables.
use Rattle.std.proofs.Common.{◌≡◌, ℕ, refl, subst, Some}
use Rattle.health_expr.specs.declared.operator.Operator.{Operator}
use Rattle.health_expr.specs.declared.operator.Operator.TheVariants as operator
use Rattle.health_expr.specs.declared.word.Kind.{Kind}
use Rattle.health_expr.specs.declared.word.Kind.TheVariants.{Plus, Minus, Star, Slash, Or, And, Equal, NotEqual, Less, AtMost, Greater, AtLeast}
use Rattle.health_expr.specs.Grammar.{looseness, operator_of}
use Rattle.health_expr.specs.Spelling.{Joins, times, over, plus, minus, less, at_most, greater, at_least, equal, not_equal, and_also, or_else}

pub joined : (loose : ℕ) (kind : Kind) (operator : Operator) → Joins loose kind operator → (operator_of kind ≡ Some operator) × (looseness operator ≡ loose)
joined _ _ _ times = (refl, refl)
joined _ _ _ over = (refl, refl)
joined _ _ _ plus = (refl, refl)
joined _ _ _ minus = (refl, refl)
joined _ _ _ less = (refl, refl)
joined _ _ _ at_most = (refl, refl)
joined _ _ _ greater = (refl, refl)
joined _ _ _ at_least = (refl, refl)
joined _ _ _ equal = (refl, refl)
joined _ _ _ not_equal = (refl, refl)
joined _ _ _ and_also = (refl, refl)
joined _ _ _ or_else = (refl, refl)

this : (kind : Kind) (a b : Operator) → Joins (looseness a) kind a → Some a ≡ Some b → Joins (looseness b) kind b
this kind a b joins e = let same : a ≡ b = cc in subst (λ operator. Joins (looseness operator) kind operator) same joins

pub joins : (kind : Kind) (operator : Operator) → operator_of kind ≡ Some operator → Joins (looseness operator) kind operator
joins Star op e = this Star operator.Multiply op times e
joins Slash op e = this Slash operator.Divide op over e
joins Plus op e = this Plus operator.Add op plus e
joins Minus op e = this Minus operator.Subtract op minus e
joins Less op e = this Less operator.Less op less e
joins AtMost op e = this AtMost operator.AtMost op at_most e
joins Greater op e = this Greater operator.Greater op greater e
joins AtLeast op e = this AtLeast operator.AtLeast op at_least e
joins Equal op e = this Equal operator.Equal op equal e
joins NotEqual op e = this NotEqual operator.NotEqual op not_equal e
joins And op e = this And operator.And op and_also e
joins Or op e = this Or operator.Or op or_else e
joins _ op e = absurd (cc)
