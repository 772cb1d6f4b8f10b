-- What a command line that gives `collect` has.
use Rattle.std.proofs.Common.{◌≡◌, ◌∙◌, ◌<◌, ◌≤◌, ◌&&◌, ℕ, Bool, true, false, refl, sym, ap, subst, arith, List, [], ◌∷◌, length, Option, Some, None, codes, true≢false}
use Rattle.std.proofs.lemmas.Bool.{and_parts}
use Rattle.std.proofs.lemmas.Bool.Decides.{nat_tests}
use Rattle.std.proofs.lemmas.Option.{none-some, same_Some}
use Rattle.std.specs.Prelude.{if◌then◌else◌, nat_le, not}
use Rattle.std.specs.List.{list_any}
use Rattle.std.specs.Option.{option_map, option_and_then}
use Rattle.std.specs.Str.{bytes_eq}
use Rattle.agent_app.specs.Command.{addressed, alone, collect_of, command_of, form_of, is_option, is_question, longer, number_of, plan_of, up_to, IsCollector}
use Rattle.history.specs.declared.limits.TheConstants.{UPDATE_EVERY_LIMIT}
use Rattle.agent_app.specs.declared.command.TheConstants.{STARTS_LIMIT}
use Rattle.agent_app.specs.declared.command.Command.{Command}
use Rattle.agent_app.specs.declared.command.Command.TheVariants.{Collect, Convert, Health, Log, New, Query, Receive, Run, Send}

-- ---- a number in its limits

limited : (most : ℕ) (o : Option ℕ) (k : ℕ) → option_and_then (up_to most) o ≡ Some k → (1 ≤ k) × (k ≤ most)
limited most None k is = absurd (none-some k is)
limited most (Some n) k is = by (nat_le 1 n && nat_le n most) refl is
  where
    by : (b : Bool) → (nat_le 1 n && nat_le n most) ≡ b → (if b then Some n else None) ≡ Some k → (1 ≤ k) × (k ≤ most)
    by true within same =
        let both = and_parts (nat_le 1 n) (nat_le n most) within in
        let low : 1 ≤ n = grind (arith, nat_tests, both.0) in
        let high : n ≤ most = grind (arith, nat_tests, both.1) in
        subst (λ (m : ℕ). (1 ≤ m) × (m ≤ most)) (same_Some n k same) (low, high)
    by false within same = absurd (none-some k same)

-- ---- which command it is

abbrev is_collect : Option Command → Bool
is_collect None = false
is_collect (Some Convert) = false
is_collect (Some Health) = false
is_collect (Some (Log form)) = false
is_collect (Some (New plan)) = false
is_collect (Some Query) = false
is_collect (Some Receive) = false
is_collect (Some Run) = false
is_collect (Some Send) = false
is_collect (Some (Collect every starts)) = true

abbrev every_of : Option Command → ℕ
every_of None = 0
every_of (Some Convert) = 0
every_of (Some Health) = 0
every_of (Some (Log form)) = 0
every_of (Some (New plan)) = 0
every_of (Some Query) = 0
every_of (Some Receive) = 0
every_of (Some Run) = 0
every_of (Some Send) = 0
every_of (Some (Collect every starts)) = every

abbrev starts_of : Option Command → ℕ
starts_of None = 0
starts_of (Some Convert) = 0
starts_of (Some Health) = 0
starts_of (Some (Log form)) = 0
starts_of (Some (New plan)) = 0
starts_of (Some Query) = 0
starts_of (Some Receive) = 0
starts_of (Some Run) = 0
starts_of (Some Send) = 0
starts_of (Some (Collect every starts)) = starts

either : (b : Bool) (x y : Option Command) → is_collect x ≡ false → is_collect y ≡ false → is_collect (if b then x else y) ≡ false
either true x y first second = first
either false x y first second = second

other_of : {A : Type 0} (f : A → Command) (o : Option A) → ((a : A) → is_collect (Some (f a)) ≡ false) → is_collect (option_map f o) ≡ false
other_of f None other = refl
other_of f (Some a) other = other a

other_addressed : (command : Command) (words : List (List ℕ)) → is_collect (Some command) ≡ false → is_collect (addressed command words) ≡ false
other_addressed command [] other = refl
other_addressed command (address ∷ []) other = other
other_addressed command (address ∷ next ∷ more) other = refl

other_alone : (word : List ℕ) → is_collect (alone word) ≡ false
other_alone word =
    either (bytes_eq word (codes "convert")) _ _ refl
    (either (bytes_eq word (codes "health")) _ _ refl
    (either (bytes_eq word (codes "run")) _ _ refl refl))

is_other : (every starts : ℕ) (o : Option Command) → is_collect o ≡ false → o ≡ Some (Collect every starts) → ⊥
is_other every starts o other is = true≢false (sym (ap is_collect is) ∙ other)

-- ---- what it has

module _ (every starts : ℕ) where
  -- the words behind `collect`
  record Has (more : List (List ℕ)) : Type 0 where
    every_least : 1 ≤ every
    every_most : every ≤ UPDATE_EVERY_LIMIT
    starts_least : 1 ≤ starts
    starts_most : starts ≤ STARTS_LIMIT
    program : 2 < length more

  both : (a b : Option ℕ) → option_and_then (λ (e : ℕ). option_map (λ (s : ℕ). Collect e s) b) a ≡ Some (Collect every starts) → (a ≡ Some every) × (b ≡ Some starts)
  both None b is = absurd (none-some (Collect every starts) is)
  both (Some e) None is = absurd (none-some (Collect every starts) is)
  both (Some e) (Some s) is = (ap Some (ap every_of is), ap Some (ap starts_of is))

  has : (more : List (List ℕ)) → collect_of more ≡ Some (Collect every starts) → Has more
  has [] is = absurd (none-some (Collect every starts) is)
  has (a ∷ []) is = absurd (none-some (Collect every starts) is)
  has (a ∷ b ∷ []) is = absurd (none-some (Collect every starts) is)
  has (a ∷ b ∷ c ∷ more) is =
      let each = both (option_and_then (up_to UPDATE_EVERY_LIMIT) (number_of a)) (option_and_then (up_to STARTS_LIMIT) (number_of b)) is in
      let e = limited UPDATE_EVERY_LIMIT (number_of a) every each.0 in
      let s = limited STARTS_LIMIT (number_of b) starts each.1 in
      record { every_least = e.0; every_most = e.1; starts_least = s.0; starts_most = s.1; program = omega arith }

  has_longer : (word : List ℕ) (more : List (List ℕ)) → longer word more ≡ Some (Collect every starts) → Has more
  has_longer word more is = by (bytes_eq word (codes "collect") && not (list_any is_option more)) refl is
    where
      rest : Option Command
      rest =
          if bytes_eq word (codes "log") then option_map Log (form_of more)
          else if bytes_eq word (codes "new") then option_map New (plan_of more)
          else if bytes_eq word (codes "query") && is_question more then Some Query
          else if bytes_eq word (codes "receive") && not (list_any is_option more) then addressed Receive more
          else if bytes_eq word (codes "send") && not (list_any is_option more) then addressed Send more
          else None

      other : is_collect rest ≡ false
      other =
          either (bytes_eq word (codes "log")) _ _ (other_of Log (form_of more) (λ form. refl))
          (either (bytes_eq word (codes "new")) _ _ (other_of New (plan_of more) (λ plan. refl))
          (either (bytes_eq word (codes "query") && is_question more) _ _ refl
          (either (bytes_eq word (codes "receive") && not (list_any is_option more)) _ _ (other_addressed Receive more refl)
          (either (bytes_eq word (codes "send") && not (list_any is_option more)) _ _ (other_addressed Send more refl) refl))))

      by : (b : Bool) → (bytes_eq word (codes "collect") && not (list_any is_option more)) ≡ b → (if b then collect_of more else rest) ≡ Some (Collect every starts) → Has more
      by true named is = has more is
      by false named is = absurd (is_other every starts rest other is)

  pub is-collector : (words : List (List ℕ)) → command_of words ≡ Some (Collect every starts) → IsCollector every starts words
  is-collector [] is = absurd (none-some (Collect every starts) is)
  is-collector (word ∷ []) is = absurd (is_other every starts (alone word) (other_alone word) is)
  is-collector (word ∷ next ∷ more) is =
      let h = has_longer word (next ∷ more) is in
      record { every_least = h.every_least; every_most = h.every_most; starts_least = h.starts_least; starts_most = h.starts_most; program = omega (arith, h.program) }
