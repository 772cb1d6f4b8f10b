-- What a refusal tells: a whole line, which acknowledges no beat.
use Rattle.std.proofs.Common.{◌≡◌, ℕ, Bool, true, false, List, [], ◌∷◌, ◌++◌, codes, refl, sym, ap, ◌∙◌, append_assoc, arith, true≢false, if◌then◌else◌}
use Rattle.std.specs.Fmt.{decimal}
use Rattle.std.specs.List.{slice_index}
use Rattle.history.specs.declared.fault.BlockFault.TheVariants as fault
use Rattle.plugin_text.specs.declared.refusal.Refusal.{Refusal}
use Rattle.plugin_text.specs.declared.refusal.Refusal.TheVariants as refusal
use Rattle.plugin_text.specs.Refusal.{refusal_number}
use Rattle.query_text.proofs.ReplyLemmas.{free-append, IsFree}
use Rattle.link_session.specs.Keeps.{IsAckedUpTo}
use Rattle.link_session.proofs.AckLemmas.{acked-one, decimal-free, has-first}
use Rattle.agent_app.specs.Convert.{is_limit, refusal_line, refusal_tail}

-- ---- what is told
-- what stands between two texts that are none together
pub middle-none : (first middle last : List ℕ) → first ++ (middle ++ last) ≡ [] → middle ≡ []
middle-none [] [] last none = refl
middle-none [] (byte ∷ middle) last none = absurd (true≢false (ap has-first none))
middle-none (byte ∷ first) middle last none = absurd (true≢false (ap has-first none))

abbrev pub first_word : Bool → List ℕ
first_word limit = if limit then codes "LIMIT " else codes "REFUSED "

pub first-free : (limit : Bool) → IsFree (first_word limit)
first-free true = (refl, (refl, (refl, (refl, (refl, (refl, tt))))))
first-free false = (refl, (refl, (refl, (refl, (refl, (refl, (refl, (refl, tt))))))))

tail-free : (why : Refusal) → IsFree (refusal_tail why)
tail-free (refusal.Block (fault.MomentOrder last)) = free-append (codes " ") (decimal last) (refl, tt) (decimal-free last)
tail-free why = tt

pub no-stored : (limit : Bool) (more others : List ℕ) → first_word limit ++ more ≡ codes "STORED " ++ others → ⊥
no-stored true more others same = let first : 76 ≡ 83 = ap (λ (l : List ℕ). slice_index l 0) same in omega (arith, first)
no-stored false more others same = let first : 82 ≡ 83 = ap (λ (l : List ℕ). slice_index l 0) same in omega (arith, first)

pub acked-refusal : (n line : ℕ) (why : Refusal) → IsAckedUpTo n (refusal_line line why)
acked-refusal n line why =
    let first = first_word (is_limit why) in
    let numbers = decimal line ++ codes " " ++ decimal (refusal_number why) in
    let text = first ++ decimal line ++ codes " " ++ decimal (refusal_number why) ++ refusal_tail why in
    let free : IsFree text =
    free-append (first ++ decimal line ++ codes " " ++ decimal (refusal_number why)) (refusal_tail why)
    (free-append (first ++ decimal line ++ codes " ") (decimal (refusal_number why))
    (free-append (first ++ decimal line) (codes " ") (free-append first (decimal line) (first-free (is_limit why)) (decimal-free line)) (refl, tt)) (decimal-free (refusal_number why)))
    (tail-free why) in
    let whole : text ≡ first ++ (decimal line ++ (codes " " ++ (decimal (refusal_number why) ++ refusal_tail why))) = simp append_assoc in
    acked-one n text free (λ m small is. absurd (no-stored (is_limit why) (decimal line ++ (codes " " ++ (decimal (refusal_number why) ++ refusal_tail why))) (decimal m) (sym whole ∙ is)))

pub refusal-some : (line : ℕ) (why : Refusal) → refusal_line line why ≡ [] → ⊥
refusal-some line why = by (is_limit why)
  where
    by : (limit : Bool) → first_word limit ++ decimal line ++ codes " " ++ decimal (refusal_number why) ++ refusal_tail why ++ codes "\n" ≡ [] → ⊥
    by true none = true≢false (ap has-first none)
    by false none = true≢false (ap has-first none)
