-- Which stored beats the whole lines of a text acknowledge.
use Rattle.std.proofs.Common.{◌≡◌, ℕ, ◌<◌, ◌≤◌, ◌^◌, ⊎_elim, Bool, true, false, true≢false, List, [], ◌∷◌, ◌++◌, length, take, drop, All, codes, refl, sym, ap, subst, ◌∙◌, append_assoc, append-nil, arith}
use Rattle.std.specs.Fmt.{decimal}
use Rattle.std.proofs.Math.ListN.{drop_of_length-le}
use Rattle.std.proofs.Math.Seq.{drop-append_seam}
use Rattle.std.proofs.lemmas.Bool.{cases_lt}
use Rattle.std.proofs.lemmas.Fmt.{decimal_injective}
use Rattle.std.proofs.lemmas.List.{append_cancel_left, drop-append-le, take_at, take-append-drop}
use Rattle.std.proofs.lemmas.List.Elements.{All-append, All-from_recursion, All-take}
use Rattle.std.proofs.lemmas.List.Splits.{slice_split_at}
use Rattle.host_model.specs.Past.{Event, On, Told, told, IsText}
use Rattle.plugin_text.specs.Lines.{but_last, last_part, lines, parts, rest}
use Rattle.plugin_text.proofs.PartsLemmas.{lines-append, rest-append}
use Rattle.history.specs.Limits.{is_line_feed}
use Rattle.query_text.proofs.ReplyLemmas.{decimal-number, free-append, IsFree}
use Rattle.agent_core.specs.declared.reply.Reply.{Reply}
use Rattle.agent_core.specs.Replies.{reply_text}
use Rattle.link_session.specs.Keeps.{stored_line, IsAckedUpTo}

-- ---- texts without a line feed
pub decimal-free : (n : ℕ) → IsFree (decimal n)
decimal-free n = (decimal-number n).free

-- a text of one line
pub one-line : (text : List ℕ) → IsFree text → parts (text ++ 10 ∷ []) ≡ text ∷ [] ∷ []
one-line text free = slice_split_at is_line_feed text 10 [] (All-from_recursion (λ (byte : ℕ). is_line_feed byte ≡ false) text free) refl

-- ---- acknowledged up to a number
abbrev IsKnown : ℕ → List ℕ → Type 0
IsKnown n said = (m : ℕ) → m < 2 ^ 64 → said ≡ stored_line m → m ≤ n

pub acked-nothing : (n : ℕ) → IsAckedUpTo n []
acked-nothing n = All-from_recursion (IsKnown n) [] tt

pub acked-one : (n : ℕ) (text : List ℕ) → IsFree text → IsKnown n text → IsAckedUpTo n (text ++ 10 ∷ [])
acked-one n text free known = subst (λ (ps : List (List ℕ)). All (IsKnown n) (but_last ps)) (sym (one-line text free)) (All-from_recursion (IsKnown n) (text ∷ []) (known, tt))

pub acked-more : (n : ℕ) (made text : List ℕ) → rest made ≡ [] → IsAckedUpTo n made → IsAckedUpTo n text → IsAckedUpTo n (made ++ text)
acked-more n made text closed first second =
    let all : lines (made ++ text) ≡ lines made ++ lines text = lines-append made text ∙ ap (λ (r : List ℕ). lines made ++ lines (r ++ text)) closed in
    subst (All (IsKnown n)) (sym all) (All-append (IsKnown n) (lines made) (lines text) first second)

acked-prefix : (n : ℕ) (text more : List ℕ) → IsAckedUpTo n (text ++ more) → IsAckedUpTo n text
acked-prefix n text more all =
    let these = subst (All (IsKnown n)) (lines-append text more) all in
    let later = lines (rest text ++ more) in
    subst (All (IsKnown n)) (take_at (lines text) later (length (lines text)) refl) (All-take (IsKnown n) (length (lines text)) (lines text ++ later) these)

pub acked-weaker : (m n : ℕ) (text : List ℕ) → m ≤ n → IsAckedUpTo m text → IsAckedUpTo n text
acked-weaker m n text up all = λ k d within j small is. omega (arith, up, all k d within j small is)

pub closed-more : (made text : List ℕ) → rest made ≡ [] → rest text ≡ [] → rest (made ++ text) ≡ []
closed-more made text closed ends = rest-append made text ∙ ap (λ (r : List ℕ). rest (r ++ text)) closed ∙ ends

-- a prefix of what was told since
pub acked-since : (n : ℕ) (before made text more : List ℕ) → text ++ more ≡ before ++ made → IsAckedUpTo n made → IsAckedUpTo n (drop (length before) text)
acked-since n before made text more whole acked =
    ⊎_elim
    (λ short. subst (IsAckedUpTo n) (sym (drop_of_length-le text (omega arith))) (acked-nothing n))
    (λ long.
    let since : made ≡ drop (length before) text ++ more = sym (drop-append_seam before made) ∙ ap (drop (length before)) (sym whole) ∙ drop-append-le (length before) text more long in
    acked-prefix n (drop (length before) text) more (subst (IsAckedUpTo n) since acked))
    (cases_lt (length text) (length before))

-- what may have been told by then is a prefix of all that was told
pub record IsPrefix (text all : List ℕ) : Type 0 where
  pub more : List ℕ
  pub whole : text ++ more ≡ all

pub text-prefix : (past : List Event) (text : List ℕ) → IsText past text → IsPrefix text (told past)
text-prefix [] text is = record { more = []; whole = append-nil text ∙ is }
text-prefix (On file change ∷ past) text is = record { more = []; whole = append-nil text ∙ is }
text-prefix (Told sent ∷ past) text is = record {
  more = drop is.0 sent;
  whole = ap (λ (t : List ℕ). t ++ drop is.0 sent) is.1 ∙ append_assoc (told past) (take is.0 sent) (drop is.0 sent) ∙ ap (λ (t : List ℕ). told past ++ t) (take-append-drop is.0 sent);
}

-- ---- what a run tells
stored-free : IsFree (codes "STORED ")
stored-free = (refl, (refl, (refl, (refl, (refl, (refl, (refl, tt)))))))

pub acked-stored : (n count : ℕ) → count < 2 ^ 64 → count ≤ n → IsAckedUpTo n (stored_line count ++ 10 ∷ [])
acked-stored n count small up =
    acked-one n (stored_line count) (free-append (codes "STORED ") (decimal count) stored-free (decimal-free count))
    (λ m small' is. let same = decimal_injective count m small small' (append_cancel_left (codes "STORED ") (decimal count) (decimal m) is) in omega (arith, same, up))

pub closed-stored : (count : ℕ) → rest (stored_line count ++ 10 ∷ []) ≡ []
closed-stored count = ap last_part (one-line (stored_line count) (free-append (codes "STORED ") (decimal count) stored-free (decimal-free count)))

-- a text that is not empty
abbrev pub has-first : List ℕ → Bool
has-first [] = false
has-first (byte ∷ text) = true

pub stored-some : (reply : Reply) → reply_text reply ≡ [] → ⊥
stored-some reply none = true≢false (ap has-first none)
