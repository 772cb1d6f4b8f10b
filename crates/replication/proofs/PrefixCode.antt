-- What the count of a prefix comes to.
use Rattle.std.proofs.Common.{◌≡◌, ℕ, ◌+◌, ◌*◌, ◌<◌, ◌≤◌, true, max, List, [], ◌∷◌, ◌++◌, length, take, drop, get_or, inl, inr, sym, ap, subst, ◌∙◌, arith}
use Rattle.std.proofs.lemmas.Bool.{le-leb, lt-leb}
use Rattle.std.proofs.lemmas.List.{append-nil, take-append-drop, take-take, take_more, length-take, length-take-le}
use Rattle.std.proofs.lemmas.List.Concat.{flat_map-append}
use Rattle.replication.specs.declared.beats.Beat.{Beat}
use Rattle.replication.specs.declared.names.Names.{Names}
use Rattle.replication.specs.Answer.{data_with, prefix}
use Rattle.replication.specs.Bytes.{data_bytes}
use Rattle.replication.specs.Marks.{words_size}
use Rattle.replication.specs.Names.{words_of}
use Rattle.replication.proofs.PrefixLaws.{fits, prefix-is}
use Rattle.replication.proofs.MarksLaws.{words_size-rises, length-data_with}

-- the words of one more beat
pub words_of-more : (beats : List Beat) (i : ℕ) (x : Beat) → i < length beats → x ≡ get_or beats i x → words_of (take (i + 1) beats) ≡ words_of (take i beats) ++ x.words
words_of-more beats i x lt at =
    ap words_of (take_more beats i x lt ∙ ap (λ (x : Beat). take i beats ++ x ∷ []) (sym at)) ∙ flat_map-append (λ (beat : Beat). beat.words) (take i beats) (x ∷ []) ∙ ap (λ words. words_of (take i beats) ++ words) (append-nil x.words)

words_of-split : (beats : List Beat) (j k : ℕ) → j ≤ k → words_of (take k beats) ≡ words_of (take j beats) ++ words_of (drop j (take k beats))
words_of-split beats j k le =
    ap words_of (sym (take-append-drop j (take k beats))) ∙ flat_map-append (λ (beat : Beat). beat.words) (take j (take k beats)) (drop j (take k beats))
    ∙ ap (λ prefix. words_of prefix ++ words_of (drop j (take k beats))) (take-take j k beats le)

-- more beats take no less
size-rises : (names : Names) (beats : List Beat) (j k : ℕ) → j ≤ k → words_size names (words_of (take j beats)) ≤ words_size names (words_of (take k beats))
size-rises names beats j k le =
    subst (λ words. words_size names (words_of (take j beats)) ≤ words_size names words) (sym (words_of-split beats j k le)) (words_size-rises names (words_of (take j beats)) (words_of (drop j (take k beats))))

-- the first beats fit
counted-fits : (child floor prev : ℕ) (names : Names) (later : List Beat) (count room : ℕ) → count ≤ length later → room + (37 + words_size names (words_of (take count later)) + 8 * count) ≡ 1048576
    → fits (data_with child floor prev names) later count ≡ true
counted-fits child floor prev names later count room le size =
    le-leb (length (data_bytes (data_with child floor prev names (take count later)))) 1048576 (omega (arith, length-data_with child floor prev names (take count later), length-take-le count later le))

-- where the next beat has no room, or there is none, the prefix is what was counted
pub prefix-stops : (child floor prev : ℕ) (names : Names) (later : List Beat) (count room : ℕ) (x : Beat) → count < length later → count ≤ 64 → x ≡ get_or later count x
    → room + (37 + words_size names (words_of (take count later)) + 8 * count) ≡ 1048576
    → room + words_size names (words_of (take count later)) < 8 + words_size names (words_of (take count later) ++ x.words)
    → take (max count 1) later ≡ prefix (data_with child floor prev names) later
prefix-stops child floor prev names later count room x lt le at size past =
    prefix-is (data_with child floor prev names) later count le (inr (counted-fits child floor prev names later count room (omega arith) size))
    (inr (λ k above within.
    let next = ap (words_size names) (words_of-more later count x lt at) in
    lt-leb (length (data_bytes (data_with child floor prev names (take k later)))) 1048576
    (omega (arith, length-data_with child floor prev names (take k later), length-take k later, size-rises names later (count + 1) k (omega arith), next))))

pub prefix-full : (child floor prev : ℕ) (names : Names) (later : List Beat) (count room : ℕ) → count ≤ length later → count ≡ 64
    → room + (37 + words_size names (words_of (take count later)) + 8 * count) ≡ 1048576
    → take (max count 1) later ≡ prefix (data_with child floor prev names) later
prefix-full child floor prev names later count room le full size =
    prefix-is (data_with child floor prev names) later count (omega arith) (inr (counted-fits child floor prev names later count room le size)) (inr (λ k above within. absurd (omega arith)))

pub prefix-all : (child floor prev : ℕ) (names : Names) (later : List Beat) (count room : ℕ) → count ≡ length later → count ≤ 64
    → room + (37 + words_size names (words_of (take count later)) + 8 * count) ≡ 1048576
    → take (max count 1) later ≡ prefix (data_with child floor prev names) later
prefix-all child floor prev names later count room all le size =
    prefix-is (data_with child floor prev names) later count le (inr (counted-fits child floor prev names later count room (omega arith) size)) (inl (omega arith))
