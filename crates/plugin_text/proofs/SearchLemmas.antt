-- What a search for the first line feed says of the parts.
use Rattle.std.proofs.Common.{◌≡◌, ℕ, ◌+◌, ◌<◌, false, List, [], ◌∷◌, ◌++◌, length, get_or, take, drop, sym, ap, ◌∙◌, arith}
use Rattle.std.specs.List.{All}
use Rattle.std.proofs.lemmas.Bool.{false_from_ne_true}
use Rattle.std.proofs.lemmas.List.{take-append-drop, drop_more, get_or-take, length-take-le}
use Rattle.std.proofs.lemmas.List.Elements.{All-from_get_or}
use Rattle.std.proofs.lemmas.List.Splits.{slice_split_none, slice_split_at}
use Rattle.memchr.specs.Find.{Nowhere, Passes, is_byte}
use Rattle.history.specs.Limits.{is_line_feed}
use Rattle.plugin_text.specs.Lines.{parts}

pub parts_none : (text : List ℕ) → Nowhere (Passes (is_byte 10) text) 0 (length text) → parts text ≡ text ∷ []
parts_none text nowhere =
    slice_split_none is_line_feed text
    (All-from_get_or (λ byte. is_line_feed byte ≡ false) text 0 (λ k inside. false_from_ne_true _ (nowhere k (omega arith) inside)))

pub parts_at : (text : List ℕ) (at : ℕ) → at < length text → Nowhere (Passes (is_byte 10) text) 0 at → Passes (is_byte 10) text at
    → parts text ≡ take at text ∷ parts (drop (at + 1) text)
parts_at text at inside nowhere here =
    let prefix = take at text in
    let no_line_feed : All (λ byte. is_line_feed byte ≡ false) prefix = All-from_get_or (λ byte. is_line_feed byte ≡ false) prefix 0
    (λ k before.
    let below : k < at = omega (arith, length-take-le at text (omega arith)) in
    rw get_or-take (false_from_ne_true _ (nowhere k (omega arith) below))) in
    let halves : prefix ++ get_or text at 0 ∷ drop (at + 1) text ≡ text =
    ap (λ back. prefix ++ back) (sym (drop_more text at 0 inside)) ∙ take-append-drop at text in
    ap parts (sym halves) ∙ slice_split_at is_line_feed prefix (get_or text at 0) (drop (at + 1) text) no_line_feed here
