-- The place behind a byte that stood between words.
use Rattle.std.proofs.Common.{◌≡◌, ℕ, true, false, cond, [], ◌∷◌, ap, ◌∙◌, arith}
use Rattle.std.proofs.lemmas.Bool.Decides.{nat_tests}
use Rattle.words.specs.Words.{place_behind, is_separator, is_quote, Between, Bare, Quoted}

pub place_behind-separator : (byte : ℕ) → is_separator byte ≡ true → place_behind byte ≡ Between
place_behind-separator byte e = ap (λ b. cond b Between (cond (is_quote byte) (Quoted byte []) (Bare (byte ∷ [])))) e

pub place_behind-bare : (byte : ℕ) → is_separator byte ≡ false → is_quote byte ≡ false → place_behind byte ≡ Bare (byte ∷ [])
place_behind-bare byte s q = ap (λ b. cond b Between (cond (is_quote byte) (Quoted byte []) (Bare (byte ∷ [])))) s ∙ ap (λ b. cond b (Quoted byte []) (Bare (byte ∷ []))) q

pub place_behind-quote : (byte : ℕ) → is_quote byte ≡ true → place_behind byte ≡ Quoted byte []
place_behind-quote byte q =
    let s : is_separator byte ≡ false = grind (arith, nat_tests) in
    ap (λ b. cond b Between (cond (is_quote byte) (Quoted byte []) (Bare (byte ∷ [])))) s ∙ ap (λ b. cond b (Quoted byte []) (Bare (byte ∷ []))) q
