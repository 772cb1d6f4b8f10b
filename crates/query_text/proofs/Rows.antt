-- what the definitions say of small queries, worked out by hand
use Rattle.std.proofs.Common.{◌≡◌, ◌^◌, ◌-◌, true, false, [], ◌∷◌, codes, Ok, Err, refl}
use Rattle.query_text.specs.declared.fault.QueryFault.TheVariants.{BadWord, BadNumber}
use Rattle.query_text.specs.Replies.{is_reply_line}
use Rattle.query_text.specs.Asked.{windows, number_read, pattern_text, words_read}

whole_windows : windows 0 120 60 ≡ 2
whole_windows = refl

part_of_a_window : windows 0 121 60 ≡ 3
part_of_a_window = refl

no_window : windows 60 60 60 ≡ 0
no_window = refl

signed : number_read 0 (codes "+07") ≡ Ok 7
signed = refl

less_nothing : number_read 0 (codes "-0") ≡ Ok 0
less_nothing = refl

below_nothing : number_read 0 (codes "-1") ≡ Err BadNumber
below_nothing = refl

no_seconds : number_read 1 (codes "0") ≡ Err BadNumber
no_seconds = refl

most : number_read 0 (codes "4294967295") ≡ Ok (2 ^ 32 - 1)
most = refl

past_the_most : number_read 0 (codes "4294967296") ≡ Err BadNumber
past_the_most = refl

every_name : pattern_text [] ≡ codes "*"
every_name = refl

no_name : pattern_text ([] ∷ []) ≡ []
no_name = refl

joined : pattern_text (codes "!a" ∷ codes "b c" ∷ []) ≡ codes "!a b c"
joined = refl

open_quote : words_read (codes "a 'b") ≡ Err BadWord
open_quote = refl

head_begun : is_reply_line (codes "ROWS 1 a") ≡ true
head_begun = refl

row_begun : is_reply_line (codes "0 null") ≡ true
row_begun = refl

refusal_begun : is_reply_line (codes "ERROR 5") ≡ true
refusal_begun = refl

acknowledgement_not : is_reply_line (codes "STORED 7") ≡ false
acknowledgement_not = refl

nothing_not : is_reply_line [] ≡ false
nothing_not = refl
