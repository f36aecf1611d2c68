-- A name of printed characters of ASCII is a text.
use Rattle.std.proofs.Common.{◌≡◌, ◌<◌, ℕ, List, true, arith}
use Rattle.std.proofs.lemmas.Bool.Decides.{nat_tests}
use Rattle.std.proofs.lemmas.List.Elements.{All-weaker}
use Rattle.std.proofs.lemmas.List.Sums.{AllPass-from_list_all}
use Rattle.std.proofs.lemmas.Str.{IsUtf8-from_ascii}
use Rattle.std.proofs.lemmas.Str.Ascii.{IsAscii-from_all}
use Rattle.std.specs.Char.{is_ascii_graphic}
use Rattle.std.specs.List.{list_all}
use Rattle.std.specs.Str.{IsUtf8}

low : (b : ℕ) → is_ascii_graphic b ≡ true → b < 128
low b h = grind (arith, nat_tests, h)

pub graphic_text : (name : List ℕ) → list_all is_ascii_graphic name ≡ true → IsUtf8 name
graphic_text name h =
    IsUtf8-from_ascii name (IsAscii-from_all name (All-weaker (λ b. is_ascii_graphic b ≡ true) (λ b. b < 128) low name (AllPass-from_list_all is_ascii_graphic name h)))
