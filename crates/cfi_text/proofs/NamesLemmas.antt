-- Names are text.
use Rattle.std.proofs.Common.{◌≡◌, ℕ, ◌<◌, true, List, [], ◌∷◌, arith}
use Rattle.std.proofs.lemmas.Bool.{and_parts}
use Rattle.std.proofs.lemmas.Bool.Decides.{nat_tests}
use Rattle.std.proofs.lemmas.Str.{is_utf8-from_IsUtf8, IsUtf8-from_ascii}
use Rattle.std.proofs.lemmas.Str.Ascii.{IsAscii-nil, IsAscii-cons}
use Rattle.std.specs.List.{list_all}
use Rattle.std.specs.Str.{IsAscii, is_utf8}
use Rattle.cfi_text.specs.Names.{is_name, is_name_byte}

-- a byte of a name is of ASCII
name_byte-lt : (byte : ℕ) → is_name_byte byte ≡ true → byte < 128
name_byte-lt byte h = grind (arith, nat_tests)

ascii_name : (word : List ℕ) → list_all is_name_byte word ≡ true → IsAscii word
ascii_name [] h = IsAscii-nil
ascii_name (byte ∷ bytes) h = let parts =
    and_parts _ _ h in IsAscii-cons byte bytes (name_byte-lt byte parts.0) (ascii_name bytes parts.1)

pub is_utf8-name : (word : List ℕ) → is_name word ≡ true → is_utf8 word ≡ true
unfolding is_name
is_utf8-name word h = is_utf8-from_IsUtf8 word (IsUtf8-from_ascii word (ascii_name word (and_parts _ _ (and_parts _ _
    h).0).1))
