-- The rules of symbols that other symbols have no part in.
use Rattle.std.specs.Prelude.{ℕ, Bool, not, ◌||◌, List}
use Rattle.elf_read.specs.Symbol.{is_bad_info, is_bad_place, is_well_named, is_nameless, is_local_undefined, is_past_section}

-- symbol k breaks one of them
unfoldable pub is_bad_alone : List ℕ → (k : ℕ) → Bool
is_bad_alone bytes k =
    is_bad_info bytes k || is_bad_place bytes k || not (is_well_named bytes k) || is_nameless bytes k
    || is_local_undefined bytes k || is_past_section bytes k
