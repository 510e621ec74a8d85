-- What is looked at once for all relocations: which symbols were left out, and the section that they change.
use Rattle.std.specs.Prelude.{◌≡◌, ◌+◌, ◌<◌, ℕ, Bool, false, not, ◌&&◌, ◌||◌, ◌==◌, nat_lt, List, length, slice_index_or}
use Rattle.elf_read.specs.Symbol.{symbol_count, is_left_out}
use Rattle.elf_read.specs.Places.{count_where}
use Rattle.elf_read.specs.Relocation.{entry_in, is_dropped, symbol_index, kind_of, field_size, misfits}
use Rattle.elf_read.specs.declared.relocation.Rela.{Rela}
use Rattle.elf_read.specs.declared.rela.Target.{Target}

-- each symbol is marked where it was left out
pub record AreLeftOut (bytes : List ℕ) (marks : List Bool) : Type 0 where
  pub size : length marks ≡ symbol_count bytes
  pub marked : (k : ℕ) → k < symbol_count bytes → slice_index_or marks k false ≡ is_left_out bytes k

-- the number is that of no symbol that is kept, and not 0
abbrev pub is_bad_symbol_number : (marks : List Bool) → (symbol : ℕ) → Bool
is_bad_symbol_number marks symbol =
    not (symbol == 0) && (not (nat_lt symbol (length marks)) || slice_index_or marks symbol false)

-- the relocation breaks a rule
unfoldable pub breaks : (marks : List Bool) → Target → Rela → Bool
breaks marks target rela =
    is_bad_symbol_number marks (symbol_index rela)
    || nat_lt target.size (rela.offset + field_size (kind_of rela))
    || misfits target.is_text target.is_data rela

-- how many of the first entries are kept
abbrev pub kept_in : (entries : List ℕ) → (count : ℕ) → ℕ
kept_in entries count = count_where (λ i. not (is_dropped (kind_of (entry_in entries i)))) count
