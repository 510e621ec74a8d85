-- What a relocation computes (RISC-V ELF psABI, "Relocations": S is the symbol's value, A the addend, P the address of
-- the field), and its parts. A number is 32 bits, which a displacement reads as signed.
use Rattle.std.specs.Prelude.{ℕ, ◌+◌, ◌-◌, ◌/◌, ◌%◌, ◌^◌, ℤ, pos, negsuc, Bool, ◌&&◌, nat_lt, ◌==◌, Option, Some, None, Result, Ok, Err}
use Rattle.std.specs.Int.{cast_signed, cast_unsigned, w32}
use Rattle.rv_insn.specs.Fields.{signed, is_signed}
use Rattle.rv_reloc.specs.declared.fault.RelocFault.{RelocFault}
use Rattle.rv_reloc.specs.declared.fault.RelocFault.TheVariants.{NoPartner}
use Rattle.rv_reloc.specs.declared.table.Formula.{Formula}
use Rattle.rv_reloc.specs.declared.table.Formula.TheVariants.{Absolute, Relative, Partner}

-- S + A
abbrev pub sum_of : (s : ℕ) (a : ℤ) → ℕ
sum_of s a = (s + cast_unsigned w32 a) % 2 ^ 32

-- S + A - P
abbrev pub displacement : (s : ℕ) (a : ℤ) (p : ℕ) → ℕ
displacement s a p = (sum_of s a + (2 ^ 32 - p)) % 2 ^ 32

-- the partner's number, where it is there
abbrev pub partner_of : Option ℕ → Result ℕ RelocFault
partner_of None = Err NoPartner
partner_of (Some number) = Ok number

-- the number that a formula gives
abbrev pub number_by : Formula → (s : ℕ) (a : ℤ) (p : ℕ) (partner : Option ℕ) → Result ℕ RelocFault
number_by Absolute s a p partner = Ok (sum_of s a)
number_by Relative s a p partner = Ok (displacement s a p)
number_by Partner s a p partner = partner_of partner

-- the displacement that a number is
abbrev pub signed_of : ℕ → ℤ
signed_of number = cast_signed w32 number

-- one that is even too
abbrev pub is_reach : (half number : ℕ) → Bool
is_reach half number = is_signed half (signed_of number) && number % 2 == 0
