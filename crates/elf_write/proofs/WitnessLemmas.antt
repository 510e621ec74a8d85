-- An object that a file can be.
use Rattle.std.proofs.Common.{◌<◌, ◌≤◌, ◌^◌, zero, suc, [], ◌∷◌, length, Some, None, refl, arith, pos, All}
use Rattle.std.proofs.Math.Facts.{sfits_lit}
use Rattle.elf_read.specs.declared.object.Object.{Object}
use Rattle.elf_read.specs.declared.object.Symbol.{Symbol}
use Rattle.elf_read.specs.declared.object.Reloc.{Reloc}
use Rattle.elf_read.specs.declared.object.Binding.TheVariants as bindings
use Rattle.elf_read.specs.declared.object.Place.TheVariants as places
use Rattle.elf_read.specs.declared.object.Area.TheVariants as areas
use Rattle.elf_read.specs.Relocation.{is_known, field_size, is_of_instruction}
use Rattle.elf_write.specs.Contents.{info_of}
use Rattle.elf_write.specs.Limits.{IsWithinLimits}
use Rattle.elf_write.specs.Whole.{IsWhole, IsGoodSymbol, IsGoodReloc}

the_symbol : Symbol
the_symbol = record { name = 102 ∷ []; binding = bindings.Global; place = places.Text; value = 0 }

the_reloc : Reloc
the_reloc = record { area = areas.Text; offset = 0; kind = 26; symbol = Some 0; addend = pos 4 }

pub small : Object
small = record {
  text = 55 ∷ 5 ∷ 0 ∷ 0 ∷ [];
  static_data = [];
  symbols = the_symbol ∷ [];
  relocs =
      the_reloc ∷ [];
  types = None;
  records = None;
}

-- what holds of the one element holds of all
each_one : {X : Type 0} (P : X → Type 0) (x : X) → P x → All P (x ∷ [])
each_one P x is zero d within = is
each_one P x is (suc k) d within = absurd (omega arith)

small_limits : IsWithinLimits small
unfolding small the_symbol the_reloc
small_limits = record {
  text = omega arith;
  static_data = omega arith;
  symbols = omega arith;
  relocs = omega arith;
  types = omega arith;
  records = omega arith;
  names = each_one (λ (s : Symbol). length s.name ≤ 255) the_symbol (omega arith);
  infos = each_one (λ (r : Reloc). info_of r < 2 ^ 32) the_reloc (omega arith);
}

good_symbol : IsGoodSymbol small the_symbol
unfolding small the_symbol lib.Utf8.encode
good_symbol = record {
  unended = refl;
  text = (102 ∷ [], (refl, refl));
  named = omega arith;
  placed = tt;
  value =
      omega arith;
}

good_reloc : IsGoodReloc small the_reloc
unfolding small the_reloc is_known is_of_instruction field_size
good_reloc = record {
  known = refl;
  kept = refl;
  symbol = omega arith;
  inside = omega arith;
  placed =
      (refl, refl);
  fits = sfits_lit tt;
}

pub small_whole : IsWhole small
unfolding small the_symbol the_reloc
small_whole = record {
  limits = small_limits;
  words = refl;
  symbols = each_one (IsGoodSymbol small) the_symbol good_symbol;
  apart = λ i j before within. absurd (omega arith);
  relocs = each_one (IsGoodReloc small) the_reloc good_reloc;
  order = refl;
}
