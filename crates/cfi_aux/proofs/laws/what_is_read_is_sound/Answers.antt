use Rattle.std.proofs.Common.{◌≡◌, ◌%◌, ℕ, List, length, All, sym, ap, subst, ◌∙◌, arith}
use Rattle.std.specs.List.{AllPairs}
use Rattle.elf_read.specs.Header.{section_count}
use Rattle.elf_read.specs.Symbol.{symbol_count}
use Rattle.elf_read.specs.Object.{symbol_number}
use Rattle.elf_read.specs.Fault.{IsObject}
use Rattle.elf_read.specs.declared.object.Object.{Object}
use Rattle.elf_read.specs.declared.object.Symbol.{Symbol}
use Rattle.elf_read.specs.declared.object.Reloc.{Reloc}
use Rattle.elf_read.specs.Sound.{IsSoundObject, IsSoundSymbol, IsSoundReloc}
use Rattle.cfi_aux.proofs.JoinedLists.{text_length, text_fours, data_length}
use Rattle.cfi_aux.proofs.SoundSymbols.{HasSizes, AreNoRivals, symbols_sound, no_rivals}
use Rattle.cfi_aux.proofs.SoundRelocs.{symbols_length, relocs_sound}
use Rattle.cfi_aux.proofs.laws.what_is_read_is_sound.Goals as goal

sizes_of : (bytes : List ℕ) (object : Object) → IsObject bytes object → HasSizes bytes object
sizes_of bytes object is = record {
  text = ap (λ (t : List ℕ). length t) is.kept.text ∙ text_length bytes is.sound;
  static_data = ap (λ (t : List ℕ). length t) is.kept.static_data
      ∙ data_length bytes (section_count bytes) is.sound (omega arith);
}

sound_of : (bytes : List ℕ) (object : Object) → IsObject bytes object → IsSoundObject object
sound_of bytes object is =
    let sizes = sizes_of bytes object is in
    let count : length object.symbols ≡ symbol_number bytes (symbol_count bytes) =
    ap (λ (xs : List Symbol). length xs) is.kept.symbols ∙ symbols_length bytes (symbol_count bytes) in
    record {
      words = ap (λ (n : ℕ). n % 4) sizes.text ∙ text_fours bytes (section_count bytes) is.sound (omega arith);
      symbols = subst (λ (xs : List Symbol). All (IsSoundSymbol object) xs) (sym is.kept.symbols)
          (symbols_sound bytes object is.sound sizes);
      definitions = subst (λ (xs : List Symbol). AllPairs AreNoRivals xs) (sym is.kept.symbols)
          (no_rivals bytes (symbol_count bytes) is.sound (omega arith));
      relocs = subst (λ (xs : List Reloc). All (IsSoundReloc object) xs) (sym is.kept.relocs)
          (relocs_sound bytes object is.sound sizes count);
    }

pub returns : goal.returns
returns c = sound_of
