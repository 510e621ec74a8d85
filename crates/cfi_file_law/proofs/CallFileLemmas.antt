-- The module with a masked access, a call and a check is read of a file, before it is instrumented and after.
use Rattle.std.proofs.Common.{◌≡◌, ℕ, ◌+◌, ◌*◌, ◌%◌, ◌<◌, ◌≤◌, ◌^◌, Bool, true, ◌&&◌, List, [], ◌∷◌, length, IsTrue, refl, ap, arith}
use Rattle.std.specs.Prelude.{FitsSigned, nat_lt}
use Rattle.std.specs.Int.{w32}
use Rattle.std.proofs.lemmas.List.Elements.{All-nil, All-cons}
use Rattle.std.proofs.lemmas.Bool.Decides.{nat_tests}
use Rattle.std.specs.Str.{is_utf8}
use Rattle.std.proofs.lemmas.Str.{is_utf8-from_IsUtf8}
use Rattle.std.proofs.Math.Facts.{sfits_lit}
use Rattle.cfi_word.specs.declared.limits.TheConstants.{MAX_WORDS}
use Rattle.elf_read.specs.Relocation.{is_known, field_size, is_of_instruction}
use Rattle.elf_read.specs.Sound.{IsSoundObject, IsSoundSymbol, IsSoundReloc}
use Rattle.elf_read.specs.declared.object.Object.{Object}
use Rattle.elf_write.specs.Contents.{name_table, symbol_entry, symbol_name_place, null_entry, symbol_table, rela_entry, relas_of}
use Rattle.elf_write.specs.File.{padding, padded, section_place, part_header, file_header, bytes_of}
use Rattle.cfi_type_table.specs.Spelling.{AreTypes}
use Rattle.cfi_aux.specs.Format.{is_length}
use Rattle.cfi_aux.specs.Modules.{AreSpelled}
use Rattle.cfi_aux.specs.Sound.{IsSoundModule}
use Rattle.cfi_aux.specs.Records.{AreRecordsIn}
use Rattle.cfi_aux.specs.declared.version.RecordVersion.TheVariants.{Two}
use Rattle.cfi_commands.specs.Reading.{IsModuleFile}
use Rattle.cfi_made_law.specs.Read.{IsReadOf}
use Rattle.cfi_made_law.proofs.ReadLemmas.{IsFit}
use Rattle.cfi_instr_law.specs.Example.{loop_room, no_names}
use Rattle.cfi_file_law.specs.Saved.{AreBytes, IsSavedAt}
use Rattle.cfi_file_law.specs.Example.{call_name, call_symbol, call_reloc, call_types, call_records, call_object, call_module, call_source, call_made, call_placed}
use Rattle.cfi_file_law.proofs.FileLemmas.{ReadsBack, module-file}
use Rattle.cfi_file_law.proofs.ShortLemmas.{made-short}
use Rattle.cfi_file_law.proofs.CallLemmas.{instrumented}
use Rattle.cfi_file_law.proofs.CallPlacedLemmas.{room, placed}

-- the name is text
named : is_utf8 call_name ≡ true
unfolding lib.Utf8.encode
named = is_utf8-from_IsUtf8 call_name (0x66 ∷ [], (refl, refl))

table : AreTypes call_types
table = record {
  count = omega arith;
  nodes = (
    record { arity = refl; fields = tt },
    (record { arity = refl; fields = (omega arith, refl, tt) }, tt),
  );
  names = (All-nil (λ k. k < 2), (All-cons (λ k. k < 2) 0 [] (omega arith) (All-nil (λ k. k < 2)), tt));
}

-- a text of so many words, in which the call is at an offset and the function has so many bytes
module _ (text : List ℕ) (call bytes words : ℕ) (size : length text ≡ 4 * words) (few : words ≤ MAX_WORDS)
    (inside : call + 4 ≤ 4 * words) (aligned : call % 4 ≡ 0) (short : bytes < 2 ^ 32)
    (whole : IsTrue (is_length bytes)) where
  abbrev object : Object
  object = call_object text call bytes

  good : AreRecordsIn Two call_types (call_records bytes)
  good = record {
    function_count = omega arith;
    branch_count = omega arith;
    functions = (
      record {
        offset = (omega arith, refl);
        length = (short, whole);
        ty = (omega arith, refl);
        name = record { count = refl; text = named };
      },
      tt,
    );
    branches = (record { kind = omega arith; count = refl; words = tt; named = tt }, tt);
  }

  spelled : AreSpelled object call_types (call_records bytes)
  spelled = record {
    table = table;
    types_spelled = refl;
    version = Two;
    good = good;
    cells = refl;
    records_spelled = refl;
  }

  symbol : IsSoundSymbol object call_symbol
  symbol = record {
    name_size = omega arith;
    name_text = named;
    name_bytes = refl;
    named = refl;
    found = refl;
    inside = omega arith;
  }

  reloc : IsSoundReloc object (call_reloc call)
  unfolding is_known field_size is_of_instruction
  reloc = record {
    known = refl;
    kept = refl;
    symbol = omega arith;
    field = (omega (arith, inside, size), aligned, refl);
  }

  sound : IsSoundObject object
  sound = record {
    words = rw size (omega arith);
    symbols = All-cons (IsSoundSymbol object) call_symbol [] symbol (All-nil (IsSoundSymbol object));
    definitions = λ i j d less within. absurd (omega (arith, less, within));
    relocs = All-cons (IsSoundReloc object) (call_reloc call) [] reloc (All-nil (IsSoundReloc object));
  }

  fit : IsFit object
  fit = record {
    small = record {
      sound = sound;
      text = omega (arith, size, few);
      static_data = omega arith;
      symbols = omega arith;
      relocs = omega arith;
    };
    values = All-cons (λ s. s.value < 2 ^ 32) call_symbol [] (omega arith) (All-nil (λ s. s.value < 2 ^ 32));
    addends =
        All-cons (λ r. FitsSigned w32 r.addend) (call_reloc call) [] (sfits_lit tt)
        (All-nil (λ r. FitsSigned w32 r.addend));
  }

  pub call-file : ReadsBack → IsModuleFile (bytes_of object) (call_module text call bytes)
  call-file reads = module-file reads (call_module text call bytes) fit spelled

pub source-file : ReadsBack → IsModuleFile (bytes_of call_source.object) call_source
source-file = call-file call_source.object.text 4 12 3 refl (omega arith) (omega arith) refl (omega arith) refl

pub made-file : ReadsBack → IsModuleFile (bytes_of call_made.object) call_made
made-file = call-file call_made.object.text 24 84 21 refl (omega arith) (omega arith) refl (omega arith) refl

pub made-sound : IsSoundModule call_made
made-sound = record {
  object_sound = sound call_made.object.text 24 84 21 refl (omega arith) (omega arith) refl (omega arith) refl;
  table = table;
}

pub made-read : ReadsBack → IsReadOf call_made
made-read reads =
    let is = made-file reads in
    record { bytes = bytes_of call_made.object; object = is.object; is = is.is; whole = is.whole }

pub source-read : ReadsBack → IsReadOf call_source
source-read reads =
    let is = source-file reads in
    record { bytes = bytes_of call_source.object; object = is.object; is = is.is; whole = is.whole }

-- ---- bytes

abbrev are_bytes : List ℕ → Bool
are_bytes [] = true
are_bytes (byte ∷ bytes) = nat_lt byte 256 && are_bytes bytes

each-byte : (bytes : List ℕ) → are_bytes bytes ≡ true → AreBytes bytes
each-byte [] is = All-nil (λ byte. byte < 256)
each-byte (byte ∷ bytes) is =
    All-cons (λ byte. byte < 256) byte bytes (grind (arith, nat_tests)) (each-byte bytes (grind (arith, nat_tests)))

source-bytes : AreBytes (bytes_of call_source.object)
unfolding name_table symbol_entry symbol_name_place null_entry symbol_table rela_entry relas_of padding padded section_place part_header file_header bytes_of
source-bytes = each-byte (bytes_of call_source.object) refl

pub made-bytes : AreBytes (bytes_of call_made.object)
unfolding name_table symbol_entry symbol_name_place null_entry symbol_table rela_entry relas_of padding padded section_place part_header file_header bytes_of
made-bytes = each-byte (bytes_of call_made.object) refl

pub saved : ReadsBack →
    IsSavedAt (bytes_of call_source.object) (bytes_of call_made.object) loop_room no_names call_placed
saved reads = record {
  are = source-bytes;
  saved = record {
    unplaced = call_source;
    is = source-file reads;
    out = call_made;
    made = instrumented;
    written = refl;
  };
  short = made-short;
  some = λ none. absurd (omega (arith, ap length none));
  m = call_made;
  read = made-file reads;
  fits = room;
  stands = placed;
}
