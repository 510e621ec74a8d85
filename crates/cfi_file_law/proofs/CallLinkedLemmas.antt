-- The instrumented module with a masked access, a call and a check is linked with itself.
use Rattle.std.proofs.Common.{◌≡◌, ℕ, ◌<◌, ◌^◌, pos, List, [], ◌∷◌, ◌++◌, length, All, Ok, refl, sym, subst, arith}
use Rattle.std.specs.List.{flat_map}
use Rattle.std.proofs.lemmas.List.Elements.{All-nil, All-cons}
use Rattle.elf_write.specs.File.{bytes_of}
use Rattle.rv_insn.specs.InsnOf.{insn_of}
use Rattle.rv_reloc.specs.Bytes.{word_at, with_word}
use Rattle.rv_reloc.specs.Form.{with_number}
use Rattle.rv_reloc.specs.Table.{rule_of}
use Rattle.cfi_type_table.specs.Spelling.{word}
use Rattle.cfi_unit.specs.declared.unit.Unit.{Unit as CodeUnit}
use Rattle.cfi_unit.specs.Unit.{words_of}
use Rattle.cfi_unit.proofs.UnitLemmas.{size_pos}
use Rattle.cfi_unit.proofs.CodeLemmas.{BeginsAt-within}
use Rattle.cfi_aux.specs.Records.{CanBeWritten, list_length}
use Rattle.cfi_aux.specs.Sound.{IsSoundModule}
use Rattle.cfi_place.specs.Placed.{bytes_as_words}
use Rattle.cfi_place.specs.Slots.{ReadFrom, HasSlots}
use Rattle.cfi_link.specs.Applied.{applied_from}
use Rattle.cfi_link.specs.Chosen.{twice_from}
use Rattle.cfi_link.specs.Fault.{HasUnits, CanBeLinked, relocated_by}
use Rattle.cfi_link.specs.Joined.{Joined, with_module, joined_of}
use Rattle.cfi_link.specs.Linked.{AreModules, IsTextOf, Linked}
use Rattle.cfi_commands.specs.Linking.{IsLinkedFile}
use Rattle.cfi_made_law.specs.Read.{IsReadOf}
use Rattle.cfi_file_law.specs.Saved.{AreBytes}
use Rattle.cfi_file_law.specs.Example.{call_made, call_units}
use Rattle.cfi_file_law.specs.LinkedExample.{linked_inputs, linked_files, linked_words, linked_output}
use Rattle.cfi_file_law.proofs.FileLemmas.{ReadsBack}
use Rattle.cfi_file_law.proofs.CallLemmas.{code}
use Rattle.cfi_file_law.proofs.CallFileLemmas.{made-file, made-read, made-sound, made-bytes}

-- what holds of the one module holds of both
both : {T : Type 0} (P : T → Type 0) (x : T) → P x → All P (x ∷ x ∷ [])
both P x is = All-cons P x (x ∷ []) is (All-cons P x [] is (All-nil P))

written : CanBeWritten call_made.records
written = record {
  functions = omega arith;
  branches = omega arith;
  names = All-cons (λ f. length f.name < 2 ^ 32) _ [] (omega arith) (All-nil (λ f. length f.name < 2 ^ 32));
  words = All-cons (λ b. list_length b < 2 ^ 32) _ [] (omega arith)
      (All-nil (λ b. list_length b < 2 ^ 32));
}

short : length call_made.object.text < 2 ^ 32
short = let size : length call_made.object.text ≡ 84 = refl in omega (arith, size)

pub are-modules : AreModules linked_inputs
are-modules = record {
  count = omega arith;
  sound = both IsSoundModule call_made made-sound;
  texts = both (λ m. length m.object.text < 2 ^ 32) call_made short;
  written = both (λ m. CanBeWritten m.records) call_made written;
}

units : HasUnits call_made
unfolding word_at
units = record { code = call_units (pos 0) 0; units = code }

possible : CanBeLinked linked_inputs
unfolding with_module twice_from
possible = record {
  within = record {
    texts = record { some = refl; units = both HasUnits call_made units };
    limits = refl;
  };
  once = refl;
}

-- ---- the text

abbrev joined : Joined
joined = joined_of linked_inputs

-- both texts, one after the other
abbrev old_units : List CodeUnit
old_units = call_units (pos 0) 0 ++ call_units (pos 0) 0

abbrev old_words : List ℕ
old_words = flat_map words_of old_units

joined-words : bytes_as_words joined.text ≡ old_words
unfolding with_module word_at
joined-words = refl

applied-words : bytes_as_words (flat_map word (linked_words 0 0)) ≡ linked_words 0 0
unfolding word_at
applied-words = refl

relocated : relocated_by joined ≡ Ok (flat_map word (linked_words 0 0))
unfolding with_module applied_from word_at with_word insn_of with_number rule_of
relocated = refl

read : ReadFrom old_words 0 old_units
read = (
  record { fits = (omega arith, omega arith, omega arith); spelled = refl },
  (
    record { fits = (omega arith, refl); spelled = refl },
    (
      record { fits = (omega arith, omega arith, omega arith); spelled = refl },
      (
        record { fits = (omega arith, omega arith, omega arith); spelled = refl },
        (
          record { fits = (omega arith, refl); spelled = refl },
          (
            record { fits = (omega arith, omega arith, omega arith); spelled = refl },
            λ unit begins. omega (arith, BeginsAt-within old_words 42 unit begins, size_pos unit),
          ),
        ),
      ),
    ),
  ),
)

slots : HasSlots (bytes_as_words joined.text) 0 (bytes_as_words (flat_map word (linked_words 0 0))) (linked_words 0 1)
unfolding word_at
slots = (old_units, subst (λ (ws : List ℕ). ReadFrom ws 0 old_units) (sym joined-words) read, refl)

text : IsTextOf joined linked_output.object.text
unfolding with_module
text = record {
  applied = flat_map word (linked_words 0 0);
  relocated = relocated;
  size = refl;
  words = linked_words 0 1;
  slots = slots;
  spelled = refl;
}

pub linked : Linked linked_inputs linked_output
unfolding with_module
linked = record {
  possible = possible;
  made = record {
    text = text;
    static_data = refl;
    symbols = refl;
    relocs = refl;
    types = refl;
    functions = refl;
    branches = refl;
    types_spelled = refl;
    records_spelled = refl;
  };
}

-- ---- files

pub are-read : ReadsBack → All IsReadOf linked_inputs
are-read reads = both IsReadOf call_made (made-read reads)

pub are-bytes : All AreBytes linked_files
are-bytes = both AreBytes (bytes_of call_made.object) made-bytes

pub linked-file : ReadsBack → IsLinkedFile linked_files (bytes_of linked_output.object)
linked-file reads = record {
  modules = linked_inputs;
  are = (made-file reads, (made-file reads, tt));
  output = linked_output;
  made = linked;
  written = refl;
}
