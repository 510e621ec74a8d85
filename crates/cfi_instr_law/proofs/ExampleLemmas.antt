-- A module that is instrumented and placed: the one word `j .`.
use Rattle.std.proofs.Common.{◌≡◌, ℕ, zero, suc, pos, Bool, true, false, List, [], ◌∷◌, length, Some, None, IsTrue, refl, sym, subst, arith}
use Rattle.std.proofs.lemmas.Bool.{false≢true}
use Rattle.std.proofs.lemmas.List.Elements.{All-nil, All-cons}
use Rattle.elf_read.specs.Places.{IsNone}
use Rattle.rv_insn.specs.declared.insn.Insn.TheVariants as insns
use Rattle.rv_insn.specs.InsnOf.{insn_of}
use Rattle.rv_reloc.specs.Bytes.{word_at}
use Rattle.cfi_unit.specs.declared.unit.Unit.{Unit as CodeUnit}
use Rattle.cfi_unit.specs.declared.unit.Unit.TheVariants as units
use Rattle.cfi_type_table.specs.Kind.{is_callable}
use Rattle.cfi_instr.specs.Words.{Words, words_by, read_words}
use Rattle.cfi_instr.specs.Fault.{input_by, IsInstrumentable}
use Rattle.cfi_instr.proofs.RowTests.{PassesAll, instrumentable}
use Rattle.cfi_instr.specs.Sizes.{size_at, is_long}
use Rattle.cfi_instr.specs.Reach.{IsEnough, IsLeast}
use Rattle.cfi_instr.specs.Units.{units_at}
use Rattle.cfi_instr.specs.Output.{IsLayout, IsText, AreMoved, IsInstrumented}
use Rattle.cfi_place.specs.Relocated.{areas_of, relocated_from}
use Rattle.cfi_place.specs.Slots.{ReadFrom}
use Rattle.cfi_place.specs.Placed.{IsRoom, IsPlaced, bytes_as_words}
use Rattle.cfi_verify.specs.Example.{loop_module}
use Rattle.cfi_instr_law.specs.Proper.{NamesCallable, IsTyped, IsMadeAt}
use Rattle.cfi_instr_law.specs.Example.{loop_records, loop_object, loop_source, loop_room, no_names}
use Rattle.cfi_place.proofs.ExampleLemmas.{loop_read}

-- what is loop_read of its text
abbrev loop_words : Words
loop_words = words_by (Some (insns.Jal 0 (pos 0)) ∷ []) (None ∷ []) (None ∷ [])

words-are : read_words loop_object ≡ loop_words
unfolding word_at insn_of
words-are = refl

-- a test that a few first numbers do not pass
pub none-of-one : (test : ℕ → Bool) → test 0 ≡ false → IsNone test 1
none-of-one test first zero less = first
none-of-one test first (suc j) less = absurd (omega (arith, less))

pub none-of-two : (test : ℕ → Bool) → test 0 ≡ false → test 1 ≡ false → IsNone test 2
none-of-two test first second zero less = first
none-of-two test first second (suc zero) less = second
none-of-two test first second (suc (suc j)) less = absurd (omega (arith, less))

sound : PassesAll (input_by loop_words loop_source)
sound = record {
  linked = record {
    shaped = record {
      words = record {
        legal = none-of-one _ refl;
        free = none-of-one _ refl;
        quiet = none-of-one _ refl;
        linked = none-of-one _ refl;
      };
      relocs = λ j less. absurd (omega (arith, less));
      functions = none-of-two _ refl refl;
    };
    stray = none-of-one _ refl;
    kinds = none-of-two _ refl refl;
  };
  switches = none-of-one _ refl;
  ends = none-of-one _ refl;
}

-- no branch is long
abbrev long : List Bool
long = false ∷ []

none-long : (w : ℕ) → is_long long w ≡ true → ⊥
none-long zero is = absurd (false≢true is)
none-long (suc w) is = absurd (false≢true is)

reached : IsEnough loop_words [] long
reached zero less short = refl
reached (suc w) less short = absurd (omega (arith, less))

least : IsLeast loop_words [] long
least = record { size = refl; enough = reached; least = λ other enough w is. absurd (none-long w is) }

abbrev offsets : List ℕ
offsets = 0 ∷ 4 ∷ []

plan : IsLayout loop_source long offsets
unfolding word_at insn_of size_at
plan = record { least = least; placed = refl }

text : IsText loop_source long offsets loop_object.text
unfolding word_at insn_of units_at
text = record {
  words = 0x6f ∷ [];
  units = record { fit = ((omega arith, refl), tt); spelled = refl };
  bytes = refl;
}

moved_records : AreMoved loop_source offsets loop_records
unfolding word_at insn_of
moved_records = record { functions = refl; branches = refl }

instrumented : IsInstrumented loop_source loop_source
unfolding word_at insn_of size_at
instrumented = record {
  sound =
      subst (λ (t : Words). IsInstrumentable (input_by t loop_source)) (sym words-are)
      (instrumentable (input_by loop_words loop_source) sound);
  long = long;
  offsets = offsets;
  plan = plan;
  fits = omega arith;
  object = record {
    text = text;
    static_data = refl;
    symbols = refl;
    relocs = refl;
    types = refl;
    records = refl;
  };
  types = refl;
  records = moved_records;
}

typed : IsTyped loop_source
typed = record {
  functions = All-cons (λ f. IsTrue (is_callable loop_module.types f.ty)) _ [] refl
      (All-nil (λ f. IsTrue (is_callable loop_module.types f.ty)));
  branches = All-nil (NamesCallable loop_module.types);
}

room : IsRoom loop_room
room = record {
  size = record { multiple = refl; least = omega arith; most = omega arith };
  code = omega arith;
  slots = omega arith;
  aligned = refl;
  low = omega arith;
  high = omega arith;
}

-- the text is loop_read as one jump
abbrev jump : CodeUnit
jump = units.Jump false (pos 0)

text-words : bytes_as_words loop_object.text ≡ 0x6f ∷ []
unfolding word_at
text-words = refl

placed : IsPlaced loop_source loop_room no_names loop_module
unfolding relocated_from
placed = record {
  bytes = areas_of loop_object.text [];
  is_placed = refl;
  base = refl;
  slot_base = refl;
  data_base = refl;
  words = (
    jump ∷ [],
    subst (λ (ws : List ℕ). ReadFrom ws 0 (jump ∷ [])) (sym text-words) loop_read,
    sym text-words,
  );
  static_data = refl;
  functions = refl;
  branches = refl;
  types = refl;
  exports = refl;
}

pub made : IsMadeAt loop_source loop_source loop_room no_names loop_module
made = record {
  made = instrumented;
  some = omega arith;
  typed = typed;
  fits = room;
  stands = placed;
}
