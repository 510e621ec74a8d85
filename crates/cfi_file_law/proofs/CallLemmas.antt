-- The module with a masked access, a call and a check can be instrumented, and is placed.
use Rattle.std.proofs.Common.{◌≡◌, ℕ, zero, suc, pos, Bool, true, false, List, [], ◌∷◌, Some, None, refl, sym, subst, arith}
use Rattle.std.proofs.lemmas.Bool.{false≢true}
use Rattle.elf_read.specs.Places.{IsNone}
use Rattle.rv_insn.specs.declared.insn.Insn.TheVariants as insns
use Rattle.rv_insn.specs.declared.insn.LoadKind.TheVariants.{Lw}
use Rattle.rv_insn.specs.InsnOf.{insn_of}
use Rattle.rv_reloc.specs.Bytes.{word_at}
use Rattle.cfi_unit.specs.Code.{UnitCode}
use Rattle.cfi_instr.specs.Words.{Words, words_by, read_words}
use Rattle.cfi_instr.specs.Fault.{input_by, IsInstrumentable}
use Rattle.cfi_instr.proofs.RowTests.{PassesAll, instrumentable}
use Rattle.cfi_instr.specs.Sizes.{size_at, is_long}
use Rattle.cfi_instr.specs.Reach.{IsEnough, IsLeast}
use Rattle.cfi_instr.specs.Units.{units_at}
use Rattle.cfi_instr.specs.Output.{IsLayout, IsText, AreMoved, IsInstrumented}
use Rattle.cfi_instr_law.proofs.ExampleLemmas.{none-of-one, none-of-two}
use Rattle.cfi_file_law.specs.Example.{call_source, call_made, call_reloc, call_units, call_words}

-- what is read of the source's text
abbrev source_words : Words
source_words =
    words_by
    (Some (insns.Load Lw 1 2 (pos 0)) ∷ Some (insns.Jal 1 (pos 0)) ∷ Some (insns.Jalr 0 1 (pos 0)) ∷ [])
    (None ∷ Some (call_reloc 4) ∷ None ∷ [])
    (None ∷ None ∷ None ∷ [])

words-are : read_words call_source.object ≡ source_words
unfolding word_at insn_of
words-are = refl

none-of-three : (test : ℕ → Bool) → test 0 ≡ false → test 1 ≡ false → test 2 ≡ false → IsNone test 3
none-of-three test first second third zero less = first
none-of-three test first second third (suc zero) less = second
none-of-three test first second third (suc (suc zero)) less = third
none-of-three test first second third (suc (suc (suc j))) less = absurd (omega (arith, less))

none-of-four : (test : ℕ → Bool) → test 0 ≡ false → test 1 ≡ false → test 2 ≡ false → test 3 ≡ false → IsNone test 4
none-of-four test first second third fourth zero less = first
none-of-four test first second third fourth (suc zero) less = second
none-of-four test first second third fourth (suc (suc zero)) less = third
none-of-four test first second third fourth (suc (suc (suc zero))) less = fourth
none-of-four test first second third fourth (suc (suc (suc (suc j)))) less = absurd (omega (arith, less))

sound : PassesAll (input_by source_words call_source)
sound = record {
  linked = record {
    shaped = record {
      words = record {
        legal = none-of-three _ refl refl refl;
        free = none-of-three _ refl refl refl;
        quiet = none-of-three _ refl refl refl;
        linked = none-of-three _ refl refl refl;
      };
      relocs = none-of-one _ refl;
      functions = none-of-two _ refl refl;
    };
    stray = none-of-three _ refl refl refl;
    kinds = none-of-four _ refl refl refl refl;
  };
  switches = none-of-three _ refl refl refl;
  ends = none-of-one _ refl;
}

-- no branch is long
abbrev long : List Bool
long = false ∷ false ∷ false ∷ []

none-long : (w : ℕ) → is_long long w ≡ true → ⊥
none-long zero is = absurd (false≢true is)
none-long (suc zero) is = absurd (false≢true is)
none-long (suc (suc zero)) is = absurd (false≢true is)
none-long (suc (suc (suc w))) is = absurd (false≢true is)

reached : IsEnough source_words call_source.object.symbols long
reached zero less short = refl
reached (suc zero) less short = refl
reached (suc (suc zero)) less short = refl
reached (suc (suc (suc w))) less short = absurd (omega (arith, less))

least : IsLeast source_words call_source.object.symbols long
least = record { size = refl; enough = reached; least = λ other enough w is. absurd (none-long w is) }

abbrev offsets : List ℕ
offsets = 0 ∷ 24 ∷ 28 ∷ 84 ∷ []

plan : IsLayout call_source long offsets
unfolding word_at insn_of size_at
plan = record { least = least; placed = refl }

-- the units have spellings
pub code : UnitCode (call_words (pos 0)) (call_units (pos 0) 0)
code = record {
  fit = (
    (omega arith, omega arith, omega arith),
    ((omega arith, refl), ((omega arith, omega arith, omega arith), tt)),
  );
  spelled = refl;
}

text : IsText call_source long offsets call_made.object.text
unfolding word_at insn_of units_at
text = record { words = call_words (pos 0); units = code; bytes = refl }

moved_records : AreMoved call_source offsets call_made.records
unfolding word_at insn_of
moved_records = record { functions = refl; branches = refl }

pub instrumented : IsInstrumented call_source call_made
unfolding word_at insn_of size_at
instrumented = record {
  sound =
      subst (λ (t : Words). IsInstrumentable (input_by t call_source)) (sym words-are)
      (instrumentable (input_by source_words call_source) sound);
  long = long;
  offsets = offsets;
  plan = plan;
  fits = omega arith;
  object = record {
    text = text;
    static_data = refl;
    symbols = refl;
    relocs = refl;
    types = refl;
    records = refl;
  };
  types = refl;
  records = moved_records;
}
