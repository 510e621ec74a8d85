-- The instrumented module with a masked access, a call and a check, at its place.
use Rattle.std.proofs.Common.{◌≡◌, ℕ, pos, negsuc, List, [], IsTrue, Ok, refl, sym, subst, arith}
use Rattle.rv_insn.specs.InsnOf.{insn_of}
use Rattle.rv_reloc.specs.Bytes.{word_at, with_word}
use Rattle.rv_reloc.specs.Form.{with_number}
use Rattle.rv_reloc.specs.Table.{rule_of}
use Rattle.cfi_type_table.specs.Spelling.{word}
use Rattle.std.specs.List.{flat_map}
use Rattle.cfi_unit.proofs.UnitLemmas.{size_pos}
use Rattle.cfi_unit.proofs.CodeLemmas.{BeginsAt-within}
use Rattle.cfi_instr_law.specs.Example.{loop_room, no_names}
use Rattle.cfi_place.specs.Relocated.{areas_of, relocated_from}
use Rattle.cfi_place.specs.Slots.{ReadFrom}
use Rattle.cfi_place.specs.Placed.{IsRoom, IsPlaced, bytes_as_words, placed_in}
use Rattle.std.proofs.lemmas.List.Elements.{All-nil, All-cons}
use Rattle.cfi_type_table.specs.Kind.{is_callable}
use Rattle.cfi_instr_law.specs.Proper.{NamesCallable, IsTyped, IsMadeAt}
use Rattle.cfi_file_law.specs.Example.{call_source, call_made, call_placed, call_units, call_words, call_types}
use Rattle.cfi_file_law.proofs.CallLemmas.{instrumented}

-- the first free place of the smallest code
pub room : IsRoom loop_room
room = record {
  size = record { multiple = refl; least = omega arith; most = omega arith };
  code = omega arith;
  slots = omega arith;
  aligned = refl;
  low = omega arith;
  high = omega arith;
}

-- the text is read as its units
read : ReadFrom (call_words (pos 0)) 0 (call_units (pos 0) 0)
read = (
  record { fits = (omega arith, omega arith, omega arith); spelled = refl },
  (
    record { fits = (omega arith, refl); spelled = refl },
    (
      record { fits = (omega arith, omega arith, omega arith); spelled = refl },
      λ unit begins. omega (arith, BeginsAt-within (call_words (pos 0)) 21 unit begins, size_pos unit),
    ),
  ),
)

text-words : bytes_as_words call_made.object.text ≡ call_words (pos 0)
unfolding word_at
text-words = refl

-- the relocation leads the call back
moved-words : bytes_as_words (flat_map word (call_words (negsuc 23))) ≡ call_words (negsuc 23)
unfolding word_at
moved-words = refl

filled : placed_in call_made.object loop_room no_names ≡ Ok (areas_of (flat_map word (call_words (negsuc 23))) [])
unfolding word_at with_word insn_of with_number rule_of relocated_from
filled = refl

pub placed : IsPlaced call_made loop_room no_names call_placed
unfolding word_at
placed = record {
  bytes = areas_of (flat_map word (call_words (negsuc 23))) [];
  is_placed = filled;
  base = refl;
  slot_base = refl;
  data_base = refl;
  words = (
    call_units (pos 0) 0,
    subst (λ (ws : List ℕ). ReadFrom ws 0 (call_units (pos 0) 0)) (sym text-words) read,
    sym moved-words,
  );
  static_data = refl;
  functions = refl;
  branches = refl;
  types = refl;
  exports = refl;
}

typed : IsTyped call_made
typed = record {
  functions = All-cons (λ f. IsTrue (is_callable call_types f.ty)) _ [] refl
      (All-nil (λ f. IsTrue (is_callable call_types f.ty)));
  branches = All-cons (NamesCallable call_types) _ [] tt (All-nil (NamesCallable call_types));
}

pub made : IsMadeAt call_source call_made loop_room no_names call_placed
made = record {
  made = instrumented;
  some = omega arith;
  typed = typed;
  fits = room;
  stands = placed;
}
