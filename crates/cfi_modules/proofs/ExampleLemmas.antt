-- A series that has a module: the one word `j .`.
use Rattle.std.proofs.Common.{◌≡◌, ℕ, zero, suc, pos, false, List, [], ◌∷◌, take, Some, None, refl, sym, subst, arith}
use Rattle.std.specs.List.{slice_get}
use Rattle.std.proofs.lemmas.List.Elements.{All-from_recursion}
use Rattle.elf_read.specs.declared.object.Object.{Object}
use Rattle.rv_reloc.specs.Bytes.{word_at}
use Rattle.cfi_unit.specs.declared.unit.Unit.{Unit as CodeUnit}
use Rattle.cfi_unit.specs.declared.unit.Unit.TheVariants as units
use Rattle.cfi_aux.specs.declared.modules.Module.{Module}
use Rattle.cfi_aux.specs.declared.placed.Placed.{Placed}
use Rattle.cfi_aux.specs.Sound.{IsSoundModule}
use Rattle.elf_read.specs.Sound.{IsSoundSymbol, IsSoundReloc}
use Rattle.cfi_graph.proofs.HandMadeLemmas.{void_first}
use Rattle.cfi_place.specs.Relocated.{areas_of, relocated_from}
use Rattle.cfi_place.specs.Slots.{ReadFrom}
use Rattle.cfi_place.specs.Placed.{bytes_as_words}
use Rattle.cfi_verify.specs.Example.{loop_module}
use Rattle.cfi_verify.proofs.ExampleLemmas.{verified}
use Rattle.cfi_modules.specs.Order.{IsPlacedBehind, Joins}
use Rattle.cfi_modules.specs.Series.{IsSeries}
use Rattle.cfi_modules.proofs.OrderLemmas.{order_series}
use Rattle.cfi_place.proofs.ExampleLemmas.{loop_read}

abbrev object : Object
object = record {
  text = 0x6f ∷ 0 ∷ 0 ∷ 0 ∷ [];
  static_data = [];
  symbols = [];
  relocs = [];
  types = None;
  records = None;
}

abbrev unplaced : Module
unplaced = record {
  object = object;
  types = loop_module.types;
  records = record {
    functions = record { offset = 0; length = 4; ty = 1; taken = false; name = [] } ∷ [];
    branches = [];
  };
  cells = refl;
}

sound : IsSoundModule unplaced
sound = record {
  object_sound = record {
    words = refl;
    symbols = All-from_recursion (IsSoundSymbol object) [] tt;
    definitions = λ i j d lt within. absurd (omega arith);
    relocs = All-from_recursion (IsSoundReloc object) [] tt;
  };
  table = void_first;
}

-- the text is loop_read as one jump
abbrev jump : CodeUnit
jump = units.Jump false (pos 0)

text-words : bytes_as_words object.text ≡ 0x6f ∷ []
unfolding word_at
text-words = refl

placed : IsPlacedBehind 1024 [] [] unplaced loop_module
unfolding relocated_from
placed = record {
  bytes = areas_of object.text [];
  is_placed = refl;
  base = refl;
  slot_base = refl;
  data_base = refl;
  words = (
    jump ∷ [],
    subst (λ (ws : List ℕ). ReadFrom ws 0 (jump ∷ [])) (sym text-words) loop_read,
    sym text-words,
  );
  static_data = refl;
  functions = refl;
  branches = refl;
  types = refl;
  exports = refl;
}

joins : Joins 1024 [] [] unplaced loop_module
joins = record { behind = placed; verified = verified }

each : (k : ℕ) (m : Module) (p : Placed) → slice_get (unplaced ∷ []) k ≡ Some m
    → slice_get (loop_module ∷ []) k ≡ Some p → Joins 1024 (take k (loop_module ∷ [])) (take k (loop_module ∷ [])) m p
each zero m p m_is p_is =
    let m_same : unplaced ≡ m = cc in
    let p_same : loop_module ≡ p = cc in
    subst (λ (n : Module). Joins 1024 [] [] n p) m_same
    (subst (λ (q : Placed). Joins 1024 [] [] unplaced q) p_same joins)
each (suc k) m p m_is p_is = absurd (cc)

pub series : IsSeries 1024 (loop_module ∷ [])
series =
    order_series 1024 (unplaced ∷ []) (loop_module ∷ [])
    (record { multiple = refl; least = omega arith; most = omega arith })
    (All-from_recursion IsSoundModule (unplaced ∷ []) (sound, tt))
    (record { count = refl; joins = each })
