-- Two modules of the one word `j .`, linked: they join one behind the other, and the words are theirs.
use Rattle.std.proofs.Common.{◌≡◌, ℕ, ℤ, zero, suc, pos, ◌<◌, ◌^◌, true, false, List, [], ◌∷◌, length, refl, sym, subst, ⊎_elim, inl, inr, arith}
use Rattle.std.specs.List.{All, Contains}
use Rattle.std.proofs.lemmas.List.Elements.{All-nil, All-cons, Contains-append_left}
use Rattle.std.proofs.lemmas.List.{append-nil}
use Rattle.rv_reloc.specs.Bytes.{word_at}
use Rattle.elf_read.specs.Sound.{IsSoundObject}
use Rattle.cfi_word.specs.declared.limits.TheConstants.{MIN_CODE_WORDS}
use Rattle.cfi_aux.specs.Records.{CanBeWritten}
use Rattle.cfi_aux.specs.Sound.{IsSoundModule}
use Rattle.cfi_aux.specs.declared.modules.Module.{Module}
use Rattle.cfi_aux.specs.declared.records.Function.{Function}
use Rattle.cfi_aux.specs.declared.placed.Placed.{Placed}
use Rattle.cfi_unit.specs.declared.unit.Unit.{Unit as CodeUnit}
use Rattle.cfi_unit.specs.declared.unit.Unit.TheVariants as units
use Rattle.cfi_unit.specs.declared.spot.Spot.{Spot}
use Rattle.cfi_unit.proofs.CodeLemmas.{BeginsAt-within}
use Rattle.cfi_unit.proofs.UnitLemmas.{size_pos}
use Rattle.cfi_place.specs.Relocated.{areas_of, relocated_from}
use Rattle.cfi_place.specs.Slots.{ReadFrom}
use Rattle.cfi_place.specs.Placed.{bytes_as_words}
use Rattle.cfi_place.proofs.ExampleLemmas.{loop_read}
use Rattle.cfi_link.specs.Joined.{with_module, joined_of}
use Rattle.cfi_link.specs.Chosen.{twice_from}
use Rattle.cfi_link.specs.Applied.{applied_from}
use Rattle.cfi_link.specs.Fault.{HasUnits, CanBeLinked}
use Rattle.cfi_link.specs.Linked.{AreModules, IsTextOf, IsMadeOf}
use Rattle.cfi_modules.specs.Order.{Joins, IsPlacedBehind}
use Rattle.cfi_verify.specs.Example.{loop_module}
use Rattle.cfi_verify.specs.Target.{entries_in, LeadsHome, LeadsToEntry, MayLead}
use Rattle.cfi_verify.specs.Fault.{IsVerified, IsVerifiedAs}
use Rattle.cfi_verify.proofs.ExampleLemmas.{verified, loop_verified}
use Rattle.cfi_verify_law.specs.Parts.{JoinBehind, AreParts}
use Rattle.cfi_verify_law.specs.Example.{loop_records, loop_source, two_linked, second_module, two_module}

-- ---- the modules

sound-object : IsSoundObject loop_source.object
sound-object = record {
  words = refl;
  symbols = All-nil _;
  definitions = λ i j d less within. absurd (omega (arith, within));
  relocs = All-nil _;
}

sound : IsSoundModule loop_source
sound = record {
  object_sound = sound-object;
  table = record {
    count = omega arith;
    nodes = (record { arity = refl; fields = tt }, (record { arity = refl; fields = (omega arith, refl, tt) }, tt));
    names = (All-nil _, (All-cons (λ (k : ℕ). k < 2) 0 [] (omega arith) (All-nil (λ (k : ℕ). k < 2)), tt));
  };
}

abbrev sources : List Module
sources = loop_source ∷ loop_source ∷ []

both : (P : Module → Type 0) → P loop_source → All P sources
both P here = All-cons P loop_source (loop_source ∷ []) here (All-cons P loop_source [] here (All-nil P))

written : CanBeWritten loop_records
written = record {
  functions = omega arith;
  branches = omega arith;
  names = All-cons (λ (f : Function). length f.name < 2 ^ 32) _ [] (omega arith)
      (All-nil (λ (f : Function). length f.name < 2 ^ 32));
  words = All-nil _;
}

modules : AreModules sources
modules = record {
  count = omega arith;
  sound = both IsSoundModule sound;
  texts = both (λ m. length m.object.text < 2 ^ 32) (omega arith);
  written = both (λ m. CanBeWritten m.records) written;
}

-- ---- linked

abbrev jump : CodeUnit
jump = units.Jump false (pos 0)

one-word : bytes_as_words loop_source.object.text ≡ 0x6f ∷ []
unfolding word_at
one-word = refl

two-words : bytes_as_words two_linked.object.text ≡ 0x6f ∷ 0x6f ∷ []
unfolding word_at
two-words = refl

text-units : HasUnits loop_source
text-units = record {
  code = jump ∷ [];
  units = record { fit = ((omega arith, refl), tt); spelled = one-word };
}

possible : CanBeLinked sources
unfolding with_module twice_from
possible = record {
  within = record {
    texts = record { some = refl; units = both HasUnits text-units };
    limits = refl;
  };
  once = refl;
}

two-read : ReadFrom (0x6f ∷ 0x6f ∷ []) 0 (jump ∷ jump ∷ [])
two-read = (
  record { fits = (omega arith, refl); spelled = refl },
  (
    record { fits = (omega arith, refl); spelled = refl },
    λ unit begins. omega (arith, BeginsAt-within (0x6f ∷ 0x6f ∷ []) 2 unit begins, size_pos unit),
  ),
)

read : ReadFrom (bytes_as_words two_linked.object.text) 0 (jump ∷ jump ∷ [])
read = subst (λ (ws : List ℕ). ReadFrom ws 0 (jump ∷ jump ∷ [])) (sym two-words) two-read

text : IsTextOf (joined_of sources) two_linked.object.text
unfolding with_module applied_from
text = record {
  applied = two_linked.object.text;
  relocated = refl;
  size = refl;
  words = 0x6f ∷ 0x6f ∷ [];
  slots = (jump ∷ jump ∷ [], read, sym two-words);
  spelled = refl;
}

made : IsMadeOf (joined_of sources) two_linked
unfolding with_module
made = record {
  text = text;
  static_data = refl;
  symbols = refl;
  relocs = refl;
  types = refl;
  functions = refl;
  branches = refl;
  types_spelled = refl;
  records_spelled = refl;
}

-- ---- placed

one-read : ReadFrom (bytes_as_words loop_source.object.text) 0 (jump ∷ [])
one-read = subst (λ (ws : List ℕ). ReadFrom ws 0 (jump ∷ [])) (sym one-word) loop_read

first : IsPlacedBehind MIN_CODE_WORDS [] [] loop_source loop_module
unfolding relocated_from
first = record {
  bytes = areas_of loop_source.object.text [];
  is_placed = refl;
  base = refl;
  slot_base = refl;
  data_base = refl;
  words = (jump ∷ [], one-read, sym one-word);
  static_data = refl;
  functions = refl;
  branches = refl;
  types = refl;
  exports = refl;
}

second : IsPlacedBehind MIN_CODE_WORDS (loop_module ∷ []) (loop_module ∷ []) loop_source second_module
unfolding relocated_from
second = record {
  bytes = areas_of loop_source.object.text [];
  is_placed = refl;
  base = refl;
  slot_base = refl;
  data_base = refl;
  words = (jump ∷ [], one-read, sym one-word);
  static_data = refl;
  functions = refl;
  branches = refl;
  types = refl;
  exports = refl;
}

whole : IsPlacedBehind MIN_CODE_WORDS [] [] two_linked two_module
unfolding relocated_from
whole = record {
  bytes = areas_of two_linked.object.text [];
  is_placed = refl;
  base = refl;
  slot_base = refl;
  data_base = refl;
  words = (jump ∷ jump ∷ [], read, sym two-words);
  static_data = refl;
  functions = refl;
  branches = refl;
  types = refl;
  exports = refl;
}

-- ---- verified

-- with more modules loaded, a jump leads where it led
module _ (m : Placed) (loaded : List Placed) where
  to-entry : (at : ℕ) (off : ℤ) → LeadsToEntry m [] at off → LeadsToEntry m loaded at off
  to-entry at off l =
      let own : Contains (entries_in m) l.0 =
      subst (λ (xs : List ℕ). Contains xs l.0) (append-nil (entries_in m)) l.2 in
      (l.0, l.1, Contains-append_left (entries_in m) _ l.0 own)

  leads-so : (spots : List Spot) (at : ℕ) (unit : CodeUnit) → MayLead m [] spots at unit
      → MayLead m loaded spots at unit
  leads-so spots at (units.Branch cond rs1 rs2 off) l = l
  leads-so spots at (units.Jump true off) l = to-entry at off l
  leads-so spots at (units.Jump false off) l =
      ⊎_elim (λ (h : LeadsHome m spots at off). inl h) (λ (e : LeadsToEntry m [] at off). inr (to-entry at off e)) l
  leads-so spots at (units.Plain insn) l = tt
  leads-so spots at (units.Load kind rd rs1 imm) l = tt
  leads-so spots at (units.Store kind rs1 rs2 imm) l = tt
  leads-so spots at (units.Check link rs1 imm slot) l = tt
  leads-so spots at units.Service l = tt

  verified-so : IsVerified m [] → IsVerified m loaded
  verified-so v =
      let so : IsVerifiedAs m loaded v.0 = record {
        laid = v.1.laid;
        targets = λ k s is. leads-so v.0 s.at s.unit (v.1.targets k s is);
        kinds = v.1.kinds;
        records = v.1.records;
        switches = v.1.switches;
      } in
      (v.0, so)

joins-first : Joins MIN_CODE_WORDS [] [] loop_source loop_module
joins-first = record { behind = first; verified = verified }

joins-second : Joins MIN_CODE_WORDS (loop_module ∷ []) (loop_module ∷ []) loop_source second_module
joins-second = record {
  behind = second;
  verified = verified-so second_module (loop_module ∷ []) (loop_verified _ _ _ _ _ _ refl);
}

joins : JoinBehind MIN_CODE_WORDS [] sources (loop_module ∷ second_module ∷ [])
joins zero m p is there =
    let one : loop_source ≡ m = cc in
    let other : loop_module ≡ p = cc in
    subst (λ (q : Placed). Joins MIN_CODE_WORDS [] [] m q) other
    (subst (λ (n : Module). Joins MIN_CODE_WORDS [] [] n loop_module) one joins-first)
joins (suc zero) m p is there =
    let one : loop_source ≡ m = cc in
    let other : second_module ≡ p = cc in
    subst (λ (q : Placed). Joins MIN_CODE_WORDS (loop_module ∷ []) (loop_module ∷ []) m q) other
    (subst (λ (n : Module). Joins MIN_CODE_WORDS (loop_module ∷ []) (loop_module ∷ []) n second_module) one joins-second)
joins (suc (suc k)) m p is there = absurd (cc)

pub two_parts : AreParts MIN_CODE_WORDS [] sources two_linked (loop_module ∷ second_module ∷ []) two_module
two_parts = record {
  modules = modules;
  linked = record { possible = possible; made = made };
  count = refl;
  joins = joins;
  behind = whole;
  words = refl;
}
