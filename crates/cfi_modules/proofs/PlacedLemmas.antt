-- What placing makes of a module: how long it is, and that it is one.
use mathlib.Core.HLevel.{is_prop→PathP}
use Rattle.std.proofs.Common.{◌≡◌, ℕ, ◌+◌, ◌/◌, ◌≤◌, Bool, true, false, List, [], ◌∷◌, length, All, get_or, Option, Some, None, Result, Ok, refl, sym, ap, ◌∙◌, subst, arith}
use Rattle.std.specs.Prelude.{IsTrue}
use Rattle.std.specs.List.{AllByRecursion, slice_set}
use Rattle.std.proofs.Math.Bool.{Bool-set}
use Rattle.std.proofs.lemmas.Bool.{leb-true}
use Rattle.std.proofs.lemmas.List.{length-map, length-set}
use Rattle.std.proofs.lemmas.List.Elements.{recursion_from_All}
use Rattle.elf_read.specs.declared.object.Area.{Area}
use Rattle.elf_read.specs.declared.object.Area.TheVariants as areas
use Rattle.elf_read.specs.declared.object.Object.{Object}
use Rattle.elf_read.specs.Relocation.{field_size}
use Rattle.cfi_unit.specs.declared.unit.Unit.{Unit as CodeUnit}
use Rattle.cfi_unit.specs.Unit.{size_of}
use Rattle.cfi_unit.proofs.CodeLemmas.{BeginsAt-one}
use Rattle.rv_insn.specs.Insn.{word_of}
use Rattle.cfi_unit.specs.Unit.{high_insn, low_insn}
use Rattle.cfi_aux.specs.declared.modules.Module.{Module}
use Rattle.cfi_aux.specs.declared.records.Function.{Function}
use Rattle.cfi_aux.specs.Cells.{have_cells}
use Rattle.cfi_aux.specs.Placed.{is_global}
use Rattle.cfi_aux.specs.declared.placed.Placed.{Placed}
use Rattle.elf_read.specs.Sound.{HasField, IsSoundReloc}
use Rattle.cfi_place.specs.declared.fault.PlaceFault.{PlaceFault}
use Rattle.cfi_place.specs.declared.fault.PlaceFault.TheVariants as faults
use Rattle.cfi_place.specs.Functions.{make_function}
use Rattle.cfi_place.specs.declared.room.Room.{Room}
use Rattle.cfi_word.specs.declared.map.TheConstants.{DATA_END}
use Rattle.cfi_place.specs.Names.{Names}
use Rattle.cfi_place.specs.Relocated.{Areas, areas_of, size_in, high_parts}
use Rattle.cfi_place.specs.Slots.{ReadFrom, checks_from, with_slot, with_slots, HasSlots}
use Rattle.cfi_place.specs.Value.{undefined_in}
use Rattle.cfi_place.specs.Placed.{bytes_as_words, values_in, relocated, unless_undefined, where_fits, code_fits, data_fits, IsPlaced}
use Rattle.cfi_place.proofs.PlacingLemmas.{length-words_in}
use Rattle.cfi_modules.proofs.LengthLemmas.{ok_not_err, ok_is, IsInside, relocated_kept}

-- ---- the tests before the relocations

pub unless_ok : (u : Option (List ℕ)) (r : Result Areas PlaceFault) (bytes : Areas) → unless_undefined u r ≡ Ok bytes
    → r ≡ Ok bytes
unless_ok None r bytes done = done
unless_ok (Some name) r bytes done = absurd (ok_not_err done)

pub fits_ok : (fits : Bool) (fault : PlaceFault) (r : Result Areas PlaceFault) (bytes : Areas)
    → where_fits fits fault r ≡ Ok bytes → (fits ≡ true) × (r ≡ Ok bytes)
fits_ok true fault r bytes done = (refl, done)
fits_ok false fault r bytes done = absurd (ok_not_err done)

-- ---- lengths

inside_by : (object : Object) (area : Area) (kind offset : ℕ) → HasField object area kind offset
    → offset + field_size kind ≤ size_in area (length object.text) (length object.static_data)
inside_by object areas.Text kind offset has = has.0
inside_by object areas.Data kind offset has = has.0

inside : (object : Object) → All (IsSoundReloc object) object.relocs
    → AllByRecursion (IsInside (areas_of object.text object.static_data)) object.relocs
inside object sound =
    recursion_from_All (IsInside (areas_of object.text object.static_data)) object.relocs (λ i d lt.
    let one = sound i d lt in
    inside_by object (get_or object.relocs i d).area (get_or object.relocs i d).kind (get_or object.relocs i d).offset one.field)

length-with_slots : (slot : ℕ) (places words : List ℕ) → length (with_slots slot places words) ≡ length words
length-with_slots slot [] words = refl
length-with_slots slot (at ∷ places) words =
    length-with_slots (slot + 1) places (with_slot at slot words)
    ∙ length-set (slice_set words (at + 3) (word_of (high_insn slot))) (at + 4) (word_of (low_insn slot))
    ∙ length-set words (at + 3) (word_of (high_insn slot))

-- what is known of a module that is placed in a room
pub record Fits (m : Module) (room : Room) (placed : Placed) : Type 0 where
  pub code : placed.base + length placed.words ≤ room.code_words
  pub ends : placed.data_base + length placed.static_data ≤ DATA_END
  pub functions : length placed.functions ≡ length m.records.functions
  pub words : length placed.words ≡ length m.object.text / 4

pub fits : (m : Module) (room : Room) (names : Names) (placed : Placed) → All (IsSoundReloc m.object) m.object.relocs
    → IsPlaced m room names placed → Fits m room placed
fits m room names placed sound is =
    let object = m.object in
    let values = values_in object room names in
    let tests = unless_ok (undefined_in object.symbols values object.relocs)
    (where_fits (code_fits object room) faults.CodeFull
    (where_fits (data_fits object room) faults.DataFull (relocated object room values))) is.bytes is.is_placed in
    let code = fits_ok (code_fits object room) faults.CodeFull
    (where_fits (data_fits object room) faults.DataFull (relocated object room values)) is.bytes tests in
    let last = fits_ok (data_fits object room) faults.DataFull (relocated object room values) is.bytes code.1 in
    let kept = relocated_kept room values (high_parts room values object.relocs) 0 object.relocs
    (areas_of object.text object.static_data) is.bytes (inside object sound) last.1 in
    let words : length placed.words ≡ length is.bytes.text / 4 =
    ap length is.words.2 ∙ length-with_slots room.slot_base (checks_from 0 is.words.0) (bytes_as_words is.bytes.text)
    ∙ length-words_in is.bytes.text in
    let quarter : length is.bytes.text / 4 ≡ length object.text / 4 = ap (λ (n : ℕ). n / 4) kept.text in
    let end : length placed.static_data ≡ length object.static_data = ap length is.static_data ∙ kept.static_data in
    record {
      code = omega (arith, leb-true (room.base + length object.text / 4) room.code_words code.0, words, quarter, is.base);
      ends = omega (arith, leb-true (room.data_base + length object.static_data) DATA_END last.0, end, is.data_base);
      functions = ap length is.functions
          ∙ length-map m.records.functions (λ (f : Function). make_function (is_global object.symbols f) f);
      words = words ∙ quarter;
    }

-- ---- one placed module

read_once : (words : List ℕ) (at : ℕ) (one other : List CodeUnit) → ReadFrom words at one → ReadFrom words at other
    → one ≡ other
read_once words at [] [] a b = refl
read_once words at [] (v ∷ vs) a b = absurd (a v b.0)
read_once words at (u ∷ us) [] a b = absurd (b u a.0)
read_once words at (u ∷ us) (v ∷ vs) a b =
    let same : u ≡ v = BeginsAt-one words at u v a.0 b.0 in
    let rest : ReadFrom words (at + size_of u) vs =
    subst (λ (w : CodeUnit). ReadFrom words (at + size_of w) vs) (sym same) b.1 in
    ap (λ (w : CodeUnit). w ∷ us) same ∙ ap (λ (ws : List CodeUnit). v ∷ ws) (read_once words (at + size_of u) us vs a.1 rest)

slots_once : (source : List ℕ) (slot : ℕ) (old new other : List ℕ) → HasSlots source slot old new
    → HasSlots source slot old other → new ≡ other
slots_once source slot old new other a b =
    a.2 ∙ ap (λ (code : List CodeUnit). with_slots slot (checks_from 0 code) old) (read_once source 0 a.0 b.0 a.1 b.1)
    ∙ sym b.2

-- a module is placed in one way
pub placed_once : (m : Module) (room : Room) (names : Names) (p q : Placed) → IsPlaced m room names p
    → IsPlaced m room names q → p ≡ q
placed_once m room names p q a b =
    let bytes : a.bytes ≡ b.bytes = ok_is (sym a.is_placed ∙ b.is_placed) in
    let words : p.words ≡ q.words =
    slots_once (bytes_as_words m.object.text) room.slot_base (bytes_as_words a.bytes.text) p.words q.words a.words
    (subst (λ (x : Areas). HasSlots (bytes_as_words m.object.text) room.slot_base (bytes_as_words x.text) q.words) (sym bytes) b.words) in
    let static_data : p.static_data ≡ q.static_data =
    a.static_data ∙ ap (λ (x : Areas). x.static_data) bytes ∙ sym b.static_data in
    let base : p.base ≡ q.base = a.base ∙ sym b.base in
    let slot_base : p.slot_base ≡ q.slot_base = a.slot_base ∙ sym b.slot_base in
    let data_base : p.data_base ≡ q.data_base = a.data_base ∙ sym b.data_base in
    let functions : p.functions ≡ q.functions = a.functions ∙ sym b.functions in
    let branches : p.branches ≡ q.branches = a.branches ∙ sym b.branches in
    let types : p.types ≡ q.types = a.types ∙ sym b.types in
    let exports : p.exports ≡ q.exports = a.exports ∙ sym b.exports in
    λ i. record {
      base = base i;
      slot_base = slot_base i;
      data_base = data_base i;
      words = words i;
      static_data = static_data i;
      functions = functions i;
      branches = branches i;
      types = types i;
      exports = exports i;
      cells = is_prop→PathP (λ j. IsTrue (have_cells (length (static_data j)) (branches j)))
          (λ j x y. Bool-set _ _ x y) p.cells q.cells i;
    }
