-- A module with stubs breaks no rule of objects, and passes no limit.
use Rattle.std.proofs.Common.{◌≡◌, ℕ, List, [], ◌∷◌, None, sym, ap, subst}
use Rattle.elf_read.specs.declared.object.Symbol.{Symbol}
use Rattle.cfi_type_table.specs.Spelling.{AreTypes}
use Rattle.cfi_aux.specs.Sound.{IsSoundModule}
use Rattle.cfi_aux.specs.declared.modules.Module.{Module}
use Rattle.cfi_import.proofs.LimitLemmas.{AreFew, few}
use Rattle.cfi_import.specs.Imports.{imports_of}
use Rattle.cfi_import.specs.Stubbed.{Parts, parts_of, parts_with, part_sizes, stubbed_parts, stubs_pass, IsStubbed}
use Rattle.cfi_made_law.proofs.ReadLemmas.{IsSmall}
use Rattle.cfi_made_law.proofs.BetweenLemmas.{same-object}
use Rattle.cfi_made_law.proofs.StubLemmas.{HasParts, object-sound, table-sound}

sound-by : (m out : Module) (imports : List (ℕ × Symbol)) → IsSoundModule m → parts_of out ≡ parts_with m imports
    → AreFew (part_sizes (parts_of out)) → IsSoundModule out
sound-by m out [] sound parts limits = record {
  object_sound = same-object m.object out.object (sym (ap (λ (p : Parts). p.text) parts))
      (sym (ap (λ (p : Parts). p.static_data) parts)) (sym (ap (λ (p : Parts). p.symbols) parts))
      (sym (ap (λ (p : Parts). p.relocs) parts)) sound.object_sound;
  table = subst AreTypes (sym (ap (λ (p : Parts). p.types) parts)) sound.table;
}
sound-by m out (one ∷ imports) sound parts limits =
    let all = one ∷ imports in
    let has : HasParts m all sound out.object out.types = record {
      text = ap (λ (p : Parts). p.text) parts;
      static_data = ap (λ (p : Parts). p.static_data) parts;
      symbols = ap (λ (p : Parts). p.symbols) parts;
      relocs = ap (λ (p : Parts). p.relocs) parts;
      types_with = ap (λ (p : Parts). p.types) parts;
    } in
    record {
      object_sound = object-sound m all sound out.object out.types has;
      table = table-sound m all sound out.object out.types has limits.types;
    }

-- the module with stubs is within the limits
pub stubbed-few : (m out : Module) → stubs_pass m ≡ None → IsStubbed m out → AreFew (part_sizes (parts_of out))
stubbed-few m out none made =
    subst (λ (p : Parts). AreFew (part_sizes p)) (sym made.parts) (few (part_sizes (stubbed_parts m)) none)

pub stubbed-sound : (m out : Module) → IsSoundModule m → stubs_pass m ≡ None → IsStubbed m out → IsSoundModule out
stubbed-sound m out sound none made =
    sound-by m out (imports_of m.object) sound made.parts (stubbed-few m out none made)

pub stubbed-small : (m out : Module) → IsSoundModule m → stubs_pass m ≡ None → IsStubbed m out → IsSmall out.object
stubbed-small m out sound none made =
    let limits = stubbed-few m out none made in
    record {
      sound = (stubbed-sound m out sound none made).object_sound;
      text = limits.text;
      static_data = limits.static_data;
      symbols = limits.symbols;
      relocs = limits.relocs;
    }
