use Rattle.std.proofs.Common.{◌≡◌, ◌∙◌, ℕ, List, sym, ap, subst, length}
use Rattle.std.specs.List.{flat_map}
use Rattle.cfi_type_table.specs.Spelling.{word}
use Rattle.cfi_place.specs.Placed.{bytes_as_words}
use Rattle.cfi_place.specs.Slots.{HasSlots}
use Rattle.cfi_link.specs.Joined.{Joined}
use Rattle.cfi_link.specs.Applied.{by_area}
use Rattle.cfi_link.specs.inner.Kept.{chosen_by, IsRelocFault}
use Rattle.cfi_link.proofs.MadeLemmas.{relocated_is, relocs_is}
use Rattle.cfi_link.proofs.linked.parts_of.Goals as goal

pub returns-in-Err-clause-fault : goal.returns-in-Err-clause-fault
returns-in-Err-clause-fault c =
    let view = c.joined.view_is in
    let due = relocated_is c.args.joined.now (chosen_by c.args.definitions.now) c.as_slice-symbols.result.now
    c.as_slice.result.now c.as_slice-relocs.result.now c.as_slice-source.result.now
    (c.as_slice.ensures.value ∙ c.in_ok-reaches.ensures) c.requires.chosen
    (c.as_slice-symbols.ensures.value ∙ ap (λ (j : Joined). j.symbols) view)
    (c.as_slice-relocs.ensures.value ∙ ap (λ (j : Joined). j.relocs) view)
    (c.as_slice-source.ensures.value ∙ ap (λ (j : Joined). j.text) view) in
    subst (λ d. IsRelocFault d c.in-Err.fault) (sym due) c.in-Err.ensures.fault

pub returns-clause-text : goal.returns-clause-text
returns-clause-text c =
    let view = c.joined.view_is in
    let source : c.as_slice-source.result.now ≡ c.args.joined.now.text =
    c.as_slice-source.ensures.value ∙ ap (λ (j : Joined). j.text) view in
    let words = c.in_ok-words.words.items in
    record {
      applied = c.in-Ok.text.items;
      relocated = relocated_is c.args.joined.now (chosen_by c.args.definitions.now) c.as_slice-symbols.result.now
          c.as_slice.result.now c.as_slice-relocs.result.now c.as_slice-source.result.now
          (c.as_slice.ensures.value ∙ c.in_ok-reaches.ensures) c.requires.chosen
          (c.as_slice-symbols.ensures.value ∙ ap (λ (j : Joined). j.symbols) view)
          (c.as_slice-relocs.ensures.value ∙ ap (λ (j : Joined). j.relocs) view) source
          ∙ c.in-Ok.ensures.ok;
      size = c.in-Ok.ensures.size ∙ ap length source;
      words = words;
      slots = subst (λ (z : List ℕ). HasSlots (bytes_as_words z) 0 (bytes_as_words c.in-Ok.text.items) words) source
          (subst (λ (z : List ℕ). HasSlots (bytes_as_words c.as_slice-source.result.now) 0 (bytes_as_words z) words)
          c.as_slice-2.ensures.value c.in_ok-words.ensures);
      spelled = c.in_ok-bytes.ensures ∙ ap (flat_map word) c.as_slice-3.ensures.value;
    }

pub returns-clause-relocs : goal.returns-clause-relocs
returns-clause-relocs c =
    let view = c.joined.view_is in
    c.in_ok-relocs.ensures
    ∙ ap by_area (c.as_slice-6.ensures.value ∙ c.in_ok-kept.ensures)
    ∙ relocs_is c.args.joined.now (chosen_by c.args.definitions.now) c.as_slice-symbols.result.now
    c.as_slice-4.result.now c.as_slice-5.result.now c.as_slice-relocs.result.now
    (c.as_slice-4.ensures.value ∙ c.in_ok-reaches.ensures) c.requires.chosen
    (c.as_slice-symbols.ensures.value ∙ ap (λ (j : Joined). j.symbols) view)
    (c.as_slice-5.ensures.value ∙ c.in_ok-numbers.ensures)
    (c.as_slice-relocs.ensures.value ∙ ap (λ (j : Joined). j.relocs) view)
