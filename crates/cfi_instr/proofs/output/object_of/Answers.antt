use Rattle.std.proofs.Common.{◌∙◌, ap, List, ℕ, Some}
use Rattle.cfi_instr.proofs.OutputLemmas.{text-is, symbols-are, relocs-are}
use Rattle.cfi_instr.proofs.output.object_of.Goals as goal

pub returns : goal.returns
returns c =
    let m = c.args.unplaced.now in
    let a = c.args.arrangement.now in
    let same = c.requires.same in
    record {
      text = text-is m a c.from_vec.result same c.requires.fits (c.from_vec.ensures ∙ c.in_ok-text.ensures);
      static_data = c.from_vec-2.ensures ∙ c.in_ok-static_data.ensures.items ∙ c.as_slice.ensures;
      symbols = symbols-are m a c.from_vec-3.result same (c.from_vec-3.ensures ∙ c.in_ok-symbols.ensures);
      relocs =
          relocs-are m a m.object.relocs c.as_slice-2.result.now c.from_vec-4.result same c.as_slice-2.ensures
          (c.from_vec-4.ensures ∙ c.in_ok-relocs.ensures);
      types = ap (λ (xs : List ℕ). Some xs) (c.from_vec-5.ensures ∙ c.in_ok-write_types.ensures);
      records = ap (λ (xs : List ℕ). Some xs) (c.from_vec-6.ensures ∙ c.in_ok-write_records.ensures);
    }
