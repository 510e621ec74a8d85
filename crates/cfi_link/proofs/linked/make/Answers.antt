use Rattle.std.proofs.Common.{◌≡◌, ◌∙◌, ◌<◌, ◌^◌, ℕ, IsTrue, List, length, All, Some, sym, ap, subst}
use Rattle.cfi_aux.specs.declared.records.Kind.{Kind}
use Rattle.cfi_aux.specs.Cells.{have_cells}
use Rattle.cfi_place.specs.Names.{Names}
use Rattle.cfi_link.specs.Joined.{Joined}
use Rattle.cfi_link.specs.Chosen.{chosen_in, settled, in_order}
use Rattle.cfi_link.specs.inner.Kept.{chosen_by}
use Rattle.cfi_link.specs.Linked.{IsTextOf}
use Rattle.cfi_link.proofs.MadeLemmas.{fields_small}
use Rattle.cfi_link.proofs.linked.make.Goals as goal

pub spelled-requires-clause-fields : goal.spelled-requires-clause-fields
spelled-requires-clause-fields c =
    let types = c.from_vec-types.ensures ∙ ap (λ (j : Joined). j.types) c.joined.view_is in
    subst (All (λ x. length x.fields < 2 ^ 32)) (sym types) (fields_small c.args.joined.types c.requires.sound.nodes)

pub returns-clause-ok : goal.returns-clause-ok
returns-clause-ok c =
    let view = c.joined.view_is in
    let names : chosen_by c.in_ok-definitions.definitions ≡ chosen_in c.as_slice.result.now =
    λ i name. c.in_ok-definitions.ensures.ok name i in
    let symbols : c.as_slice.result.now ≡ c.args.joined.symbols =
    c.as_slice.ensures.value ∙ ap (λ (j : Joined). j.symbols) view in
    record {
      text = subst (IsTextOf c.args.joined) (sym c.from_vec-3.ensures) c.in_ok-text.ensures.text;
      static_data = c.from_vec-4.ensures ∙ ap (λ (j : Joined). j.static_data) view;
      symbols = c.from_vec-5.ensures
          ∙ c.in_ok-symbols.ensures
          ∙ ap in_order (c.in_ok-settled.ensures
          ∙ ap (λ (j : Joined). settled (chosen_by c.in_ok-definitions.definitions) j.symbols) view
          ∙ ap (λ (f : Names). settled f c.args.joined.symbols) (names ∙ ap chosen_in symbols));
      relocs = c.from_vec-6.ensures ∙ c.in_ok-text.ensures.relocs;
      types = c.from_vec-types.ensures ∙ ap (λ (j : Joined). j.types) view;
      functions = c.from_vec.ensures ∙ ap (λ (j : Joined). j.functions) view;
      branches = c.from_vec-2.ensures ∙ ap (λ (j : Joined). j.branches) view;
      types_spelled = ap Some c.in_ok-type_bytes.ensures.types;
      records_spelled = ap Some c.in_ok-type_bytes.ensures.records;
    }

pub invariant_of-result : goal.invariant_of-result
invariant_of-result c =
    let joined = c.args.joined in
    let view = c.joined.view_is in
    let bytes : c.from_vec-4.result ≡ joined.static_data =
    c.from_vec-4.ensures ∙ ap (λ (j : Joined). j.static_data) view in
    let branches : c.from_vec-2.result ≡ joined.branches =
    c.from_vec-2.ensures ∙ ap (λ (j : Joined). j.branches) view in
    record {
      cells =
          subst (λ (xs : List ℕ). IsTrue (have_cells (length xs) c.from_vec-2.result)) (sym bytes)
          (subst (λ (bs : List Kind). IsTrue (have_cells (length joined.static_data) bs)) (sym branches)
          c.requires.sound.cells);
    }
