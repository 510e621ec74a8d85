-- The marks are those of the relocations so far.
use Rattle.std.proofs.Common.{◌≡◌, ◌∙◌, ◌||◌, true, false, refl, sym, ap, subst, None, pos, get_or, ℕ, List, Bool, take, below_more, arith}
use Rattle.std.specs.List.{list_any, slice_index_or}
use Rattle.std.proofs.lemmas.List.Folds.{list_any_more}
use Rattle.elf_read.specs.declared.object.Reloc.{Reloc}
use Rattle.elf_read.specs.declared.object.Area.TheVariants.{Text}
use Rattle.cfi_instr.specs.Words.{count_of}
use Rattle.cfi_instr.specs.inner.Ends.{AreEnds}
use Rattle.cfi_instr.specs.inner.Misplaced.{is_on}
use Rattle.elf_read.specs.Lists.{own_number}
use Rattle.cfi_instr.proofs.DecideLemmas.{each-from, break-from}
use Rattle.cfi_instr.proofs.RelocLemmas.{is_out_of_place, misplaced-here}
use Rattle.cfi_instr.proofs.RelocTests.{placed}
use Rattle.cfi_instr.proofs.source.Source.first_misplaced.Goals as goal

abbrev none : Reloc
none = record { area = Text; offset = 0; kind = 0; symbol = None; addend = pos 0 }

pub returns-then-not-is_placed-clause-some : goal.returns-then-not-is_placed-clause-some
returns-then-not-is_placed-clause-some c =
    let t = c.args.self.now in
    let table : AreEnds c.args.functions.now (count_of t) c.deref.result.now =
    subst (λ (xs : List ℕ). AreEnds c.args.functions.now (count_of t) xs) (sym c.deref.ensures.value)
    (subst (λ (n : ℕ). AreEnds c.args.functions.now n c.in_ok-ends.ends.items) c.count.ensures c.in_ok-ends.ensures) in
    let marks : (w : ℕ) → slice_index_or c.deref-in-loop-k.result.now w false
    ≡ list_any (is_on t w) (take c.loop-k.k c.args.relocs.now) =
    λ w. ap (λ (xs : List Bool). slice_index_or xs w false) c.deref-in-loop-k.ensures.value ∙ c.loop-k.invariant.marks w in
    break-from c.args.relocs.now _ _ (placed t c.args.symbols.now c.args.functions.now c.args.relocs.now) own_number
    c.loop-k.k c.loop-k.k c.loop-k-test.true
    (misplaced-here t c.args.symbols.now c.args.functions.now c.args.relocs.now c.loop-k.k none c.deref-in-loop-k.result.now false
    c.loop-k-test.true marks (c.if-not-is_placed.ensures c.args.functions.now table))
    c.loop-k.invariant.none (λ x. refl)

pub loop-k-preserved : goal.loop-k-preserved
loop-k-preserved c =
    let t = c.args.self.now in
    let relocs = c.args.relocs.now in
    let k = c.loop-k.k in
    let table : AreEnds c.args.functions.now (count_of t) c.deref.result.now =
    subst (λ (xs : List ℕ). AreEnds c.args.functions.now (count_of t) xs) (sym c.deref.ensures.value)
    (subst (λ (n : ℕ). AreEnds c.args.functions.now n c.in_ok-ends.ends.items) c.count.ensures c.in_ok-ends.ensures) in
    let marks : (w : ℕ) → slice_index_or c.deref-in-loop-k.result.now w false ≡ list_any (is_on t w) (take k relocs) =
    λ w. ap (λ (xs : List Bool). slice_index_or xs w false) c.deref-in-loop-k.ensures.value ∙ c.loop-k.invariant.marks w in
    record {
      none =
          below_more (λ j. is_out_of_place t c.args.symbols.now c.args.functions.now relocs j ≡ false) k
          c.loop-k.invariant.none
          (misplaced-here t c.args.symbols.now c.args.functions.now relocs k none c.deref-in-loop-k.result.now true
          c.loop-k-test.true marks (c.if-not-is_placed.ensures c.args.functions.now table));
      size = c.mark.ensures.len ∙ c.loop-k.invariant.size;
      marks = λ w.
          c.mark.ensures.marks w
          ∙ ap (λ (b : Bool). b || is_on t w (get_or relocs k none)) (c.loop-k.invariant.marks w)
          ∙ sym (list_any_more (is_on t w) relocs k none c.loop-k-test.true);
    }

pub returns-clause-none : goal.returns-clause-none
returns-clause-none c =
    let relocs = c.args.relocs.now in
    each-from relocs _ _ (placed c.args.self.now c.args.symbols.now c.args.functions.now relocs) (λ j less.
    c.loop-k.invariant.none j (omega (arith, less, c.loop-k-test.false)))
