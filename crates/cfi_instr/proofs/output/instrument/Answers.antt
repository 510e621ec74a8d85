use Rattle.std.proofs.Common.{◌≤◌, sym, subst, List, ℕ, Bool}
use Rattle.cfi_instr.specs.Words.{Words, read_words, count_of}
use Rattle.cfi_instr.specs.declared.sizes.TheConstants.{MAX_WORDS}
use Rattle.cfi_instr.specs.Sizes.{words_before}
use Rattle.cfi_instr.specs.Units.{AllSpell}
use Rattle.cfi_instr.specs.Output.{AreMoved, IsObject}
use Rattle.cfi_instr.proofs.OutputLemmas.{moved-written, cells-moved, spells-all, plan-is}
use Rattle.cfi_instr.proofs.output.instrument.Goals as goal

pub object_of-requires-clause-fits : goal.object_of-requires-clause-fits
object_of-requires-clause-fits c =
    let t = c.in_ok-source.source in
    let symbols = c.as_slice-symbols.result.now in
    let long = c.in_ok-long.long.items in
    let offsets = c.in_ok-long.offsets.items in
    let made = c.in_ok-long.ensures in
    subst (λ (xs : List ℕ). AllSpell t symbols c.deref.result.now xs) (sym c.deref-2.ensures.value)
    (subst (λ (bs : List Bool). AllSpell t symbols bs offsets) (sym c.deref.ensures.value)
    (spells-all c.args.unplaced.now t symbols long offsets c.in_ok-source.ensures.ok c.in_ok-source.ensures.range
    c.in_ok-source.ensures.sound made.least made.fits made.small made.placed))

pub object_of-requires-clause-written : goal.object_of-requires-clause-written
object_of-requires-clause-written c =
    moved-written c.args.unplaced.now c.deref-2.result.now c.in_ok-records.records c.in_ok-records.ensures
    c.requires.written

pub returns-clause-ok : goal.returns-clause-ok
returns-clause-ok c =
    let m = c.args.unplaced.now in
    let t = c.in_ok-source.source in
    let long = c.in_ok-long.long.items in
    let offsets = c.in_ok-long.offsets.items in
    let records = c.in_ok-records.records in
    let object = c.in_ok-object.object in
    record {
      sound = c.in_ok-source.ensures.sound;
      long = long;
      offsets = offsets;
      plan =
          plan-is m t c.as_slice-symbols.result.now long offsets c.in_ok-source.ensures.ok
          c.as_slice-symbols.ensures c.in_ok-long.ensures.least c.in_ok-long.ensures.placed;
      fits =
          subst (λ (x : Words). words_before x long (count_of x) ≤ MAX_WORDS) c.in_ok-source.ensures.ok
          c.in_ok-long.ensures.fits;
      object =
          subst (λ (bs : List Bool). IsObject m bs offsets records object) c.deref.ensures.value
          (subst (λ (xs : List ℕ). IsObject m c.deref.result.now xs records object) c.deref-2.ensures.value
          c.in_ok-object.ensures);
      types = c.in_ok-types.ensures;
      records = subst (λ (xs : List ℕ). AreMoved m xs records) c.deref-2.ensures.value c.in_ok-records.ensures;
    }

pub invariant_of-result : goal.invariant_of-result
invariant_of-result c =
    let m = c.args.unplaced.now in
    let object = c.in_ok-object.object in
    let records = c.in_ok-records.records in
    record {
      cells =
          cells-moved m (read_words m.object) c.deref-2.result.now object.static_data records.branches
          c.in_ok-object.ensures.static_data c.in_ok-records.ensures.branches;
    }
