use Rattle.cfi_word.specs.declared.limits.TheConstants.{MAX_FIELDS}
use Rattle.cfi_types.specs.inner.Division.{AreClear, KeepTogether}
use Rattle.cfi_types.specs.inner.Whole.{IsWhole}
use Rattle.cfi_types.proofs.dividing.divided.Given as goal

abbrev pub invariant-loop : goal.invariant-loop
invariant-loop l = record {
  whole : IsWhole l.parts;
  clear : AreClear MAX_FIELDS l.hits;
  kept : KeepTogether l.nodes l.parts.parts.items;
}
