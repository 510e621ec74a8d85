use Rattle.std.proofs.Common.{◌≡◌, ◌<◌, ◌≤◌, ℕ, List, [], length, get_or, All}
use Rattle.cfi_word.specs.declared.limits.TheConstants.{MAX_FIELDS}
use Rattle.cfi_type_table.specs.Node.{Node}
use Rattle.cfi_types.specs.inner.Division.{KeepTogether, TellEqual}
use Rattle.cfi_types.specs.inner.Whole.{IsWhole}
use Rattle.cfi_types.proofs.partition.Parts.divide_by.Given as goal

abbrev pub invariant-loop-place : goal.invariant-loop-place
invariant-loop-place l = record {
  whole : IsWhole l.self;
  count : length l.self.parts.items ≡ length l.fn.self.parts.items;
  len : length l.lists ≡ MAX_FIELDS;
  done : (k : ℕ) → k < l.place → get_or l.lists k [] ≡ [];
  left : (k : ℕ) → l.place ≤ k → get_or l.lists k [] ≡ get_or l.fn.lists k [];
  kept : (nodes : List Node) → KeepTogether nodes l.fn.self.parts.items → All (TellEqual nodes) l.fn.lists
      → KeepTogether nodes l.self.parts.items;
}
