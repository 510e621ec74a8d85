-- Zero bytes, one by one: a loop that passes over them.
use Rattle.std.proofs.Common.{◌≡◌, ◌≢◌, ℕ, suc, ◌+◌, ◌-◌, ◌<◌, ◌≤◌, eqb, false, List, [], ◌∷◌, length, Result, Ok, Err, refl, sym, ◌∙◌, arith}
use Rattle.std.proofs.lemmas.Bool.{ne_eqb}
use Rattle.std.proofs.lemmas.List.{nil_from_length}
use Rattle.cfi_aux.specs.declared.fault.AuxFault.{AuxFault}
use Rattle.cfi_aux.specs.declared.fault.AuxFault.TheVariants.{Short, BadRecord}
use Rattle.cfi_aux.specs.Fault.{zeroes_at}

pub zeroes_go_on : (k count i : ℕ) (bytes : List ℕ) (byte : ℕ) (after : List ℕ)
    (total : Result (Unit {0} × List ℕ) AuxFault) → i < count → bytes ≡ byte ∷ after → byte ≡ 0
    → zeroes_at k (count - i) bytes ≡ total → zeroes_at k (count - (i + 1)) after ≡ total
unfolding zeroes_at
zeroes_go_on k count i bytes byte after total lt is zero so_far =
    let left : count - i ≡ suc (count - (i + 1)) = omega arith in
    let step : zeroes_at k (count - i) bytes ≡ zeroes_at k (count - (i + 1)) after = rw (left, is, zero) refl in
    sym step ∙ so_far

pub zeroes_short : (k count i : ℕ) (bytes : List ℕ) (total : Result (Unit {0} × List ℕ) AuxFault) → i < count
    → length bytes ≡ 0 → zeroes_at k (count - i) bytes ≡ total → total ≡ Err Short
unfolding zeroes_at
zeroes_short k count i bytes total lt none so_far =
    let is : bytes ≡ [] = nil_from_length bytes none in
    let left : count - i ≡ suc (count - (i + 1)) = omega arith in
    let step : zeroes_at k (count - i) bytes ≡ Err Short = rw (left, is) refl in
    sym so_far ∙ step

pub zeroes_bad : (k count i : ℕ) (bytes : List ℕ) (byte : ℕ) (after : List ℕ)
    (total : Result (Unit {0} × List ℕ) AuxFault) → i < count → bytes ≡ byte ∷ after → byte ≢ 0
    → zeroes_at k (count - i) bytes ≡ total → total ≡ Err (BadRecord k)
unfolding zeroes_at
zeroes_bad k count i bytes byte after total lt is other so_far =
    let left : count - i ≡ suc (count - (i + 1)) = omega arith in
    let differs : eqb byte 0 ≡ false = ne_eqb byte 0 other in
    let step : zeroes_at k (count - i) bytes ≡ Err (BadRecord k) = rw (left, is, differs) refl in
    sym so_far ∙ step

pub zeroes_done : (k count i : ℕ) (bytes : List ℕ) (total : Result (Unit {0} × List ℕ) AuxFault) → count ≤ i
    → zeroes_at k (count - i) bytes ≡ total → total ≡ Ok (tt, bytes)
unfolding zeroes_at
zeroes_done k count i bytes total le so_far =
    let left : count - i ≡ 0 = omega arith in
    let step : zeroes_at k (count - i) bytes ≡ Ok (tt, bytes) = rw left refl in
    sym so_far ∙ step
