-- Several in turn: a loop that reads them keeps what it has read, and reads what is left.
use Rattle.std.proofs.Common.{◌≡◌, ℕ, suc, ◌+◌, ◌-◌, ◌<◌, ◌≤◌, List, [], ◌∷◌, ◌++◌, Result, Ok, Err, refl, sym, subst, ◌∙◌, add-one, arith}
use Rattle.cfi_aux.specs.declared.fault.AuxFault.{AuxFault}
use Rattle.cfi_aux.specs.declared.fault.AuxFault.TheVariants.{NoRecords, Types, Version, Short, BadRecord, Memory}
use Rattle.cfi_aux.specs.Reading.{Reader, ReadingFails, each}
use Rattle.cfi_values.specs.Then.{◌>>=◌}
use Rattle.cfi_type_table.proofs.Parts.{with_front, regroup, with_front_nil}

-- a step's fault is the fault of the steps
pub Fails-then : {A B : Type 0} (e : AuxFault) (r : Result A AuxFault) (f : A → Result B AuxFault) → ReadingFails e r
    → ReadingFails e (r >>= f)
Fails-then Memory r f h = tt
Fails-then NoRecords r f h = rw h refl
Fails-then (Types t) r f h = rw h refl
Fails-then Version r f h = rw h refl
Fails-then Short r f h = rw h refl
Fails-then (BadRecord k) r f h = rw h refl

nothing : {A : Type 0} (read : Result (List A × List ℕ) AuxFault) → with_front [] read ≡ read
nothing (Ok x) = refl
nothing (Err e) = refl

pub each_begins : {A : Type 0} (one : ℕ → Reader A) (first count : ℕ) (front : List A) (bytes : List ℕ) → front ≡ []
    → with_front front (each one first (first + count - first) bytes) ≡ each one first count bytes
each_begins one first count front bytes empty =
    let all : first + count - first ≡ count = omega arith in
    rw (all, empty) (nothing (each one first count bytes))

pub each_go_on : {A : Type 0} (one : ℕ → Reader A) (end i : ℕ) (front : List A) (bytes : List ℕ) (x : A)
    (after : List ℕ) (total : Result (List A × List ℕ) AuxFault) → i < end → one i bytes ≡ Ok (x, after)
    → with_front front (each one i (end - i) bytes) ≡ total
    → with_front (front ++ x ∷ []) (each one (i + 1) (end - (i + 1)) after) ≡ total
unfolding each
each_go_on one end i front bytes x after total lt h so_far =
    let left : end - i ≡ suc (end - (i + 1)) = omega arith in
    let step : with_front front (each one i (end - i) bytes) ≡ with_front (front ++ x ∷ [])
    (each one (i + 1) (end - (i + 1)) after) =
    rw (left, h, add-one) (regroup front x (each one (suc i) (end - suc i) after)) in
    sym step ∙ so_far

pub each_ends : {A : Type 0} (e : AuxFault) (one : ℕ → Reader A) (end i : ℕ) (front : List A) (bytes : List ℕ)
    (total : Result (List A × List ℕ) AuxFault) → i < end → ReadingFails e (one i bytes)
    → with_front front (each one i (end - i) bytes) ≡ total → ReadingFails e total
unfolding each
each_ends e one end i front bytes total lt h so_far =
    let left : end - i ≡ suc (end - (i + 1)) = omega arith in
    let step : ReadingFails e (with_front front (each one i (suc (end - (i + 1))) bytes)) =
    Fails-then e (each one i (suc (end - (i + 1))) bytes) (λ x. Ok (front ++ x.0, x.1))
    (Fails-then e (one i bytes)
    (λ first. each one (suc i) (end - (i + 1)) first.1 >>= λ others. Ok (first.0 ∷ others.0, others.1)) h) in
    subst (ReadingFails e) so_far (subst (λ n. ReadingFails e (with_front front (each one i n bytes))) (sym left) step)

pub each_done : {A : Type 0} (one : ℕ → Reader A) (end i : ℕ) (front : List A) (bytes : List ℕ)
    (total : Result (List A × List ℕ) AuxFault) → end ≤ i → with_front front (each one i (end - i) bytes) ≡ total
    → total ≡ Ok (front, bytes)
unfolding each
each_done one end i front bytes total le so_far =
    let left : end - i ≡ 0 = omega arith in
    let step : with_front front (each one i (end - i) bytes) ≡ Ok (front, bytes) =
    rw left (with_front_nil front bytes) in
    sym so_far ∙ step
