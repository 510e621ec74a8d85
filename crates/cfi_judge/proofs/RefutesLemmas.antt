-- Answers of yes and of no, and what refutes what must hold.
use Rattle.std.proofs.Common.{◌≡◌, Bool, true, false, not, Result, Ok, Err, refl, sym, ◌∙◌}
use Rattle.std.specs.Prelude.{◌↔◌, IfErr, IsTrue, OnOk}
use Rattle.cfi_judge.specs.declared.fault.LineFault.{LineFault}
use Rattle.cfi_judge.specs.declared.fault.LineFault.TheVariants.{Illegal, Memory}
use Rattle.cfi_judge.specs.inner.Faults.{Refutes}

pub never_true : IsTrue false → ⊥
never_true same = cc

pub yes : (P : Type 0) → P → IsTrue true ↔ P
yes P holds = (λ same. holds, λ again. refl)

pub refuted : (P : Type 0) → ¬ P → IsTrue false ↔ P
refuted P never = (λ same. absurd (never_true same), λ holds. absurd (never holds))

-- an answer of no
pub not_answered : (b : Bool) (P : Type 0) → b ≡ false → (IsTrue b ↔ P) → ¬ P
not_answered b P wrong exact holds = never_true (sym wrong ∙ exact.1 holds)

pub no_of : (b : Bool) → not b ≡ true → b ≡ false
no_of true other = absurd (cc)
no_of false other = refl

pub yes_of : (b : Bool) → not b ≡ false → b ≡ true
yes_of true other = refl
yes_of false other = absurd (cc)

-- an answer turned round
pub no_is : (b : Bool) (P : Type 0) → (IsTrue b ↔ P) → IsTrue (not b) ↔ (¬ P)
no_is true P exact = (λ same. absurd (cc), λ never. absurd (never (exact.0 refl)))
no_is false P exact = (λ same holds. never_true (exact.1 holds), λ never. refl)

-- an answer that asks for more, where the rest holds
pub both : {P Q : Type 0} (b : Bool) → P → (IsTrue b ↔ Q) → IsTrue b ↔ (P × Q)
both b holds exact = (λ yes. (holds, exact.0 yes), λ all. exact.1 all.1)

-- ---- what must hold

pub on_ok : {T E P Q : Type 0} (r : Result T E) → (P → Q) → OnOk r P → OnOk r Q
on_ok (Ok x) follows holds = follows holds
on_ok (Err e) follows holds = tt

pub on_fault : {T P Q : Type 0} (r : Result T LineFault) → (Q → P) → IfErr r (Refutes P) → IfErr r (Refutes Q)
on_fault (Ok x) follows never = tt
on_fault (Err Illegal) follows never = λ holds. never (follows holds)
on_fault (Err Memory) follows never = tt
