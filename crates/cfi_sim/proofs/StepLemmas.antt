-- Registers, one after the other.
use Rattle.std.proofs.Common.{◌≡◌, ℕ, ◌+◌, List, [], ◌∷◌, ◌++◌, slice_index, add-one, refl, sym, ap, ◌∙◌}
use Rattle.std.proofs.lemmas.List.{append-nil}
use Rattle.std.proofs.Common.{append_assoc}
use Rattle.cfi_model.specs.Raw.{Raw, reg}
use Rattle.cfi_sim.specs.declared.seen.Seen.{Seen}
use Rattle.cfi_sim.specs.Step.{first_registers, change_text, changes_text}

-- none yet, and one more
pub no_registers : (r : Raw) → [] ≡ first_registers r 0
unfolding first_registers
no_registers r = refl

pub registers_more : (r : Raw) (k : ℕ) → first_registers r k ++ reg r k ∷ [] ≡ first_registers r (k + 1)
unfolding first_registers
registers_more r k = sym (ap (λ (n : ℕ). first_registers r n) (add-one k))

pub no_changes : (old : Seen) (new : Raw) (out : List ℕ) → out ≡ out ++ changes_text old new 0
unfolding changes_text
no_changes old new out = sym (append-nil out)

pub changes_more : (old : Seen) (new : Raw) (k : ℕ) (start out more : List ℕ) → out ≡ start ++ changes_text old new k
    → more ≡ out ++ change_text k (slice_index old.registers k) (reg new k)
    → more ≡ start ++ changes_text old new (k + 1)
unfolding changes_text
changes_more old new k start out more so_far is =
    is
    ∙ ap (λ (bytes : List ℕ). bytes ++ change_text k (slice_index old.registers k) (reg new k)) so_far
    ∙ append_assoc start (changes_text old new k) (change_text k (slice_index old.registers k) (reg new k))
    ∙ ap (λ (n : ℕ). start ++ changes_text old new n) (sym (add-one k))
