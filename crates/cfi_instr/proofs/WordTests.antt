-- What the tests of words decide.
use Rattle.std.proofs.Common.{◌≡◌, ◌⊎◌, ℕ, ◌<◌, ◌≤◌, ℤ, pos, negsuc, ◌∙◌, not, ◌||◌, Bool, true, false, eqb, Option, Some, None, refl, ap, sym, ⊎_elim, inl, inr}
use Rattle.std.specs.List.{slice_get}
use Rattle.std.specs.Option.{is_none}
use Rattle.std.proofs.lemmas.Bool.{cases_lt, true≢false, false≢true, and_parts, or_cases, or_left, or_right, not-false, not_from_true, eqb-true, eq-eqb}
use Rattle.std.proofs.lemmas.List.{get_or_past}
use Rattle.std.proofs.lemmas.Option.{get_or_from_slice_get}
use Rattle.rv_insn.specs.declared.insn.Insn.{Insn}
use Rattle.rv_insn.specs.declared.insn.Insn.TheVariants as insns
use Rattle.rv_insn.specs.declared.insn.ImmOp.{ImmOp}
use Rattle.rv_insn.specs.declared.insn.ImmOp.TheVariants as ops
use Rattle.cfi_unit.specs.Free.{names_reserved}
use Rattle.cfi_instr.specs.Words.{Words, insn_at, count_of}
use Rattle.cfi_instr.specs.Insns.{is_zero, OfInsn, IsInsn, NamesFree, IsNoTrap, LinksWell}
use Rattle.cfi_values.specs.Some.{holds}
use Rattle.cfi_instr.specs.inner.Insns.{is_addi, is_nop, is_trap, is_bad_link}
use Rattle.cfi_instr.specs.inner.Flaws.{is_illegal_at, is_reserved_at, is_trap_at, is_bad_link_at}
use Rattle.cfi_instr.proofs.DecideLemmas.{Decides}

pub at-word : (t : Words) (w : ℕ) (x : Option Insn) → slice_get t.insns w ≡ Some x → insn_at t w ≡ x
at-word t w x is = get_or_from_slice_get t.insns w x None is

-- a word of which a test holds is one of the text
pub holds-within : (t : Words) (w : ℕ) (test : Insn → Bool) → holds test (insn_at t w) ≡ true → w < count_of t
holds-within t w test h =
    ⊎_elim (λ (less : w < count_of t). less)
    (λ (more : count_of t ≤ w).
    let none : insn_at t w ≡ None = get_or_past t.insns w None more in
    absurd (false≢true (ap (holds test) (sym none) ∙ h)))
    (cases_lt w (count_of t))

decides-word : (t : Words) (check : Option Insn → Bool) (P : ℕ → Option Insn → Type 0)
    → ((w : ℕ) (x : Option Insn) → check x ≡ false → P w x) → ((w : ℕ) (x : Option Insn) → P w x → check x ≡ false)
    → Decides t.insns (λ w. check (insn_at t w)) P
decides-word t check P good clear = record {
  holds = λ w x is none. good w x (ap check (sym (at-word t w x is)) ∙ none);
  clear = λ w x is here. ap check (at-word t w x is) ∙ clear w x here;
}

-- ---- what is asked of instructions

insn-holds : (w : ℕ) (x : Option Insn) → is_none x ≡ false → IsInsn w x
insn-holds w None h = absurd (true≢false h)
insn-holds w (Some insn) h = (insn, refl)

insn-clear : (w : ℕ) (x : Option Insn) → IsInsn w x → is_none x ≡ false
insn-clear w x is = ap is_none is.1

of-holds : (test : Insn → Bool) (P : Insn → Type 0) → ((i : Insn) → test i ≡ false → P i) → (w : ℕ) (x : Option Insn)
    → holds test x ≡ false → OfInsn P w x
of-holds test P one w None h = tt
of-holds test P one w (Some insn) h = one insn h

of-clear : (test : Insn → Bool) (P : Insn → Type 0) → ((i : Insn) → P i → test i ≡ false) → (w : ℕ) (x : Option Insn)
    → OfInsn P w x → holds test x ≡ false
of-clear test P one w None good = refl
of-clear test P one w (Some insn) good = one insn good

trap-clear : (insn : Insn) → IsNoTrap insn → is_trap insn ≡ false
trap-clear insns.Ebreak good = absurd (good refl)
trap-clear insn good = refl

-- a register that is x0 or x1
links-holds : (rd : ℕ) → not (eqb rd 0 || eqb rd 1) ≡ false → (rd ≡ 0) ⊎ (rd ≡ 1)
links-holds rd h =
    ⊎_elim (λ (zero : eqb rd 0 ≡ true). inl (eqb-true rd 0 zero)) (λ (one : eqb rd 1 ≡ true). inr (eqb-true rd 1 one))
    (or_cases (eqb rd 0) (eqb rd 1) (not-false _ h))

links-clear : (rd : ℕ) → (rd ≡ 0) ⊎ (rd ≡ 1) → not (eqb rd 0 || eqb rd 1) ≡ false
links-clear rd good =
    not_from_true (eqb rd 0 || eqb rd 1)
    (⊎_elim (λ (zero : rd ≡ 0). or_left (eqb rd 0) (eqb rd 1) (eq-eqb rd 0 zero))
    (λ (one : rd ≡ 1). or_right (eqb rd 0) (eqb rd 1) (eq-eqb rd 1 one)) good)

link-holds : (insn : Insn) → is_bad_link insn ≡ false → LinksWell insn
link-holds (insns.Jal rd off) h = links-holds rd h
link-holds (insns.Jalr rd rs1 imm) h = links-holds rd h
link-holds insn h = tt

link-clear : (insn : Insn) → LinksWell insn → is_bad_link insn ≡ false
link-clear (insns.Jal rd off) good = links-clear rd good
link-clear (insns.Jalr rd rs1 imm) good = links-clear rd good
link-clear insn good = refl

module _ (t : Words) where
  pub legal : Decides t.insns (is_illegal_at t) IsInsn
  legal = decides-word t is_none IsInsn insn-holds insn-clear

  pub free : Decides t.insns (is_reserved_at t) (OfInsn NamesFree)
  free =
      decides-word t (holds names_reserved) (OfInsn NamesFree) (of-holds names_reserved NamesFree (λ i h. h))
      (of-clear names_reserved NamesFree (λ i h. h))

  pub quiet : Decides t.insns (is_trap_at t) (OfInsn IsNoTrap)
  quiet =
      decides-word t (holds is_trap) (OfInsn IsNoTrap)
      (of-holds is_trap IsNoTrap (λ i h e. true≢false (sym (ap is_trap e) ∙ h)))
      (of-clear is_trap IsNoTrap trap-clear)

  pub linked : Decides t.insns (is_bad_link_at t) (OfInsn LinksWell)
  linked =
      decides-word t (holds is_bad_link) (OfInsn LinksWell) (of-holds is_bad_link LinksWell link-holds)
      (of-clear is_bad_link LinksWell link-clear)

-- ---- `addi x0,x0,0`

zero-is : (imm : ℤ) → is_zero imm ≡ true → imm ≡ pos 0
zero-is (pos n) h = ap pos (eqb-true n 0 h)
zero-is (negsuc n) h = absurd (false≢true h)

pub addi-is : (op : ImmOp) → is_addi op ≡ true → op ≡ ops.Addi
addi-is ops.Addi h = refl
addi-is op h = absurd (false≢true h)

pub nop-is : (insn : Insn) → is_nop insn ≡ true → insn ≡ insns.OpImm ops.Addi 0 0 (pos 0)
nop-is (insns.OpImm op rd rs1 imm) h =
    let three = and_parts _ _ h in
    let two = and_parts _ _ three.0 in
    let one = and_parts _ _ two.0 in
    ap (λ (o : ImmOp). insns.OpImm o rd rs1 imm) (addi-is op one.0)
    ∙ ap (λ (n : ℕ). insns.OpImm ops.Addi n rs1 imm) (eqb-true rd 0 one.1)
    ∙ ap (λ (n : ℕ). insns.OpImm ops.Addi 0 n imm) (eqb-true rs1 0 two.1)
    ∙ ap (λ (z : ℤ). insns.OpImm ops.Addi 0 0 z) (zero-is imm three.1)
nop-is insn h = absurd (false≢true h)

pub holds-nop : (x : Option Insn) → holds is_nop x ≡ true → x ≡ Some (insns.OpImm ops.Addi 0 0 (pos 0))
holds-nop None h = absurd (false≢true h)
holds-nop (Some insn) h = ap (λ (i : Insn). Some i) (nop-is insn h)
