-- Where a unit stands, its instructions are fetched one after the other.
use Rattle.std.proofs.Common.{◌≡◌, ℕ, ◌+◌, ◌*◌, ◌/◌, ◌^◌, ◌<◌, Option, None, List, slice_index, get_or, length, refl, sym, ◌∙◌, ap, subst, arith}
use Rattle.rv_insn.specs.declared.insn.Insn.{Insn}
use Rattle.rv_insn.specs.declared.insn.Insn.TheVariants as insns
use Rattle.rv_insn.specs.InsnOf.{insn_of}
use Rattle.cfi_unit.specs.declared.unit.Unit.{Unit as CodeUnit}
use Rattle.cfi_unit.specs.Unit.{insns_of, size_of}
use Rattle.cfi_unit.proofs.CodeLemmas.{BeginsAt-insn}
use Rattle.cfi_model.specs.State.{State}
use Rattle.cfi_model.specs.Raw.{Raw}
use Rattle.cfi_model.specs.Begin.{begin_as, begin_by}
use Rattle.cfi_model.specs.Run.{Take, Word, Served, take_one}
use Rattle.cfi_model.specs.History.{History, IsHistory}
use Rattle.cfi_model.specs.Fits.{Fits}
use Rattle.cfi_model.specs.Shows.{IsReady, Stands}
use Rattle.cfi_model.proofs.InnerLemmas.{inner, same_inner}

-- the policy state, which has not stopped, stands at the unit
pub record Here (h : History) (code : List ℕ) (p : State) (unit : CodeUnit) : Type 0 where
  pub known : IsHistory h code
  pub ready : IsReady h p
  pub going : p.stop ≡ None
  pub stands : Stands code p.pc unit
  pub small : p.pc < 2 ^ 18

-- the unit's instruction of this number, from 0
abbrev pub insn_at : CodeUnit → (k : ℕ) → Insn
insn_at unit k = get_or (insns_of unit) k insns.Ebreak

-- what comes to a state that waits for nothing is the instruction at its address
fetches : (h : History) (code : List ℕ) (p : State) (unit : CodeUnit) → Here h code p unit
    → (k : ℕ) → k < size_of unit → (steps x28 x29 x30 x31 : ℕ) (bary tary : Option ℕ) (t : Take)
    → Fits h code (inner p p.units (p.pc + 4 * k) steps x28 x29 x30 x31 bary tary None) t
    → take_one (inner p p.units (p.pc + 4 * k) steps x28 x29 x30 x31 bary tary None) t
    ≡ begin_as (insn_at unit k) (inner p p.units (p.pc + 4 * k) steps x28 x29 x30 x31 bary tary None)
fetches h code p unit here k within steps x28 x29 x30 x31 bary tary (Word word) fits =
    let whole = here.stands.aligned in
    let place : (p.pc + 4 * k) / 4 ≡ p.pc / 4 + k = omega arith in
    let is : word ≡ slice_index code (p.pc / 4 + k) = fits.1 ∙ ap (slice_index code) place in
    let insn = ap insn_of is ∙ BeginsAt-insn code (p.pc / 4) unit here.stands.begins k insns.Ebreak within in
    ap (λ i. begin_by i (inner p p.units (p.pc + 4 * k) steps x28 x29 x30 x31 bary tary None)) insn
fetches h code p unit here k within steps x28 x29 x30 x31 bary tary (Served reply) fits = absurd fits

-- the state after it, where it is known what the instruction makes of the one before
pub walks : (h : History) (code : List ℕ) (p : State) (unit : CodeUnit) → Here h code p unit
    → (all : List Insn) → insns_of unit ≡ all
    → (k : ℕ) → k < length all → (steps x28 x29 x30 x31 : ℕ) (bary tary : Option ℕ) (new r : Raw)
    → r ≡ inner p p.units (p.pc + 4 * k) steps x28 x29 x30 x31 bary tary None
    → begin_as (get_or all k insns.Ebreak) (inner p p.units (p.pc + 4 * k) steps x28 x29 x30 x31 bary tary None) ≡ new
    → (t : Take) → Fits h code r t → take_one r t ≡ new
walks h code p unit here all spelled k within steps x28 x29 x30 x31 bary tary new r is begins t fits =
    let inside : k < size_of unit = subst (λ xs. k < length xs) (sym spelled) within in
    ap (λ x. take_one x t) is
    ∙ fetches h code p unit here k inside steps x28 x29 x30 x31 bary tary t (subst (λ x. Fits h code x t) is fits)
    ∙ ap (λ xs. begin_as (get_or xs k insns.Ebreak)
    (inner p p.units (p.pc + 4 * k) steps x28 x29 x30 x31 bary tary None)) spelled
    ∙ begins

-- the same address and count, written otherwise
pub counts : (p : State) (pc pc' steps steps' x28 x29 x30 x31 : ℕ) (bary tary wait : _) → pc ≡ pc' → steps ≡ steps'
    → inner p p.units pc steps x28 x29 x30 x31 bary tary wait
    ≡ inner p p.units pc' steps' x28 x29 x30 x31 bary tary wait
counts p pc pc' steps steps' x28 x29 x30 x31 bary tary wait a b =
    same_inner p _ _ _ _ _ _ _ _ _ _ _ _ _ _ bary tary wait refl a b refl refl refl refl

-- the raw state before a unit, after so many repeated tries
abbrev pub start_raw : State → (n x28 x29 x30 x31 : ℕ) → Raw
start_raw p n x28 x29 x30 x31 = inner p p.units p.pc (p.steps + 9 * n) x28 x29 x30 x31 None None None

-- the place of the first instruction
pub first_place : (p : State) (n x28 x29 x30 x31 : ℕ)
    → start_raw p n x28 x29 x30 x31 ≡ inner p p.units (p.pc + 4 * 0) (p.steps + 9 * n) x28 x29 x30 x31 None None None
first_place p n x28 x29 x30 x31 = counts p _ _ _ _ x28 x29 x30 x31 None None None (omega arith) refl

-- the first instruction comes
pub first_walks : (h : History) (code : List ℕ) (p : State) (unit : CodeUnit) → Here h code p unit
    → (all : List Insn) → insns_of unit ≡ all → 0 < length all → (n x28 x29 x30 x31 : ℕ) (r : Raw)
    → r ≡ start_raw p n x28 x29 x30 x31 → (t : Take) → Fits h code r t
    → take_one r t ≡ begin_as (get_or all 0 insns.Ebreak) (start_raw p n x28 x29 x30 x31)
first_walks h code p unit here all spelled some n x28 x29 x30 x31 r is t fits =
    walks h code p unit here all spelled 0 some _ _ _ _ _ _ _ _ r (is ∙ first_place p n x28 x29 x30 x31)
    (ap (begin_as (get_or all 0 insns.Ebreak)) (sym (first_place p n x28 x29 x30 x31))) t fits
