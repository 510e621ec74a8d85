-- What a guest can wait for within a unit, and which words are fair.
use Rattle.std.proofs.Common.{◌≡◌, ℕ, ◌%◌, ◌<◌, Option, Some, None, List, length, refl, sym, ap, subst, ◌∙◌, inl, inr}
use Rattle.std.specs.Prelude.{⊤}
use Rattle.rv_insn.specs.declared.insn.Insn.{Insn}
use Rattle.rv_insn.specs.InsnOf.{insn_of}
use Rattle.cfi_unit.specs.declared.unit.Unit.{Unit as CodeUnit}
use Rattle.cfi_unit.specs.declared.unit.Unit.TheVariants as units
use Rattle.cfi_word.specs.Table.{slots_of}
use Rattle.cfi_word.specs.Word.{epoch_in}
use Rattle.cfi_word.specs.declared.map.TheConstants.{CODE_BYTES}
use Rattle.cfi_model.specs.declared.act.Wait.{Wait}
use Rattle.cfi_model.specs.declared.act.Wait.TheVariants as waits
use Rattle.cfi_model.specs.Begin.{HasStep, HasStepBy}
use Rattle.cfi_model.specs.History.{History, IsFair}
use Rattle.cfi_model.specs.Raw.{Raw}
use Rattle.cfi_model.specs.Run.{finish_as}
use Rattle.cfi_model.specs.Shows.{MayWait, Shows}
use Rattle.cfi_model.specs.State.{State}

-- a table word counts no instruction
pub finish_steps : (wait : Option Wait) (r : Raw) (word : ℕ) → (finish_as wait r word).base.steps ≡ r.base.steps
finish_steps None r word = refl
finish_steps (Some (waits.Tary at rd)) r word = refl
finish_steps (Some (waits.Bary slot rd)) r word = refl
finish_steps (Some (waits.Service number)) r word = refl

-- a word that has a step is an instruction
pub insn_is : (o : Option Insn) (word : ℕ) (r : Raw) → insn_of word ≡ o → HasStepBy o r
    → (insn : Insn) × (insn_of word ≡ Some insn) × HasStep insn r
insn_is None word r is has = absurd has
insn_is (Some insn) word r is has = (insn, is, has)

-- what is waited for within a unit
abbrev pub MayNeed : (code_words : ℕ) → Option Wait → Type 0
MayNeed code_words (Some (waits.Tary at rd)) = (at < CODE_BYTES) × (at % 4 ≡ 0)
MayNeed code_words (Some (waits.Bary slot rd)) = slot < slots_of code_words
MayNeed code_words (Some (waits.Service number)) = ⊤
MayNeed code_words None = ⊤

needs_of : (c : ℕ) (unit : CodeUnit) (s : State) (wait : Option Wait) → MayWait c unit s wait → MayNeed c wait
needs_of c (units.Check link rs1 imm slot) s (Some (waits.Bary asked rd)) may =
    subst (λ n. n < slots_of c) (sym may.0) may.1
needs_of c (units.Check link rs1 imm slot) s (Some (waits.Tary at rd)) may = (may.1, may.2)
needs_of c unit s (Some (waits.Service number)) may = tt
needs_of c unit s None may = tt
needs_of c (units.Plain insn) s (Some (waits.Bary asked rd)) may = absurd may
needs_of c (units.Plain insn) s (Some (waits.Tary at rd)) may = absurd may
needs_of c (units.Load kind rd1 rs1 imm) s (Some (waits.Bary asked rd)) may = absurd may
needs_of c (units.Load kind rd1 rs1 imm) s (Some (waits.Tary at rd)) may = absurd may
needs_of c (units.Store kind rs1 rs2 imm) s (Some (waits.Bary asked rd)) may = absurd may
needs_of c (units.Store kind rs1 rs2 imm) s (Some (waits.Tary at rd)) may = absurd may
needs_of c (units.Branch b rs1 rs2 off) s (Some (waits.Bary asked rd)) may = absurd may
needs_of c (units.Branch b rs1 rs2 off) s (Some (waits.Tary at rd)) may = absurd may
needs_of c (units.Jump link off) s (Some (waits.Bary asked rd)) may = absurd may
needs_of c (units.Jump link off) s (Some (waits.Tary at rd)) may = absurd may
needs_of c units.Service s (Some (waits.Bary asked rd)) may = absurd may
needs_of c units.Service s (Some (waits.Tary at rd)) may = absurd may

pub shown_needs : (h : History) (code : List ℕ) (retries : ℕ) (s : State) (r : Raw) → Shows h code retries s r
    → MayNeed (length code) r.waits
shown_needs h code retries s r (inl between) = subst (MayNeed (length code)) (sym between.idle) tt
shown_needs h code retries s r (inr inside) = needs_of (length code) inside.unit s r.waits inside.waits

-- a word is fair in each history of these versions
pub fair_in : (h g : History) (kept : Option ℕ) (found : ℕ) → h.versions ≡ g.versions → IsFair h kept found
    → IsFair g kept found
fair_in h g None found same fair = tt
fair_in h g (Some kept) found same fair =
    λ e. fair (ap (λ v. epoch_in kept % v) same ∙ (e ∙ sym (ap (λ v. epoch_in found % v) same)))

pub fair_kept : (h : History) (bary kept : Option ℕ) (found : ℕ)
    → ((word : ℕ) → bary ≡ Some word → kept ≡ Some word) → IsFair h kept found → IsFair h bary found
fair_kept h None kept found keeps fair = tt
fair_kept h (Some word) kept found keeps fair = subst (λ o. IsFair h o found) (keeps word refl) fair
