-- What the tests of direct jumps decide.
use Rattle.std.proofs.Common.{◌≡◌, ℕ, ◌+◌, ◌*◌, ◌&&◌, not, Bool, true, false, List, Option, Some, None, refl, sym, subst, inl, inr, ⊎_elim}
use Rattle.std.proofs.lemmas.Bool.{cases_Bool, both_ways, false≢true, and_parts, and_from, and_cases, and_left, and_right, or_cases, or_left, or_right, not-false, not_from_true}
use Rattle.elf_read.specs.declared.object.Symbol.{Symbol}
use Rattle.rv_insn.specs.declared.insn.Insn.{Insn}
use Rattle.rv_insn.specs.declared.insn.Insn.TheVariants as insns
use Rattle.cfi_aux.specs.declared.records.Function.{Function}
use Rattle.cfi_values.specs.Lists.{HasWith}
use Rattle.cfi_instr.specs.declared.target.Aim.{Aim}
use Rattle.cfi_instr.specs.declared.target.Aim.TheVariants as aims
use Rattle.cfi_instr.specs.Words.{Words, insn_at}
use Rattle.cfi_instr.specs.Insns.{is_unlinked}
use Rattle.cfi_values.specs.Some.{holds}
use Rattle.cfi_instr.specs.Items.{is_item, is_pair}
use Rattle.cfi_instr.specs.Target.{aim_of_jump, aim_of_pair}
use Rattle.cfi_instr.specs.Functions.{IsOwnItem}
use Rattle.cfi_instr.specs.Leads.{BranchMayLead, JumpMayLead, InsnLeadsWell, ItemLeadsWell, WordLeadsWell}
use Rattle.cfi_instr.specs.inner.Functions.{is_entry, is_own_item}
use Rattle.cfi_instr.specs.inner.Stray.{branches_well, jumps_well, goes_by, goes_well, is_stray}
use Rattle.cfi_instr.proofs.DecideLemmas.{Decides}
use Rattle.cfi_instr.proofs.WordTests.{at-word}
use Rattle.cfi_instr.proofs.FunctionTests.{entry-holds, entry-clear, own-holds, own-clear}

module _ (t : Words) (functions : List Function) (at : ℕ) where
  branch-holds : (aim : Aim) → branches_well t functions at aim ≡ true → BranchMayLead t functions at aim
  branch-holds (aims.Offset offset) h = own-holds t functions at offset h
  branch-holds aims.Name h = absurd (false≢true h)
  branch-holds aims.Astray h = absurd (false≢true h)

  branch-clear : (aim : Aim) → BranchMayLead t functions at aim → branches_well t functions at aim ≡ true
  branch-clear (aims.Offset offset) good = own-clear t functions at offset good
  branch-clear aims.Name good = absurd good
  branch-clear aims.Astray good = absurd good

  jump-holds : (unlinked : Bool) (aim : Aim) → jumps_well t functions at unlinked aim ≡ true
      → JumpMayLead t functions at unlinked aim
  jump-holds unlinked (aims.Offset offset) h =
      ⊎_elim (λ (entry : is_entry functions offset ≡ true). inl (entry-holds functions offset entry))
      (λ (own : (unlinked && is_own_item t functions at offset) ≡ true).
      let both = and_parts unlinked (is_own_item t functions at offset) own in
      inr (both.0, own-holds t functions at offset both.1))
      (or_cases (is_entry functions offset) (unlinked && is_own_item t functions at offset) h)
  jump-holds unlinked aims.Name h = tt
  jump-holds unlinked aims.Astray h = absurd (false≢true h)

  jump-clear : (unlinked : Bool) (aim : Aim) → JumpMayLead t functions at unlinked aim
      → jumps_well t functions at unlinked aim ≡ true
  jump-clear unlinked (aims.Offset offset) good =
      ⊎_elim
      (λ (entry : HasWith (λ (f : Function). f.offset) functions offset).
      or_left (is_entry functions offset) (unlinked && is_own_item t functions at offset)
      (entry-clear functions offset entry))
      (λ (own : (unlinked ≡ true) × IsOwnItem t functions at offset).
      or_right (is_entry functions offset) (unlinked && is_own_item t functions at offset)
      (and_from unlinked (is_own_item t functions at offset) own.0 (own-clear t functions at offset own.1))) good
  jump-clear unlinked aims.Name good = refl
  jump-clear unlinked aims.Astray good = absurd good

module _ (t : Words) (symbols : List Symbol) (functions : List Function) where
  insn-holds : (w : ℕ) (x : Option Insn) → goes_by t symbols functions w x ≡ true
      → InsnLeadsWell t symbols functions w x
  insn-holds w None h = tt
  insn-holds w (Some (insns.Branch cond rs1 rs2 off)) h =
      branch-holds t functions (4 * w) (aim_of_jump t symbols w off) h
  insn-holds w (Some (insns.Jal rd off)) h =
      jump-holds t functions (4 * w) (is_unlinked (insns.Jal rd off)) (aim_of_jump t symbols w off) h
  insn-holds w (Some insn) h = tt

  insn-clear : (w : ℕ) (x : Option Insn) → InsnLeadsWell t symbols functions w x
      → goes_by t symbols functions w x ≡ true
  insn-clear w None good = refl
  insn-clear w (Some (insns.Branch cond rs1 rs2 off)) good =
      branch-clear t functions (4 * w) (aim_of_jump t symbols w off) good
  insn-clear w (Some (insns.Jal rd off)) good =
      jump-clear t functions (4 * w) (is_unlinked (insns.Jal rd off)) (aim_of_jump t symbols w off) good
  insn-clear w (Some insn) good = refl

  item-holds : (w : ℕ) → goes_well t symbols functions w ≡ true
      → ItemLeadsWell t symbols functions w (insn_at t w)
  item-holds w h = record {
    pair = λ is.
        jump-holds t functions (4 * w) (holds is_unlinked (insn_at t (w + 1))) (aim_of_pair t symbols w) (rw is at h);
    single = λ is. insn-holds w (insn_at t w) (rw is at h);
  }

  item-clear : (w : ℕ) → ItemLeadsWell t symbols functions w (insn_at t w)
      → goes_well t symbols functions w ≡ true
  item-clear w good = elim (cases_Bool (is_pair t w)) [
    | inl is ↦
        rw is
        (jump-clear t functions (4 * w) (holds is_unlinked (insn_at t (w + 1))) (aim_of_pair t symbols w)
        (good.pair is))
    | inr is ↦ rw is (insn-clear w (insn_at t w) (good.single is))
  ]

  word-holds : (w : ℕ) → is_stray t symbols functions w ≡ false → WordLeadsWell t symbols functions w (insn_at t w)
  word-holds w h item =
      ⊎_elim (λ (outside : is_item t w ≡ false). absurd (both_ways (is_item t w) outside item))
      (λ (goes : not (goes_well t symbols functions w) ≡ false). item-holds w (not-false _ goes))
      (and_cases (is_item t w) (not (goes_well t symbols functions w)) h)

  word-clear : (w : ℕ) → WordLeadsWell t symbols functions w (insn_at t w) → is_stray t symbols functions w ≡ false
  word-clear w good = elim (cases_Bool (is_item t w)) [
    | inl item ↦ and_right (is_item t w) _ (not_from_true _ (item-clear w (good item)))
    | inr outside ↦ and_left (is_item t w) _ outside
  ]

  pub targets : Decides t.insns (is_stray t symbols functions) (WordLeadsWell t symbols functions)
  targets = record {
    holds = λ w x is h.
        subst (λ (y : Option Insn). WordLeadsWell t symbols functions w y) (at-word t w x is) (word-holds w h);
    clear = λ w x is good.
        word-clear w (subst (λ (y : Option Insn). WordLeadsWell t symbols functions w y) (sym (at-word t w x is)) good);
  }
