-- A branch of a text, from its instruction and its target.
use Rattle.std.proofs.Common.{◌≡◌, ℕ, ◌+◌, ◌<◌, ℤ, Bool, false, cond, List, get_or, Option, Some, None, IfSome, refl, sym, ap, subst, ◌∙◌}
use Rattle.elf_read.specs.declared.object.Symbol.{Symbol}
use Rattle.rv_insn.specs.declared.insn.Cond.{Cond}
use Rattle.rv_insn.specs.declared.insn.Insn.TheVariants.{Branch}
use Rattle.cfi_instr.specs.Words.{Words, insn_at, count_of}
use Rattle.cfi_instr.specs.Items.{is_inner}
use Rattle.cfi_instr.specs.declared.target.Aim.{Aim}
use Rattle.cfi_instr.specs.Target.{aim_of_jump}
use Rattle.cfi_instr.specs.declared.hops.Hop.{Hop}
use Rattle.cfi_instr.specs.Sizes.{is_long, size_at}
use Rattle.cfi_instr.specs.Reach.{target_of, is_near, word_reaches, insn_reaches}
use Rattle.cfi_instr.specs.inner.Hops.{IsHop}

module _ (t : Words) (symbols : List Symbol) (w : ℕ) (c : Cond) (rs1 rs2 : ℕ) (off : ℤ)
    (here : insn_at t w ≡ Some (Branch c rs1 rs2 off)) where
  branch-size : is_inner t w ≡ false → (long : List Bool) → size_at t long w ≡ cond (is_long long w) 2 1
  unfolding size_at
  branch-size outer long = rw (outer, here) refl

  pub hop-is : is_inner t w ≡ false → w < count_of t → (hop : Hop) → hop.at ≡ w → hop.to < count_of t + 1
      → ((any : List ℕ) → target_of any (aim_of_jump t symbols w off) ≡ get_or any hop.to 0)
      → IsHop t symbols hop
  hop-is outer inside hop at target leads = record {
    inside = subst (λ (k : ℕ). k < count_of t) (sym at) inside;
    target = target;
    leads = λ offsets.
        subst (λ (k : ℕ). word_reaches t symbols offsets k ≡ is_near (get_or offsets k 0) (get_or offsets hop.to 0))
        (sym at)
        (ap (insn_reaches t symbols offsets w) here ∙ ap (is_near (get_or offsets w 0)) (leads offsets));
    grows = λ long.
        subst (λ (k : ℕ). size_at t long k ≡ cond (is_long long k) 2 1) (sym at) (branch-size outer long);
  }

  -- the same, where there is one
  pub some-hop : is_inner t w ≡ false → w < count_of t → (aim : Aim) → aim ≡ aim_of_jump t symbols w off
      → (found : Option Hop) → IfSome found (λ hop. hop.at ≡ w) → IfSome found (λ hop. hop.to < count_of t + 1)
      → IfSome found (λ hop. (any : List ℕ) → target_of any aim ≡ get_or any hop.to 0)
      → IfSome found (IsHop t symbols)
  some-hop outer inside aim aim_is None at target leads = tt
  some-hop outer inside aim aim_is (Some hop) at target leads =
      hop-is outer inside hop at target
      (λ any. ap (target_of any) (sym aim_is) ∙ leads any)
