-- The numbers and registers of a listing are read back.
use Rattle.std.proofs.Common.{◌≡◌, ℕ, suc, ◌-◌, ◌^◌, ◌<◌, true, false, ◌&&◌, Some, List, [], ◌∷◌, ℤ, pos, negsuc, refl, ap, ◌∙◌, arith}
use Rattle.std.specs.Prelude.{nat_eq, nat_lt, codes, option_map, option_and_then}
use Rattle.std.specs.Int.{IsInRange}
use Rattle.std.specs.List.{starts_with}
use Rattle.std.specs.Fmt.{decimal, signed_decimal}
use Rattle.std.proofs.lemmas.Bool.{cond-true, cond-false, and_right, lt-ltb}
use Rattle.std.proofs.lemmas.Bool.Decides.{nat_tests}
use Rattle.cfi_text.specs.Decimal.{AreDigits, dec_text, small_number_in}
use Rattle.cfi_text.proofs.DecimalLemmas.{IsDecimal-dec_text, number_in-some, at_most-text}
use Rattle.rv_insn.specs.Word.{IsSigned}
use Rattle.rv_text.specs.Text.{offset_text}
use Rattle.rv_line.specs.declared.statement.Target.TheVariants as targets
use Rattle.rv_line.specs.Number.{negated, integer_in}
use Rattle.rv_line.specs.Register.{named_register, numbered_register, register_in}
use Rattle.rv_line.specs.Target.{target_in}

-- digits do not begin as other numbers do
not_hex : (ds : List ℕ) → AreDigits ds → starts_with nat_eq ds (codes "0x") ≡ false
not_hex [] h = refl
not_hex (c ∷ []) h = and_right (nat_eq 48 c) _ refl
not_hex (c ∷ d ∷ ds) h =
    let other : nat_eq 120 d ≡ false = differs d h.1.0 in and_right (nat_eq 48 c) _ (ap (λ t. t && true) other)
  where
    differs : (d : ℕ) → IsInRange 48 57 d → nat_eq 120 d ≡ false
    differs d k = grind (arith, nat_tests)

not_negative : (ds : List ℕ) → AreDigits ds → starts_with nat_eq ds (codes "-") ≡ false
not_negative [] h = refl
not_negative (c ∷ ds) h = ap (λ t. t && true) (differs c h.0)
  where
    differs : (d : ℕ) → IsInRange 48 57 d → nat_eq 45 d ≡ false
    differs d k = grind (arith, nat_tests)

-- signed decimals
pub integer_in-signed : (imm : ℤ) → IsSigned (2 ^ 11) imm → integer_in (signed_decimal imm) ≡ Some imm
unfolding integer_in small_number_in
integer_in-signed (pos n) h =
    let ds = dec_text n in
    let are = (IsDecimal-dec_text n (omega (arith, h))).digits in
    cond-false (starts_with nat_eq ds (codes "0x")) _ _ (not_hex ds are)
    ∙ cond-false (starts_with nat_eq ds (codes "-")) _ _ (not_negative ds are)
    ∙ ap (option_map pos) (at_most-text (2 ^ 32 - 1) n (omega (arith, h)) (omega arith))
integer_in-signed (negsuc n) h =
    ap (option_map negated) (at_most-text (2 ^ 31) (suc n) (omega (arith, h)) (omega arith))

-- registers
pub register_in-text : (r : ℕ) → r < 32 → register_in (120 ∷ decimal r) ≡ Some r
unfolding named_register
register_in-text r small =
    ap (option_and_then (numbered_register 120)) (number_in-some (dec_text r) r (omega arith) refl)
    ∙ cond-true (nat_lt r 32) _ _ (lt-ltb r 32 small)

-- offsets
pub target_in-text : (off : ℤ) → IsSigned (2 ^ 20) off → target_in (offset_text off) ≡ Some (targets.Offset off)
unfolding target_in small_number_in
target_in-text (pos n) h =
    ap (option_map (λ n. targets.Offset (pos n))) (at_most-text (2 ^ 32 - 1) n (omega (arith, h)) (omega arith))
target_in-text (negsuc n) h =
    ap (option_map (λ n. targets.Offset (negated n)))
    (at_most-text (2 ^ 32 - 1) (suc n) (omega (arith, h)) (omega arith))
