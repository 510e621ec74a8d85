-- The text of the plan of so many modules is read as that plan: each of the texts is computed.
use Rattle.std.proofs.Common.{◌≡◌, ◌<◌, ◌≤◌, ℕ, suc, true, length, refl, arith, ⊎_elim, subst}
use Rattle.std.specs.Prelude.{Ok, nat_le}
use Rattle.std.specs.Fmt.{digits}
use Rattle.std.specs.Str.{is_utf8, chars}
use Rattle.std.proofs.lemmas.Bool.{cases_lt}
use lib.Utf8.{encode}
use Rattle.cfi_gen.specs.Plan.{plan_text, setting_lines, guest_lines}
use Rattle.cfi_gen.specs.Source.{line}
use Rattle.cfi_gen.specs.declared.shape.TheConstants.{MAX_COUNT, MIN_COUNT}
use Rattle.cfi_plan.specs.Reading.{plan_in, with_text}
use Rattle.cfi_plan.specs.Line.{counted_form, pair_form, start_in, module_form}
use Rattle.cfi_text.specs.Decimal.{number_in}
use Rattle.cfi_text.specs.Names.{is_name, is_file}
use Rattle.cfi_text.specs.Words.{words_in}
use Rattle.cfi_word.specs.declared.limits.TheConstants.{MAX_FILE_BYTES}
use Rattle.cfi_gen.specs.PlanRead.{drawn_plan}

-- the plan's text is read, it is short, and the plan has so many modules
pub record IsRead (count : ℕ) : Type 0 where
  pub is : plan_in (plan_text count) ≡ Ok (drawn_plan count)
  pub short : nat_le (length (plan_text count)) MAX_FILE_BYTES ≡ true
  pub many : length (drawn_plan count).modules ≡ count

-- ---- each number

read_2 : IsRead 2
unfolding plan_in with_text counted_form pair_form start_in module_form is_name is_file number_in words_in plan_text line setting_lines guest_lines digits is_utf8 chars encode
read_2 = record { is = refl; short = refl; many = refl }

read_3 : IsRead 3
unfolding plan_in with_text counted_form pair_form start_in module_form is_name is_file number_in words_in plan_text line setting_lines guest_lines digits is_utf8 chars encode
read_3 = record { is = refl; short = refl; many = refl }

read_4 : IsRead 4
unfolding plan_in with_text counted_form pair_form start_in module_form is_name is_file number_in words_in plan_text line setting_lines guest_lines digits is_utf8 chars encode
read_4 = record { is = refl; short = refl; many = refl }

read_5 : IsRead 5
unfolding plan_in with_text counted_form pair_form start_in module_form is_name is_file number_in words_in plan_text line setting_lines guest_lines digits is_utf8 chars encode
read_5 = record { is = refl; short = refl; many = refl }

read_6 : IsRead 6
unfolding plan_in with_text counted_form pair_form start_in module_form is_name is_file number_in words_in plan_text line setting_lines guest_lines digits is_utf8 chars encode
read_6 = record { is = refl; short = refl; many = refl }

read_7 : IsRead 7
unfolding plan_in with_text counted_form pair_form start_in module_form is_name is_file number_in words_in plan_text line setting_lines guest_lines digits is_utf8 chars encode
read_7 = record { is = refl; short = refl; many = refl }

read_8 : IsRead 8
unfolding plan_in with_text counted_form pair_form start_in module_form is_name is_file number_in words_in plan_text line setting_lines guest_lines digits is_utf8 chars encode
read_8 = record { is = refl; short = refl; many = refl }

read_9 : IsRead 9
unfolding plan_in with_text counted_form pair_form start_in module_form is_name is_file number_in words_in plan_text line setting_lines guest_lines digits is_utf8 chars encode
read_9 = record { is = refl; short = refl; many = refl }

read_10 : IsRead 10
unfolding plan_in with_text counted_form pair_form start_in module_form is_name is_file number_in words_in plan_text line setting_lines guest_lines digits is_utf8 chars encode
read_10 = record { is = refl; short = refl; many = refl }

read_11 : IsRead 11
unfolding plan_in with_text counted_form pair_form start_in module_form is_name is_file number_in words_in plan_text line setting_lines guest_lines digits is_utf8 chars encode
read_11 = record { is = refl; short = refl; many = refl }

read_12 : IsRead 12
unfolding plan_in with_text counted_form pair_form start_in module_form is_name is_file number_in words_in plan_text line setting_lines guest_lines digits is_utf8 chars encode
read_12 = record { is = refl; short = refl; many = refl }

read_13 : IsRead 13
unfolding plan_in with_text counted_form pair_form start_in module_form is_name is_file number_in words_in plan_text line setting_lines guest_lines digits is_utf8 chars encode
read_13 = record { is = refl; short = refl; many = refl }

read_14 : IsRead 14
unfolding plan_in with_text counted_form pair_form start_in module_form is_name is_file number_in words_in plan_text line setting_lines guest_lines digits is_utf8 chars encode
read_14 = record { is = refl; short = refl; many = refl }

read_15 : IsRead 15
unfolding plan_in with_text counted_form pair_form start_in module_form is_name is_file number_in words_in plan_text line setting_lines guest_lines digits is_utf8 chars encode
read_15 = record { is = refl; short = refl; many = refl }

read_16 : IsRead 16
unfolding plan_in with_text counted_form pair_form start_in module_form is_name is_file number_in words_in plan_text line setting_lines guest_lines digits is_utf8 chars encode
read_16 = record { is = refl; short = refl; many = refl }

read_17 : IsRead 17
unfolding plan_in with_text counted_form pair_form start_in module_form is_name is_file number_in words_in plan_text line setting_lines guest_lines digits is_utf8 chars encode
read_17 = record { is = refl; short = refl; many = refl }

read_18 : IsRead 18
unfolding plan_in with_text counted_form pair_form start_in module_form is_name is_file number_in words_in plan_text line setting_lines guest_lines digits is_utf8 chars encode
read_18 = record { is = refl; short = refl; many = refl }

read_19 : IsRead 19
unfolding plan_in with_text counted_form pair_form start_in module_form is_name is_file number_in words_in plan_text line setting_lines guest_lines digits is_utf8 chars encode
read_19 = record { is = refl; short = refl; many = refl }

read_20 : IsRead 20
unfolding plan_in with_text counted_form pair_form start_in module_form is_name is_file number_in words_in plan_text line setting_lines guest_lines digits is_utf8 chars encode
read_20 = record { is = refl; short = refl; many = refl }

read_21 : IsRead 21
unfolding plan_in with_text counted_form pair_form start_in module_form is_name is_file number_in words_in plan_text line setting_lines guest_lines digits is_utf8 chars encode
read_21 = record { is = refl; short = refl; many = refl }

read_22 : IsRead 22
unfolding plan_in with_text counted_form pair_form start_in module_form is_name is_file number_in words_in plan_text line setting_lines guest_lines digits is_utf8 chars encode
read_22 = record { is = refl; short = refl; many = refl }

read_23 : IsRead 23
unfolding plan_in with_text counted_form pair_form start_in module_form is_name is_file number_in words_in plan_text line setting_lines guest_lines digits is_utf8 chars encode
read_23 = record { is = refl; short = refl; many = refl }

read_24 : IsRead 24
unfolding plan_in with_text counted_form pair_form start_in module_form is_name is_file number_in words_in plan_text line setting_lines guest_lines digits is_utf8 chars encode
read_24 = record { is = refl; short = refl; many = refl }

read_25 : IsRead 25
unfolding plan_in with_text counted_form pair_form start_in module_form is_name is_file number_in words_in plan_text line setting_lines guest_lines digits is_utf8 chars encode
read_25 = record { is = refl; short = refl; many = refl }

read_26 : IsRead 26
unfolding plan_in with_text counted_form pair_form start_in module_form is_name is_file number_in words_in plan_text line setting_lines guest_lines digits is_utf8 chars encode
read_26 = record { is = refl; short = refl; many = refl }

read_27 : IsRead 27
unfolding plan_in with_text counted_form pair_form start_in module_form is_name is_file number_in words_in plan_text line setting_lines guest_lines digits is_utf8 chars encode
read_27 = record { is = refl; short = refl; many = refl }

read_28 : IsRead 28
unfolding plan_in with_text counted_form pair_form start_in module_form is_name is_file number_in words_in plan_text line setting_lines guest_lines digits is_utf8 chars encode
read_28 = record { is = refl; short = refl; many = refl }

read_29 : IsRead 29
unfolding plan_in with_text counted_form pair_form start_in module_form is_name is_file number_in words_in plan_text line setting_lines guest_lines digits is_utf8 chars encode
read_29 = record { is = refl; short = refl; many = refl }

read_30 : IsRead 30
unfolding plan_in with_text counted_form pair_form start_in module_form is_name is_file number_in words_in plan_text line setting_lines guest_lines digits is_utf8 chars encode
read_30 = record { is = refl; short = refl; many = refl }

read_31 : IsRead 31
unfolding plan_in with_text counted_form pair_form start_in module_form is_name is_file number_in words_in plan_text line setting_lines guest_lines digits is_utf8 chars encode
read_31 = record { is = refl; short = refl; many = refl }

read_32 : IsRead 32
unfolding plan_in with_text counted_form pair_form start_in module_form is_name is_file number_in words_in plan_text line setting_lines guest_lines digits is_utf8 chars encode
read_32 = record { is = refl; short = refl; many = refl }

-- ---- all of them

-- a number or those behind it
step : (n : ℕ) → IsRead n → ((count : ℕ) → suc n ≤ count → count ≤ MAX_COUNT → IsRead count) → (count : ℕ) → n ≤ count
    → count ≤ MAX_COUNT → IsRead count
step n here more count least most =
    ⊎_elim (λ (past : n < count). more count (omega (arith, past)) most)
    (λ (before : count ≤ n). let same : n ≡ count = omega (arith, least, before) in subst IsRead same here)
    (cases_lt n count)

pub all_read : (count : ℕ) → MIN_COUNT ≤ count → count ≤ MAX_COUNT → IsRead count
all_read =
    step 2 read_2 (
    step 3 read_3 (
    step 4 read_4 (
    step 5 read_5 (
    step 6 read_6 (
    step 7 read_7 (
    step 8 read_8 (
    step 9 read_9 (
    step 10 read_10 (
    step 11 read_11 (
    step 12 read_12 (
    step 13 read_13 (
    step 14 read_14 (
    step 15 read_15 (
    step 16 read_16 (
    step 17 read_17 (
    step 18 read_18 (
    step 19 read_19 (
    step 20 read_20 (
    step 21 read_21 (
    step 22 read_22 (
    step 23 read_23 (
    step 24 read_24 (
    step 25 read_25 (
    step 26 read_26 (
    step 27 read_27 (
    step 28 read_28 (
    step 29 read_29 (
    step 30 read_30 (
    step 31 read_31 (
    step 32 read_32 (λ count least most. absurd (omega (arith, least, most)))))))))))))))))))))))))))))))))
