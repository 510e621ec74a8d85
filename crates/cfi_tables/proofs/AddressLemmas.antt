-- The words that answer table addresses.
use Rattle.std.proofs.Common.{◌≡◌, ℕ, ◌-◌, ◌/◌, ◌<◌, nat_le, nat_lt, cond, Bool, true, false, inl, inr, refl, arith}
use Rattle.std.proofs.lemmas.Bool.Decides.{nat_tests}
use Rattle.cfi_word.specs.declared.map.TheConstants.{TARY, BARY}
use Rattle.cfi_word.specs.Table.{IsPlace, slots_of}
use Rattle.cfi_word.specs.Table as places
use Rattle.cfi_model.specs.InForce.{tary_index}
use Rattle.cfi_tables.specs.Loads.{IsTableAddress, TellsEpoch, place_at}

-- the address is answered by a table word
pub record IsAnswered (c address : ℕ) : Type 0 where
  pub within : IsPlace c (place_at c address)
  pub tells : TellsEpoch (place_at c address)

index_within : (c n : ℕ) → 0 < c → cond (nat_lt n c) n 0 < c
index_within c n some = grind (arith, nat_tests)

answered_by : (c address : ℕ) → 0 < c → IsTableAddress c address → (high : Bool) → nat_le BARY address ≡ high
    → (IsPlace c (cond high (places.Bary ((address - BARY) / 4)) (places.Tary (tary_index c (address - TARY)))))
    × TellsEpoch (cond high (places.Bary ((address - BARY) / 4)) (places.Tary (tary_index c (address - TARY))))
answered_by c address some (inl bary) true is = (omega (arith, bary), tt)
answered_by c address some (inl bary) false is = absurd (let low = bary.0 in let a : ⊥ = grind (arith, nat_tests) in a)
answered_by c address some (inr tary) true is =
    absurd (let high = tary.1 in let a : ⊥ = grind (arith, nat_tests) in a)
answered_by c address some (inr tary) false is = (index_within c ((address - TARY) / 4) some, tt)

pub is_answered : (c address : ℕ) → 0 < c → IsTableAddress c address → IsAnswered c address
is_answered c address some is =
    let both = answered_by c address some is (nat_le BARY address) refl in
    record { within = both.0; tells = both.1 }
