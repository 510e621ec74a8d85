-- At its place the instrumented module with a masked access, a call and a check has no fault: its call leads to its own
-- function.
use Rattle.std.proofs.Common.{◌≡◌, ℕ, zero, suc, pos, negsuc, true, false, List, [], refl, subst, arith}
use Rattle.rv_insn.specs.declared.insn.LoadKind.TheVariants.{Lw}
use Rattle.cfi_unit.specs.declared.unit.Unit.{Unit as CodeUnit}
use Rattle.cfi_unit.specs.declared.unit.Unit.TheVariants.{Load, Jump, Check}
use Rattle.elf_read.specs.Lists.{Each}
use Rattle.cfi_unit.specs.Code.{UnitCode}
use Rattle.cfi_unit.specs.Spots.{spots_of, AreSpots}
use Rattle.cfi_unit.specs.declared.spot.Spot.{Spot}
use Rattle.cfi_unit.proofs.SpotLemmas.{AreSpots-one}
use Rattle.cfi_verify.specs.declared.fault.VerifyFault.TheVariants.{Target}
use Rattle.cfi_verify.specs.Fault.{FaultStandsIn, FaultStands, Verifies}
use Rattle.cfi_verify.specs.Target.{LeadsToEntry, LeadsWell}
use Rattle.cfi_word.specs.declared.map.TheConstants.{FIRST_BASE}
use Rattle.cfi_instr_law.specs.Proper.{IsProper}
use Rattle.cfi_file_law.specs.Example.{call_placed, call_units, call_words}

abbrev spot : (at : ℕ) → CodeUnit → Spot
spot at unit = record { at = at; unit = unit }

abbrev spots : List Spot
spots = spots_of 0 (call_units (negsuc 23) 0)

code : UnitCode (call_words (negsuc 23)) (call_units (negsuc 23) 0)
code = record {
  fit = (
    (omega arith, omega arith, omega arith),
    ((omega arith, refl), ((omega arith, omega arith, omega arith), tt)),
  );
  spelled = refl;
}

are : AreSpots call_placed.words spots
are = record { code = call_units (negsuc 23) 0; units = code; places = refl }

-- the call leads to the function's first word
leads : LeadsToEntry call_placed [] 6 (negsuc 23)
leads = (FIRST_BASE, refl, (0, omega arith, refl))

each : Each spots (LeadsWell call_placed [] spots)
each zero x is = let same : spot 0 (Load Lw 1 2 (pos 0)) ≡ x = cc in
    subst (LeadsWell call_placed [] spots 0) same tt
each (suc zero) x is = let same : spot 6 (Jump true (negsuc 23)) ≡ x = cc in
    subst (LeadsWell call_placed [] spots 1) same leads
each (suc (suc zero)) x is = let same : spot 7 (Check false 1 (pos 0) 0) ≡ x = cc in
    subst (LeadsWell call_placed [] spots 2) same tt
each (suc (suc (suc k))) x is = absurd (cc)

no_target : (o : ℕ) → ¬ FaultStands call_placed [] (Target o)
no_target o = λ s.
    let same = AreSpots-one call_placed.words s.0 spots s.1 are in
    let breaks = subst (λ (xs : List Spot). FaultStandsIn call_placed [] xs (Target o)) same s.2 in
    breaks.4 (each breaks.0 breaks.1 breaks.2)

pub verifies : IsProper call_placed [] → Verifies call_placed []
verifies proper = λ fault stands.
    let is = proper fault stands in
    no_target is.0 (subst (FaultStands call_placed []) is.1 stands)
