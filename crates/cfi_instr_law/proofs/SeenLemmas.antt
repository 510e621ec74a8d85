-- What relocations and slots leave of units: their kind and their link, and all of a single instruction where no
-- relocation sits. `touched` says of a word whether one sits there.
use Rattle.std.proofs.Common.{◌≡◌, ℕ, ◌<◌, pos, Bool, cond, List, [], ◌∷◌, map, length, get_or, Option, Some, None, refl, ap, sym, ◌∙◌, arith}
use Rattle.std.specs.List.{Contains, cons_option}
use Rattle.std.specs.Option.{option_map}
use Rattle.std.proofs.lemmas.List.{length-map, get_or-map}
use Rattle.std.proofs.lemmas.Option.{none-some, same_Some}
use Rattle.std.proofs.lemmas.List.Elements.{Contains-get_or}
use Rattle.rv_insn.specs.declared.insn.Insn.TheVariants as insns
use Rattle.rv_insn.specs.declared.insn.Cond.TheVariants.{Beq}
use Rattle.rv_insn.specs.declared.insn.LoadKind.TheVariants.{Lw}
use Rattle.rv_insn.specs.declared.insn.StoreKind.TheVariants.{Sw}
use Rattle.cfi_unit.specs.declared.unit.Unit.{Unit as CodeUnit}
use Rattle.cfi_unit.specs.declared.unit.Unit.TheVariants as units
use Rattle.cfi_unit.specs.Unit.{size_of}
use Rattle.cfi_unit.specs.declared.spot.Spot.{Spot}
use Rattle.cfi_verify.specs.declared.checks.CheckSpot.{CheckSpot}
use Rattle.cfi_unit.specs.Spots.{spots_of, BeginsUnit}
use Rattle.cfi_verify.specs.Spots.{check_in, checks_of}
use Rattle.cfi_verify.specs.Functions.{may_be_last}

-- what is left of a unit
abbrev pub seen : (touched : Bool) → CodeUnit → CodeUnit
seen touched (units.Plain insn) = units.Plain (cond touched insns.Ecall insn)
seen touched (units.Load kind rd rs1 imm) = units.Load Lw 0 0 (pos 0)
seen touched (units.Store kind rs1 rs2 imm) = units.Store Sw 0 0 (pos 0)
seen touched (units.Branch cond rs1 rs2 off) = units.Branch Beq 0 0 (pos 0)
seen touched (units.Jump link off) = units.Jump link (pos 0)
seen touched (units.Check link rs1 imm slot) = units.Check link 0 (pos 0) 0
seen touched units.Service = units.Service

abbrev pub seen_spot : (touched : ℕ → Bool) → Spot → Spot
seen_spot touched s = record { at = s.at; unit = seen (touched s.at) s.unit }

abbrev pub seen_from : (touched : ℕ → Bool) → (at : ℕ) → List CodeUnit → List Spot
seen_from touched at code = map (seen_spot touched) (spots_of at code)

-- a check without its slot
abbrev pub bare : CheckSpot → CheckSpot
bare c = record { at = c.at; link = c.link; slot = 0 }

pub size-seen : (b : Bool) (unit : CodeUnit) → size_of (seen b unit) ≡ size_of unit
size-seen b (units.Plain insn) = refl
size-seen b (units.Load kind rd rs1 imm) = refl
size-seen b (units.Store kind rs1 rs2 imm) = refl
size-seen b (units.Branch cond rs1 rs2 off) = refl
size-seen b (units.Jump link off) = refl
size-seen b (units.Check link rs1 imm slot) = refl
size-seen b units.Service = refl

pub last-seen : (b : Bool) (unit : CodeUnit) → may_be_last (seen b unit) ≡ may_be_last unit
last-seen b (units.Plain insn) = refl
last-seen b (units.Load kind rd rs1 imm) = refl
last-seen b (units.Store kind rs1 rs2 imm) = refl
last-seen b (units.Branch cond rs1 rs2 off) = refl
last-seen b (units.Jump link off) = refl
last-seen b (units.Check link rs1 imm slot) = refl
last-seen b units.Service = refl

check-seen : (at : ℕ) (b : Bool) (unit : CodeUnit) → check_in at (seen b unit) ≡ option_map bare (check_in at unit)
check-seen at b (units.Plain insn) = refl
check-seen at b (units.Load kind rd rs1 imm) = refl
check-seen at b (units.Store kind rs1 rs2 imm) = refl
check-seen at b (units.Branch cond rs1 rs2 off) = refl
check-seen at b (units.Jump link off) = refl
check-seen at b (units.Check link rs1 imm slot) = refl
check-seen at b units.Service = refl

-- ---- units that look the same

cons-map : (found : Option CheckSpot) (rest : List CheckSpot)
    → cons_option (option_map bare found) (map bare rest) ≡ map bare (cons_option found rest)
cons-map None rest = refl
cons-map (Some c) rest = refl

checks-seen : (touched : ℕ → Bool) (spots : List Spot)
    → checks_of (map (seen_spot touched) spots) ≡ map bare (checks_of spots)
checks-seen touched [] = refl
checks-seen touched (s ∷ spots) =
    ap (λ (o : Option CheckSpot). cons_option o (checks_of (map (seen_spot touched) spots)))
    (check-seen s.at (touched s.at) s.unit)
    ∙ ap (λ (cs : List CheckSpot). cons_option (option_map bare (check_in s.at s.unit)) cs) (checks-seen touched spots)
    ∙ cons-map (check_in s.at s.unit) (checks_of spots)

-- what a map gives is of something
pub of-map : {X Y : Type 0} (f : X → Y) (found : Option X) (y : Y) → option_map f found ≡ Some y
    → (x : X) × (found ≡ Some x) × (f x ≡ y)
of-map f None y e = absurd (none-some y e)
of-map f (Some x) y e = (x, refl, same_Some (f x) y e)

module _ (touched : ℕ → Bool) (spots others : List Spot)
    (same : map (seen_spot touched) spots ≡ map (seen_spot touched) others) where
  pub same-checks : map bare (checks_of spots) ≡ map bare (checks_of others)
  same-checks =
      sym (checks-seen touched spots) ∙ ap (λ (xs : List Spot). checks_of xs) same ∙ checks-seen touched others

  same-length : length spots ≡ length others
  same-length =
      sym (length-map spots (seen_spot touched)) ∙ ap (λ (xs : List Spot). length xs) same
      ∙ length-map others (seen_spot touched)

  -- each unit has one that looks like it
  pub like : (s : Spot) → Contains spots s
      → (o : Spot) × Contains others o × (seen_spot touched s ≡ seen_spot touched o)
  like s has =
      let k : ℕ = has.0 in
      let inside : k < length others = omega (arith, has.1, same-length) in
      let o = get_or others k s in (
        o,
        Contains-get_or others k s inside,
        ap (seen_spot touched) (sym has.2)
            ∙ sym (get_or-map (seen_spot touched) spots k s (seen_spot touched s) has.1)
            ∙ ap (λ (xs : List Spot). get_or xs k (seen_spot touched s)) same
            ∙ get_or-map (seen_spot touched) others k s (seen_spot touched s) inside,
      )

  pub same-begins : (at : ℕ) → BeginsUnit spots at → BeginsUnit others at
  same-begins at b =
      let o = like b.0 b.1 in (o.0, o.1, sym (ap (λ (s : Spot). s.at) o.2) ∙ b.2)
