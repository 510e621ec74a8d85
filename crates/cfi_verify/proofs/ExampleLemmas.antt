-- Modules that verify: those of the one word `j .`.
use Rattle.std.proofs.Common.{◌≡◌, ℕ, zero, suc, pos, false, IsTrue, List, [], ◌∷◌, length, inl, refl, ap, subst, arith}
use Rattle.std.specs.List.{Contains}
use Rattle.cfi_type_table.specs.Node.{Node}
use Rattle.cfi_unit.specs.declared.unit.Unit.TheVariants.{Jump}
use Rattle.cfi_unit.specs.declared.spot.Spot.{Spot}
use Rattle.cfi_unit.specs.Spots.{BeginsUnit}
use Rattle.cfi_type_table.specs.Kind.{is_callable}
use Rattle.cfi_aux.specs.declared.placed.Placed.{Placed}
use Rattle.cfi_aux.specs.declared.placed.PlacedFunction.{PlacedFunction}
use Rattle.elf_read.specs.Lists.{Each}
use Rattle.cfi_verify.specs.Functions.{FitsBehind, IsLastIn, EndsWell}
use Rattle.cfi_verify.specs.Target.{LeadsWell}
use Rattle.cfi_verify.specs.Fault.{IsVerified}
use Rattle.cfi_verify.specs.Example.{loop_module}

-- no item of no list, and the one of a list of one
each_none : {T : Type 0} (P : ℕ → T → Type 0) → Each [] P
each_none P = λ k x is. absurd (cc)

each_one : {T : Type 0} (x : T) (P : ℕ → T → Type 0) → P 0 x → Each (x ∷ []) P
each_one {T} x P here zero y is =
    let same : x ≡ y = cc in
    subst (λ (z : T). P 0 z) same here
each_one x P here (suc k) y is = absurd (cc)

abbrev spot : Spot
spot = record { at = 0; unit = Jump false (pos 0) }

abbrev spots : List Spot
spots = spot ∷ []

has_spot : Contains spots spot
has_spot = (0, omega arith, refl)

begins : BeginsUnit spots 0
begins = (spot, has_spot, refl)

-- a module of this word, at any place, whose one function has the type of a function
module _ (base slot_base data_base ty : ℕ) (name : List ℕ) (types : List Node)
    (typed : IsTrue (is_callable types ty)) where
  abbrev function : PlacedFunction
  function = record { first = 0; count = 1; ty = ty; taken = false; global = false; name = name }

  abbrev placed : Placed
  placed = record {
    base = base;
    slot_base = slot_base;
    data_base = data_base;
    words = 0x6f ∷ [];
    static_data = [];
    functions = function ∷ [];
    branches = [];
    types = types;
    exports = [];
    cells = refl;
  }

  fits : FitsBehind placed spots 0 function
  fits = record {
    some = omega arith;
    order = omega arith;
    within = omega arith;
    begins = begins;
    ends = inl refl;
    typed = typed;
    idle = λ other has from to. absurd (omega arith);
  }

  ends : EndsWell spots 0 function
  ends =
      let last : IsLastIn spots function spot = record {
        has = has_spot;
        lies = (omega arith, omega arith);
        last = λ other has lies. omega (arith, lies.1);
      } in
      (spot, last, refl)

  leads : LeadsWell placed [] spots 0 spot
  leads =
      inl (
        0,
        refl,
        record {
          home = function;
          has = (0, omega arith, refl);
          from = (omega arith, omega arith);
          lies = (omega arith, omega arith);
          unit = begins;
        },
      )

  pub loop_verified : IsVerified placed []
  loop_verified = (
    spots,
    record {
      laid = record {
        some = λ none. absurd (omega (arith, ap length none));
        units = record {
          code = Jump false (pos 0) ∷ [];
          units = record { fit = ((omega arith, refl), tt); spelled = refl };
          places = refl;
        };
        slots = each_none _;
        functions = each_one function (FitsBehind placed spots) fits;
        idle = λ other has from to. absurd (omega arith);
        ends = each_one function (EndsWell spots) ends;
      };
      targets = each_one spot (LeadsWell placed [] spots) leads;
      kinds = each_none _;
      records = omega arith;
      switches = each_none _;
    },
  )

pub verified : IsVerified loop_module []
verified = loop_verified _ _ _ _ _ _ refl
