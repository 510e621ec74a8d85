-- There is code for the guests to begin in.
use Rattle.std.proofs.Common.{◌≡◌, ℕ, ◌<◌, List, [], ◌∷◌, length, refl, sym, subst, arith}
use Rattle.cfi_aux.specs.declared.modules.Module.{Module}
use Rattle.cfi_bare.specs.Modules.{bare_functions, bare_module}
use Rattle.cfi_plan.specs.Bare.{bare_one, bare_plan}
use Rattle.cfi_plan.specs.Plan.{IsPlan}
use Rattle.cfi_plan.specs.declared.plan.Plan.{Plan}
use Rattle.cfi_valid.proofs.BareLemmas.{not_bare}
use Rattle.cfi_engine.specs.Guests.{HasCode}

-- a plan that is read has entries by name
pub plan_code : (plan : Plan) (modules : List Module) → IsPlan plan → HasCode plan modules
plan_code plan modules is bare = let none = not_bare plan is in absurd (cc)

one_function : (bytes : List ℕ) → 0 < length bytes → 0 < length (bare_functions bytes)
one_function [] some = some
one_function (byte ∷ bytes) some = omega arith

-- a bare file's has its module
pub bare_code : (bytes : List ℕ) (m : Module) → m ≡ bare_module bytes → HasCode bare_plan (m ∷ [])
bare_code bytes m is bare = record {
  line = bare_one;
  line_is = refl;
  starts = refl;
  first = m;
  first_is = refl;
  some = subst (λ (one : Module). 0 < length one.object.text → 0 < length one.records.functions) (sym is)
      (one_function bytes);
}
