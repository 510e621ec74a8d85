-- Plans that can be started.
use Rattle.std.proofs.Common.{◌≡◌, List, [], ◌∷◌, length, All, refl, arith}
use Rattle.std.proofs.lemmas.List.Elements.{All-nil, All-cons}
use Rattle.cfi_aux.specs.declared.modules.Module.{Module}
use Rattle.cfi_plan.specs.Plan.{IsPlan, IsScriptLine}
use Rattle.cfi_plan.specs.declared.plan.Plan.{Plan}
use Rattle.cfi_modules.specs.Series.{CanBeTaken}
use Rattle.cfi_plan.specs.Bare.{bare_plan}
use Rattle.cfi_ledger.specs.Plans.{CanStart}

pub plan_starts : (plan : Plan) (modules : List Module) → IsPlan plan → length modules ≡ length plan.modules
    → All CanBeTaken modules → CanStart plan modules
plan_starts plan modules is count taken = record {
  code_words = is.code_words;
  versions = is.versions;
  first = is.first;
  most_modules = is.modules.most;
  most_starts = is.modules.most_starts;
  most_guests = is.guests.most;
  script = is.script;
  count = count;
  taken = taken;
}

pub bare_starts : (m : Module) → CanBeTaken m → CanStart bare_plan (m ∷ [])
bare_starts m taken = record {
  code_words = record { multiple = refl; least = omega arith; most = omega arith };
  versions = (omega arith, omega arith);
  first = omega arith;
  most_modules = omega arith;
  most_starts = omega arith;
  most_guests = omega arith;
  script = record { most = omega arith; most_refreshes = omega arith; lines = All-nil (IsScriptLine 1) };
  count = refl;
  taken = All-cons CanBeTaken m [] taken (All-nil CanBeTaken);
}
