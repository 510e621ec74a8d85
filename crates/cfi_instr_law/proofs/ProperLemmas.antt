-- Instrumented modules are proper at their places.
use Rattle.std.proofs.Common.{◌≡◌, ◌⊎◌, ℕ, ◌*◌, ◌<◌, ◌≤◌, List, length, refl, ap, subst, inl, inr, ⊎_elim, arith}
use Rattle.cfi_aux.specs.declared.modules.Module.{Module}
use Rattle.cfi_aux.specs.declared.placed.Placed.{Placed}
use Rattle.cfi_place.specs.declared.room.Room.{Room}
use Rattle.cfi_place.specs.Names.{Names}
use Rattle.cfi_place.specs.Placed.{IsRoom, IsPlaced}
use Rattle.cfi_instr.specs.Output.{IsInstrumented}
use Rattle.cfi_verify.specs.declared.fault.VerifyFault.{VerifyFault}
use Rattle.cfi_verify.specs.declared.fault.VerifyFault.TheVariants as faults
use Rattle.cfi_unit.specs.declared.spot.Spot.{Spot}
use Rattle.elf_read.specs.Lists.{Each, Breaks, own_number}
use Rattle.cfi_verify.specs.Spots.{checks_of}
use Rattle.cfi_unit.specs.Spots.{AreSpots}
use Rattle.cfi_verify.specs.Branches.{KindFits, EntriesFit}
use Rattle.cfi_verify.specs.Fault.{check_place, FaultStandsIn, IsFault, IsLaidOut}
use Rattle.cfi_verify.proofs.ListLemmas.{no_break}
use Rattle.cfi_verify.proofs.RowLemmas.{clear_laid}
use Rattle.cfi_unit.proofs.SpotLemmas.{AreSpots-one}
use Rattle.cfi_instr_law.specs.Proper.{IsTyped, IsMadeAt, IsTargetFault, IsProper}
use Rattle.cfi_instr_law.proofs.FromLemmas.{IsFrom, IsLike, from-made-like, from-made}
use Rattle.cfi_instr_law.proofs.FunctionLemmas.{spots, fits, idle}
use Rattle.cfi_instr_law.proofs.EndLemmas.{ends}
use Rattle.cfi_instr_law.proofs.KindLemmas.{kinds, records}
use Rattle.cfi_instr_law.proofs.SwitchLemmas.{switches}

-- what a verifier asks of a module but for where its jumps lead
pub record IsSettled (m : Placed) (xs : List Spot) : Type 0 where
  pub laid : IsLaidOut m xs
  pub kinds : Each (checks_of xs) (KindFits m)
  pub records : length m.branches ≤ length (checks_of xs)
  pub switches : Each (checks_of xs) (EntriesFit m xs)

module _ (m : Placed) (loaded : List Placed) (xs : List Spot) (s : IsSettled m xs) where
  in-these : (fault : VerifyFault) → ((ys : List Spot) × AreSpots m.words ys × FaultStandsIn m loaded ys fault)
      → FaultStandsIn m loaded xs fault
  in-these fault stands =
      subst (λ (ys : List Spot). FaultStandsIn m loaded ys fault)
      (AreSpots-one m.words stands.0 xs stands.1 s.laid.units) stands.2

  -- each fault that stands is that of a jump
  proper : IsProper m loaded
  proper faults.Empty = λ stands. absurd (clear_laid m loaded xs s.laid faults.Empty (omega arith) stands)
  proper (faults.Illegal o) = λ stands.
      absurd (clear_laid m loaded xs s.laid (faults.Illegal o) (omega arith) stands)
  proper (faults.NotUnit o) = λ stands.
      absurd (clear_laid m loaded xs s.laid (faults.NotUnit o) (omega arith) stands)
  proper (faults.Slot o) = λ stands. absurd (clear_laid m loaded xs s.laid (faults.Slot o) (omega arith) stands)
  proper (faults.Functions k) = λ stands.
      absurd (clear_laid m loaded xs s.laid (faults.Functions k) (omega arith) stands)
  proper (faults.FallsThrough k) = λ stands.
      absurd (clear_laid m loaded xs s.laid (faults.FallsThrough k) (omega arith) stands)
  proper (faults.Target o) = λ stands. (o, refl)
  proper (faults.Kinds o) = λ stands.
      ⊎_elim
      (λ (b : Breaks (checks_of xs) check_place (KindFits m) o).
      absurd (no_break (checks_of xs) (KindFits m) check_place o s.kinds b))
      (λ (b : (o ≡ 4 * length m.words) × (length (checks_of xs) < length m.branches)).
      absurd (omega (arith, b.1, s.records)))
      (in-these (faults.Kinds o) stands)
  proper (faults.Switch k) = λ stands.
      absurd (no_break (checks_of xs) (EntriesFit m xs) own_number k s.switches (in-these (faults.Switch k) stands))
  proper faults.Memory = λ stands. absurd stands.2

-- an instrumented module is settled at its place
settled : (source : Module) (placed : Placed) (s : IsFrom source placed)
    → IsSettled placed (spots source placed s)
settled source placed s = record {
  laid = record {
    some = λ none. absurd (omega (arith, s.some, ap (λ (ws : List ℕ). length ws) none));
    units = record { code = s.laid.code; units = s.laid.units; places = refl };
    slots = s.laid.slots;
    functions = fits source placed s;
    idle = idle source placed s;
    ends = ends source placed s;
  };
  kinds = kinds source placed s;
  records = records source placed s;
  switches = switches source placed s;
}

-- the same of one whose relocations are in another order
pub instrumented-like : (source out m : Module) (room : Room) (names : Names) (placed : Placed)
    → IsInstrumented source out → IsLike out m → 4 ≤ length source.object.text → IsTyped m → IsRoom room
    → IsPlaced m room names placed → (loaded : List Placed) → IsProper placed loaded
instrumented-like source out m room names placed made like some typed fits stands loaded =
    let s = from-made-like source out m room names placed made like some typed fits stands in
    proper placed loaded (spots source placed s) (settled source placed s)

pub instrumented : (source m : Module) (room : Room) (names : Names) (placed : Placed)
    → IsMadeAt source m room names placed → (loaded : List Placed) → IsProper placed loaded
instrumented source m room names placed at loaded =
    let s = from-made source m room names placed at in
    proper placed loaded (spots source placed s) (settled source placed s)

-- ---- what a verifier answers

pub refused : (m : Placed) (loaded : List Placed) → IsProper m loaded → (fault : VerifyFault)
    → IsFault m loaded fault → (fault ≡ faults.Memory) ⊎ IsTargetFault fault
refused m loaded is faults.Memory fault = inl refl
refused m loaded is faults.Empty fault = inr (is faults.Empty (fault (λ e. absurd (cc))).stands)
refused m loaded is (faults.Illegal o) fault = inr (is (faults.Illegal o) (fault (λ e. absurd (cc))).stands)
refused m loaded is (faults.NotUnit o) fault = inr (is (faults.NotUnit o) (fault (λ e. absurd (cc))).stands)
refused m loaded is (faults.Slot o) fault = inr (is (faults.Slot o) (fault (λ e. absurd (cc))).stands)
refused m loaded is (faults.Functions k) fault = inr (is (faults.Functions k) (fault (λ e. absurd (cc))).stands)
refused m loaded is (faults.FallsThrough k) fault = inr (is (faults.FallsThrough k) (fault (λ e. absurd (cc))).stands)
refused m loaded is (faults.Target o) fault = inr (o, refl)
refused m loaded is (faults.Kinds o) fault = inr (is (faults.Kinds o) (fault (λ e. absurd (cc))).stands)
refused m loaded is (faults.Switch k) fault = inr (is (faults.Switch k) (fault (λ e. absurd (cc))).stands)
