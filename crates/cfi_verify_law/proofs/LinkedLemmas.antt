-- A linked module that has the words of its parts verifies where they join.
use Rattle.std.proofs.Common.{◌≡◌, ◌∙◌, ℕ, true, List, [], ◌∷◌, length, refl, sym, ap, subst, arith, length-append}
use Rattle.std.specs.List.{flat_map}
use Rattle.std.proofs.lemmas.List.Elements.{All-contains, Contains-append_right}
use Rattle.std.proofs.lemmas.Option.{slice_get_within, get_or_from_slice_get}
use Rattle.elf_read.specs.declared.object.Symbol.{Symbol}
use Rattle.elf_read.specs.Lists.{Each}
use Rattle.cfi_aux.specs.declared.modules.Module.{Module}
use Rattle.cfi_aux.specs.declared.records.Function.{Function}
use Rattle.cfi_aux.specs.declared.records.Kind.{Kind}
use Rattle.cfi_aux.specs.declared.placed.Placed.{Placed}
use Rattle.cfi_aux.specs.declared.placed.PlacedFunction.{PlacedFunction}
use Rattle.cfi_unit.specs.declared.unit.Unit.{Unit as CodeUnit}
use Rattle.cfi_unit.specs.declared.spot.Spot.{Spot}
use Rattle.cfi_unit.specs.Code.{UnitCode}
use Rattle.cfi_unit.specs.Spots.{spots_of}
use Rattle.cfi_place.specs.Functions.{placed_functions}
use Rattle.cfi_link.specs.Joined.{nothing, joined_of}
use Rattle.cfi_link.specs.Fault.{has_text, sizes_of}
use Rattle.cfi_link.proofs.LimitLemmas.{few}
use Rattle.cfi_modules.specs.Room.{room_after}
use Rattle.cfi_verify.specs.Spots.{checks_of}
use Rattle.cfi_verify.specs.Target.{entries_in, entries_of, MayLead, LeadsWell}
use Rattle.cfi_verify.specs.Fault.{IsVerified}
use Rattle.cfi_verify_law.specs.Parts.{AreParts}
use Rattle.cfi_verify_law.proofs.LinkedRowLemmas.{Lie, HaveBranches, rows-fit, rows-end, rows-idle, rows-slots, rows-kinds, rows-entries, rows-count}
use Rattle.cfi_verify_law.proofs.JoinedLemmas.{functions_from, branches_from, functions-all, branches-all}
use Rattle.cfi_verify_law.proofs.StepLemmas.{IsSoFar, HasRows}
use Rattle.cfi_verify_law.proofs.FoldLemmas.{Follow, follow-from, code_of, code-units, text-all, rows-all}

-- a list without items
empty : {X : Type 0} (xs : List X) → length xs ≡ 0 → xs ≡ []
empty [] none = refl
empty (x ∷ xs) none = absurd (omega (arith, none))

-- where a module has text, there are parts, and their words
some-words : (code_words : ℕ) (done : List Placed) (ms : List Module) (ps : List Placed) → Follow code_words done ms ps
    → has_text ms ≡ true → flat_map (λ (p : Placed). p.words) ps ≡ [] → ⊥
some-words code_words done [] [] follow text none = absurd (cc)
some-words code_words done [] (p ∷ ps) follow text none = absurd follow
some-words code_words done (m ∷ ms) [] follow text none = absurd follow
some-words code_words done (m ∷ ms) (p ∷ ps) follow text none =
    let sum = length-append p.words (flat_map (λ (q : Placed). q.words) ps) in
    let zero = ap (λ (ws : List ℕ). length ws) none in
    follow.1.verified.1.laid.some (empty p.words (omega (arith, sum, zero)))

module _ (code_words : ℕ) (before : List Placed) (ms : List Module) (output : Module) (parts : List Placed)
    (whole : Placed) (a : AreParts code_words before ms output parts whole) where
  abbrev symbols : List Symbol
  symbols = output.object.symbols

  follow : Follow code_words before ms parts
  follow = follow-from code_words before ms parts a.count a.modules.sound a.joins

  abbrev all : List CodeUnit
  all = code_of code_words before ms parts follow

  abbrev W : List Spot
  W = spots_of 0 all

  units : UnitCode whole.words all
  units = subst (λ (ws : List ℕ). UnitCode ws all) (sym a.words) (code-units code_words before ms parts follow)

  functions : whole.functions ≡ placed_functions symbols (joined_of ms).functions
  functions =
      a.behind.functions ∙ ap (λ (fs : List Function). placed_functions symbols fs) a.linked.made.functions

  far : IsSoFar code_words whole symbols before before nothing ms [] all
  far =
      let limits = few (sizes_of (joined_of ms)) a.linked.possible.within.limits in
      let text = text-all code_words before nothing ms parts follow [] refl in
      let size = ap (λ (ws : List ℕ). length ws) units.spelled in
      record {
        text = refl;
        base = omega (arith, a.behind.base);
        entries = λ to has. Contains-append_right (entries_in whole) (entries_of before) to has;
        size = size;
        small = omega (arith, size, text, limits.text);
        functions = functions;
        types = a.behind.types ∙ a.linked.made.types;
        few = limits.types;
      }

  rows : HasRows whole before W 0 (room_after code_words before).slot_base
      (placed_functions symbols (functions_from nothing ms)) all (branches_from nothing ms)
  rows = rows-all code_words whole symbols before before nothing ms parts follow [] far

  lies : Lie whole W 0 (length whole.words) whole.functions
  lies =
      subst (λ (fs : List PlacedFunction). Lie whole W 0 (length whole.words) fs)
      (sym (functions ∙ ap (λ (fs : List Function). placed_functions symbols fs) (functions-all nothing ms))) rows.lies

  checks : HaveBranches whole W whole.slot_base (checks_of W) whole.branches
  checks =
      let same : whole.branches ≡ branches_from nothing ms =
      a.behind.branches ∙ a.linked.made.branches ∙ branches-all nothing ms in
      subst (λ (bs : List Kind). HaveBranches whole W whole.slot_base (checks_of W) bs) (sym same)
      (subst (λ (k : ℕ). HaveBranches whole W k (checks_of W) (branches_from nothing ms)) (sym a.behind.slot_base)
      rows.checks)

  targets : Each W (LeadsWell whole before W)
  targets k s is =
      All-contains (λ (x : Spot). MayLead whole before W x.at x.unit) W s rows.targets
      (k, slice_get_within W k s is, get_or_from_slice_get W k s s is)

  pub verified : IsVerified whole before
  verified = (
    W,
    record {
      laid = record {
        some = λ none.
            some-words code_words before ms parts follow a.linked.possible.within.texts.some (sym a.words ∙ none);
        units = record { code = all; units = units; places = refl };
        slots = rows-slots whole W whole.slot_base (checks_of W) whole.branches checks;
        functions = rows-fit whole W lies;
        idle = rows-idle whole W lies;
        ends = rows-end whole W lies;
      };
      targets = targets;
      kinds = rows-kinds whole W whole.slot_base (checks_of W) whole.branches checks;
      records = omega (arith, rows-count whole W whole.slot_base (checks_of W) whole.branches checks);
      switches = rows-entries whole W whole.slot_base (checks_of W) whole.branches checks;
    },
  )
