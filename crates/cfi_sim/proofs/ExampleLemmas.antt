-- The simulation of a schedule without a line is valid.
use Rattle.std.proofs.Common.{◌≡◌, inr, ℕ, zero, suc, ◌*◌, ◌<◌, [], ◌∷◌, get_or, Some, None, refl, sym, subst, arith}
use Rattle.std.specs.Prelude.{slice_get}
use Rattle.std.proofs.lemmas.List.{get_or-replicate}
use Rattle.cfi_bare.proofs.LoadedLemmas.{copies}
use Rattle.cfi_class.specs.Labels.{AreLabels}
use Rattle.cfi_flow.proofs.Members.{member_of_one}
use Rattle.cfi_aux.specs.declared.placed.Placed.{Placed}
use Rattle.cfi_graph.specs.Calls.{HasKind}
use Rattle.cfi_graph.specs.Direct.{DirectEdge}
use Rattle.cfi_model.specs.Raw.{Raw, raw_opened}
use Rattle.cfi_model.specs.World.{World, opened_world}
use Rattle.cfi_policy.specs.Image.{IsImage}
use Rattle.cfi_report.specs.declared.report.GuestPart.{GuestPart}
use Rattle.cfi_sim.specs.Example.{still_part, still}
use Rattle.cfi_sim.specs.Stage.{Stage}
use Rattle.cfi_sim.specs.Valid.{IsGuestAt, IsStart, IsSimulated, IsValidSim}
use Rattle.cfi_sim.specs.declared.limits.TheConstants.{MAX_UPDATES}
use Rattle.cfi_plan.specs.Bare.{bare_plan}
use Rattle.cfi_valid.specs.Course.{Course}
use Rattle.cfi_valid.specs.Example.{hello_module}
use Rattle.cfi_valid.specs.Journal.{members_of}
use Rattle.cfi_valid.specs.Loaded.{start_fills, Left}
use Rattle.cfi_valid.specs.Parts.{ComesTo, FitsSteps}
use Rattle.cfi_valid.specs.Valid.{course_of}
use Rattle.cfi_valid.proofs.example.ExampleCode.{length-copies, stands}
use Rattle.cfi_valid.proofs.example.ExampleLemmas.{hello_words, sets, hello_placed, fit}
use Rattle.cfi_valid.proofs.example.ExampleReplay.{end, opening, code, is_code, s0}
use Rattle.cfi_word.specs.Table.{slots_of}
use Rattle.cfi_word.specs.declared.ids.TheConstants.{FIELD_MAX}
use Rattle.cfi_word.specs.declared.limits.TheConstants.{MAX_CODE_WORDS, MAX_VERSIONS, FUEL}
use Rattle.cfi_word.specs.declared.lists.Image.{Image}
use Rattle.cfi_word.specs.declared.map.TheConstants.{FIRST_BASE}

-- ---- the image

-- a module without a branch has no edge
no_edge : (slot address : ℕ) → DirectEdge (hello_placed ∷ []) slot address → ⊥
no_edge slot address edge =
    let owner : hello_placed ≡ edge.owner = member_of_one hello_placed edge.owner edge.placed in
    let has = subst (λ (m : Placed). HasKind m slot edge.kind) (sym owner) edge.has in
    let none : slice_get [] has.0 ≡ Some edge.kind = has.2 in
    absurd (cc)

get-copies : (count value k d : ℕ) → k < count → get_or (copies count value) k d ≡ value
unfolding copies
get-copies count value k d within = get_or-replicate count k value d within

abbrev image : Image
image = record {
  tary = copies MAX_CODE_WORDS 0;
  bary = copies (slots_of MAX_CODE_WORDS) FIELD_MAX;
  code = code;
}

labels : AreLabels (DirectEdge (hello_placed ∷ [])) MAX_CODE_WORDS (copies MAX_CODE_WORDS 0)
    (copies (slots_of MAX_CODE_WORDS) FIELD_MAX)
labels = record {
  words = length-copies MAX_CODE_WORDS 0;
  slots = length-copies (slots_of MAX_CODE_WORDS) FIELD_MAX;
  targets = λ word within.
      inr (λ r. no_edge r.0 (4 * word) r.1, get-copies MAX_CODE_WORDS 0 word 0 within);
  branches = λ slot within.
      inr (λ u. no_edge slot u.0 u.1, get-copies (slots_of MAX_CODE_WORDS) FIELD_MAX slot 0 within);
  classes = λ slot word in_slots in_words used reached. absurd (no_edge slot used.0 used.1);
}

is_image : IsImage (DirectEdge (hello_placed ∷ [])) (hello_placed ∷ []) MAX_CODE_WORDS image
is_image = record { labels = labels; code = is_code }

-- ---- the stage

abbrev guest : Raw
guest = raw_opened 0 (4 * FIRST_BASE) (start_fills Left (members_of end))

abbrev world : World
world = opened_world MAX_CODE_WORDS MAX_VERSIONS 0 image (guest ∷ []) MAX_UPDATES FUEL

abbrev stage : Stage
stage = record { world = world; journal = []; state = end; aim = None; events = 0 }

is_guest : (number : ℕ) (r : Raw) → slice_get (guest ∷ []) number ≡ Some r → IsGuestAt bare_plan end number r
is_guest zero r is =
    let same : guest ≡ r = cc in
    subst (IsGuestAt bare_plan end 0) same (record {
      entry = still_part.entry;
      named = refl;
      address = 4 * FIRST_BASE;
      begins = refl;
      is = refl;
    })
is_guest (suc number) r is = absurd (cc)

starts : IsStart bare_plan (hello_module ∷ []) stage
starts = record {
  opens = opening;
  image = image;
  of_starts = is_image;
  ordered = λ slot number used least most. absurd (no_edge slot used.0 used.1);
  guests = guest ∷ [];
  count = refl;
  each = is_guest;
  world = refl;
  journal = refl;
  aim = refl;
  events = refl;
}

-- ---- the report

abbrev course : Course
course = course_of bare_plan (hello_module ∷ []) still.report end

comes : ComesTo Left course still_part s0
comes = record { address = 4 * FIRST_BASE; begins = refl; code = code; is_code = is_code; replay = refl }

steps : FitsSteps Left course still_part
unfolding comes
steps = record {
  last = s0;
  comes = comes;
  counts = record {
    repeats = 0;
    begun = 0;
    sum = refl;
    begins = record {
      unit = sets 17 2;
      stands = stands MAX_CODE_WORDS hello_words 64 0 (sets 17 2) refl refl fit.0 refl;
      few = omega arith;
    };
    unpicked = λ none meets. refl;
    most = omega arith;
    spent = λ is. absurd (cc);
  };
}

is_simulated : (number : ℕ) (g : GuestPart) → slice_get (still_part ∷ []) number ≡ Some g
    → IsSimulated course world number g
unfolding steps
is_simulated zero g is =
    let same : still_part ≡ g = cc in
    subst (IsSimulated course world 0) same (record {
      r = guest;
      there = refl;
      entry = refl;
      told = refl;
      logged = record {
        rises = tt;
        most = omega arith;
        opens = λ at number address policy is. absurd (cc);
        causes = λ at number cause is. absurd (cc);
      };
      replay = record { last = s0; comes = comes; output = refl; log = refl; stop = refl };
      steps = steps;
      single = λ first idle. refl;
    })
is_simulated (suc number) g is = absurd (cc)

pub valid : IsValidSim bare_plan (hello_module ∷ []) [] still
valid = record {
  start = stage;
  starts = starts;
  end = stage;
  makes = refl;
  phase = refl;
  journal = refl;
  course = record { opening = end; opens = opening; leads = refl };
  epoch = refl;
  policy = refl;
  lines = refl;
  count = refl;
  guests = is_simulated;
}
