-- The parts one after the other: their units and their rows are those of the whole.
use Rattle.std.proofs.Common.{◌≡◌, ◌∙◌, ℕ, suc, ◌+◌, ◌*◌, List, [], ◌∷◌, ◌++◌, length, take, fold, refl, sym, ap, subst, arith, append_assoc}
use Rattle.std.specs.List.{All, flat_map}
use Rattle.std.proofs.lemmas.List.{append-nil}
use Rattle.std.proofs.lemmas.List.Elements.{All-nil, All-head, All-tail}
use Rattle.elf_read.specs.declared.object.Symbol.{Symbol}
use Rattle.cfi_aux.specs.Sound.{IsSoundModule}
use Rattle.cfi_aux.specs.declared.modules.Module.{Module}
use Rattle.cfi_aux.specs.declared.placed.Placed.{Placed}
use Rattle.cfi_unit.specs.declared.unit.Unit.{Unit as CodeUnit}
use Rattle.cfi_unit.specs.declared.spot.Spot.{Spot}
use Rattle.cfi_unit.specs.Code.{UnitCode}
use Rattle.cfi_unit.specs.Spots.{spots_of}
use Rattle.cfi_unit.proofs.CodeLemmas.{UnitCode-append}
use Rattle.cfi_place.specs.declared.room.Room.{Room}
use Rattle.cfi_place.specs.Functions.{placed_functions}
use Rattle.cfi_link.specs.Joined.{Joined, with_module}
use Rattle.cfi_link.proofs.JoinedLemmas.{with_module-lengths}
use Rattle.cfi_modules.specs.Room.{room_after}
use Rattle.cfi_modules.specs.Order.{Joins}
use Rattle.cfi_verify.specs.Target.{MayLead}
use Rattle.cfi_verify.specs.Fault.{IsVerifiedAs}
use Rattle.cfi_verify_law.specs.Parts.{JoinBehind}
use Rattle.cfi_verify_law.proofs.MovedLemmas.{words_in}
use Rattle.cfi_verify_law.proofs.LinkedPlaceLemmas.{words_in-append}
use Rattle.cfi_verify_law.proofs.JoinedLemmas.{functions_from, branches_from}
use Rattle.cfi_verify_law.proofs.StepLemmas.{IsSoFar, HasRows, room-more, text-size, entries-more, rows-more}

-- modules that join one after the other, behind placed ones
abbrev pub Follow : (code_words : ℕ) → (done : List Placed) → List Module → List Placed → Type 0
Follow code_words done [] [] = Unit {0}
Follow code_words done [] (p ∷ ps) = ⊥
Follow code_words done (m ∷ ms) [] = ⊥
Follow code_words done (m ∷ ms) (p ∷ ps) =
    IsSoundModule m × Joins code_words done done m p × Follow code_words (done ++ p ∷ []) ms ps

pub follow-from : (code_words : ℕ) (before : List Placed) (ms : List Module) (ps : List Placed)
    → length ps ≡ length ms → All IsSoundModule ms → JoinBehind code_words before ms ps → Follow code_words before ms ps
follow-from code_words before [] [] count sound joins = tt
follow-from code_words before [] (p ∷ ps) count sound joins = absurd (omega (arith, count))
follow-from code_words before (m ∷ ms) [] count sound joins = absurd (omega (arith, count))
follow-from code_words before (m ∷ ms) (p ∷ ps) count sound joins = (
  All-head IsSoundModule m ms sound,
  subst (λ (xs : List Placed). Joins code_words xs xs m p) (append-nil before) (joins 0 m p refl refl),
  follow-from code_words (before ++ p ∷ []) ms ps (omega (arith, count)) (All-tail IsSoundModule m ms sound)
      (λ k n q is there.
      subst (λ (xs : List Placed). Joins code_words xs xs n q) (sym (append_assoc before (p ∷ []) (take k ps)))
      (joins (suc k) n q is there)),
)

-- the units of all
abbrev pub code_of : (code_words : ℕ) (done : List Placed) (ms : List Module) (ps : List Placed)
    → Follow code_words done ms ps → List CodeUnit
code_of code_words done [] [] follow = []
code_of code_words done [] (p ∷ ps) follow = absurd follow
code_of code_words done (m ∷ ms) [] follow = absurd follow
code_of code_words done (m ∷ ms) (p ∷ ps) follow =
    follow.1.verified.1.laid.units.code ++ code_of code_words (done ++ p ∷ []) ms ps follow.2

pub code-units : (code_words : ℕ) (done : List Placed) (ms : List Module) (ps : List Placed)
    → (follow : Follow code_words done ms ps)
    → UnitCode (flat_map (λ (p : Placed). p.words) ps) (code_of code_words done ms ps follow)
code-units code_words done [] [] follow = record { fit = tt; spelled = refl }
code-units code_words done [] (p ∷ ps) follow = absurd follow
code-units code_words done (m ∷ ms) [] follow = absurd follow
code-units code_words done (m ∷ ms) (p ∷ ps) follow =
    UnitCode-append p.words (flat_map (λ (q : Placed). q.words) ps) follow.1.verified.1.laid.units.code _
    follow.1.verified.1.laid.units.units (code-units code_words (done ++ p ∷ []) ms ps follow.2)

-- a part's units are as many as its words
count-of : (code_words : ℕ) (done : List Placed) (m : Module) (p : Placed) (joins : Joins code_words done done m p)
    → length p.words ≡ words_in joins.verified.1.laid.units.code
count-of code_words done m p joins = ap (λ (ws : List ℕ). length ws) joins.verified.1.laid.units.units.spelled

-- the bytes of the text with one module more
text-more : (code_words : ℕ) (done : List Placed) (joined : Joined) (m : Module) (p : Placed) (front : List CodeUnit)
    → IsSoundModule m → (joins : Joins code_words done done m p) → length joined.text ≡ 4 * words_in front
    → length (with_module joined m).text ≡ 4 * words_in (front ++ joins.verified.1.laid.units.code)
text-more code_words done joined m p front sound joins text =
    let one = (with_module-lengths joined m).text in
    let own = text-size code_words done m p sound joins.behind in
    let count = count-of code_words done m p joins in
    omega (arith, one, own, count, text, words_in-append front joins.verified.1.laid.units.code)

-- ... and with all
pub text-all : (code_words : ℕ) (done : List Placed) (joined : Joined) (ms : List Module) (ps : List Placed)
    → (follow : Follow code_words done ms ps) (front : List CodeUnit) → length joined.text ≡ 4 * words_in front
    → length (fold with_module joined ms).text ≡ 4 * words_in (front ++ code_of code_words done ms ps follow)
text-all code_words done joined [] [] follow front text = omega (arith, text, words_in-append front [])
text-all code_words done joined [] (p ∷ ps) follow front text = absurd follow
text-all code_words done joined (m ∷ ms) [] follow front text = absurd follow
text-all code_words done joined (m ∷ ms) (p ∷ ps) follow front text =
    let code = follow.1.verified.1.laid.units.code in
    let back = code_of code_words (done ++ p ∷ []) ms ps follow.2 in
    text-all code_words (done ++ p ∷ []) (with_module joined m) ms ps follow.2 (front ++ code)
    (text-more code_words done joined m p front follow.0 follow.1 text)
    ∙ ap (λ (us : List CodeUnit). 4 * words_in us) (append_assoc front code back)

module _ (code_words : ℕ) (whole : Placed) (symbols : List Symbol) (before : List Placed) where
  -- rows of the whole, whose units are `all`, for what modules bring behind joined ones
  abbrev Brings : (joined : Joined) (ms : List Module) (all : List CodeUnit) (n slot : ℕ) (rest : List CodeUnit)
      → Type 0
  Brings joined ms all n slot rest =
      HasRows whole before (spots_of 0 all) n slot (placed_functions symbols (functions_from joined ms)) rest
      (branches_from joined ms)

  -- the same where they stand behind the units `front` and the placed modules `done`
  abbrev Rows : (done : List Placed) (joined : Joined) (ms : List Module) (front rest : List CodeUnit) → Type 0
  Rows done joined ms front rest =
      Brings joined ms (front ++ rest) (words_in front) (room_after code_words done).slot_base rest

  pub rows-all : (done : List Placed) (joined : Joined) (ms : List Module) (ps : List Placed)
      → (follow : Follow code_words done ms ps) (front : List CodeUnit)
      → IsSoFar code_words whole symbols done before joined ms front (code_of code_words done ms ps follow)
      → Rows done joined ms front (code_of code_words done ms ps follow)
  rows-all done joined [] [] follow front far =
      let all = words_in-append front [] in
      let size = far.size in
      record {
        lies = (omega (arith, all, size), λ w has low high. absurd (omega (arith, all, size, low, high)));
        checks = tt;
        targets = All-nil (λ (s : Spot). MayLead whole before (spots_of 0 (front ++ [])) s.at s.unit);
      }
  rows-all done joined [] (p ∷ ps) follow front far = absurd follow
  rows-all done joined (m ∷ ms) [] follow front far = absurd follow
  rows-all done joined (m ∷ ms) (p ∷ ps) follow front far =
      let code = follow.1.verified.1.laid.units.code in
      let back = code_of code_words (done ++ p ∷ []) ms ps follow.2 in
      let behind = follow.1.behind in
      let rows : IsVerifiedAs p done (spots_of 0 code) =
      subst (λ (xs : List Spot). IsVerifiedAs p done xs) follow.1.verified.1.laid.units.places follow.1.verified.1 in
      let count = count-of code_words done m p follow.1 in
      let room = room-more code_words done p in
      let more = words_in-append front code in
      let base : (room_after code_words (done ++ p ∷ [])).base ≡ p.base + length p.words =
      ap (λ (r : Room). r.base) room in
      let slot : (room_after code_words (done ++ p ∷ [])).slot_base ≡ p.slot_base + length p.branches =
      ap (λ (r : Room). r.slot_base) room in
      let next : IsSoFar code_words whole symbols (done ++ p ∷ []) before (with_module joined m) ms (front ++ code)
      back =
      record {
        text = text-more code_words done joined m p front follow.0 follow.1 far.text;
        base = omega (arith, base, behind.base, far.base, count, more);
        entries =
            entries-more code_words whole symbols done before joined m ms p front code back far follow.0 behind rows
            count;
        size = far.size ∙ ap (λ (us : List CodeUnit). words_in us) (sym (append_assoc front code back));
        small = far.small;
        functions = far.functions;
        types = far.types;
        few = far.few;
      } in
      let rest = rows-all (done ++ p ∷ []) (with_module joined m) ms ps follow.2 (front ++ code) next in
      let place : words_in (front ++ code) ≡ words_in front + length p.words = omega (arith, more, count) in
      let here =
      subst
      (λ (us : List CodeUnit). Brings (with_module joined m) ms us (words_in (front ++ code))
      (room_after code_words (done ++ p ∷ [])).slot_base back)
      (append_assoc front code back) rest in
      let there =
      subst
      (λ (k : ℕ). Brings (with_module joined m) ms (front ++ (code ++ back)) k
      (room_after code_words (done ++ p ∷ [])).slot_base back)
      place here in
      let behind_it =
      subst
      (λ (k : ℕ). Brings (with_module joined m) ms (front ++ (code ++ back)) (words_in front + length p.words) k back)
      slot there in
      let all = rows-more code_words whole symbols done before joined m ms p front code back far follow.0 behind rows
      count behind_it in
      subst (λ (k : ℕ). Brings joined (m ∷ ms) (front ++ (code ++ back)) (words_in front) k (code ++ back))
      behind.slot_base all
