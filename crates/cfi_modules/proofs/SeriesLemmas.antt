-- The rooms of modules in order.
use Rattle.std.proofs.Common.{◌≡◌, ℕ, zero, suc, ◌+◌, ◌*◌, ◌<◌, ◌≤◌, ◌++◌, List, [], ◌∷◌, length, take, get_or, Some, refl, ap, sym, subst, ◌∙◌, add-one, arith, length-append}
use Rattle.std.specs.List.{flat_map, fold, slice_get, cons_option}
use Rattle.std.proofs.Math.Seq.{take-length}
use Rattle.std.proofs.lemmas.List.{take_more}
use Rattle.std.proofs.lemmas.List.Sums.{fold-append}
use Rattle.std.proofs.lemmas.Option.{slice_get-get_or, slice_get_within, get_or_from_slice_get}
use Rattle.cfi_unit.specs.declared.unit.Unit.{Unit as CodeUnit}
use Rattle.cfi_unit.specs.declared.unit.Unit.TheVariants as units
use Rattle.cfi_unit.specs.Unit.{words_of, size_of}
use Rattle.cfi_unit.proofs.CodeLemmas.{length-words_of}
use Rattle.cfi_word.specs.Table.{IsSize}
use Rattle.cfi_aux.specs.declared.modules.Module.{Module}
use Rattle.cfi_aux.specs.declared.placed.Placed.{Placed}
use Rattle.cfi_aux.specs.Sound.{IsSoundModule}
use Rattle.cfi_place.specs.declared.room.Room.{Room}
use Rattle.cfi_place.specs.Names.{Names}
use Rattle.cfi_place.specs.Placed.{IsRoom, IsPlaced}
use Rattle.cfi_unit.specs.declared.spot.Spot.{Spot}
use Rattle.cfi_verify.specs.declared.checks.CheckSpot.{CheckSpot}
use Rattle.cfi_unit.specs.Spots.{spots_of}
use Rattle.cfi_verify.specs.Spots.{check_in, checks_of}
use Rattle.cfi_verify.specs.Fault.{IsVerified}
use Rattle.cfi_modules.specs.Room.{first_room, room_behind, room_after}
use Rattle.cfi_modules.specs.Order.{names_of}
use Rattle.cfi_modules.specs.Series.{JoinsSome, IsSeries}
use Rattle.cfi_modules.proofs.PlacedLemmas.{fits}

-- ---- checks have fourteen words

one_check : (at : ℕ) (unit : CodeUnit) (rest : List CheckSpot) (n : ℕ) → 14 * length rest ≤ n
    → 14 * length (cons_option (check_in at unit) rest) ≤ size_of unit + n
one_check at (units.Check link rs1 imm slot) rest n less = omega (arith, less)
one_check at (units.Plain insn) rest n less = omega (arith, less)
one_check at (units.Load kind rd rs1 imm) rest n less = omega (arith, less)
one_check at (units.Store kind rs1 rs2 imm) rest n less = omega (arith, less)
one_check at (units.Branch cond rs1 rs2 off) rest n less = omega (arith, less)
one_check at (units.Jump link off) rest n less = omega (arith, less)
one_check at units.Service rest n less = omega (arith, less)

check_words : (at : ℕ) (code : List CodeUnit)
    → 14 * length (checks_of (spots_of at code)) ≤ length (flat_map words_of code)
check_words at [] = omega arith
check_words at (u ∷ us) =
    omega (
      arith,
      one_check at u (checks_of (spots_of (at + size_of u) us)) (length (flat_map words_of us))
          (check_words (at + size_of u) us),
      length-append (words_of u) (flat_map words_of us),
      length-words_of u,
    )

-- a module that verifies has fourteen words for each branch
pub branch_words : (m : Placed) (loaded : List Placed) → IsVerified m loaded → 14 * length m.branches ≤ length m.words
branch_words m loaded v =
    let are = v.1.laid.units in
    omega (
      arith,
      v.1.records,
      ap (λ (spots : List Spot). length (checks_of spots)) are.places,
      check_words 0 are.code,
      ap length are.units.spelled,
    )

-- ---- rooms

room_code : (room : Room) (placed : List Placed) → (fold room_behind room placed).code_words ≡ room.code_words
room_code room [] = refl
room_code room (m ∷ rest) = room_code (room_behind room m) rest

pub code_after : (code_words : ℕ) (placed : List Placed) → (room_after code_words placed).code_words ≡ code_words
code_after code_words placed = room_code (first_room code_words) placed

pub first_is_room : (code_words : ℕ) → IsSize code_words → IsRoom (first_room code_words)
first_is_room code_words size = record {
  size = size;
  code = omega (arith, size.least);
  slots = omega arith;
  aligned = refl;
  low = omega arith;
  high = omega arith;
}

next_is_room : (m : Module) (room : Room) (names : Names) (p : Placed) (before : List Placed) → IsSoundModule m
    → IsRoom room → IsPlaced m room names p → IsVerified p before → IsRoom (room_behind room p)
next_is_room m room names p before sound r is verified =
    let f = fits m room names p sound.object_sound.relocs is in
    record {
      size = r.size;
      code = f.code;
      slots = omega (arith, r.slots, branch_words p before verified, is.base, is.slot_base);
      aligned = omega arith;
      low = omega (arith, r.low, is.data_base);
      high = omega (arith, f.ends);
    }

-- a place of a list has an item
pub item_at : {X : Type 0} (xs : List X) (k : ℕ) → k < length xs → (x : X) × (slice_get xs k ≡ Some x)
item_at [] k within = absurd (omega (arith, within))
item_at (x ∷ xs) k within = (get_or (x ∷ xs) k x, slice_get-get_or (x ∷ xs) k x within)

-- a module of a series, with what it was
pub member : (code_words : ℕ) (placed : List Placed) → IsSeries code_words placed → (k : ℕ) (p : Placed)
    → slice_get placed k ≡ Some p → (m : Module) × IsSoundModule m × JoinsSome code_words (take k placed) m p
member code_words placed series k p is =
    let within : k < length series.modules =
    omega (arith, slice_get_within placed k p is, series.count) in
    let m = item_at series.modules k within in
    let sound : IsSoundModule m.0 =
    subst IsSoundModule (get_or_from_slice_get series.modules k m.0 m.0 m.1) (series.sound k m.0 within) in
    (m.0, sound, series.joined k m.0 p m.1 is)

-- one module more
pub take_one_more : (placed : List Placed) (k : ℕ) (p : Placed) → slice_get placed k ≡ Some p
    → take (k + 1) placed ≡ take k placed ++ p ∷ []
take_one_more placed k p is =
    take_more placed k p (slice_get_within placed k p is)
    ∙ ap (λ (x : Placed). take k placed ++ x ∷ []) (get_or_from_slice_get placed k p p is)

pub room_more : (code_words : ℕ) (placed : List Placed) (k : ℕ) (p : Placed) → slice_get placed k ≡ Some p
    → room_after code_words (take (k + 1) placed) ≡ room_behind (room_after code_words (take k placed)) p
room_more code_words placed k p is =
    ap (room_after code_words) (take_one_more placed k p is)
    ∙ fold-append room_behind (first_room code_words) (take k placed) (p ∷ [])

pub room_at : (code_words : ℕ) (placed : List Placed) → IsSeries code_words placed → (k : ℕ)
    → k ≤ length placed → IsRoom (room_after code_words (take k placed))
room_at code_words placed series zero within = first_is_room code_words series.size
room_at code_words placed series (suc k) within =
    let p = item_at placed k (omega (arith, within)) in
    let m = member code_words placed series k p.0 p.1 in
    let before = room_at code_words placed series k (omega (arith, within)) in
    let live = m.2.0 in
    let joins = m.2.2 in
    let next = next_is_room m.0 (room_after code_words (take k placed)) (names_of live) p.0 live m.1 before joins.behind
    joins.verified in
    subst IsRoom (sym (room_more code_words placed k p.0 p.1) ∙ ap (λ (n : ℕ). room_after code_words (take n placed)) (add-one k)) next

-- the room behind a series
pub room_is : (code_words : ℕ) (placed : List Placed) → IsSeries code_words placed
    → IsRoom (room_after code_words placed)
room_is code_words placed series =
    subst (λ (xs : List Placed). IsRoom (room_after code_words xs)) (take-length placed)
    (room_at code_words placed series (length placed) (omega arith))
