-- Of two turns the one that comes, and lists that are set to what they are.
use Rattle.std.proofs.Common.{◌≡◌, ◌≢◌, ℕ, ◌==◌, ◌&&◌, ◌||◌, cond, Bool, true, false, List, slice_get, slice_set, slice_index_or, is_some, Option, Some, None, refl, sym, ◌∙◌, ap, arith, rules}
use Rattle.std.proofs.lemmas.List.{set-get_or}
use Rattle.std.proofs.lemmas.Option.{get_or_from_slice_get}
use Rattle.cfi_word.specs.declared.limits.TheConstants.{MAX_EPOCH}
use Rattle.cfi_model.specs.declared.history.Entry.{Entry}
use Rattle.cfi_model.specs.declared.phase.Phase.{Phase}
use Rattle.cfi_model.specs.declared.phase.Phase.TheVariants as phases
use Rattle.cfi_model.specs.declared.quiet.Point.{Point}
use Rattle.cfi_model.specs.declared.quiet.Point.TheVariants.{Outside, Asking, Leaving, Found}
use Rattle.cfi_model.specs.World.{World}
use Rattle.cfi_world.specs.Seats.{Seat, with_seat, is_asking}
use Rattle.cfi_world.specs.Turns.{did, nothing, seated}
use Rattle.cfi_world.specs.Worlds.{IsWorld}
use Rattle.cfi_world.specs.declared.event.Turned.TheVariants.{EpochsSpent}
use Rattle.cfi_model.proofs.PhaseLemmas.{IsRow}

-- of two turns the world of the one that comes
pub world_of : (still : Bool) (w : World) (s : Seat) (guest : ℕ) → IsWorld (cond still w (with_seat w guest s))
    → IsWorld (cond still (nothing w) (seated w guest s)).world
world_of true w s guest is = is
world_of false w s guest is = is

pub did_or : (may : Bool) (new w : World) → IsWorld (cond may new w) → IsWorld (cond may (did new) (nothing w)).world
did_or true new w is = is
did_or false new w is = is

pub begins_or : (idle spent : Bool) (w new : World) → IsWorld (cond idle (cond spent w new) w)
    → IsWorld (cond idle (cond spent (record { world = w; answer = EpochsSpent }) (did new)) (nothing w)).world
begins_or true true w new is = is
begins_or true false w new is = is
begins_or false spent w new is = is

pub not_last : (n : ℕ) → n ≢ MAX_EPOCH → (n == MAX_EPOCH) ≡ false
not_last n left = search (rules, arith)

pub spent_not : (n : ℕ) → n ≡ MAX_EPOCH → (n == MAX_EPOCH) ≡ false → ⊥
spent_not n e test =
    let same : (n == MAX_EPOCH) ≡ true = search (rules, arith) in
    absurd (cc)

pub asked_some : {o : Option Entry} {entry : Entry} → o ≡ Some entry → o ≢ None
asked_some e = λ none. absurd (cc)

pub row_none : (c s : ℕ) (phase : Phase) (guest : ℕ) → IsRow c s phase → phase ≡ phases.Testing guest → ⊥
row_none c s phases.Idle guest row e = absurd (cc)
row_none c s (phases.Testing other) guest row e = row
row_none c s (phases.Code index) guest row e = absurd (cc)
row_none c s (phases.Tary index) guest row e = absurd (cc)
row_none c s phases.Epoch guest row e = absurd (cc)
row_none c s (phases.Bary slot) guest row e = absurd (cc)

-- a list whose element is set to what it is
pub set_again : {X : Type 0} (xs : List X) (k : ℕ) (d : X) → slice_set xs k (slice_index_or xs k d) ≡ xs
set_again xs k d = set-get_or xs k d

pub set_there : {X : Type 0} (xs : List X) (k : ℕ) (x : X) → slice_get xs k ≡ Some x → slice_set xs k x ≡ xs
set_there xs k x is = ap (slice_set xs k) (sym (get_or_from_slice_get xs k x x is)) ∙ set-get_or xs k x

-- a test of two parts that fails
pub neither : (a b : Bool) → a || b ≡ false → (a ≡ false) × (b ≡ false)
neither true b e = absurd (cc)
neither false b e = (refl, e)

pub both_hold : (a b : Bool) → a && b ≡ true → (a ≡ true) × (b ≡ true)
both_hold true b e = (refl, e)
both_hold false b e = absurd (cc)

pub not_some : {X : Type 0} (o : Option X) → is_some o ≡ false → o ≡ None
not_some None e = refl
not_some (Some x) e = absurd (cc)

pub is_there : {X : Type 0} (o : Option X) → is_some o ≡ true → o ≢ None
is_there None e = absurd (cc)
is_there (Some x) e = λ none. absurd (cc)

pub asks_it : (point : Point) → is_asking point ≡ true → point ≡ Asking
asks_it Outside e = absurd (cc)
asks_it Asking e = refl
asks_it Leaving e = absurd (cc)
asks_it (Found epoch) e = absurd (cc)
