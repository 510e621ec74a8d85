-- A world that agrees with what the journal has come to.
use Rattle.std.specs.Prelude.{◌≡◌, ℕ, ◌+◌, ◌≤◌, ◌<◌, ◌==◌, Bool, true, false, List, [], ◌∷◌, ◌++◌, length, slice_get, Option, Some, None, ⊤}
use Rattle.std.specs.List.{AllByRecursion}
use Rattle.cfi_aux.specs.declared.modules.Module.{Module}
use Rattle.cfi_graph.specs.Direct.{DirectEdge}
use Rattle.cfi_model.specs.declared.history.Entry.{Entry}
use Rattle.cfi_model.specs.declared.quiet.Point.{Point}
use Rattle.cfi_model.specs.declared.quiet.Point.TheVariants.{Outside, Asking, Leaving, Found}
use Rattle.cfi_model.specs.declared.quiet.Quiet.TheVariants.{Published}
use Rattle.cfi_model.specs.InForce.{in_force}
use Rattle.cfi_model.specs.Raw.{Raw}
use Rattle.cfi_model.specs.Tables.{IsRefresh}
use Rattle.cfi_model.specs.Words.{Tables, entry_at, newest}
use Rattle.cfi_model.specs.World.{World, quiet_of, point_of}
use Rattle.cfi_plan.specs.declared.plan.Plan.{Plan}
use Rattle.cfi_policy.specs.Image.{IsImage}
use Rattle.cfi_ledger.specs.Policies.{IsPolicyOf}
use Rattle.cfi_modules.specs.Series.{IsSeries}
use Rattle.cfi_sim.specs.declared.limits.TheConstants.{MAX_UPDATES}
use Rattle.cfi_sim.specs.Reach.{WorldTells}
use Rattle.cfi_sim.specs.declared.aim.Aim.{Aim}
use Rattle.cfi_sim.specs.declared.aim.Aim.TheVariants.{Loading, Refreshing}
use Rattle.cfi_sim.specs.Stage.{Stage}
use Rattle.cfi_valid.specs.Journal.{JournalState, IsClean, members_of}
use Rattle.cfi_valid.specs.Loaded.{LoadedModule, placed_modules}
use Rattle.cfi_world.specs.Worlds.{IsWorld}

-- ---- the tables

-- the entry of a load: the next policy, and an image of all modules with the one that comes
pub record IsLoadEntry (plan : Plan) (modules : List Module) (state : JournalState) (number : ℕ) (e : Entry)
    : Type 0 where
  pub clean : IsClean plan modules state number
  pub policy : e.policy ≡ state.policy + 1
  pub image : (let all = placed_modules state.loaded ++ clean.placed ∷ [] in
      IsImage (DirectEdge all) all plan.code_words e.image)

-- the entry of an update with an aim, behind the one in force
abbrev pub IsEntryFor : Plan → List Module → JournalState → (now : Entry) → Aim → Entry → Type 0
IsEntryFor plan modules state now (Loading number) e = IsLoadEntry plan modules state number e
IsEntryFor plan modules state now Refreshing e = IsRefresh now e

-- the entry that comes, but is not in force yet
abbrev pub coming_by : (asked : Option Entry) → (all : Bool) → (last : Entry) → Option Entry
coming_by (Some e) all last = Some e
coming_by None true last = None
coming_by None false last = Some last

-- the entry that is to come: one that is not in force yet, or was asked for
abbrev pub coming : Tables → Option Entry
coming t = coming_by t.asked (in_force t == newest t) (entry_at t (newest t))

-- an update has an aim exactly while its entry is coming
abbrev pub HasComingEntry : Plan → List Module → JournalState → (now : Entry) → Option Aim → Option Entry → Type 0
HasComingEntry plan modules state now None None = ⊤
HasComingEntry plan modules state now (Some aim) (Some e) = IsEntryFor plan modules state now aim e
HasComingEntry plan modules state now None (Some e) = ⊥
HasComingEntry plan modules state now (Some aim) None = ⊥

-- a number of the plan is that of one loaded module at most
abbrev pub NumbersAreApart : List LoadedModule → Type 0
NumbersAreApart loaded =
    (j k : ℕ) (l m : LoadedModule) → slice_get loaded j ≡ Some l → slice_get loaded k ≡ Some m → l.number ≡ m.number →
    j ≡ k

-- the tables of a plan, where the journal has come so far, and the update under way has this aim
pub record TablesAgree (plan : Plan) (modules : List Module) (state : JournalState) (aim : Option Aim) (t : Tables)
    : Type 0 where
  pub code_words : t.code_words ≡ plan.code_words
  pub versions : t.versions ≡ plan.versions
  pub first : t.first ≡ plan.first
  pub epoch : state.epoch ≡ plan.first + in_force t
  pub policy : state.policy ≡ (entry_at t (in_force t)).policy
  pub series : IsSeries plan.code_words (placed_modules state.loaded)
  pub apart : NumbersAreApart state.loaded
  pub low : AllByRecursion (λ (l : LoadedModule). l.policy ≤ state.policy) state.loaded
  pub few : state.policy ≤ length state.loaded
  pub stay : state.retired ≡ []
  pub entries : (number : ℕ) → number ≤ in_force t
      → IsPolicyOf plan.code_words (members_of state) (entry_at t number)
  pub aims : HasComingEntry plan modules state (entry_at t (in_force t)) aim (coming t)

-- ---- the guests

-- a guest that is registered is one of the plan, and has published no epoch below the first
pub record IsOfPlan (plan : Plan) (w : World) (guest quiet : ℕ) : Type 0 where
  pub known : guest < length plan.guests
  pub r : Raw
  pub there : slice_get w.guests guest ≡ Some r
  pub least : plan.first ≤ quiet

-- one in a quiescent point has found none below it
abbrev pub HasFound : (first : ℕ) → Point → Type 0
HasFound first Outside = ⊤
HasFound first Asking = ⊤
HasFound first Leaving = ⊤
HasFound first (Found epoch) = first ≤ epoch

-- the world has the plan's guests, fuel and room, and what its guests have published are epochs of the plan
pub record GuestsAgree (plan : Plan) (w : World) : Type 0 where
  pub count : length w.guests ≡ length plan.guests
  pub fuel : w.fuel ≡ plan.fuel
  pub room : w.room ≡ MAX_UPDATES
  pub quiets : (guest quiet : ℕ) → quiet_of w guest ≡ Published quiet → IsOfPlan plan w guest quiet
  pub points : (guest : ℕ) → HasFound plan.first (point_of w guest)

-- ---- both

-- the world agrees with the plan, and with the journal's state and aim
pub record WorldAgrees (plan : Plan) (modules : List Module) (s : Stage) : Type 0 where
  pub world : IsWorld s.world
  pub tables : TablesAgree plan modules s.state s.aim s.world.tables
  pub guests : GuestsAgree plan s.world

-- such a world says of epochs and versions what the journal does
abbrev pub AgreeingTell : Type 0
AgreeingTell = (plan : Plan) (modules : List Module) (s : Stage) → WorldAgrees plan modules s → WorldTells plan s
