-- The data that a guest lacks, and the cells behind it.
use Rattle.std.proofs.Common.{◌≡◌, ℕ, ◌-◌, ◌<◌, ◌≤◌, Bool, true, false, List, [], ◌∷◌, ◌++◌, cond, length, take, drop, min, All, Option, Some, None, refl, sym, ap, ◌∙◌, ⊎_elim, arith}
use Rattle.std.specs.Prelude.{nat_le, filter}
use Rattle.std.proofs.lemmas.Bool.{cases_lt}
use Rattle.std.proofs.Math.Seq.{drop-length}
use Rattle.std.proofs.lemmas.List.{drop-map, drop_all, length-drop, take_all}
use Rattle.std.proofs.lemmas.List.Elements.{All-nil}
use Rattle.cfi_aux.specs.declared.placed.Placed.{Placed}
use Rattle.cfi_graph.specs.Cell.{cells_of}
use Rattle.cfi_model.specs.Data.{LiesInData}
use Rattle.cfi_plan.specs.Draft.{starts}
use Rattle.cfi_plan.specs.declared.journal.ModuleLine.{ModuleLine}
use Rattle.cfi_plan.specs.declared.plan.Plan.{Plan}
use Rattle.cfi_modules.specs.Fills.{fill_of, fills_of}
use Rattle.cfi_unit.specs.declared.fill.Fill.{Fill}
use Rattle.cfi_valid.specs.Journal.{JournalState, members_of, live_in}
use Rattle.cfi_valid.specs.Loaded.{LoadedModule, placed_modules, loaded_by, live_flags, cells_at, data_between, fills_between, Filled}
use Rattle.cfi_valid.proofs.KeptLemmas.{places_are}
use Rattle.cfi_ledger.specs.Force.{count_by_policy, state_of}
use Rattle.cfi_ledger.specs.Opens.{given_reply}
use Rattle.cfi_ledger.specs.Policies.{HavePolicies}
use Rattle.cfi_ledger.specs.Roster.{IsFilled, IsRosterOf, Roster, live_placed, loaded_in_roster, loaded_of, members_in_roster, origin_of}
use Rattle.cfi_ledger.specs.declared.force.Force.{Force}
use Rattle.cfi_ledger.proofs.EntryLemmas.{loaded_all}
use Rattle.cfi_ledger.proofs.FlagLemmas.{placed_live}
use Rattle.cfi_ledger.proofs.PolicyLemmas.{policies_below}
use Rattle.cfi_ledger.proofs.SuffixLemmas.{first_loaded, later_loaded}

-- ---- modules by their policies

module _ (plan : Plan) (s : JournalState) (have : HavePolicies plan s) where
  -- the start modules are the first ones
  pub starts_first : loaded_by 0 s.loaded ≡ take (starts plan.modules) s.loaded
  starts_first = first_loaded 0 s.loaded have.rises ∙ ap (λ (n : ℕ). take n s.loaded) have.starts

  -- the data that came after a policy is the last
  pub later_data : (above : ℕ) → data_between above s.policy s.loaded
      ≡ drop (length (loaded_by above s.loaded)) (fills_of (placed_modules s.loaded))
  later_data above =
      let n : ℕ = length (loaded_by above s.loaded) in
      ap (λ (ls : List LoadedModule). fills_of (placed_modules ls))
      (later_loaded above s.policy s.loaded have.rises have.upto.loaded)
      ∙ ap fills_of (sym (drop-map (λ (l : LoadedModule). l.placed) n s.loaded))
      ∙ sym (drop-map fill_of n (placed_modules s.loaded))

  -- the cells are those of all, with what names mean among the live ones
  pub last_cells : cells_at s.policy (members_of s)
      ≡ cells_of (placed_modules (live_in s)) (placed_modules s.loaded)
  last_cells =
      ap (λ (ls : List LoadedModule). cells_of (placed_modules (live_in s)) (placed_modules ls))
      (loaded_all s.policy s.loaded (policies_below plan s have))

  -- and stand behind that data
  pub later_fills : (above : ℕ) → fills_between Filled above s.policy (members_of s)
      ≡ drop (length (loaded_by above s.loaded)) (fills_of (placed_modules s.loaded))
      ++ cells_of (placed_modules (live_in s)) (placed_modules s.loaded)
  later_fills above =
      ap (λ (fs : List Fill). fs ++ cells_at s.policy (members_of s)) (later_data above)
      ∙ ap (λ (fs : List Fill). drop (length (loaded_by above s.loaded)) (fills_of (placed_modules s.loaded)) ++ fs)
      last_cells

-- ---- as they are counted

-- a policy finds as many modules loaded as there are lines of such policies
pub count_is : (policy : ℕ) (lines : List ModuleLine) (placed : List Placed) → length lines ≡ length placed
    → length (loaded_by policy (loaded_of lines placed))
    ≡ length (filter (λ (line : ModuleLine). nat_le line.policy policy) lines)
count_is policy [] [] many = refl
count_is policy [] (p ∷ placed) many = absurd (omega (arith, many))
count_is policy (line ∷ lines) [] many = absurd (omega (arith, many))
count_is policy (line ∷ lines) (p ∷ placed) many =
    by (nat_le line.policy policy) (count_is policy lines placed (omega (arith, many)))
  where
    early : ModuleLine → Bool
    early one = nat_le one.policy policy

    by : (b : Bool) → length (loaded_by policy (loaded_of lines placed)) ≡ length (filter early lines)
        → length (cond b (record { number = line.number; placed = p; policy = line.policy }
        ∷ loaded_by policy (loaded_of lines placed)) (loaded_by policy (loaded_of lines placed)))
        ≡ length (cond b (line ∷ filter early lines) (filter early lines))
    by true rest = omega (arith, rest)
    by false rest = rest

-- no more than there are
pub count_most : (policy : ℕ) (r : Roster) → count_by_policy policy r ≤ length r.lines
count_most policy r = most r.lines
  where
    early : ModuleLine → Bool
    early line = nat_le line.policy policy

    most : (lines : List ModuleLine) → length (filter early lines) ≤ length lines
    most [] = omega arith
    most (line ∷ lines) = by (early line) (most lines)
      where
        by : (b : Bool) → length (filter early lines) ≤ length lines
            → length (cond b (line ∷ filter early lines) (filter early lines)) ≤ length (line ∷ lines)
        by true rest = omega (arith, rest)
        by false rest = omega (arith, rest)

-- ---- what is in force

module _ (plan : Plan) (f : Force) (have : HavePolicies plan (state_of f)) (is : IsRosterOf plan f.roster) where
  -- the start modules are as many as the plan has
  pub starts_are : starts plan.modules ≡ count_by_policy 0 f.roster
  starts_are = sym have.starts ∙ count_is 0 f.roster.lines f.roster.placed is.many

  pub data_due : (above : ℕ) → data_between above f.policy (loaded_in_roster f.roster)
      ≡ drop (count_by_policy above f.roster) (fills_of f.roster.placed)
  data_due above =
      later_data plan (state_of f) have above
      ∙ ap (λ (n : ℕ). drop n (fills_of (placed_modules (loaded_in_roster f.roster))))
      (count_is above f.roster.lines f.roster.placed is.many)
      ∙ ap (λ (ps : List Placed). drop (count_by_policy above f.roster) (fills_of ps))
      (places_are origin_of f.roster.lines f.roster.placed is.many)

  -- where its flags tell which are live, and its cells are filled
  module _ (flags_are : f.roster.flags ≡ live_flags f.policy (members_in_roster f.roster))
      (filled : IsFilled f.roster) where
    pub cells_due : cells_at f.policy (members_in_roster f.roster) ≡ f.roster.cells
    cells_due =
        last_cells plan (state_of f) have
        ∙ ap (λ (ps : List Placed). cells_of ps (placed_modules (loaded_in_roster f.roster)))
        (placed_live f is.many flags_are)
        ∙ ap (cells_of (live_placed f.roster)) (places_are origin_of f.roster.lines f.roster.placed is.many)
        ∙ sym filled

    pub fills_due : (above : ℕ) → fills_between Filled above f.policy (members_in_roster f.roster)
        ≡ drop (count_by_policy above f.roster) (fills_of f.roster.placed) ++ f.roster.cells
    fills_due above =
        ap (λ (fs : List Fill). fs ++ cells_at f.policy (members_in_roster f.roster)) (data_due above)
        ∙ ap (λ (fs : List Fill). drop (count_by_policy above f.roster) (fills_of f.roster.placed) ++ fs) cells_due

-- ---- a reply

pub given_policy : (address : Option ℕ) (policy : ℕ) (fills : List Fill)
    → (given_reply address policy fills).policy ≡ policy
given_policy (Some address) policy fills = refl
given_policy None policy fills = refl

pub given_inside : (address : Option ℕ) (policy : ℕ) (fills : List Fill) → All LiesInData fills
    → All LiesInData (given_reply address policy fills).fills
given_inside (Some address) policy fills all = all
given_inside None policy fills all = All-nil LiesInData

-- ---- the rest of a list

pub drop_min : {X : Type 0} (xs : List X) (first less : ℕ) → less ≡ min first (length xs)
    → take (length xs - less) (drop less xs) ≡ drop first xs
drop_min xs first less is =
    take_all (length xs - less) (drop less xs) (omega (arith, length-drop less xs))
    ∙ ⊎_elim
    (λ (within : first < length xs). ap (λ (n : ℕ). drop n xs) (grind (arith, is, within)))
    (λ (past : length xs ≤ first).
    ap (λ (n : ℕ). drop n xs) (grind (arith, is, past))
    ∙ drop-length xs ∙ sym (drop_all first xs past))
    (cases_lt first (length xs))
