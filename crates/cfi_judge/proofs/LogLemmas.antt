-- Logs, entry by entry.
use Rattle.std.proofs.Common.{◌≡◌, ℕ, zero, suc, ◌+◌, ◌<◌, ◌≤◌, Bool, true, false, cond, List, [], ◌∷◌, length, drop, Some, refl, sym, ap, subst, ◌∙◌, ⊎_elim, arith}
use Rattle.std.specs.Prelude.{◌↔◌, filter}
use Rattle.std.specs.List.{Contains, slice_get, fold}
use Rattle.std.proofs.lemmas.Bool.{cases_lt}
use Rattle.std.proofs.lemmas.Option.{slice_get_within}
use Rattle.cfi_graph.proofs.BoundLemmas.{contains_at, at_contains}
use Rattle.cfi_aux.specs.declared.placed.Placed.{Placed}
use Rattle.cfi_model.specs.Log.{last_policy, policy_after}
use Rattle.cfi_plan.specs.declared.journal.ModuleLine.{ModuleLine}
use Rattle.cfi_labels.specs.Live.{is_live_line}
use Rattle.cfi_ledger.specs.Roster.{Roster, loaded_in_roster, members_in_roster, origin_of}
use Rattle.cfi_unit.specs.declared.log.Log.{Log}
use Rattle.cfi_unit.specs.declared.log.Log.TheVariants.{Open}
use Rattle.cfi_valid.specs.Kept.{module_from}
use Rattle.cfi_valid.specs.Loaded.{LoadedModule, Members, is_live, live_at}
use Rattle.cfi_valid.specs.declared.retirement.Retirement.{Retirement}
use Rattle.cfi_valid.specs.Log.{NeverFall}
use Rattle.cfi_valid.proofs.KeptLemmas.{loaded_at, many_are}
use Rattle.cfi_judge.specs.inner.Log.{HasOpens, HasOpen, IsThere}
use Rattle.cfi_judge.specs.inner.Meets.{IsLined}
use Rattle.cfi_judge.proofs.ItemLemmas.{found}

-- ---- policies that never fall

-- what is left of a log rises exactly where all of it does
pub record IsRising (force : ℕ) (log : List Log) (at before : ℕ) : Type 0 where
  pub falls : NeverFall before (drop at log) ↔ NeverFall 0 log
  pub last : fold policy_after before (drop at log) ≡ last_policy log

-- ---- what a test lets through

module _ {X : Type 0} (p : X → Bool) where
  pub passes : (xs : List X) (x : X) (at : ℕ) → slice_get xs at ≡ Some x → p x ≡ true
      → (to : ℕ) × (slice_get (filter p xs) to ≡ Some x)
  passes [] x at is passed = absurd (cc)
  passes (y ∷ xs) x zero is passed =
      let same : y ≡ x = cc in
      (0, ap (λ (b : Bool). slice_get (cond b (y ∷ filter p xs) (filter p xs)) 0) (ap p same ∙ passed) ∙ is)
  passes (y ∷ xs) x (suc at) is passed = by_test (p y) refl (passes xs x at is passed)
    where
      by_test : (b : Bool) → p y ≡ b → (to : ℕ) × (slice_get (filter p xs) to ≡ Some x)
          → (to : ℕ) × (slice_get (filter p (y ∷ xs)) to ≡ Some x)
      by_test true test rest =
          (suc rest.0, ap (λ (b : Bool). slice_get (cond b (y ∷ filter p xs) (filter p xs)) (suc rest.0)) test ∙ rest.1)
      by_test false test rest =
          (rest.0, ap (λ (b : Bool). slice_get (cond b (y ∷ filter p xs) (filter p xs)) rest.0) test ∙ rest.1)

  pub passed : (xs : List X) (x : X) (to : ℕ) → slice_get (filter p xs) to ≡ Some x
      → (at : ℕ) × (slice_get xs at ≡ Some x) × (p x ≡ true)
  passed [] x to is = absurd (cc)
  passed (y ∷ xs) x to is = by_test (p y) refl (λ k there. passed xs x k there) to is
    where
      by_test : (b : Bool) → p y ≡ b
          → ((k : ℕ) → slice_get (filter p xs) k ≡ Some x → (at : ℕ) × (slice_get xs at ≡ Some x) × (p x ≡ true))
          → (to : ℕ) → slice_get (filter p (y ∷ xs)) to ≡ Some x
          → (at : ℕ) × (slice_get (y ∷ xs) at ≡ Some x) × (p x ≡ true)
      by_test true test later zero is =
          let here : Some y ≡ Some x =
          sym (ap (λ (b : Bool). slice_get (cond b (y ∷ filter p xs) (filter p xs)) 0) test) ∙ is in
          let same : y ≡ x = cc in
          (0, here, ap p (sym same) ∙ test)
      by_test true test later (suc to) is =
          let rest = later to
          (sym (ap (λ (b : Bool). slice_get (cond b (y ∷ filter p xs) (filter p xs)) (suc to)) test) ∙ is) in
          (suc rest.0, rest.1, rest.2)
      by_test false test later to is =
          let rest = later to
          (sym (ap (λ (b : Bool). slice_get (cond b (y ∷ filter p xs) (filter p xs)) to) test) ∙ is) in
          (suc rest.0, rest.1, rest.2)

-- ---- a module that was opened

-- a place of a line is one of a module
pub within_other : (lines : List ModuleLine) (placed : List Placed) (at : ℕ) → at < length lines → (r : Roster)
    → IsLined r → lines ≡ r.lines → placed ≡ r.placed → at < length placed
within_other lines placed at within r lined lines_are placed_are =
    let line_count : length lines ≡ length r.lines = ap (λ (ls : List ModuleLine). length ls) lines_are in
    let place_count : length placed ≡ length r.placed = ap (λ (ps : List Placed). length ps) placed_are in
    omega (arith, within, lined, line_count, place_count)

-- something holds of none of the first modules
abbrev pub NoneBelow : (Q : ModuleLine → Placed → Type 0) → List ModuleLine → List Placed → (at : ℕ) → Type 0
NoneBelow Q lines placed at =
    (k : ℕ) (line : ModuleLine) (p : Placed) → k < at → slice_get lines k ≡ Some line → slice_get placed k ≡ Some p
    → ¬ Q line p

-- nor of one more
pub none_next : (Q : ModuleLine → Placed → Type 0) (lines : List ModuleLine) (placed : List Placed) (at : ℕ)
    (line : ModuleLine) (p : Placed) → slice_get lines at ≡ Some line → slice_get placed at ≡ Some p → ¬ Q line p
    → NoneBelow Q lines placed at → NoneBelow Q lines placed (at + 1)
none_next Q lines placed at line p line_is place_is never below = λ k other q less other_is q_is. ⊎_elim
    (λ (early : k < at). below k other q early other_is q_is)
    (λ (late : at ≤ k).
    let same : at ≡ k = omega (arith, less, late) in
    let lines_same : Some line ≡ Some other = sym line_is ∙ ap (slice_get lines) same ∙ other_is in
    let places_same : Some p ≡ Some q = sym place_is ∙ ap (slice_get placed) same ∙ q_is in
    let line_same : line ≡ other = cc in
    let place_same : p ≡ q = cc in
    subst (λ (l : ModuleLine). ¬ Q l q) line_same (subst (λ (x : Placed). ¬ Q line x) place_same never))
    (cases_lt k at)

module _ (P : Placed → Type 0) (number policy : ℕ) where
  -- a module that is live under the policy is the one
  pub record HasOne (members : Members) : Type 0 where
    pub one : LoadedModule
    pub has : Contains (live_at policy members) one
    pub is : one.number ≡ number
    pub holds : P one.placed

  module _ (r : Roster) (lined : IsLined r) (lines : List ModuleLine) (lines_are : lines ≡ r.lines)
      (placed : List Placed) (placed_are : placed ≡ r.placed) (retired : List Retirement)
      (retired_are : retired ≡ r.retired) where
    abbrev loaded : List LoadedModule
    loaded = loaded_in_roster r

    abbrev at_place : ModuleLine → Placed → LoadedModule
    at_place line p = module_from (origin_of line) p

    there : (at : ℕ) (line : ModuleLine) (p : Placed) → slice_get lines at ≡ Some line → slice_get placed at ≡ Some p
        → slice_get loaded at ≡ Some (at_place line p)
    there at line p line_is place_is =
        loaded_at origin_of r.lines r.placed at line p
        (sym (ap (λ (ls : List ModuleLine). slice_get ls at) lines_are) ∙ line_is)
        (sym (ap (λ (ps : List Placed). slice_get ps at) placed_are) ∙ place_is)

    -- one at a place is
    pub one_here : (at : ℕ) (line : ModuleLine) (p : Placed) → slice_get lines at ≡ Some line
        → slice_get placed at ≡ Some p → IsThere P retired line p number policy → HasOne (members_in_roster r)
    one_here at line p line_is place_is found =
        let one : LoadedModule = at_place line p in
        let lives : is_live policy r.retired one ≡ true =
        ap (λ (rs : List Retirement). is_live_line policy rs line) (sym retired_are) ∙ found.lives in
        let kept = passes (is_live policy r.retired) loaded one at (there at line p line_is place_is) lives in
        record {
          one = one;
          has = contains_at (live_at policy (members_in_roster r)) kept.0 one kept.1;
          is = found.is;
          holds = found.holds;
        }

    -- it stands at a place
    pub record StandsHere : Type 0 where
      pub at : ℕ
      pub line : ModuleLine
      pub p : Placed
      pub within : at < length lines
      pub line_is : slice_get lines at ≡ Some line
      pub place_is : slice_get placed at ≡ Some p
      pub found : IsThere P retired line p number policy

    pub one_there : HasOne (members_in_roster r) → StandsHere
    one_there has =
        let kept = passed (is_live policy r.retired) loaded has.one has.has.0
        (at_contains (live_at policy (members_in_roster r)) has.one has.has) in
        let k : ℕ = kept.0 in
        let many : length loaded ≡ length r.placed = many_are origin_of r.lines r.placed lined in
        let inside : k < length loaded = slice_get_within loaded k has.one kept.1 in
        let line_count : length lines ≡ length r.lines = ap (λ (ls : List ModuleLine). length ls) lines_are in
        let place_count : length placed ≡ length r.placed = ap (λ (ps : List Placed). length ps) placed_are in
        let line = found lines k (omega (arith, inside, many, lined, line_count)) in
        let place = found placed k (omega (arith, inside, many, place_count)) in
        let both : Some has.one ≡ Some (at_place line.0 place.0) =
        sym kept.1 ∙ there k line.0 place.0 line.1 place.1 in
        let same : has.one ≡ at_place line.0 place.0 = cc in
        record {
          at = k;
          line = line.0;
          p = place.0;
          within = omega (arith, inside, many, lined, line_count);
          line_is = line.1;
          place_is = place.1;
          found = record {
            is = sym (ap (λ (l : LoadedModule). l.number) same) ∙ has.is;
            lives = ap (λ (rs : List Retirement). is_live_line policy rs line.0) retired_are
                ∙ sym (ap (is_live policy r.retired) same) ∙ kept.2;
            holds = subst (λ (l : LoadedModule). P l.placed) same has.holds;
          };
        }

    -- where none of all is, there is none
    pub none_here : (at : ℕ) → length lines ≤ at
        → NoneBelow (λ line p. IsThere P retired line p number policy) lines placed at
        → ¬ HasOne (members_in_roster r)
    none_here at all below has =
        let it = one_there has in
        below it.at it.line it.p (omega (arith, it.within, all)) it.line_is it.place_is it.found

-- ---- what a log says is open

-- the first entries say what is so
abbrev pub OpensBelow : Members → List Log → (at : ℕ) → Type 0
OpensBelow members log at = (k : ℕ) (entry : Log) → k < at → slice_get log k ≡ Some entry → HasOpen members entry

module _ (members : Members) (log : List Log) (at : ℕ) where
  pub opens_all : length log ≤ at → OpensBelow members log at → HasOpens members log
  opens_all all below = λ k number address policy is.
      below k (Open number address policy) (omega (arith, all, slice_get_within log k (Open number address policy) is))
      is
