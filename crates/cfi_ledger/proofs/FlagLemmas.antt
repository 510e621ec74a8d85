-- The flags of a roster tell which of its modules are live: at a place in load order, and after a change.
use Rattle.std.proofs.Common.{◌≡◌, ℕ, zero, suc, ◌+◌, ◌<◌, ◌≤◌, Bool, true, false, cond, List, [], ◌∷◌, ◌++◌, length, map, get_or, Option, Some, None, refl, sym, ap, subst, ◌∙◌, arith}
use Rattle.std.specs.Prelude.{filter, option_map, slice_set}
use Rattle.std.specs.List.{Contains, slice_get}
use Rattle.std.proofs.lemmas.Bool.{false≢true}
use Rattle.std.proofs.lemmas.List.{get_or_default}
use Rattle.std.proofs.lemmas.List.Elements.{All-contains, All-from_recursion, Contains-append_right, filter_passes}
use Rattle.std.proofs.lemmas.Option.{get_or_from_slice_get, slice_get-map, slice_get_within}
use Rattle.cfi_aux.specs.declared.modules.Module.{Module}
use Rattle.cfi_aux.specs.declared.placed.Placed.{Placed}
use Rattle.cfi_graph.proofs.BoundLemmas.{contains_at}
use Rattle.cfi_graph.specs.Direct.{DirectEdge}
use Rattle.cfi_graph.specs.Live.{live_of, IsFirstUser, IsUser}
use Rattle.cfi_plan.specs.declared.journal.ModuleLine.{ModuleLine}
use Rattle.cfi_plan.specs.declared.plan.Plan.{Plan}
use Rattle.cfi_policy.specs.Book.{KeptImage}
use Rattle.cfi_policy.specs.Image.{IsImage}
use Rattle.cfi_valid.specs.Growth.{AreUpTo}
use Rattle.cfi_valid.specs.Journal.{live_in, with_loaded, with_retired}
use Rattle.cfi_valid.specs.Kept.{module_from}
use Rattle.cfi_valid.specs.Loaded.{LoadedModule, placed_modules, IsLoaded, is_live, live_flags, module_line_of}
use Rattle.cfi_valid.specs.Retiring.{HasGone, HasNoUser, HasUser, IsLiveAt, StandsAt}
use Rattle.cfi_valid.specs.declared.retirement.Retirement.{Retirement}
use Rattle.cfi_valid.proofs.KeptLemmas.{loaded_at, places_are}
use Rattle.cfi_valid.proofs.LiveLemmas.{live_placed as live_by_flags}
use Rattle.cfi_ledger.specs.Force.{state_of, with_change}
use Rattle.cfi_ledger.specs.Journal.{Minutes}
use Rattle.cfi_ledger.specs.Loads.{IsFlagged, IsListed}
use Rattle.cfi_ledger.specs.Opens.{IsAddressOf, IsFirstGlobal}
use Rattle.cfi_ledger.specs.Policies.{HavePolicies}
use Rattle.cfi_ledger.specs.Roster.{HasJoined, HasRetired, IsBookOfRoster, IsRosterOf, Roster, live_placed, loaded_in_roster, loaded_of, members_in_roster, origin_of}
use Rattle.cfi_ledger.specs.declared.force.Force.{Force}
use Rattle.cfi_ledger.proofs.JoinedLemmas.{its_module, joined_loaded}
use Rattle.cfi_ledger.proofs.MemberLemmas.{stays, flags_less, flags_more, flags_stay, live_same, live_stay}
use Rattle.cfi_ledger.proofs.PolicyLemmas.{less_upto, more_upto}

-- ---- lists

-- a list has an item at each place within
pub item_at : {X : Type 0} (xs : List X) (k : ℕ) → k < length xs → (x : X) × (slice_get xs k ≡ Some x)
item_at [] k within = absurd (omega (arith, within))
item_at (x ∷ xs) zero within = (x, refl)
item_at (x ∷ xs) (suc k) within = item_at xs k (omega (arith, within))

-- a test keeps what passes it
kept_at : {X : Type 0} (p : X → Bool) (xs : List X) (k : ℕ) (x : X) → slice_get xs k ≡ Some x → p x ≡ true
    → Contains (filter p xs) x
kept_at p [] k x is passes = absurd (cc)
kept_at p (y ∷ xs) zero x is passes =
    let same : y ≡ x = cc in
    subst (λ b. Contains (cond b (y ∷ filter p xs) (filter p xs)) x) (sym (ap p same ∙ passes))
    (contains_at (y ∷ filter p xs) 0 x is)
kept_at p (y ∷ xs) (suc k) x is passes = by (p y) (kept_at p xs k x is passes)
  where
    by : (b : Bool) → Contains (filter p xs) x → Contains (cond b (y ∷ filter p xs) (filter p xs)) x
    by true has = Contains-append_right (y ∷ []) (filter p xs) x has
    by false has = has

-- ---- a module at its place in load order

-- the module of a number stands where it is listed
pub stands_listed : (r : Roster) → length r.lines ≡ length r.placed → (number at : ℕ) → IsListed r number at
    → StandsAt (loaded_in_roster r) number at
stands_listed r many number at listed =
    let line = item_at r.lines at (omega (arith, listed.within, many)) in
    let place = item_at r.placed at listed.within in (
      module_from (origin_of line.0) place.0,
      loaded_at origin_of r.lines r.placed at line.0 place.0 line.1 place.1,
      ap (λ (l : ModuleLine). l.number) (sym (get_or_from_slice_get r.lines at line.0 line.0 line.1))
          ∙ listed.number_is line.0,
    )

module _ (f : Force) (many : length f.roster.lines ≡ length f.roster.placed)
    (flags_are : f.roster.flags ≡ live_flags f.policy (members_in_roster f.roster)) where
  abbrev loaded : List LoadedModule
  loaded = loaded_in_roster f.roster

  abbrev lives : LoadedModule → Bool
  lives = is_live f.policy f.roster.retired

  -- what placing made of the live ones
  pub placed_live : placed_modules (live_in (state_of f)) ≡ live_placed f.roster
  placed_live =
      live_by_flags f.policy (members_in_roster f.roster)
      ∙ ap (λ (ps : List Placed). live_of ps (live_flags f.policy (members_in_roster f.roster)))
      (places_are origin_of f.roster.lines f.roster.placed many)
      ∙ ap (live_of f.roster.placed) (sym flags_are)

  -- the book is one of the state: with the class numbers of the live ones, and the code of all
  pub book_image : (plan : Plan) → IsRosterOf plan f.roster → (book : KeptImage) → IsBookOfRoster f.roster book
      → IsImage (DirectEdge (placed_modules (live_in (state_of f)))) (placed_modules loaded) plan.code_words book.image
  book_image plan is book of =
      subst (λ (ms : List Placed). IsImage (DirectEdge ms) (placed_modules loaded) plan.code_words book.image)
      (sym placed_live)
      (subst (λ (ms : List Placed). IsImage (DirectEdge (live_placed f.roster)) ms plan.code_words book.image)
      (sym (places_are origin_of f.roster.lines f.roster.placed many))
      (subst (λ (n : ℕ). IsImage (DirectEdge (live_placed f.roster)) f.roster.placed n book.image) is.code_words_are
      of.image))

  flag_is : (at : ℕ) (l : LoadedModule) → slice_get loaded at ≡ Some l → (live : Bool) → IsFlagged f.roster at live
      → lives l ≡ live
  flag_is at l is live flagged =
      let here : option_map lives (slice_get loaded at) ≡ Some live =
      sym (slice_get-map lives loaded at) ∙ ap (λ (bs : List Bool). slice_get bs at) (sym flags_are) ∙ flagged in
      let both : Some (lives l) ≡ Some live = ap (option_map lives) (sym is) ∙ here in
      cc

  module _ (number at : ℕ) (listed : IsListed f.roster number at) where
    abbrev there : StandsAt loaded number at
    there = stands_listed f.roster many number at listed

    -- it is live
    module _ (flagged : IsFlagged f.roster at true) where
      listed_has : Contains (live_in (state_of f)) there.0
      listed_has = kept_at lives loaded at there.0 there.1 (flag_is at there.0 there.1 true flagged)

      pub listed_live : IsLiveAt f.policy (members_in_roster f.roster) number
      listed_live = (there.0, listed_has, there.2)

      pub live_address : (p : Placed) (address : Option ℕ) → IsFirstGlobal (get_or f.roster.placed at p) address
          → IsAddressOf (live_in (state_of f)) number address
      live_address p address first = by address
          (subst (λ (q : Placed). IsFirstGlobal q address) place_is first)
        where
          place_is : get_or f.roster.placed at p ≡ there.0.placed
          place_is =
              let place_of : LoadedModule → Placed = λ l. l.placed in
              get_or_from_slice_get f.roster.placed at there.0.placed p
              (ap (λ (ps : List Placed). slice_get ps at)
              (sym (places_are origin_of f.roster.lines f.roster.placed many))
              ∙ slice_get-map place_of loaded at ∙ ap (option_map place_of) there.1)

          by : (found : Option ℕ) → IsFirstGlobal there.0.placed found
              → IsAddressOf (live_in (state_of f)) number found
          by (Some found) here =
              record { one = there.0; has = listed_has; is = there.2; first = here }
          by None none = record { one = there.0; has = listed_has; is = there.2; none = none }

    -- or it has gone
    pub listed_gone : AreUpTo (state_of f) → IsFlagged f.roster at false
        → HasGone loaded (live_in (state_of f)) number
    listed_gone upto flagged = record {
      has = (there.0, contains_at loaded at there.0 there.1, there.2);
      gone = λ live.
          let one = there.0 in
          let low = All-contains (λ (l : LoadedModule). l.policy ≤ f.policy) loaded one
          (All-from_recursion (λ (l : LoadedModule). l.policy ≤ f.policy) loaded upto.loaded)
          (contains_at loaded at one there.1) in
          let not_here : stays f.roster.retired one ≡ false =
          sym (live_same f.policy f.roster.retired upto.retired one low) ∙ flag_is at one there.1 false flagged in
          let is_there : stays f.roster.retired live.0 ≡ true =
          All-contains (λ (l : LoadedModule). stays f.roster.retired l ≡ true)
          (filter (stays f.roster.retired) loaded) live.0 (filter_passes (stays f.roster.retired) loaded)
          (subst (λ (ls : List LoadedModule). Contains ls live.0) (live_stay (state_of f) upto) live.1) in
          let same : one.number ≡ live.0.number = there.2 ∙ sym live.2 in
          false≢true (sym not_here
          ∙ ap (λ (n : ℕ). stays f.roster.retired (record one { number = n })) same ∙ is_there);
    }

    -- ---- what jumps into it

    used_so : (by : ℕ) → IsUser f.roster.placed f.roster.flags at by
        → IsUser (placed_modules loaded) (live_flags f.policy (members_in_roster f.roster)) at by
    used_so by user =
        subst (λ (ps : List Placed). IsUser ps (live_flags f.policy (members_in_roster f.roster)) at by)
        (sym (places_are origin_of f.roster.lines f.roster.placed many))
        (subst (λ (bs : List Bool). IsUser f.roster.placed bs at by) flags_are user)

    used_back : (by : ℕ) → IsUser (placed_modules loaded) (live_flags f.policy (members_in_roster f.roster)) at by
        → IsUser f.roster.placed f.roster.flags at by
    used_back by user =
        subst (λ (bs : List Bool). IsUser f.roster.placed bs at by) (sym flags_are)
        (subst (λ (ps : List Placed). IsUser ps (live_flags f.policy (members_in_roster f.roster)) at by)
        (places_are origin_of f.roster.lines f.roster.placed many) user)

    module _ (flagged : IsFlagged f.roster at true) where
      -- the first one, with its line
      pub has_user : (by : ℕ) → IsFirstUser f.roster.placed f.roster.flags at by → (line : ModuleLine)
          → line ≡ get_or f.roster.lines by line
          → HasUser f.policy (members_in_roster f.roster) number line.number
      has_user by first line line_is =
          let within = slice_get_within f.roster.placed by first.is.user first.is.is in
          let user_listed : IsListed f.roster line.number by = record {
            within = within;
            number_is = λ d. ap (λ (l : ModuleLine). l.number)
                (get_or_default f.roster.lines by d line (omega (arith, within, many)) ∙ sym line_is);
          } in
          record {
            live = listed_live flagged;
            place = at;
            stands = there;
            by = by;
            user_stands = stands_listed f.roster many line.number by user_listed;
            first = record {
              is = used_so by first.is;
              first = λ k below user. first.first k below (used_back k user);
            };
          }

      -- none does
      pub has_no_user : ((by : ℕ) → IsUser f.roster.placed f.roster.flags at by → ⊥)
          → HasNoUser f.policy (members_in_roster f.roster) number
      has_no_user none = record {
        live = listed_live flagged;
        place = at;
        stands = there;
        none = λ by user. none by (used_back by user);
      }

  -- ---- after a change

  module _ (plan : Plan) (have : HavePolicies plan (state_of f)) (new : Roster) where
    abbrev before : List Bool
    before = map (stays f.roster.retired) loaded

    were : f.roster.flags ≡ before
    were = flags_are ∙ flags_stay (state_of f) have.upto

    -- with a module more
    pub flags_joined : (number : ℕ) (name : List ℕ) (m : Module)
        → HasJoined number name (f.policy + 1) m f.roster new → ¬ IsLoaded loaded number
        → new.flags ≡ live_flags (f.policy + 1) (members_in_roster new)
    flags_joined number name m joined absent =
        let one : LoadedModule = its_module number name (f.policy + 1) m f.roster new joined in
        let all : loaded_in_roster new ≡ loaded ++ one ∷ [] =
        joined_loaded number name (f.policy + 1) m f.roster new joined many in
        let kept : new.retired ≡ f.roster.retired = ap (λ (r : Roster). r.retired) joined.is in
        ap (λ (r : Roster). r.flags) joined.is
        ∙ ap (λ (bs : List Bool). bs ++ true ∷ []) were
        ∙ sym (flags_more loaded f.roster.retired have.known one absent)
        ∙ sym (flags_stay (with_loaded number f.epoch (f.policy + 1) joined.one (state_of f))
        (more_upto plan (state_of f) have number f.epoch (f.policy + 1) refl joined.one))
        ∙ ap (λ (ls : List LoadedModule).
        live_flags (f.policy + 1) (record { loaded = ls; retired = f.roster.retired })) (sym all)
        ∙ ap (λ (rs : List Retirement).
        live_flags (f.policy + 1) (record { loaded = loaded_in_roster new; retired = rs })) (sym kept)

    -- with one retired
    module _ (place : ℕ) (left : HasRetired place (f.policy + 1) f.roster new) where
      abbrev number : ℕ
      number = left.line.number

      abbrev gone : Retirement
      gone = record { number = number; policy = f.policy + 1 }

      pub departed_loaded : loaded_in_roster new ≡ loaded
      departed_loaded = ap (λ (r : Roster). loaded_of r.lines r.placed) left.is

      -- the roster is the plan's still
      pub departed_roster : IsRosterOf plan f.roster → IsRosterOf plan new
      departed_roster is = record {
        code_words_are = ap (λ (r : Roster). r.code_words) left.is ∙ is.code_words_are;
        many = ap (λ (r : Roster). length r.lines) left.is ∙ is.many
            ∙ ap (λ (r : Roster). length r.placed) (sym left.is);
        lines_are = ap (λ (r : Roster). r.lines) left.is ∙ is.lines_are
            ∙ ap (map (module_line_of plan.modules)) (sym departed_loaded);
      }

      -- the state has it retired
      pub departed_state : (journal : Minutes)
          → state_of (with_change new journal f) ≡ with_retired number (f.epoch + 1) (f.policy + 1) (state_of f)
      departed_state journal =
          ap (λ (r : Roster). state_of (with_change r journal f)) left.is

      -- the line is that of the number that is listed there
      pub departed_number : (other : ℕ) → IsListed f.roster other place → number ≡ other
      departed_number other listed =
          ap (λ (l : ModuleLine). l.number)
          (sym (get_or_from_slice_get f.roster.lines place left.line left.line left.line_is))
          ∙ listed.number_is left.line

      -- a module was there
      stood : place < length f.roster.placed
          → (l : LoadedModule) × (slice_get loaded place ≡ Some l) × (l.number ≡ number)
      stood within =
          let there = item_at f.roster.placed place within in (
            module_from (origin_of left.line) there.0,
            loaded_at origin_of f.roster.lines f.roster.placed place left.line there.0 left.line_is there.1,
            refl,
          )

      pub flags_left : new.flags ≡ live_flags (f.policy + 1) (members_in_roster new)
      flags_left =
          let within = slice_get_within f.roster.lines place left.line left.line_is in
          let it = stood (omega (arith, within, many)) in
          ap (λ (r : Roster). r.flags) left.is
          ∙ ap (λ (bs : List Bool). slice_set bs place false) were
          ∙ sym (flags_less loaded f.roster.retired have.once place it.0 it.1 gone (sym it.2))
          ∙ sym (flags_stay (with_retired number f.epoch (f.policy + 1) (state_of f))
          (less_upto plan (state_of f) have number f.epoch (f.policy + 1) refl))
          ∙ ap (λ (r : Roster). live_flags (f.policy + 1) (members_in_roster r)) (sym left.is)
