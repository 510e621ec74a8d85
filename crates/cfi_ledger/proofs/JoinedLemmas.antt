-- A roster whose series has a module more, and a line for it.
use Rattle.std.proofs.Common.{◌≡◌, ℕ, ◌-◌, Bool, true, List, [], ◌∷◌, ◌++◌, length, map, take, drop, sym, ap, subst, ◌∙◌, arith, length-append}
use Rattle.std.proofs.Math.Seq.{take-length}
use Rattle.std.proofs.lemmas.List.{map-append, take-append-le}
use Rattle.cfi_aux.specs.declared.modules.Module.{Module}
use Rattle.cfi_plan.specs.declared.journal.ModuleLine.{ModuleLine}
use Rattle.cfi_modules.specs.Image.{IsOrderedImage}
use Rattle.cfi_unit.specs.declared.fill.Fill.{Fill}
use Rattle.cfi_modules.specs.Series.{Series, with_module, without_last, JoinsTo, HasJoined as SeriesHasJoined}
use Rattle.cfi_aux.specs.declared.placed.Placed.{Placed}
use Rattle.cfi_plan.specs.declared.plan.Plan.{Plan}
use Rattle.cfi_plan.specs.declared.plan.PlanModule.{PlanModule}
use Rattle.cfi_valid.specs.Loaded.{LoadedModule, module_line_of, planned_name}
use Rattle.cfi_valid.specs.declared.retirement.Retirement.{Retirement}
use Rattle.cfi_valid.proofs.KeptLemmas.{loaded_more}
use Rattle.cfi_ledger.specs.declared.entrant.Entrant.{Entrant}
use Rattle.cfi_ledger.specs.Roster.{HasJoined, IsOffer, IsRosterOf, Offer, Roster, line_by, loaded_of, origin_of, with_offer}
use Rattle.cfi_word.specs.declared.lists.Image.{Image}

-- a list without the item at its end
pub init_of : {X : Type 0} (xs : List X) (x : X) → take (length (xs ++ x ∷ []) - 1) (xs ++ x ∷ []) ≡ xs
init_of xs x =
    let end : length (xs ++ x ∷ []) - 1 ≡ length xs = omega (arith, length-append xs (x ∷ [])) in
    ap (λ (n : ℕ). take n (xs ++ x ∷ [])) end
    ∙ take-append-le (length xs) xs (x ∷ []) (omega arith)
    ∙ take-length xs

-- a series that a module has joined is what it was without the last one
pub series_back : (old new : Series) (m : Module) → SeriesHasJoined old new m → without_last new ≡ old
series_back old new m joined =
    let of : List Placed → List Bool → Series =
    λ ps bs. record { code_words = old.code_words; placed = ps; flags = bs } in
    ap (λ (s : Series). without_last s) joined.2
    ∙ ap (λ (ps : List Placed). of ps (take (length (old.flags ++ true ∷ []) - 1) (old.flags ++ true ∷ [])))
    (init_of old.placed joined.0)
    ∙ ap (of old.placed) (init_of old.flags true)

-- a roster by its series and what else is kept
abbrev pub roster_with : List ModuleLine → List Retirement → (cells : List Fill) → Series → Roster
roster_with lines retired cells s = record {
  code_words = s.code_words;
  lines = lines;
  placed = s.placed;
  flags = s.flags;
  retired = retired;
  cells = cells;
}

abbrev pub roster_by : List ModuleLine → List Retirement → (fills : List Fill) → Series → Roster
roster_by lines retired fills s = roster_with lines retired (drop (length s.placed) fills) s

module _ (number policy : ℕ) (name : List ℕ) (m : Module) (s new : Series) (lines : List ModuleLine)
    (retired : List Retirement) (cells : List Fill) where
  abbrev before : Roster
  before = roster_with lines retired cells s

  abbrev after : ModuleLine → (cells : List Fill) → Roster
  after line next = roster_with (lines ++ line ∷ []) retired next new

  pub roster_joined : (old : Roster) → before ≡ old → (joined : SeriesHasJoined s new m) → (line : ModuleLine)
      → line ≡ line_by number name policy joined.0 → (next : List Fill)
      → HasJoined number name policy m old (after line next)
  roster_joined old same joined line line_is next =
      subst (λ (o : Roster). HasJoined number name policy m o (after line next)) same (record {
        one = joined.0;
        joins = joined.1;
        is = ap (roster_with (lines ++ line ∷ []) retired next) joined.2
            ∙ ap (λ (l : ModuleLine). roster_with (lines ++ l ∷ []) retired next (with_module s joined.0)) line_is;
      })

  abbrev back : List ModuleLine → (cells : List Fill) → Roster
  back rest kept = roster_with rest retired kept (without_last new)

  -- without the module it is what it was
  pub roster_back : (old : Roster) → before ≡ old → SeriesHasJoined s new m → (rest : List ModuleLine) → rest ≡ lines
      → (kept : List Fill) → kept ≡ cells → back rest kept ≡ old
  roster_back old same joined rest rest_is kept kept_is =
      ap (λ (ls : List ModuleLine). back ls kept) rest_is
      ∙ ap (back lines) kept_is
      ∙ ap (roster_with lines retired cells) (series_back s new m joined)
      ∙ same

  -- what it gives back is offered
  module _ (old : Roster) (same : before ≡ old) (joined : SeriesHasJoined s new m) (offer : Offer)
      (placed_is : offer.placed ≡ joined.0) where
    pub roster_offered : offer.line ≡ line_by number name policy offer.placed → IsOffer number name policy m old offer
    roster_offered line_is =
        subst (λ (o : Roster). IsOffer number name policy m o offer) same (record {
          joins = subst (JoinsTo s m) (sym placed_is) joined.1;
          line_is = line_is;
        })

    with_it : new ≡ with_module s offer.placed
    with_it = joined.2 ∙ ap (with_module s) (sym placed_is)

    pub offered_order : (image : Image) → IsOrderedImage new.placed image
        → IsOrderedImage (with_offer offer old).placed image
    offered_order image ordered =
        subst (λ (o : Roster). IsOrderedImage (with_offer offer o).placed image) same
        (subst (λ (t : Series). IsOrderedImage t.placed image) with_it ordered)

-- a module that is to join has its number, its name and its policy
pub entrant_joined : (e : Entrant) (number : ℕ) (name : List ℕ) (policy : ℕ) → e.number ≡ number → e.name.now ≡ name
    → e.policy ≡ policy → (m : Module) (old new : Roster) → HasJoined e.number e.name.now e.policy m old new
    → HasJoined number name policy m old new
entrant_joined e number name policy number_is name_is policy_is m old new joined =
    subst (λ (n : ℕ). HasJoined number name n m old new) policy_is
    (subst (λ (xs : List ℕ). HasJoined number xs e.policy m old new) name_is
    (subst (λ (n : ℕ). HasJoined n e.name.now e.policy m old new) number_is joined))

pub entrant_offered : (e : Entrant) (number : ℕ) (name : List ℕ) (policy : ℕ) → e.number ≡ number
    → e.name.now ≡ name → e.policy ≡ policy → (m : Module) (r : Roster) (offer : Offer)
    → IsOffer e.number e.name.now e.policy m r offer → IsOffer number name policy m r offer
entrant_offered e number name policy number_is name_is policy_is m r offer is =
    subst (λ (n : ℕ). IsOffer number name n m r offer) policy_is
    (subst (λ (xs : List ℕ). IsOffer number xs e.policy m r offer) name_is
    (subst (λ (n : ℕ). IsOffer n e.name.now e.policy m r offer) number_is is))

module _ (number : ℕ) (name : List ℕ) (policy : ℕ) (m : Module) (old new : Roster)
    (joined : HasJoined number name policy m old new) where
  abbrev its_line : ModuleLine
  its_line = line_by number name policy joined.one

  abbrev pub its_module : LoadedModule
  its_module = record { number = number; placed = joined.one; policy = policy }

  module _ (many : length old.lines ≡ length old.placed) where
    -- with it, it is loaded
    pub joined_loaded : loaded_of new.lines new.placed ≡ loaded_of old.lines old.placed ++ its_module ∷ []
    joined_loaded =
        ap (λ (r : Roster). loaded_of r.lines r.placed) joined.is
        ∙ loaded_more origin_of old.lines old.placed its_line joined.one many

    joined_many : length new.lines ≡ length new.placed
    joined_many =
        omega (
          arith,
          many,
          ap (λ (r : Roster). length r.lines) joined.is,
          ap (λ (r : Roster). length r.placed) joined.is,
          length-append old.lines (its_line ∷ []),
          length-append old.placed (joined.one ∷ []),
        )

    -- and the lines are those of the modules
    joined_lines : (named : List PlanModule)
        → old.lines ≡ map (module_line_of named) (loaded_of old.lines old.placed) → name ≡ planned_name named number
        → new.lines ≡ map (module_line_of named) (loaded_of new.lines new.placed)
    joined_lines named are name_is =
        let line_is : its_line ≡ module_line_of named its_module =
        ap (λ (xs : List ℕ). line_by number xs policy joined.one) name_is in
        ap (λ (r : Roster). r.lines) joined.is
        ∙ ap (λ (ls : List ModuleLine). ls ++ its_line ∷ []) are
        ∙ ap (λ (x : ModuleLine). map (module_line_of named) (loaded_of old.lines old.placed) ++ x ∷ []) line_is
        ∙ sym (map-append (module_line_of named) (loaded_of old.lines old.placed) (its_module ∷ []))
        ∙ ap (map (module_line_of named)) (sym joined_loaded)

  -- so the roster is the plan's still
  pub joined_roster : (plan : Plan) → IsRosterOf plan old → name ≡ planned_name plan.modules number
      → IsRosterOf plan new
  joined_roster plan is name_is = record {
    code_words_are = ap (λ (r : Roster). r.code_words) joined.is ∙ is.code_words_are;
    many = joined_many is.many;
    lines_are = joined_lines is.many plan.modules is.lines_are name_is;
  }
