-- Every image of modules that were loaded one after the other is closed.
use Rattle.std.proofs.Common.{◌≡◌, ◌⊎◌, inl, inr, ℕ, ◌+◌, ◌-◌, ◌*◌, ◌<◌, ◌≤◌, ℤ, pos, negsuc, true, false, List, [], ◌∷◌, length, take, drop, replicate, get_or, Some, All, ap, sym, subst, ◌∙◌, ⊎_elim, arith}
use Rattle.std.specs.List.{Contains, slice_get, AllByRecursion}
use Rattle.std.proofs.lemmas.Bool.{cases_lt}
use Rattle.std.proofs.lemmas.List.{take-append-drop}
use Rattle.std.proofs.lemmas.List.Elements.{All-contains, recursion_from_All, Contains-append_left}
use Rattle.std.proofs.lemmas.Option.{slice_get-get_or, slice_get_within, get_or_from_slice_get}
use Rattle.cfi_unit.specs.declared.unit.Unit.{Unit as CodeUnit}
use Rattle.cfi_unit.specs.declared.unit.Unit.TheVariants as units
use Rattle.cfi_unit.specs.Unit.{size_of}
use Rattle.cfi_unit.specs.Spots.{place_of}
use Rattle.cfi_unit.specs.declared.spot.Spot.{Spot}
use Rattle.cfi_unit.proofs.CodeLemmas.{UnitCode-one}
use Rattle.cfi_word.specs.declared.map.TheConstants.{FIRST_BASE}
use Rattle.cfi_aux.specs.declared.placed.Placed.{Placed}
use Rattle.cfi_aux.specs.declared.placed.PlacedFunction.{PlacedFunction}
use Rattle.cfi_aux.specs.declared.records.Kind.{Kind}
use Rattle.cfi_aux.specs.declared.records.Kind.TheVariants as kinds
use Rattle.cfi_flow.proofs.Members.{from_flat, from_map, member_cases}
use Rattle.cfi_graph.specs.Calls.{HasKind, IsFunction}
use Rattle.cfi_graph.specs.Code.{entry_of}
use Rattle.cfi_graph.specs.Direct.{DirectEdge, GoesTo}
use Rattle.cfi_graph.proofs.CallLemmas.{imported_function}
use Rattle.cfi_model.specs.Closed.{idle, StandsIn, IsStartOf, LeadsToStart, StaysInside}
use Rattle.cfi_verify.specs.Target.{LeadsTo, LeadsHome, LeadsToEntry, MayLead, entries_in}
use Rattle.cfi_verify.specs.Fault.{IsVerifiedAs}
use Rattle.cfi_modules.specs.Loaded.{AreAmong, IsVerifiedAmong, AreLoaded}
use Rattle.cfi_modules.proofs.EndLemmas.{spot_of, has as spot_there}
use Rattle.cfi_modules.proofs.BusyLemmas.{IsBusy, BeginsBusy, home_busy, entry_busy, idle_or_busy}
use Rattle.cfi_modules.proofs.JoinedLemmas.{IsChain, chain_of, HasUnits, joined, IsPartOf, part_of, of_module, place_left, there_left, from_right}
use Rattle.cfi_modules.proofs.TrimmedLemmas.{EndsUnlinked, IsTrimmed, AreIdleOrBusy, idle_goes_on, trim}
use Rattle.cfi_modules.proofs.InsideLemmas.{LeadsInside, leads_from, stays_inside}
use Rattle.cfi_modules.proofs.TargetLemmas.{returns_busy, switch_busy, slot_within}

-- what comes before a place of a list is in it
before : (ms : List Placed) (n : ℕ) (m : Placed) → Contains (take n ms) m → Contains ms m
before ms n m has =
    subst (λ (xs : List Placed). Contains xs m) (take-append-drop n ms)
    (Contains-append_left (take n ms) (drop n ms) m has)

module _ (code_words : ℕ) (ms : List Placed) (loaded : AreLoaded code_words ms) where
  pub here : (m : Placed) → (has : Contains ms m) → slice_get ms has.0 ≡ Some m
  here m has = slice_get-get_or ms has.0 m has.1 ∙ ap (λ (p : Placed). Some p) has.2

  pub verified : (m : Placed) → (has : Contains ms m) → IsVerifiedAmong (take has.0 ms) m
  verified m has = loaded.verified has.0 m (here m has)

  abbrev pub code : (m : Placed) → Contains ms m → List CodeUnit
  code m has = (verified m has).2.1.laid.units.code

  pub chain : IsChain FIRST_BASE 0 ms
  chain = chain_of ms FIRST_BASE 0 loaded.first loaded.next

  have_units : All HasUnits ms
  have_units = λ k d within.
      let v = loaded.verified k (get_or ms k d) (slice_get-get_or ms k d within) in
      record { code = v.2.1.laid.units.code; units = v.2.1.laid.units.units }

  pub all : AllByRecursion HasUnits ms
  all = recursion_from_All HasUnits ms have_units

  abbrev pub us : List CodeUnit
  us = joined ms all

  -- ---- the last unit that is not idle

  module _ (m : Placed) (has : Contains ms m) (part : IsPartOf FIRST_BASE us m) where
    same_code : part.code ≡ code m has
    same_code = UnitCode-one m.words part.code (code m has) part.units (verified m has).2.1.laid.units.units

    busy_of : (k : ℕ) → IsBusy (code m has) k → IsBusy us (part.before + k)
    busy_of k b = record {
      last = part.before + b.last;
      up = omega (arith, b.up);
      unit = b.unit;
      is = part.there b.last b.unit (ap (λ (xs : List CodeUnit). slice_get xs b.last) same_code ∙ b.is);
      ends = b.ends;
    }

    idle_or : (k : ℕ) (u : CodeUnit) → slice_get part.code k ≡ Some u → (u ≡ idle) ⊎ IsBusy us (part.before + k)
    idle_or k u is =
        let v = verified m has in
        let there : slice_get (code m has) k ≡ Some u =
        ap (λ (xs : List CodeUnit). slice_get xs k) (sym same_code) ∙ is in
        let within = slice_get_within (code m has) k u there in
        let unit = get_or_from_slice_get (code m has) k u u there in
        ⊎_elim (λ (e : get_or (code m has) k u ≡ idle). inl (sym unit ∙ e))
        (λ (b : IsBusy (code m has) k). inr (busy_of k b))
        (idle_or_busy m v.0 v.2.0 v.2.1 k u within)

  each : AreIdleOrBusy us
  each n u is =
      let o = of_module FIRST_BASE 0 ms all chain n u is in
      ⊎_elim (λ (e : u ≡ idle). inl e)
      (λ (b : IsBusy us (o.part.before + o.k)). inr (subst (IsBusy us) (sym o.number) b))
      (idle_or o.owner o.has o.part o.k u o.is)

  pub trimmed : IsTrimmed us
  trimmed = trim us each

  abbrev pub body : List CodeUnit
  body = trimmed.body

  abbrev pub rest : List CodeUnit
  rest = replicate trimmed.idles idle

  -- what is busy comes before the idle end
  in_body : (n : ℕ) → IsBusy us n → n < length body
  in_body n b = ⊎_elim (λ (less : b.last < length body). omega (arith, less, b.up))
      (λ (more : length body ≤ b.last).
      let there = subst (λ (xs : List CodeUnit). slice_get xs b.last ≡ Some b.unit) trimmed.same b.is in
      absurd (idle_goes_on trimmed.idles (b.last - length body) b.unit
      (from_right body rest b.last b.unit more there) b.ends))
      (cases_lt b.last (length body))

  place_in : (n : ℕ) → n ≤ length body → place_of us n ≡ place_of body n
  place_in n within = ap (λ (xs : List CodeUnit). place_of xs n) trimmed.same ∙ place_left body rest n within

  -- where a unit of a function begins, a start is
  pub start_at : (m : Placed) → (has : Contains ms m) → (at : ℕ) → BeginsBusy (code m has) at
      → IsStartOf body (4 * (m.base + at))
  start_at m has at begins =
      let part = part_of FIRST_BASE 0 ms all chain has.0 m (here m has) in
      let same = same_code m has part in
      let k = begins.0 in
      let number = part.before + k in
      let within = in_body number (busy_of m has part k begins.2) in
      let known = slice_get_within (code m has) begins.2.last begins.2.unit begins.2.is in (
        number,
        within,
        omega (
          arith,
          begins.1,
          part.place k (omega (arith, begins.2.up, known, ap (λ (xs : List CodeUnit). length xs) same)),
          ap (λ (xs : List CodeUnit). place_of xs k) same,
          place_in number (omega (arith, within)),
        ),
      )

  -- ---- where units lead

  leads : (address from : ℕ) (off : ℤ) (to : ℕ) → address ≡ 4 * from → LeadsTo from off to → IsStartOf body (4 * to)
      → LeadsToStart body address off
  leads address from (pos n) to is goes start =
      let same : 4 * to ≡ address + n = omega (arith, is, goes) in subst (IsStartOf body) same start
  leads address from (negsuc n) to is goes start = (4 * to, omega (arith, is, goes), start)

  owner_of : (m : Placed) → (has : Contains ms m) → (n : Placed) → Contains (m ∷ (verified m has).0) n → Contains ms n
  owner_of m has n there =
      let v = verified m has in
      ⊎_elim (λ (e : m ≡ n). subst (Contains ms) e has)
      (λ (c : Contains v.0 n).
      before ms has.0 n (All-contains (Contains (take has.0 ms)) v.0 n v.1 c))
      (member_cases m v.0 n there)

  module _ (m : Placed) (has : Contains ms m) (address at : ℕ) (is : address ≡ 4 * (m.base + at)) where
    abbrev live : List Placed
    live = (verified m has).0

    abbrev spots : List Spot
    spots = (verified m has).2.0

    abbrev v : IsVerifiedAs m live spots
    v = (verified m has).2.1

    home : (off : ℤ) → LeadsHome m spots at off → LeadsToStart body address off
    home off goes =
        let to = goes.0 in
        let h = goes.2 in
        leads address (m.base + at) off (m.base + to) is (leads_from m.base at off to goes.1)
        (start_at m has to (home_busy m live spots v h.home h.has to h.lies h.unit))

    entry : (off : ℤ) → LeadsToEntry m live at off → LeadsToStart body address off
    entry off goes =
        let n = from_flat entries_in (m ∷ live) goes.0 goes.2 in
        let f = from_map (λ g. (n.0).base + g.first) (n.0).functions goes.0 n.2 in
        let there = owner_of m has n.0 n.1 in
        let w = verified n.0 there in
        let start = start_at n.0 there (f.0).first (entry_busy n.0 w.0 w.2.0 w.2.1 f.0 f.1) in
        leads address (m.base + at) off goes.0 is goes.1
        (subst (λ (to : ℕ). IsStartOf body (4 * to)) f.2 start)

    inside : (slots k : ℕ) (unit : CodeUnit) → m.slot_base + length m.branches ≤ slots
        → slice_get (code m has) k ≡ Some unit → MayLead m live spots at unit → LeadsInside body slots address unit
    inside slots k (units.Branch cond rs1 rs2 off) few there may = home off may
    inside slots k (units.Jump true off) few there may = entry off may
    inside slots k (units.Jump false off) few there may = ⊎_elim (home off) (entry off) may
    inside slots k (units.Plain insn) few there may = tt
    inside slots k (units.Load kind rd rs1 imm) few there may = tt
    inside slots k (units.Store kind rs1 rs2 imm) few there may = tt
    inside slots k (units.Check link rs1 imm slot) few there may =
        omega (arith, few, slot_within m live spots v k link rs1 imm slot there)
    inside slots k units.Service few there may = tt

  module _ (slots : ℕ) (few : (m : Placed) → Contains ms m → m.slot_base + length m.branches ≤ slots) where
    not_empty : (number : ℕ) (unit : CodeUnit) → slice_get body number ≡ Some unit → EndsUnlinked body
    not_empty number unit is = ⊎_elim
        (λ (none : body ≡ []).
        absurd (omega (arith, slice_get_within body number unit is, ap (λ (xs : List CodeUnit). length xs) none)))
        (λ (ends : EndsUnlinked body). ends) trimmed.ends

    -- each unit of the body leads to starts
    pub stays : (address : ℕ) (unit : CodeUnit) → StandsIn body address unit → StaysInside body slots address unit
    stays address unit stands =
        let n = stands.0 in
        let within = slice_get_within body n unit stands.1 in
        let there : slice_get us n ≡ Some unit =
        ap (λ (xs : List CodeUnit). slice_get xs n) trimmed.same ∙ there_left body rest n unit stands.1 in
        let o = of_module FIRST_BASE 0 ms all chain n unit there in
        let m = o.owner in
        let has = o.has in
        let v = verified m has in
        let same = same_code m has o.part in
        let here_too : slice_get (code m has) o.k ≡ Some unit =
        ap (λ (xs : List CodeUnit). slice_get xs o.k) (sym same) ∙ o.is in
        let inside_too = slice_get_within (code m has) o.k unit here_too in
        let at = place_of (code m has) o.k in
        let is : address ≡ 4 * (m.base + at) =
        omega (
          arith,
          stands.2,
          place_in n (omega (arith, within)),
          ap (place_of us) o.number,
          o.part.place o.k (omega (arith, inside_too, ap (λ (xs : List CodeUnit). length xs) same)),
          ap (λ (xs : List CodeUnit). place_of xs o.k) same,
        ) in
        let spot = spot_there m v.0 v.2.0 v.2.1 o.k unit inside_too in
        let may = v.2.1.targets spot.0 (spot_of at (get_or (code m has) o.k unit))
        (slice_get-get_or v.2.0 spot.0 (spot_of at (get_or (code m has) o.k unit)) spot.1
        ∙ ap (λ (s : Spot). Some s) spot.2) in
        stays_inside body (not_empty n unit stands.1) slots address unit stands
        (inside m has address at is slots o.k unit (few m has) here_too
        (subst (MayLead m v.0 v.2.0 at) (get_or_from_slice_get (code m has) o.k unit unit here_too) may))

  -- ---- what branches may go to

  -- of some of the modules
  module _ (live : List Placed) (among : AreAmong live ms) where
    known : (m : Placed) → Contains live m → Contains ms m
    known m has = All-contains (Contains ms) live m among has

    -- the word of a module at which a unit of a function begins
    pub record BeginsIn (address : ℕ) : Type 0 where
      pub owner : Placed
      pub there : Contains ms owner
      pub at : ℕ
      pub is : address ≡ 4 * (owner.base + at)
      pub busy : BeginsBusy (code owner there) at

    entered : (n : Placed) (f : PlacedFunction) (address : ℕ) → IsFunction live n f → address ≡ entry_of n f
        → BeginsIn address
    entered n f address is entry =
        let there = known n is.placed in
        let v = verified n there in
        record {
          owner = n;
          there = there;
          at = f.first;
          is = entry;
          busy = entry_busy n v.0 v.2.0 v.2.1 f is.function;
        }

    goes : (m : Placed) → Contains live m → (slot at : ℕ) (kind : Kind) (address : ℕ) → HasKind m slot kind
        → GoesTo live m at kind address → BeginsIn address
    goes m has slot at (kinds.Call node) address kind to = entered to.owner to.function address to.is to.entry
    goes m has slot at (kinds.Tail node) address kind to = entered to.owner to.function address to.is to.entry
    goes m has slot at (kinds.Import name cell) address kind to =
        entered to.owner to.function address (imported_function live name to.owner to.function to.is) to.entry
    goes m has slot at kinds.Return address kind to =
        let call = to.returns in
        let there = known call.caller call.placed in
        let v = verified call.caller there in
        record {
          owner = call.caller;
          there = there;
          at = call.at + size_of call.unit;
          is = call.after;
          busy = returns_busy call.caller v.0 v.2.0 v.2.1 call.at call.unit to.owner to.entered call.stands call.call;
        }
    goes m has slot at (kinds.Switch entries) address kind to =
        let there = known m has in
        let v = verified m there in
        let entry = switch_busy m v.0 v.2.0 v.2.1 slot to.0 entries kind to.1 in
        record {
          owner = m;
          there = there;
          at = entry.0;
          is = omega (arith, to.2, entry.1);
          busy = entry.2;
        }

    pub edge_begins : (slot address : ℕ) → DirectEdge live slot address → BeginsIn address
    edge_begins slot address edge = goes edge.owner edge.placed slot edge.at edge.kind address edge.has edge.goes

    pub edge_start : (slot address : ℕ) → DirectEdge live slot address → IsStartOf body address
    edge_start slot address edge =
        let b = edge_begins slot address edge in
        subst (IsStartOf body) (sym b.is) (start_at b.owner b.there b.at b.busy)
