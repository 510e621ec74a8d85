-- A part that verifies, seen in the whole: its units stand so many words further on, and among them nothing else.
use Rattle.std.proofs.Common.{◌≡◌, ◌⊎◌, ◌∙◌, ℕ, ◌+◌, ◌*◌, ◌^◌, ◌<◌, ◌≤◌, ℤ, pos, negsuc, Bool, true, false, List, [], ◌∷◌, length, map, refl, sym, ap, subst, ⊎_elim, inl, inr, arith}
use Rattle.std.specs.Prelude.{IsTrue}
use Rattle.std.specs.List.{Contains}
use Rattle.std.proofs.lemmas.Bool.{and_parts, ltb-true}
use Rattle.std.proofs.lemmas.List.Elements.{All-weaker, All-map}
use Rattle.cfi_type_table.specs.Node.{Node}
use Rattle.cfi_type_table.specs.Kind.{is_callable}
use Rattle.cfi_aux.specs.Extent.{end_of, LiesIn}
use Rattle.cfi_aux.specs.Records.{AllEntries}
use Rattle.cfi_aux.specs.declared.placed.Placed.{Placed}
use Rattle.cfi_aux.specs.declared.placed.PlacedFunction.{PlacedFunction}
use Rattle.cfi_aux.specs.declared.records.Kind.{Kind}
use Rattle.cfi_aux.specs.declared.records.Kind.TheVariants.{Call, Tail, Return, Switch, Import}
use Rattle.cfi_unit.specs.declared.unit.Unit.{Unit as CodeUnit}
use Rattle.cfi_unit.specs.declared.unit.Unit.TheVariants as units
use Rattle.cfi_unit.specs.declared.spot.Spot.{Spot}
use Rattle.cfi_unit.specs.Spots.{BeginsUnit}
use Rattle.cfi_link.specs.declared.start.Start.{Start}
use Rattle.cfi_link.specs.Joined.{shifted, branch_at}
use Rattle.cfi_verify.specs.declared.checks.CheckSpot.{CheckSpot}
use Rattle.cfi_verify.specs.Functions.{IsIdle, IsLastIn, EndsWell}
use Rattle.cfi_verify.specs.Target.{LeadsTo, IsAtHome, entries_of, LeadsHome, LeadsToEntry, MayLead}
use Rattle.cfi_verify.specs.Branches.{IsKindOf, IsEntry}
use Rattle.cfi_verify_law.proofs.MovedLemmas.{moved, moved_check}
use Rattle.cfi_verify_law.proofs.LinkedRowLemmas.{FitsIn, Lie, HasBranch, HaveBranches}

-- a function of a part, so many words further on in the whole, and its type so many nodes further on
pub record IsMoved (n t : ℕ) (f g : PlacedFunction) : Type 0 where
  pub first : g.first ≡ n + f.first
  pub count : g.count ≡ f.count
  pub ty : g.ty ≡ t + f.ty

-- functions that are so, one by one
abbrev pub AreMoved : (n t : ℕ) → List PlacedFunction → List PlacedFunction → Type 0
AreMoved n t [] [] = Unit {0}
AreMoved n t [] (g ∷ gs) = ⊥
AreMoved n t (f ∷ fs) [] = ⊥
AreMoved n t (f ∷ fs) (g ∷ gs) = IsMoved n t f g × AreMoved n t fs gs

-- a part stands in the whole: its units from the word `n` on, its types from the node that the start names on, its
-- functions among those of the whole; and where its jumps may lead to a function, those of the whole may
pub record StandsIn (part whole : Placed) (done before : List Placed) (S W : List Spot) (n : ℕ) (start : Start)
    : Type 0 where
  pub has : (s : Spot) → Contains S s → Contains W (moved n s)
  pub inside : (s : Spot) → Contains S s → s.at < length part.words
  pub only : (w : Spot) → Contains W w → n ≤ w.at → w.at < n + length part.words
      → (s : Spot) × Contains S s × (w ≡ moved n s)
  pub next : (n + length part.words ≡ length whole.words) ⊎ BeginsUnit W (n + length part.words)
  pub within : n + length part.words ≤ length whole.words
  pub base : part.base ≡ whole.base + n
  pub text : start.text ≡ 4 * n
  pub small : 4 * length whole.words < 2 ^ 32
  pub table : start.types + length part.types < 2 ^ 32
  pub callable : (k : ℕ) → IsTrue (is_callable part.types k) → IsTrue (is_callable whole.types (start.types + k))
  pub homes : (f : PlacedFunction) → Contains part.functions f
      → (g : PlacedFunction) × Contains whole.functions g × IsMoved n start.types f g
  pub entries : (to : ℕ) → Contains (entries_of (part ∷ done)) to → Contains (entries_of (whole ∷ before)) to

-- a number that fits is not cut
pub shifted-fits : (by number : ℕ) → by + number < 2 ^ 32 → shifted by number ≡ by + number
shifted-fits by number fits = omega (arith, fits)

pub node-there : (types : List Node) (k : ℕ) → IsTrue (is_callable types k) → k < length types
node-there types k is = ltb-true k (length types) (and_parts _ _ is).0

leads-on : (n at to : ℕ) (off : ℤ) → LeadsTo at off to → LeadsTo (n + at) off (n + to)
leads-on n at to (pos k) leads = omega (arith, leads)
leads-on n at to (negsuc k) leads = omega (arith, leads)

module _ (part whole : Placed) (done before : List Placed) (S W : List Spot) (n : ℕ) (start : Start)
    (s : StandsIn part whole done before S W n start) where
  -- ---- functions

  begins : (a b : ℕ) → b ≡ n + a → BeginsUnit S a → BeginsUnit W b
  begins a b is u = (moved n u.0, s.has u.0 u.1, omega (arith, u.2, is))

  idle : (a b from to : ℕ) → from ≡ n + a → to ≡ n + b → b ≤ length part.words → IsIdle S a b → IsIdle W from to
  idle a b from to one other within quiet = λ w has low high.
      let found = s.only w has (omega (arith, one, low)) (omega (arith, other, high, within)) in
      let at : w.at ≡ n + found.0.at = ap (λ (x : Spot). x.at) found.2 in
      ap (λ (x : Spot). x.unit) found.2
      ∙ quiet found.0 found.1 (omega (arith, one, low, at)) (omega (arith, other, high, at))

  lies : (f g : PlacedFunction) → IsMoved n start.types f g → (a b : ℕ) → b ≡ n + a → LiesIn f a → LiesIn g b
  lies f g is a b at l = (omega (arith, is.first, at, l.0), omega (arith, is.first, is.count, at, l.1))

  last : (f g : PlacedFunction) → IsMoved n start.types f g → end_of f ≤ length part.words → EndsWell S 0 f
      → EndsWell W 0 g
  last f g is within e =
      let at : IsLastIn W g (moved n e.0) = record {
        has = s.has e.0 e.1.has;
        lies = lies f g is e.0.at (n + e.0.at) refl e.1.lies;
        last = λ other has l.
            let found = s.only other has (omega (arith, is.first, l.0))
            (omega (arith, is.first, is.count, l.1, within)) in
            let place : other.at ≡ n + found.0.at = ap (λ (x : Spot). x.at) found.2 in
            let inside : LiesIn f found.0.at =
            (omega (arith, is.first, place, l.0), omega (arith, is.first, is.count, place, l.1)) in
            omega (arith, place, e.1.last found.0 found.1 inside);
      } in
      (moved n e.0, at, e.2)

  fits : (a from : ℕ) (f g : PlacedFunction) → IsMoved n start.types f g → from ≡ n + a → FitsIn part S a f
      → FitsIn whole W from g
  fits a from f g is at old =
      let o = old.fits in
      let within = o.within in
      let room = s.within in
      let ends : (end_of g ≡ length whole.words) ⊎ BeginsUnit W (end_of g) =
      ⊎_elim
      (λ (e : end_of f ≡ length part.words).
      ⊎_elim
      (λ (all : n + length part.words ≡ length whole.words). inl (omega (arith, is.first, is.count, e, all)))
      (λ (more : BeginsUnit W (n + length part.words)).
      inr (more.0, more.1, omega (arith, more.2, is.first, is.count, e)))
      s.next)
      (λ (u : BeginsUnit S (end_of f)).
      inr (begins (end_of f) (end_of g) (omega (arith, is.first, is.count)) u))
      o.ends in
      record {
        fits = record {
          some = omega (arith, is.count, o.some);
          order = omega (arith, is.first, at, o.order);
          within = omega (arith, is.first, is.count, within, room);
          begins = begins f.first g.first is.first o.begins;
          ends = ends;
          typed = subst (λ (k : ℕ). IsTrue (is_callable whole.types k)) (sym is.ty) (s.callable f.ty o.typed);
          idle = idle a f.first from g.first at is.first (omega (arith, within, o.some)) o.idle;
        };
        last = last f g is within old.last;
      }

  pub lie : (a b from to : ℕ) (fs gs : List PlacedFunction) → AreMoved n start.types fs gs → from ≡ n + a → to ≡ n + b
      → b ≤ length part.words → Lie part S a b fs → Lie whole W from to gs
  lie a b from to [] [] are one other within l =
      (omega (arith, one, other, l.0), idle a b from to one other within l.1)
  lie a b from to [] (g ∷ gs) are one other within l = absurd are
  lie a b from to (f ∷ fs) [] are one other within l = absurd are
  lie a b from to (f ∷ fs) (g ∷ gs) are one other within l = (
    fits a from f g are.0 one l.0,
    lie (end_of f) b (end_of g) to fs gs are.1 (omega (arith, are.0.first, are.0.count)) other within l.1,
  )

  -- ---- jumps

  home : (a b : ℕ) → IsAtHome part.functions S a b → IsAtHome whole.functions W (n + a) (n + b)
  home a b h =
      let there = s.homes h.home h.has in
      record {
        home = there.0;
        has = there.1;
        from = lies h.home there.0 there.2 a (n + a) refl h.from;
        lies = lies h.home there.0 there.2 b (n + b) refl h.lies;
        unit = begins b (n + b) refl h.unit;
      }

  goes-home : (a : ℕ) (off : ℤ) → LeadsHome part S a off → LeadsHome whole W (n + a) off
  goes-home a off l = (n + l.0, leads-on n a l.0 off l.1, home a l.0 l.2)

  goes-in : (a : ℕ) (off : ℤ) → LeadsToEntry part done a off → LeadsToEntry whole before (n + a) off
  goes-in a off l =
      let same : part.base + a ≡ whole.base + (n + a) = omega (arith, s.base) in
      (l.0, subst (λ (k : ℕ). LeadsTo k off l.0) same l.1, s.entries l.0 l.2)

  pub leads : (a : ℕ) (unit : CodeUnit) → MayLead part done S a unit → MayLead whole before W (n + a) unit
  leads a (units.Branch cond rs1 rs2 off) l = goes-home a off l
  leads a (units.Jump true off) l = goes-in a off l
  leads a (units.Jump false off) l =
      ⊎_elim (λ (h : LeadsHome part S a off). inl (goes-home a off h))
      (λ (e : LeadsToEntry part done a off). inr (goes-in a off e)) l
  leads a (units.Plain insn) l = tt
  leads a (units.Load kind rd rs1 imm) l = tt
  leads a (units.Store kind rs1 rs2 imm) l = tt
  leads a (units.Check link rs1 imm slot) l = tt
  leads a units.Service l = tt

  -- ---- checks

  callable-at : (k : ℕ) → k < length part.types → IsTrue (is_callable part.types k)
      → IsTrue (is_callable whole.types (shifted start.types k))
  callable-at k less is =
      subst (λ (j : ℕ). IsTrue (is_callable whole.types j))
      (sym (shifted-fits start.types k (omega (arith, less, s.table)))) (s.callable k is)

  kind : (link : Bool) (b : Kind) → IsKindOf part.types link b → IsKindOf whole.types link (branch_at start b)
  kind true (Call node) is = callable-at node (node-there part.types node is) is
  kind true (Tail node) is = absurd is
  kind true Return is = absurd is
  kind true (Switch entries) is = absurd is
  kind true (Import name cell) is = absurd is
  kind false (Call node) is = absurd is
  kind false (Tail node) is = callable-at node (node-there part.types node is) is
  kind false Return is = tt
  kind false (Switch entries) is = tt
  kind false (Import name cell) is = tt

  entry : (a offset : ℕ) → IsEntry part S a offset → IsEntry whole W (n + a) (shifted start.text offset)
  entry a offset e =
      let h = home a e.0 e.2 in
      let unit = e.2.unit in
      let inside : e.0 < length part.words = omega (arith, s.inside unit.0 unit.1, unit.2) in
      let fits : start.text + offset < 2 ^ 32 = omega (arith, s.text, e.1, inside, s.within, s.small) in
      (n + e.0, shifted-fits start.text offset fits ∙ omega (arith, s.text, e.1), h)

  entries : (a : ℕ) (b : Kind) → AllEntries (IsEntry part S a) b
      → AllEntries (IsEntry whole W (n + a)) (branch_at start b)
  entries a (Call node) all = tt
  entries a (Tail node) all = tt
  entries a Return all = tt
  entries a (Import name cell) all = tt
  entries a (Switch places) all =
      All-map (IsEntry whole W (n + a)) (shifted start.text) places
      (All-weaker (IsEntry part S a) (λ (e : ℕ). IsEntry whole W (n + a) (shifted start.text e)) (λ e is. entry a e is)
      places all)

  pub have : (slot : ℕ) (cs : List CheckSpot) (bs : List Kind) → HaveBranches part S slot cs bs
      → HaveBranches whole W slot (map (moved_check n) cs) (map (branch_at start) bs)
  have slot [] [] h = tt
  have slot [] (b ∷ bs) h = absurd h
  have slot (c ∷ cs) [] h = absurd h
  have slot (c ∷ cs) (b ∷ bs) h =
      let one : HasBranch whole W slot (moved_check n c) (branch_at start b) = record {
        here = h.0.here;
        kind = kind c.link b h.0.kind;
        entries = entries c.at b h.0.entries;
      } in
      (one, have (slot + 1) cs bs h.1)
