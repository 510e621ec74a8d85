-- The seats of guests while they are opened, one after the other.
use Rattle.std.proofs.Common.{◌≡◌, ℕ, zero, suc, ◌+◌, ◌<◌, ◌≤◌, Bool, true, false, cond, List, [], ◌∷◌, length, replicate, sym, ap, subst, ◌∙◌, ⊎_elim, arith}
use Rattle.std.specs.Prelude.{count_by, slice_set}
use Rattle.std.proofs.lemmas.Bool.{cases_lt, false≢true}
use Rattle.std.proofs.lemmas.List.{get_or-replicate, get_or_past, get_or-set_other, get_or-set_same, length-set}
use Rattle.std.proofs.lemmas.List.Sums.{sum_by-cons}
use Rattle.cfi_aux.specs.declared.modules.Module.{Module}
use Rattle.cfi_loader.specs.Ledger.{Ledger, IsLedger}
use Rattle.cfi_loader.specs.Passes.{with_keeping}
use Rattle.cfi_loader.specs.Start.{Started, IsStarted}
use Rattle.cfi_plan.specs.declared.plan.Plan.{Plan}
use Rattle.cfi_tables.specs.Keeping.{Keeping, IsFree, is_out, let_out}
use Rattle.cfi_tables.specs.Key.{Key}
use Rattle.cfi_word.specs.declared.limits.TheConstants.{GUESTS}
use Rattle.cfi_engine.specs.Guests.{IsOpenedTo}

abbrev is_one : Bool → Bool
is_one out = out

abbrev bit : Bool → ℕ
bit out = cond out 1 0

-- no more are out than those below a number
pub few_out : (out : List Bool) (number : ℕ) → ((guest : ℕ) → number ≤ guest → is_out out guest ≡ false)
    → count_by is_one out ≤ number
few_out [] number free = omega arith
few_out (b ∷ out) zero free =
    let none : b ≡ false = free 0 (omega arith) in
    let rest = few_out out zero (λ guest least. free (suc guest) (omega arith)) in
    let count : count_by is_one (b ∷ out) ≡ bit b + count_by is_one out = sum_by-cons bit b out in
    let zero_bit : bit b ≡ 0 = ap bit none in
    omega (arith, rest, count, zero_bit)
few_out (b ∷ out) (suc number) free =
    let rest = few_out out number (λ guest least. free (suc guest) (omega (arith, least))) in
    let count : count_by is_one (b ∷ out) ≡ bit b + count_by is_one out = sum_by-cons bit b out in
    omega (arith, rest, count, most b)
  where
    most : (one : Bool) → bit one ≤ 1
    most true = omega arith
    most false = omega arith

-- the least that is not is the number
pub next_free : (out : List Bool) (number guest : ℕ) → ((other : ℕ) → other < number → is_out out other ≡ true)
    → ((other : ℕ) → number ≤ other → is_out out other ≡ false) → IsFree out guest → guest ≡ number
next_free out number guest all free is = ⊎_elim
    (λ (less : guest < number). absurd (false≢true (sym is.free ∙ all guest less)))
    (λ (more : number ≤ guest). ⊎_elim
    (λ (greater : number < guest). absurd (false≢true (sym (free number (omega arith)) ∙ is.least number greater)))
    (λ (least : guest ≤ number). omega (arith, more, least))
    (cases_lt number guest))
    (cases_lt guest number)

-- when it is
module _ (out : List Bool) (number : ℕ) (seats : length out ≡ GUESTS) (few : number < GUESTS)
    (all : (guest : ℕ) → guest < number → is_out out guest ≡ true)
    (free : (guest : ℕ) → number ≤ guest → is_out out guest ≡ false) where
  abbrev more : List Bool
  more = slice_set out number true

  pub more_out : (guest : ℕ) → guest < number + 1 → is_out more guest ≡ true
  more_out guest less = ⊎_elim
      (λ (below : guest < number).
      get_or-set_other out number guest true false (λ same. omega (arith, same, below)) ∙ all guest below)
      (λ (least : number ≤ guest).
      let same : guest ≡ number = omega (arith, less, least) in
      ap (λ (n : ℕ). is_out more n) same ∙ get_or-set_same out number true false (omega (arith, seats, few)))
      (cases_lt guest number)

  pub others_free : (guest : ℕ) → number + 1 ≤ guest → is_out more guest ≡ false
  others_free guest least =
      get_or-set_other out number guest true false (λ same. omega (arith, same, least))
      ∙ free guest (omega (arith, least))

  pub seats_stay : length more ≡ GUESTS
  seats_stay = length-set out number true ∙ seats

-- ---- the guests that are opened

-- none is at the start
pub none_opened : (plan : Plan) (modules : List Module) (s : Started) → IsStarted plan modules s
    → IsOpenedTo plan modules 0 s.ledger
none_opened plan modules s started =
    let out : s.ledger.keeping.out ≡ replicate GUESTS false =
    ap (λ (keeping : Keeping). keeping.out) started.keeping_is in
    record {
      opens = started.opens;
      untold = started.journal_is;
      seats = ap length out;
      out = λ guest none. absurd (omega arith);
      free = λ guest least.
          ap (λ (seats : List Bool). is_out seats guest) out ∙ free_seat guest;
    }
  where
    free_seat : (guest : ℕ) → is_out (replicate GUESTS false) guest ≡ false
    free_seat guest = ⊎_elim
        (λ (less : guest < GUESTS). get_or-replicate GUESTS guest false false less)
        (λ (more : GUESTS ≤ guest). get_or_past (replicate GUESTS false) guest false more)
        (cases_lt guest GUESTS)

-- one more is
pub next_opened : (k : Key) (plan : Plan) (modules : List Module) (number guest : ℕ) (l : Ledger)
    → IsLedger k plan modules l → IsOpenedTo plan modules number l → number < length plan.guests → guest ≡ number
    → IsOpenedTo plan modules (number + 1) (with_keeping (let_out k guest l.keeping) l)
next_opened k plan modules number guest l is opened within same =
    let guests : length l.course.plan.guests ≡ length plan.guests =
    ap (λ (p : Plan). length p.guests) is.plan_is in
    let few : number < GUESTS = omega (arith, within, guests, is.can_start.most_guests) in
    let out = l.keeping.out in
    subst (λ (n : ℕ). IsOpenedTo plan modules (number + 1) (with_keeping (let_out k n l.keeping) l)) (sym same) (record {
      opens = opened.opens;
      untold = opened.untold;
      seats = seats_stay out number opened.seats few opened.out opened.free;
      out = more_out out number opened.seats few opened.out opened.free;
      free = others_free out number opened.seats few opened.out opened.free;
    })
