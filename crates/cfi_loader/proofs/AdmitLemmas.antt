-- Passes that are out.
use Rattle.std.proofs.Common.{◌≡◌, ℕ, zero, suc, ◌+◌, ◌<◌, ◌≤◌, Bool, true, false, cond, List, [], ◌∷◌, length, get_or, sym, ap, subst, ◌∙◌, ⊎_elim, arith}
use Rattle.std.specs.Prelude.{count_by, slice_set}
use Rattle.std.proofs.lemmas.Bool.{cases_lt, false≢true}
use Rattle.std.proofs.lemmas.List.{get_or-set_other, get_or-set_same, get_or_past, length-set}
use Rattle.std.proofs.lemmas.List.Sums.{sum_by-cons}
use Rattle.cfi_aux.specs.declared.modules.Module.{Module}
use Rattle.cfi_plan.specs.declared.plan.Plan.{Plan}
use Rattle.cfi_slips.specs.Stubs.{Sheet, issued}
use Rattle.cfi_tables.specs.Key.{Key}
use Rattle.cfi_tables.specs.declared.view.Quiets.{Quiets}
use Rattle.cfi_tables.specs.Keeping.{Keeping, AreAllOut, IsFree, heard_as, heard_of, is_out, let_in, let_out}
use Rattle.cfi_word.specs.declared.limits.TheConstants.{GUESTS}
use Rattle.cfi_ledger.specs.declared.books.Books.{Books}
use Rattle.cfi_loader.specs.inner.Books.{BooksAgree, IsLoader}
use Rattle.cfi_loader.proofs.SlipLemmas.{agree_issued}

-- ---- passes

abbrev is_one : Bool → Bool
is_one out = out

abbrev bit : Bool → ℕ
bit out = cond out 1 0

-- as many are out as the first of which each is
pub first_out : (out : List Bool) (n : ℕ) → ((other : ℕ) → other < n → is_out out other ≡ true)
    → n ≤ count_by is_one out
first_out out zero all = omega arith
first_out [] (suc n) all = absurd (false≢true (all 0 (omega arith)))
first_out (b ∷ out) (suc n) all =
    let here : b ≡ true = all 0 (omega arith) in
    let rest = first_out out n (λ other less. all (suc other) (omega (arith, less))) in
    let count : count_by is_one (b ∷ out) ≡ bit b + count_by is_one out = sum_by-cons bit b out in
    let one : bit b ≡ 1 = ap bit here in
    omega (arith, rest, count, one)

pub free_below : (out : List Bool) (guest n : ℕ) → IsFree out guest → count_by is_one out < n → guest < n
free_below out guest n free few = omega (arith, first_out out guest free.least, few)

pub not_all_out : (out : List Bool) (n : ℕ) → count_by is_one out < n → n ≤ GUESTS → AreAllOut out → ⊥
not_all_out out n few most all = omega (arith, first_out out GUESTS all, few, most)

-- ---- a pass goes out, or comes back

-- the guest's pass is another's, or was changed
out_other : (out : List Bool) (guest other : ℕ) (b : Bool) (n : ℕ)
    → ((one : ℕ) → is_out out one ≡ true → one < n) → (b ≡ true → guest < n)
    → is_out (slice_set out guest b) other ≡ true → other < n
out_other out guest other b n before here there = ⊎_elim
    (λ (less : other < guest). before other
    (sym (get_or-set_other out guest other b false (λ same. omega (arith, same, less))) ∙ there))
    (λ (more : guest ≤ other). ⊎_elim
    (λ (greater : guest < other). before other
    (sym (get_or-set_other out guest other b false (λ same. omega (arith, same, greater))) ∙ there))
    (λ (least : other ≤ guest).
    let same : guest ≡ other = omega (arith, more, least) in
    ⊎_elim
    (λ (within : guest < length out).
    let is : b ≡ true =
    sym (get_or-set_same out guest b false within)
    ∙ ap (λ (k : ℕ). get_or (slice_set out guest b) k false) same ∙ there in
    omega (arith, same, here is))
    (λ (past : length out ≤ guest).
    let none = get_or_past (slice_set out guest b) other false
    (omega (arith, past, same, length-set out guest b)) in
    absurd (false≢true (sym none ∙ there)))
    (cases_lt guest (length out)))
    (cases_lt guest other))
    (cases_lt other guest)

-- the books agree with a keeper that has another pass out
pub passes_kept : (k : Key) (b : Books) (keeping : Keeping) (out : List Bool) (quiets : Quiets) → BooksAgree k b keeping
    → ((one : ℕ) → is_out out one ≡ true → one < length b.plan.guests)
    → BooksAgree k b (record keeping { out = out; quiets = quiets })
passes_kept k b keeping out quiets kept guests =
    let is = kept.ledger in
    let told = is.told in
    record {
      ledger = record {
        plan_is = is.plan_is;
        modules_are = is.modules_are;
        can_start = is.can_start;
        tables_are = is.tables_are;
        course = is.course;
        policies = is.policies;
        entries = is.entries;
        told = record {
          tables = told.tables;
          epoch = told.epoch;
          policy = told.policy;
          images = told.images;
          marks = told.marks;
          epochs = told.epochs;
          refusals = told.refusals;
          guests = guests;
        };
        script = is.script;
      };
      roster_is = kept.roster_is;
      filled = kept.filled;
      layout_is = kept.layout_is;
      book_is = kept.book_is;
      image_is = kept.image_is;
      flags_are = kept.flags_are;
      found_are = kept.found_are;
    }

pub out_kept : (k : Key) (b : Books) (keeping : Keeping) (guest : ℕ) → BooksAgree k b keeping
    → guest < length b.plan.guests → BooksAgree k b (let_out k guest keeping)
out_kept k b keeping guest kept known =
    passes_kept k b keeping (slice_set keeping.out guest true)
    (heard_as guest (k.first + length keeping.entries) keeping.quiets) kept
    (λ one there.
    out_other keeping.out guest one true (length b.plan.guests) kept.ledger.told.guests (λ _. known) there)

pub in_kept : (k : Key) (b : Books) (keeping : Keeping) (guest : ℕ) → BooksAgree k b keeping
    → BooksAgree k b (let_in guest keeping)
in_kept k b keeping guest kept =
    passes_kept k b keeping (slice_set keeping.out guest false) (heard_as guest 0 keeping.quiets) kept
    (λ one there.
    out_other keeping.out guest one false (length b.plan.guests) kept.ledger.told.guests
    (λ same. absurd (false≢true same)) there)

-- and what a note leaves
pub heard_kept : (k : Key) (plan : Plan) (modules : List Module) (b : Books) (old new : Keeping) (guest quiet : ℕ)
    (sheet : Sheet) → IsLoader k plan modules b old sheet → new ≡ heard_of guest quiet old
    → IsLoader k plan modules b new sheet
heard_kept k plan modules b old new guest quiet sheet is heard = record {
  kept = subst (BooksAgree k b) (sym heard) (passes_kept k b old old.out (heard_as guest (quiet + 1) old.quiets) is.kept
      is.kept.ledger.told.guests);
  plan_is = is.plan_is;
  modules_are = is.modules_are;
  slips = record { told = is.slips.told; out = is.slips.out ∙ sym (ap (λ (x : Keeping). x.out) heard) };
}

-- what an admission leaves, and the slip that is issued then
pub admission_kept : (k : Key) (plan : Plan) (modules : List Module) (b : Books) (old new : Keeping) (guest : ℕ)
    (sheet after : Sheet) → IsLoader k plan modules b old sheet → count_by is_one old.out < length plan.guests
    → IsFree old.out guest → new ≡ let_out k guest old → after ≡ issued guest sheet
    → IsLoader k plan modules b new after
admission_kept k plan modules b old new guest sheet after is few free out slip =
    let known : guest < length b.plan.guests =
    subst (λ (p : Plan). guest < length p.guests) (sym is.plan_is)
    (free_below old.out guest (length plan.guests) free few) in
    record {
      kept = subst (BooksAgree k b) (sym out) (out_kept k b old guest is.kept known);
      plan_is = is.plan_is;
      modules_are = is.modules_are;
      slips = agree_issued b old new guest sheet after is.slips k out slip;
    }
