-- Which modules are live, where none came and none was retired with a policy above the one in force: those whose number
-- was not retired. So it is with one module more, and with one retired.
use Rattle.std.proofs.Common.{◌≡◌, ◌≢◌, ℕ, zero, suc, pred, ◌+◌, ◌<◌, ◌≤◌, ◌==◌, ◌&&◌, Bool, true, false, cond, List, [], ◌∷◌, ◌++◌, length, map, All, Some, refl, sym, ap, subst, ◌∙◌, ⊎_elim, arith}
use Rattle.std.specs.Prelude.{nat_le, not, ◌||◌, filter, slice_set}
use Rattle.std.specs.List.{AllPairs, AllByRecursion, list_any, slice_get}
use Rattle.std.proofs.lemmas.Bool.{cases_lt, eq-eqb, le-leb, ne_eqb}
use Rattle.std.proofs.lemmas.List.{map-append}
use Rattle.std.proofs.lemmas.List.Elements.{All-weaker, filter-append}
use Rattle.std.proofs.lemmas.List.Folds.{list_any-append, list_any_none}
use Rattle.std.proofs.lemmas.Option.{get_or_from_slice_get, slice_get_within}
use Rattle.cfi_valid.specs.Growth.{AreUpTo}
use Rattle.cfi_valid.specs.Journal.{JournalState, members_of, live_in}
use Rattle.cfi_valid.specs.Loaded.{LoadedModule, IsLoaded, is_retired_by, is_live, live_flags}
use Rattle.cfi_valid.specs.declared.retirement.Retirement.{Retirement}
use Rattle.cfi_valid.proofs.LiveLemmas.{and_true, or_false}

-- ---- tests

or_true : (a b : Bool) → b ≡ true → a || b ≡ true
or_true true b is = refl
or_true false b is = is

-- ---- live by the numbers alone

-- its number was not retired
abbrev pub stays : List Retirement → LoadedModule → Bool
stays retired l = not (list_any (λ (r : Retirement). r.number == l.number) retired)

abbrev IsUp : (policy : ℕ) → Retirement → Type 0
IsUp policy r = r.policy ≤ policy

retired_same : (policy number : ℕ) (retired : List Retirement) → AllByRecursion (IsUp policy) retired
    → is_retired_by policy number retired ≡ list_any (λ (r : Retirement). r.number == number) retired
retired_same policy number [] upto = refl
retired_same policy number (r ∷ retired) upto =
    ap (λ (b : Bool). b || is_retired_by policy number retired)
    (and_true (r.number == number) (nat_le r.policy policy) (le-leb r.policy policy upto.0))
    ∙ ap (λ (b : Bool). r.number == number || b) (retired_same policy number retired upto.1)

pub live_same : (policy : ℕ) (retired : List Retirement) → AllByRecursion (IsUp policy) retired → (l : LoadedModule)
    → l.policy ≤ policy → is_live policy retired l ≡ stays retired l
live_same policy retired upto l within =
    ap (λ (b : Bool). b && not (is_retired_by policy l.number retired)) (le-leb l.policy policy within)
    ∙ ap not (retired_same policy l.number retired upto)

module _ (policy : ℕ) (retired : List Retirement) (upto : AllByRecursion (IsUp policy) retired) where
  flags_from : (loaded : List LoadedModule) → AllByRecursion (λ (l : LoadedModule). l.policy ≤ policy) loaded
      → map (is_live policy retired) loaded ≡ map (stays retired) loaded
  flags_from [] all = refl
  flags_from (l ∷ loaded) all =
      ap (λ (b : Bool). b ∷ map (is_live policy retired) loaded) (live_same policy retired upto l all.0)
      ∙ ap (λ (bs : List Bool). stays retired l ∷ bs) (flags_from loaded all.1)

  live_from : (loaded : List LoadedModule) → AllByRecursion (λ (l : LoadedModule). l.policy ≤ policy) loaded
      → filter (is_live policy retired) loaded ≡ filter (stays retired) loaded
  live_from [] all = refl
  live_from (l ∷ loaded) all =
      ap (λ (b : Bool). cond b (l ∷ filter (is_live policy retired) loaded) (filter (is_live policy retired) loaded))
      (live_same policy retired upto l all.0)
      ∙ ap (λ (ls : List LoadedModule). cond (stays retired l) (l ∷ ls) ls) (live_from loaded all.1)

module _ (s : JournalState) (upto : AreUpTo s) where
  pub flags_stay : live_flags s.policy (members_of s) ≡ map (stays s.retired) s.loaded
  flags_stay = flags_from s.policy s.retired upto.retired s.loaded upto.loaded

  pub live_stay : live_in s ≡ filter (stays s.retired) s.loaded
  live_stay = live_from s.policy s.retired upto.retired s.loaded upto.loaded

-- ---- one module more

-- what was retired had been loaded
abbrev pub WereLoaded : List LoadedModule → List Retirement → Type 0
WereLoaded loaded retired = All (λ (r : Retirement). IsLoaded loaded r.number) retired

-- so a module that is not loaded was not retired
pub stays_absent : (loaded : List LoadedModule) (retired : List Retirement) → WereLoaded loaded retired
    → (l : LoadedModule) → ¬ IsLoaded loaded l.number → stays retired l ≡ true
stays_absent loaded retired known l absent =
    ap not (list_any_none (λ (r : Retirement). r.number == l.number) retired
    (All-weaker (λ (r : Retirement). IsLoaded loaded r.number) (λ (r : Retirement). (r.number == l.number) ≡ false)
    (λ (r : Retirement) has. ne_eqb r.number l.number (λ same. absent (subst (IsLoaded loaded) same has))) retired
    known))

module _ (loaded : List LoadedModule) (retired : List Retirement) (known : WereLoaded loaded retired)
    (l : LoadedModule) (absent : ¬ IsLoaded loaded l.number) where
  pub flags_more : map (stays retired) (loaded ++ l ∷ []) ≡ map (stays retired) loaded ++ true ∷ []
  flags_more =
      map-append (stays retired) loaded (l ∷ [])
      ∙ ap (λ (b : Bool). map (stays retired) loaded ++ b ∷ []) (stays_absent loaded retired known l absent)

  pub live_more : filter (stays retired) (loaded ++ l ∷ []) ≡ filter (stays retired) loaded ++ l ∷ []
  live_more =
      filter-append (stays retired) loaded (l ∷ [])
      ∙ ap (λ (b : Bool). filter (stays retired) loaded ++ cond b (l ∷ []) [])
      (stays_absent loaded retired known l absent)

-- ---- one retired

-- its number was not, and is
stays_other : (retired : List Retirement) (gone : Retirement) (l : LoadedModule) → gone.number ≢ l.number
    → stays (retired ++ gone ∷ []) l ≡ stays retired l
stays_other retired gone l other =
    let test : Retirement → Bool = λ r. r.number == l.number in
    ap not (list_any-append test retired (gone ∷ [])
    ∙ or_false (list_any test retired) (test gone || false)
    (or_false (test gone) false refl ∙ ne_eqb gone.number l.number other))

stays_not : (retired : List Retirement) (gone : Retirement) (l : LoadedModule) → gone.number ≡ l.number
    → stays (retired ++ gone ∷ []) l ≡ false
stays_not retired gone l same =
    let test : Retirement → Bool = λ r. r.number == l.number in
    ap not (list_any-append test retired (gone ∷ [])
    ∙ or_true (list_any test retired) (test gone || false)
    (or_false (test gone) false refl ∙ eq-eqb gone.number l.number same))

-- tests that differ at one place alone, where the new one fails
module _ (f g : LoadedModule → Bool) where
  abbrev AgreeBut : (place : ℕ) → List LoadedModule → Type 0
  AgreeBut place xs =
      (k : ℕ) (x : LoadedModule) → slice_get xs k ≡ Some x → ((k ≡ place) → g x ≡ false) × ((k ≢ place) → g x ≡ f x)

  same_map : (xs : List LoadedModule)
      → ((k : ℕ) (x : LoadedModule) → slice_get xs k ≡ Some x → g x ≡ f x) → map g xs ≡ map f xs
  same_map [] agree = refl
  same_map (x ∷ xs) agree =
      ap (λ (b : Bool). b ∷ map g xs) (agree 0 x refl)
      ∙ ap (λ (bs : List Bool). f x ∷ bs) (same_map xs (λ k y is. agree (suc k) y is))

  same_filter : (xs : List LoadedModule)
      → ((k : ℕ) (x : LoadedModule) → slice_get xs k ≡ Some x → g x ≡ f x) → filter g xs ≡ filter f xs
  same_filter [] agree = refl
  same_filter (x ∷ xs) agree =
      ap (λ (b : Bool). cond b (x ∷ filter g xs) (filter g xs)) (agree 0 x refl)
      ∙ ap (λ (ys : List LoadedModule). cond (f x) (x ∷ ys) ys) (same_filter xs (λ k y is. agree (suc k) y is))

  but_later : (place : ℕ) (x : LoadedModule) (xs : List LoadedModule) → AgreeBut (suc place) (x ∷ xs)
      → AgreeBut place xs
  but_later place x xs agree k y is = (
    λ same. (agree (suc k) y is).0 (ap suc same),
    λ other. (agree (suc k) y is).1 (λ same. other (ap pred same)),
  )

  pub flags_but : (xs : List LoadedModule) (place : ℕ) → AgreeBut place xs
      → map g xs ≡ slice_set (map f xs) place false
  flags_but [] place agree = refl
  flags_but (x ∷ xs) zero agree =
      ap (λ (b : Bool). b ∷ map g xs) ((agree 0 x refl).0 refl)
      ∙ ap (λ (bs : List Bool). false ∷ bs)
      (same_map xs (λ k y is. (agree (suc k) y is).1 (λ same. absurd (omega (arith, same)))))
  flags_but (x ∷ xs) (suc place) agree =
      ap (λ (b : Bool). b ∷ map g xs) ((agree 0 x refl).1 (λ same. absurd (omega (arith, same))))
      ∙ ap (λ (bs : List Bool). f x ∷ bs) (flags_but xs place (but_later place x xs agree))

  pub one_fewer : (xs : List LoadedModule) (place : ℕ) (x : LoadedModule) → slice_get xs place ≡ Some x
      → f x ≡ true → AgreeBut place xs → length (filter g xs) + 1 ≡ length (filter f xs)
  one_fewer [] place x is was agree = absurd (cc)
  one_fewer (y ∷ xs) zero x is was agree =
      let same : y ≡ x = cc in
      let now : g y ≡ false = (agree 0 y refl).0 refl in
      let rest = same_filter xs (λ k z there. (agree (suc k) z there).1 (λ e. absurd (omega (arith, e)))) in
      omega (
        arith,
        ap (λ (b : Bool). length (cond b (y ∷ filter g xs) (filter g xs))) now,
        ap (λ (b : Bool). length (cond b (y ∷ filter f xs) (filter f xs))) (ap f same ∙ was),
        ap (λ (ys : List LoadedModule). length ys) rest,
      )
  one_fewer (y ∷ xs) (suc place) x is was agree =
      let now : g y ≡ f y = (agree 0 y refl).1 (λ e. absurd (omega (arith, e))) in
      let rest = one_fewer xs place x is was (but_later place y xs agree) in
      ap (λ (b : Bool). length (cond b (y ∷ filter g xs) (filter g xs)) + 1) now ∙ by (f y) rest
    where
      by : (b : Bool) → length (filter g xs) + 1 ≡ length (filter f xs)
          → length (cond b (y ∷ filter g xs) (filter g xs)) + 1
          ≡ length (cond b (y ∷ filter f xs) (filter f xs))
      by true rest = omega (arith, rest)
      by false rest = rest

-- the module at a place is retired, and no other has its number
module _ (loaded : List LoadedModule) (retired : List Retirement)
    (once : AllPairs (λ (a b : LoadedModule). a.number ≢ b.number) loaded) (place : ℕ) (l : LoadedModule)
    (is : slice_get loaded place ≡ Some l) (gone : Retirement) (number_is : gone.number ≡ l.number) where
  others_apart : (k : ℕ) (x : LoadedModule) → slice_get loaded k ≡ Some x → k ≢ place → gone.number ≢ x.number
  others_apart k x there other same =
      let here = get_or_from_slice_get loaded place l x is in
      let its = get_or_from_slice_get loaded k x x there in
      let numbers : l.number ≡ x.number = sym number_is ∙ same in
      ⊎_elim
      (λ (less : k < place).
      once k place x less (slice_get_within loaded place l is)
      (ap (λ (m : LoadedModule). m.number) its ∙ sym numbers ∙ sym (ap (λ (m : LoadedModule). m.number) here)))
      (λ (least : place ≤ k). ⊎_elim
      (λ (more : place < k).
      once place k x more (slice_get_within loaded k x there)
      (ap (λ (m : LoadedModule). m.number) here ∙ numbers ∙ sym (ap (λ (m : LoadedModule). m.number) its)))
      (λ (most : k ≤ place). other (omega (arith, least, most)))
      (cases_lt place k))
      (cases_lt k place)

  agree_but : AgreeBut (stays retired) (stays (retired ++ gone ∷ [])) place loaded
  agree_but k x there = (
    λ same.
        let both : Some x ≡ Some l = sym there ∙ ap (slice_get loaded) same ∙ is in
        let one : x ≡ l = cc in
        stays_not retired gone x (number_is ∙ ap (λ (m : LoadedModule). m.number) (sym one)),
    λ other. stays_other retired gone x (others_apart k x there other),
  )

  pub flags_less : map (stays (retired ++ gone ∷ [])) loaded ≡ slice_set (map (stays retired) loaded) place false
  flags_less = flags_but (stays retired) (stays (retired ++ gone ∷ [])) loaded place agree_but

  pub live_less : stays retired l ≡ true
      → length (filter (stays (retired ++ gone ∷ [])) loaded) + 1 ≡ length (filter (stays retired) loaded)
  live_less was = one_fewer (stays retired) (stays (retired ++ gone ∷ [])) loaded place l is was agree_but
