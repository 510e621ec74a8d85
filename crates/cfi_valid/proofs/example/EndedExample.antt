-- What worked examples share: modules in their order, modules that are all loaded, a log without refusals, and a guest
-- that has exited.
use Rattle.std.proofs.Common.{◌≡◌, ℕ, zero, suc, ◌+◌, ◌≤◌, Bool, true, false, List, [], ◌∷◌, length, take, Some, inl, inr, refl, sym, ap, subst, ◌∙◌, add-one, arith}
use Rattle.std.specs.Prelude.{◌==◌, nat_le, not, ⊤}
use Rattle.std.specs.List.{All, AllByRecursion, list_all, slice_get}
use Rattle.std.proofs.lemmas.Bool.{and_parts, eqb-true, eqb-false, leb-true}
use Rattle.std.proofs.lemmas.List.Elements.{All-contains_itself}
use Rattle.cfi_aux.specs.declared.modules.Module.{Module}
use Rattle.cfi_aux.specs.declared.placed.Placed.{Placed}
use Rattle.cfi_flow.proofs.Members.{no_member, member_cases}
use Rattle.cfi_graph.specs.Shaped.{Follows}
use Rattle.cfi_model.specs.Log.{last_policy}
use Rattle.cfi_model.specs.State.{State}
use Rattle.cfi_modules.specs.Loaded.{AreLoaded}
use Rattle.cfi_modules.specs.Order.{Joins, AreInOrder}
use Rattle.cfi_modules.proofs.LoadedLemmas.{begins}
use Rattle.cfi_report.specs.declared.report.GuestPart.{GuestPart}
use Rattle.cfi_unit.specs.declared.log.Log.{Log}
use Rattle.cfi_unit.specs.declared.log.Log.TheVariants.{Pick, Open, Cause}
use Rattle.cfi_unit.specs.declared.log.Stop.TheVariants.{Exit}
use Rattle.cfi_valid.specs.Course.{Course}
use Rattle.cfi_valid.specs.Journal.{members_of}
use Rattle.cfi_valid.specs.Loaded.{LoadedModule, IsLoaded, live_at, Filled}
use Rattle.cfi_valid.specs.Log.{NeverFall, HasFunctionAt, IsLogged}
use Rattle.cfi_valid.specs.Parts.{IsPartOf, ComesTo}
use Rattle.cfi_valid.specs.Replay.{shown_stop}
use Rattle.cfi_valid.specs.Steps.{HasBegun}
use Rattle.cfi_valid.specs.Valid.{IsEnded}
use Rattle.cfi_valid.proofs.EachLemmas.{AllNumbered, each_of, each_numbered}
use Rattle.cfi_valid.proofs.example.TestLemmas.{all_tested}
use Rattle.cfi_verify.specs.Fault.{IsVerified}
use Rattle.cfi_word.specs.Table.{IsSize}
use Rattle.cfi_word.specs.declared.map.TheConstants.{FIRST_BASE}

-- ---- modules

-- items of two lists, number by number
abbrev pub AllPairs : {A B : Type 0} → (ℕ → A → B → Type 0) → List A → List B → Type 0
AllPairs P [] ys = Unit {0}
AllPairs P (x ∷ xs) [] = Unit {0}
AllPairs P (x ∷ xs) (y ∷ ys) = P 0 x y × AllPairs (λ n. P (suc n)) xs ys

each_pair : {A B : Type 0} (P : ℕ → A → B → Type 0) (xs : List A) (ys : List B) → AllPairs P xs ys
    → (k : ℕ) (x : A) (y : B) → slice_get xs k ≡ Some x → slice_get ys k ≡ Some y → P k x y
each_pair P [] ys all k x y is there = absurd (cc)
each_pair P (a ∷ xs) [] all k x y is there = absurd (cc)
each_pair {A} {B} P (a ∷ xs) (b ∷ ys) all zero x y is there =
    let one : a ≡ x = cc in
    let other : b ≡ y = cc in
    subst (λ (z : A). P 0 z y) one (subst (λ (z : B). P 0 a z) other all.0)
each_pair P (a ∷ xs) (b ∷ ys) all (suc k) x y is there = each_pair (λ n. P (suc n)) xs ys all.1 k x y is there

-- all of them are live
pub in_order : (code_words : ℕ) (modules : List Module) (placed : List Placed) → length placed ≡ length modules
    → AllPairs (λ k m p. Joins code_words (take k placed) (take k placed) m p) modules placed
    → AreInOrder code_words modules placed
in_order code_words modules placed count all = record {
  count = count;
  joins = each_pair (λ k m p. Joins code_words (take k placed) (take k placed) m p) modules placed all;
}

-- each follows the one before, and verifies against all before it
pub are_loaded : (code_words : ℕ) (m : Placed) (ms : List Placed) → IsSize code_words
    → (m.base ≡ FIRST_BASE) × (m.slot_base ≡ 0) → AllPairs (λ k. Follows) (m ∷ ms) ms
    → list_all (λ (n : Placed). nat_le (n.base + length n.words) code_words) (m ∷ ms) ≡ true
    → AllNumbered (λ k n. IsVerified n (take k (m ∷ ms))) (m ∷ ms) → AreLoaded code_words (m ∷ ms)
are_loaded code_words m ms size first follow ends verified = record {
  size = size;
  first = begins m ms first;
  next = λ k n p is there.
      each_pair (λ k. Follows) (m ∷ ms) ms follow k n p is (ap (slice_get (m ∷ ms)) (sym (add-one k)) ∙ there);
  ends = all_tested (λ (n : Placed). nat_le (n.base + length n.words) code_words)
      (λ n. n.base + length n.words ≤ code_words)
      (λ n is. leb-true (n.base + length n.words) code_words is) (m ∷ ms) ends;
  verified = λ k n is. (
    take k (m ∷ ms),
    All-contains_itself (take k (m ∷ ms)),
    each_numbered (λ k n. IsVerified n (take k (m ∷ ms))) (m ∷ ms) verified k n is,
  );
}

-- they came with policy 0
pub came_first : (loaded : List LoadedModule) → list_all (λ (l : LoadedModule). l.policy == 0) loaded ≡ true
    → All (λ (l : LoadedModule). l.policy ≡ 0) loaded
came_first loaded all =
    all_tested (λ (l : LoadedModule). l.policy == 0) (λ l. l.policy ≡ 0) (λ l is. eqb-true l.policy 0 is) loaded all

-- none of them has the number
apart : (b : Bool) → not b ≡ true → b ≡ false
apart false is = refl
apart true is = absurd (cc)

pub not_loaded : (loaded : List LoadedModule) (number : ℕ)
    → list_all (λ (l : LoadedModule). not (l.number == number)) loaded ≡ true → ¬ IsLoaded loaded number
not_loaded [] number none is = no_member is.0 is.1
not_loaded (l ∷ loaded) number none is =
    let both = and_parts (not (l.number == number)) _ none in
    elim (member_cases l loaded is.0 is.1) [
      | inl here ↦
          let same : l.number ≡ number = ap (λ (one : LoadedModule). one.number) here ∙ is.2 in
          eqb-false l.number number (apart (l.number == number) both.0) same
      | inr later ↦ not_loaded loaded number both.1 (is.0, later, is.2)
    ]

-- ---- a guest

-- what a log without refusals has for each entry
abbrev IsOpened : Course → Log → Type 0
IsOpened c (Pick policy count) = ⊤
IsOpened c (Open number address policy) = HasFunctionAt (live_at policy (members_of c.end)) number address
IsOpened c (Cause number cause) = ⊥

pub logged_by : (c : Course) (guest : ℕ) (log : List Log) → NeverFall 0 log → last_policy log ≤ c.end.policy
    → AllByRecursion (IsOpened c) log → IsLogged c guest log
logged_by c guest log rises most all = record {
  rises = rises;
  most = most;
  opens = λ at number address policy is. each_of (IsOpened c) log all at (Open number address policy) is;
  causes = λ at number cause is. absurd (each_of (IsOpened c) log all at (Cause number cause) is);
}

-- it ran to its exit, and repeated no try
pub exited : (c : Course) (number : ℕ) (part : GuestPart) (last : State) → ComesTo Filled c part last → (exit : ℕ)
    → part.stop ≡ Some (Exit exit) → IsPartOf c number part → last.output ≡ part.out → last.log ≡ part.log
    → last.stop ≡ shown_stop part.stop → part.steps ≡ last.steps → part.steps ≤ c.plan.fuel
    → IsLogged c number part.log → IsEnded c number part
exited c number part last comes exit stop guest output log shown steps most logged = record {
  guest = guest;
  replay = record {
    stopped = λ none. absurd (cc);
    replay = record { last = last; comes = comes; output = output; log = log; stop = shown };
  };
  log = logged;
  steps = record {
    fits = record {
      last = last;
      comes = comes;
      counts = record {
        repeats = 0;
        begun = 0;
        sum = omega (arith, steps);
        begins = subst (λ s. HasBegun comes.code s last 0) (sym stop) refl;
        unpicked = λ none meets. refl;
        most = most;
        spent = λ fuel. absurd (cc);
      };
    };
    single = λ first. refl;
  };
}
