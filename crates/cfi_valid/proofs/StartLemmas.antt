-- The start modules of a plan, one after the other: their numbers, their order, and the first that does not join.
use Rattle.std.proofs.Common.{◌≡◌, ℕ, ◌+◌, ◌<◌, ◌++◌, Bool, true, false, cond, List, [], ◌∷◌, length, map, take, get_or, Some, All, refl, sym, ap, subst, ◌∙◌, append_assoc, arith}
use Rattle.std.specs.List.{slice_get, cons_option}
use Rattle.std.proofs.Math.Seq.{take-length}
use Rattle.std.proofs.lemmas.List.{append-nil, map-append, take_more, length-take-le}
use Rattle.std.proofs.lemmas.List.Elements.{All-nil, All-cons, All-append, filter_map-append}
use Rattle.std.proofs.lemmas.Option.{slice_get-get_or}
use Rattle.cfi_aux.specs.declared.modules.Module.{Module}
use Rattle.cfi_aux.specs.declared.placed.Placed.{Placed}
use Rattle.cfi_plan.specs.declared.plan.Plan.{Plan}
use Rattle.cfi_plan.specs.declared.plan.PlanModule.{PlanModule}
use Rattle.cfi_modules.specs.Order.{Joins, AreInOrder, IsJoinFault}
use Rattle.cfi_modules.specs.declared.fault.JoinFault.{JoinFault}
use Rattle.cfi_modules.proofs.OrderLemmas.{order_more}
use Rattle.cfi_valid.specs.Journal.{IsOpeningState, starts_from, modules_at}
use Rattle.cfi_valid.specs.Loaded.{LoadedModule, placed_modules}
use Rattle.cfi_valid.specs.Opening.{IsFirstUnjoined}

-- ---- the numbers of start modules

abbrev pub one_of : (start : Bool) → (number : ℕ) → List ℕ
one_of start number = cond start (number ∷ []) []

pub starts_cons : (start : Bool) (number : ℕ) (later : List ℕ)
    → cond start (number ∷ later) later ≡ one_of start number ++ later
starts_cons true number later = refl
starts_cons false number later = refl

-- with one module more
starts_push : (number : ℕ) (ms : List PlanModule) (one : PlanModule)
    → starts_from number (ms ++ one ∷ []) ≡ starts_from number ms ++ one_of one.start (number + length ms)
starts_push number [] one =
    starts_cons one.start number []
    ∙ append-nil (one_of one.start number)
    ∙ ap (one_of one.start) (omega arith)
starts_push number (m ∷ ms) one =
    let rest = starts_push (number + 1) ms one in
    let last : one_of one.start (number + 1 + length ms) ≡ one_of one.start (number + length (m ∷ ms)) =
    ap (one_of one.start) (omega arith) in
    starts_cons m.start number (starts_from (number + 1) (ms ++ one ∷ []))
    ∙ ap (λ (xs : List ℕ). one_of m.start number ++ xs)
    (rest ∙ ap (λ (xs : List ℕ). starts_from (number + 1) ms ++ xs) last)
    ∙ sym (append_assoc (one_of m.start number) (starts_from (number + 1) ms)
    (one_of one.start (number + length (m ∷ ms))))
    ∙ ap (λ (xs : List ℕ). xs ++ one_of one.start (number + length (m ∷ ms)))
    (sym (starts_cons m.start number (starts_from (number + 1) ms)))

-- ---- the modules so far

abbrev number_of : LoadedModule → ℕ
number_of l = l.number

abbrev IsStart : LoadedModule → Type 0
IsStart l = l.policy ≡ 0

-- of the first so many modules of a plan, those of the start are loaded and placed
pub record StartsAreLoaded (plan : Plan) (modules : List Module) (number : ℕ) (loaded : List LoadedModule)
    (placed : List Placed) : Type 0 where
  pub starts : map number_of loaded ≡ starts_from 0 (take number plan.modules)
  pub policies : All IsStart loaded
  pub order : AreInOrder plan.code_words (modules_at modules (starts_from 0 (take number plan.modules))) placed

module _ (plan : Plan) (modules : List Module) where
  module _ (number : ℕ) (one : PlanModule) (within : number < length plan.modules)
      (is : one ≡ get_or plan.modules number one) (loaded : List LoadedModule) (placed : List Placed)
      (so_far : StartsAreLoaded plan modules number loaded placed) where
    more : take (number + 1) plan.modules ≡ take number plan.modules ++ one ∷ []
    more =
        take_more plan.modules number one within
        ∙ ap (λ (x : PlanModule). take number plan.modules ++ x ∷ []) (sym is)

    few : length (take number plan.modules) ≡ number
    few = length-take-le number plan.modules (omega (arith, within))

    starts_there : starts_from 0 (take (number + 1) plan.modules)
        ≡ starts_from 0 (take number plan.modules) ++ one_of one.start number
    starts_there =
        ap (starts_from 0) more
        ∙ starts_push 0 (take number plan.modules) one
        ∙ ap (λ (n : ℕ). starts_from 0 (take number plan.modules) ++ one_of one.start n) (omega (arith, few))

    -- a module that does not belong to the start
    pub starts_same : one.start ≡ false → StartsAreLoaded plan modules (number + 1) loaded placed
    starts_same late =
        let same : starts_from 0 (take (number + 1) plan.modules) ≡ starts_from 0 (take number plan.modules) =
        starts_there
        ∙ ap (λ (b : Bool). starts_from 0 (take number plan.modules) ++ one_of b number) late
        ∙ append-nil (starts_from 0 (take number plan.modules)) in
        record {
          starts = so_far.starts ∙ sym same;
          policies = so_far.policies;
          order = subst (λ (numbers : List ℕ). AreInOrder plan.code_words (modules_at modules numbers) placed)
              (sym same) so_far.order;
        }

    module _ (start : one.start ≡ true) (unplaced : Module) (is_there : slice_get modules number ≡ Some unplaced) where
      numbers : starts_from 0 (take (number + 1) plan.modules)
          ≡ starts_from 0 (take number plan.modules) ++ number ∷ []
      numbers =
          starts_there ∙ ap (λ (b : Bool). starts_from 0 (take number plan.modules) ++ one_of b number) start

      units : modules_at modules (starts_from 0 (take (number + 1) plan.modules))
          ≡ modules_at modules (starts_from 0 (take number plan.modules)) ++ unplaced ∷ []
      units =
          ap (modules_at modules) numbers
          ∙ filter_map-append (slice_get modules) (starts_from 0 (take number plan.modules)) (number ∷ [])
          ∙ ap (λ o. modules_at modules (starts_from 0 (take number plan.modules)) ++ cons_option o []) is_there

      -- a start module that joins
      pub starts_more : (p : Placed) → Joins plan.code_words placed placed unplaced p → (l : LoadedModule)
          → l.number ≡ number → l.policy ≡ 0 → (all : List LoadedModule) → all ≡ loaded ++ l ∷ []
          → StartsAreLoaded plan modules (number + 1) all (placed ++ p ∷ [])
      starts_more p joins l number_is policy_is all there = record {
        starts =
            ap (map number_of) there
            ∙ map-append number_of loaded (l ∷ [])
            ∙ ap (λ (xs : List ℕ). xs ++ l.number ∷ []) so_far.starts
            ∙ ap (λ (n : ℕ). starts_from 0 (take number plan.modules) ++ n ∷ []) number_is
            ∙ sym numbers;
        policies = subst (All IsStart) (sym there)
            (All-append IsStart loaded (l ∷ []) so_far.policies (All-cons IsStart l [] policy_is (All-nil IsStart)));
        order = subst (λ (ms : List Module). AreInOrder plan.code_words ms (placed ++ p ∷ [])) (sym units)
            (order_more plan.code_words (modules_at modules (starts_from 0 (take number plan.modules))) placed
            unplaced p so_far.order joins);
      }

      -- one that does not
      pub unjoined : (code_words : ℕ) → code_words ≡ plan.code_words → (fault : JoinFault)
          → IsJoinFault code_words placed placed unplaced fault → IsFirstUnjoined plan modules number fault
      unjoined code_words words_are fault why = record {
        line = one;
        line_is = slice_get-get_or plan.modules number one within ∙ ap (λ (x : PlanModule). Some x) (sym is);
        starts = start;
        unplaced = unplaced;
        is = is_there;
        before = placed;
        order = so_far.order;
        why = subst (λ (n : ℕ). IsJoinFault n placed placed unplaced fault) words_are why;
      }

  -- all of them are the opening's
  pub starts_all : (loaded : List LoadedModule) (placed : List Placed) → placed_modules loaded ≡ placed
      → StartsAreLoaded plan modules (length plan.modules) loaded placed
      → IsOpeningState plan modules (record { epoch = plan.first; policy = 0; loaded = loaded; retired = [] })
  starts_all loaded placed places all =
      let every : take (length plan.modules) plan.modules ≡ plan.modules = take-length plan.modules in
      record {
        epoch = refl;
        policy = refl;
        starts = all.starts ∙ ap (starts_from 0) every;
        policies = all.policies;
        stay = refl;
        order = subst (AreInOrder plan.code_words (modules_at modules (starts_from 0 plan.modules)))
            (sym places)
            (subst (λ (ms : List PlanModule).
            AreInOrder plan.code_words (modules_at modules (starts_from 0 ms)) placed) every all.order);
      }
