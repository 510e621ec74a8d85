-- A line is read of no other words than those that are written for it.
use Rattle.std.proofs.Common.{◌≡◌, ℕ, ◌^◌, ◌<◌, ◌≤◌, Bool, true, false, Option, Some, None, List, [], ◌∷◌, IfSome, refl, sym, ap, ◌∙◌, if◌then◌else◌, option_map, arith}
use Rattle.std.specs.Prelude.{codes, option_and_then, ◌==◌}
use Rattle.std.specs.Str.{bytes_eq}
use Rattle.std.proofs.lemmas.Bool.{cond_both, and_parts, ltb-true}
use Rattle.std.proofs.lemmas.Bool.Decides.{nat_tests}
use Rattle.std.proofs.lemmas.Slice.Eq.{bytes_eq-Decides}
use Rattle.cfi_plan.specs.declared.line.Line.{Line}
use Rattle.cfi_plan.specs.declared.line.Line.TheVariants.{Module, Guest, Load, Retire, Refresh}
use Rattle.cfi_plan.specs.Line.{counted_form, pair_form, start_in, module_form, form_of}
use Rattle.cfi_text.specs.Decimal.{place_value, dec_text, number_in}
use Rattle.cfi_text.specs.Names.{is_name, is_file, name_in, file_in}
use Rattle.cfi_plan_law.specs.Written.{when_word, words_of, CanBeSaid, Says}

-- one of two, by whether a word is a keyword
by_word : {A : Type 0} (P : A → Type 0) (word name : List ℕ) (one other : Option A) → (word ≡ name → IfSome one P)
    → IfSome other P → IfSome (if bytes_eq word name then one else other) P
by_word P word name one other first second =
    cond_both (bytes_eq word name) one other (λ o. IfSome o P) (λ is. first ((bytes_eq-Decides word name).0 is))
    (λ _. second)

-- a keyword and a name
named : (make : List ℕ → Line) (keyword word name : List ℕ) → keyword ≡ word
    → ((x : List ℕ) → word ∷ x ∷ [] ≡ words_of (make x)) → ((x : List ℕ) → is_name x ≡ true → CanBeSaid (make x))
    → IfSome (option_map make (name_in name)) (Says (keyword ∷ name ∷ []))
named make keyword word name same spelled can =
    cond_both (is_name name) (Some name) None (λ o. IfSome (option_map make o) (Says (keyword ∷ name ∷ [])))
    (λ is. (ap (λ first. first ∷ name ∷ []) same ∙ spelled name, can name is)) (λ _. tt)

-- a number is spelled by its word
number-says : (word : List ℕ) → IfSome (number_in word) (λ n. (n < 2 ^ 64) × (word ≡ dec_text n))
unfolding number_in
number-says word =
    cond_both _ (Some (place_value word)) None (λ o. IfSome o (λ n. (n < 2 ^ 64) × (word ≡ dec_text n)))
    (λ is. let parts = and_parts _ _ is in
    (ltb-true _ _ parts.0, (bytes_eq-Decides word (dec_text (place_value word))).0 parts.1))
    (λ _. tt)

-- a keyword and a number
counted-says : (keyword word : List ℕ) (n : ℕ) → n < 2 ^ 64 → word ≡ dec_text n
    → IfSome (counted_form keyword n) (Says (keyword ∷ word ∷ []))
unfolding counted_form
counted-says keyword word n fits same =
    let both = λ (name : List ℕ) (is : keyword ≡ name).
    ap (λ first. first ∷ word ∷ []) is ∙ ap (λ second. name ∷ second ∷ []) same in
    let P = Says (keyword ∷ word ∷ []) in
    by_word P keyword (codes "code") _ _ (λ is. (both (codes "code") is, fits))
    (by_word P keyword (codes "versions") _ _ (λ is. (both (codes "versions") is, fits))
    (by_word P keyword (codes "epoch") _ _ (λ is. (both (codes "epoch") is, fits))
    (by_word P keyword (codes "fuel") _ _ (λ is. (both (codes "fuel") is, fits))
    (by_word P keyword (codes "refresh") _ _
    (λ is. cond_both (n == 0) None (Some (Refresh n)) (λ o. IfSome o P) (λ _. tt)
    (λ other. (both (codes "refresh") is, (some n other, fits))))
    tt))))
  where
    some : (n : ℕ) → (n == 0) ≡ false → 1 ≤ n
    some n other = grind (arith, nat_tests)

numbered-says : (keyword word : List ℕ) (found : Option ℕ) → IfSome found (λ n. (n < 2 ^ 64) × (word ≡ dec_text n))
    → IfSome (option_and_then (counted_form keyword) found) (Says (keyword ∷ word ∷ []))
numbered-says keyword word None says = tt
numbered-says keyword word (Some n) says = counted-says keyword word n says.0 says.1

pair-says : (keyword word : List ℕ) → IfSome (pair_form keyword word) (Says (keyword ∷ word ∷ []))
unfolding pair_form
pair-says keyword word =
    let P = Says (keyword ∷ word ∷ []) in
    by_word P keyword (codes "guest") _ _ (λ is. named Guest keyword (codes "guest") word is (λ x. refl) (λ x can. can))
    (by_word P keyword (codes "load") _ _ (λ is. named Load keyword (codes "load") word is (λ x. refl) (λ x can. can))
    (by_word P keyword (codes "retire") _ _
    (λ is. named Retire keyword (codes "retire") word is (λ x. refl) (λ x can. can))
    (numbered-says keyword word (number_in word) (number-says word))))

start-says : (word : List ℕ) → IfSome (start_in word) (λ start. word ≡ when_word start)
unfolding start_in
start-says word =
    let P = λ (start : Bool). word ≡ when_word start in
    by_word P word (codes "start") _ _ (λ is. is) (by_word P word (codes "late") _ _ (λ is. is) tt)

-- the parts of a module, each of which may be none
module-parts : (keyword name file when : List ℕ) → keyword ≡ codes "module" → (n f : Option (List ℕ)) (s : Option Bool)
    → IfSome n (λ x. (x ≡ name) × (is_name x ≡ true)) → IfSome f (λ x. (x ≡ file) × (is_file x ≡ true))
    → IfSome s (λ start. when ≡ when_word start)
    → IfSome (option_and_then (λ n. option_and_then (λ f. option_and_then (λ s. Some (Module (record {
      name = n;
      file = f;
      start = s;
    }))) s) f) n) (Says (keyword ∷ name ∷ file ∷ when ∷ []))
module-parts keyword name file when is None f s hn hf hs = tt
module-parts keyword name file when is (Some n) None s hn hf hs = tt
module-parts keyword name file when is (Some n) (Some f) None hn hf hs = tt
module-parts keyword name file when is (Some n) (Some f) (Some s) hn hf hs =
    (rw (is, sym hn.0, sym hf.0, hs) refl, (hn.1, hf.1))

module-says : (keyword name file when : List ℕ) → keyword ≡ codes "module"
    → IfSome (module_form name file when) (Says (keyword ∷ name ∷ file ∷ when ∷ []))
unfolding module_form
module-says keyword name file when is =
    module-parts keyword name file when is (name_in name) (file_in file) (start_in when)
    (cond_both (is_name name) (Some name) None (λ o. IfSome o (λ x. (x ≡ name) × (is_name x ≡ true)))
    (λ named. (refl, named)) (λ _. tt))
    (cond_both (is_file file) (Some file) None (λ o. IfSome o (λ x. (x ≡ file) × (is_file x ≡ true)))
    (λ filed. (refl, filed)) (λ _. tt))
    (start-says when)

pub line-says : (words : List (List ℕ)) → IfSome (form_of words) (Says words)
line-says [] = (refl, tt)
line-says (keyword ∷ []) = tt
line-says (keyword ∷ word ∷ []) = pair-says keyword word
line-says (keyword ∷ name ∷ file ∷ []) = tt
line-says (keyword ∷ name ∷ file ∷ when ∷ []) =
    by_word (Says (keyword ∷ name ∷ file ∷ when ∷ [])) keyword (codes "module") _ _
    (λ is. module-says keyword name file when is) tt
line-says (keyword ∷ name ∷ file ∷ when ∷ word ∷ words) = tt
