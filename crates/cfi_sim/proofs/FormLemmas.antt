-- The line that words say by their number is the one that they say by its kind.
use Rattle.std.proofs.Common.{◌≡◌, ℕ, cond, Bool, true, false, List, [], ◌∷◌, Option, Some, None, refl, sym, ◌∙◌, ap, subst, inl, inr}
use Rattle.std.specs.Prelude.{codes}
use Rattle.std.specs.Fmt.{digits}
use Rattle.std.specs.Option.{option_map}
use Rattle.std.specs.Str.{bytes_eq}
use Rattle.std.proofs.lemmas.Slice.Eq.{bytes_eq-Decides}
use Rattle.cfi_plan.specs.declared.plan.Plan.{Plan}
use Rattle.cfi_plan.specs.Draft.{module_of}
use Rattle.cfi_sim.specs.Line.{Says, guest_in, count_in}
use Rattle.cfi_sim.specs.declared.line.Line.{Line}
use Rattle.cfi_sim.specs.declared.line.Line.TheVariants.{Blank, Guest, Load, Refresh, Update, UpdateAll, Release}
use Rattle.cfi_sim.specs.inner.Forms.{schedule_form, alone_form, two_words_form, guest_form, updates_form}
use Rattle.cfi_text.specs.Decimal.{number_in, small_number_in}
use Rattle.cfi_values.specs.Some.{◌>>=◌}

equal : (a b : List ℕ) → bytes_eq a b ≡ true → a ≡ b
equal a b test = (bytes_eq-Decides a b).0 test

-- ---- what is read is said

module _ (plan : Plan) (line : Line) where
  says_alone : (keyword : List ℕ) → alone_form keyword ≡ Some line → Says plan (keyword ∷ []) line
  unfolding alone_form
  says_alone keyword is = by_word (bytes_eq keyword (codes "refresh")) (bytes_eq keyword (codes "update")) refl refl is
    where
      by_word : (a b : Bool) → bytes_eq keyword (codes "refresh") ≡ a → bytes_eq keyword (codes "update") ≡ b
          → cond a (Some Refresh) (cond b (Some (Update 1)) None) ≡ Some line → Says plan (keyword ∷ []) line
      by_word true b ea eb same =
          let one : Refresh ≡ line = cc in
          subst (Says plan (keyword ∷ [])) one (ap (λ (k : List ℕ). k ∷ []) (equal keyword (codes "refresh") ea))
      by_word false true ea eb same =
          let one : Update 1 ≡ line = cc in
          subst (Says plan (keyword ∷ [])) one
          (inl (ap (λ (k : List ℕ). k ∷ []) (equal keyword (codes "update") eb), refl))
      by_word false false ea eb same = absurd (cc)

  says_guest : (words : List (List ℕ)) (word : List ℕ) → words ≡ codes "guest" ∷ word ∷ [] → (o : Option ℕ)
      → guest_in plan word ≡ o → option_map (λ guest. Guest guest 1) o ≡ Some line → Says plan words line
  says_guest words word are None at same = absurd (cc)
  says_guest words word are (Some guest) at same =
      let one : Guest guest 1 ≡ line = cc in subst (Says plan words) one (word, at, inl (are, refl))

  says_load : (words : List (List ℕ)) (word : List ℕ) → words ≡ codes "load" ∷ word ∷ [] → (o : Option ℕ)
      → module_of plan.modules word ≡ o → option_map Load o ≡ Some line → Says plan words line
  says_load words word are None at same = absurd (cc)
  says_load words word are (Some number) at same =
      let one : Load number ≡ line = cc in subst (Says plan words) one (word, at, are)

  says_release : (words : List (List ℕ)) (word : List ℕ) → words ≡ codes "release" ∷ word ∷ [] → (o : Option ℕ)
      → guest_in plan word ≡ o → option_map Release o ≡ Some line → Says plan words line
  says_release words word are None at same = absurd (cc)
  says_release words word are (Some guest) at same =
      let one : Release guest ≡ line = cc in subst (Says plan words) one (word, at, are)

  says_count : (words : List (List ℕ)) (word : List ℕ) → words ≡ codes "update" ∷ word ∷ [] → (o : Option ℕ)
      → count_in word ≡ o → option_map Update o ≡ Some line → Says plan words line
  says_count words word are None at same = absurd (cc)
  says_count words word are (Some count) at same =
      let one : Update count ≡ line = cc in subst (Says plan words) one (inr (word, are, at))

  says_updates : (words : List (List ℕ)) (word : List ℕ) → words ≡ codes "update" ∷ word ∷ []
      → updates_form word ≡ Some line → Says plan words line
  unfolding updates_form
  says_updates words word are is = by_word (bytes_eq word (codes "all")) refl is
    where
      by_word : (a : Bool) → bytes_eq word (codes "all") ≡ a
          → cond a (Some UpdateAll) (option_map Update (count_in word)) ≡ Some line → Says plan words line
      by_word true ea same =
          let one : UpdateAll ≡ line = cc in
          subst (Says plan words) one (are ∙ ap (λ (k : List ℕ). codes "update" ∷ k ∷ []) (equal word (codes "all") ea))
      by_word false ea same = says_count words word are (count_in word) refl same

  says_pair : (keyword word : List ℕ) → two_words_form plan keyword word ≡ Some line
      → Says plan (keyword ∷ word ∷ []) line
  unfolding two_words_form
  says_pair keyword word is =
      by_word (bytes_eq keyword (codes "guest")) (bytes_eq keyword (codes "load")) (bytes_eq keyword (codes "release"))
      (bytes_eq keyword (codes "update")) refl refl refl refl is
    where
      front : (k : List ℕ) → keyword ≡ k → keyword ∷ word ∷ [] ≡ k ∷ word ∷ []
      front k same = ap (λ (x : List ℕ). x ∷ word ∷ []) same

      by_word : (a b c d : Bool) → bytes_eq keyword (codes "guest") ≡ a → bytes_eq keyword (codes "load") ≡ b
          → bytes_eq keyword (codes "release") ≡ c → bytes_eq keyword (codes "update") ≡ d
          → cond a (option_map (λ guest. Guest guest 1) (guest_in plan word))
          (cond b (option_map Load (module_of plan.modules word))
          (cond c (option_map Release (guest_in plan word)) (cond d (updates_form word) None))) ≡ Some line
          → Says plan (keyword ∷ word ∷ []) line
      by_word true b c d ea eb ec ed same =
          says_guest (keyword ∷ word ∷ []) word (front (codes "guest") (equal keyword (codes "guest") ea))
          (guest_in plan word) refl same
      by_word false true c d ea eb ec ed same =
          says_load (keyword ∷ word ∷ []) word (front (codes "load") (equal keyword (codes "load") eb))
          (module_of plan.modules word) refl same
      by_word false false true d ea eb ec ed same =
          says_release (keyword ∷ word ∷ []) word (front (codes "release") (equal keyword (codes "release") ec))
          (guest_in plan word) refl same
      by_word false false false true ea eb ec ed same =
          says_updates (keyword ∷ word ∷ []) word (front (codes "update") (equal keyword (codes "update") ed)) same
      by_word false false false false ea eb ec ed same = absurd (cc)

  says_many : (words : List (List ℕ)) (number count : List ℕ) → words ≡ codes "guest" ∷ number ∷ count ∷ []
      → (o p : Option ℕ) → guest_in plan number ≡ o → count_in count ≡ p
      → o >>= (λ guest. p >>= (λ events. Some (Guest guest events))) ≡ Some line → Says plan words line
  says_many words number count are None p at times same = absurd (cc)
  says_many words number count are (Some guest) None at times same = absurd (cc)
  says_many words number count are (Some guest) (Some events) at times same =
      let one : Guest guest events ≡ line = cc in
      subst (Says plan words) one (number, at, inr (count, are, times))

  says_three : (keyword number count : List ℕ) (a : Bool) → bytes_eq keyword (codes "guest") ≡ a
      → cond a (guest_form plan number count) None ≡ Some line → Says plan (keyword ∷ number ∷ count ∷ []) line
  says_three keyword number count true ea same =
      says_many (keyword ∷ number ∷ count ∷ []) number count
      (ap (λ (x : List ℕ). x ∷ number ∷ count ∷ []) (equal keyword (codes "guest") ea)) (guest_in plan number)
      (count_in count) refl refl same
  says_three keyword number count false ea same = absurd (cc)

  pub form_says : (words : List (List ℕ)) → schedule_form plan words ≡ Some line → Says plan words line
  form_says [] is = (let one : Blank ≡ line = cc in subst (Says plan []) one refl)
  form_says (keyword ∷ []) is = says_alone keyword is
  form_says (keyword ∷ word ∷ []) is = says_pair keyword word is
  form_says (keyword ∷ number ∷ count ∷ []) is =
      says_three keyword number count (bytes_eq keyword (codes "guest")) refl is
  form_says (keyword ∷ number ∷ count ∷ word ∷ words) is = absurd (cc)

-- ---- and what is said is read

module _ (plan : Plan) where
  no_count : count_in (codes "all") ≡ None
  unfolding small_number_in number_in digits
  no_count = refl

  read_update : (word : List ℕ) (count : ℕ) → count_in word ≡ Some count → updates_form word ≡ Some (Update count)
  unfolding updates_form
  read_update word count times = by_word (bytes_eq word (codes "all")) refl
    where
      by_word : (a : Bool) → bytes_eq word (codes "all") ≡ a
          → cond a (Some UpdateAll) (option_map Update (count_in word)) ≡ Some (Update count)
      by_word true ea =
          let none : None ≡ Some count =
          sym no_count ∙ ap count_in (sym (equal word (codes "all") ea)) ∙ times in
          absurd (cc)
      by_word false ea = ap (λ o. option_map Update o) times

  pub says_form : (words : List (List ℕ)) (line : Line) → Says plan words line → schedule_form plan words ≡ Some line
  unfolding alone_form two_words_form updates_form
  says_form words Blank says = subst (λ ws. schedule_form plan ws ≡ Some Blank) (sym says) refl
  says_form words (Guest guest count) (number, at, inl (are, one)) =
      subst (λ ws. schedule_form plan ws ≡ Some (Guest guest count)) (sym are)
      (ap (λ o. option_map (λ g. Guest g 1) o) at ∙ ap (λ (n : ℕ). Some (Guest guest n)) (sym one))
  says_form words (Guest guest count) (number, at, inr (times, are, many)) =
      subst (λ ws. schedule_form plan ws ≡ Some (Guest guest count)) (sym are)
      (ap (λ o. o >>= (λ g. count_in times >>= (λ events. Some (Guest g events)))) at
      ∙ ap (λ o. o >>= (λ events. Some (Guest guest events))) many)
  says_form words (Load number) (name, at, are) =
      subst (λ ws. schedule_form plan ws ≡ Some (Load number)) (sym are) (ap (λ o. option_map Load o) at)
  says_form words Refresh says = subst (λ ws. schedule_form plan ws ≡ Some Refresh) (sym says) refl
  says_form words (Update count) (inl (are, one)) =
      subst (λ ws. schedule_form plan ws ≡ Some (Update count)) (sym are) (ap (λ (n : ℕ). Some (Update n)) (sym one))
  says_form words (Update count) (inr (times, are, many)) =
      subst (λ ws. schedule_form plan ws ≡ Some (Update count)) (sym are) (read_update times count many)
  says_form words UpdateAll says = subst (λ ws. schedule_form plan ws ≡ Some UpdateAll) (sym says) refl
  says_form words (Release guest) (number, at, are) =
      subst (λ ws. schedule_form plan ws ≡ Some (Release guest)) (sym are) (ap (λ o. option_map Release o) at)
