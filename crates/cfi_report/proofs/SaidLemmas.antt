-- The line that words say is written with these words.
use Rattle.std.proofs.Common.{◌≡◌, ℕ, ◌^◌, ◌<◌, false, List, [], ◌∷◌, map, Option, Some, None, nat_eq, refl, sym, arith}
use Rattle.std.specs.List.{AllByRecursion}
use Rattle.std.specs.Prelude.{codes}
use Rattle.std.proofs.lemmas.Bool.{cond_both}
use Rattle.std.proofs.lemmas.Bool.Decides.{nat_tests}
use Rattle.cfi_text.specs.Decimal.{dec_text}
use Rattle.cfi_plan.specs.declared.journal.Who.{Who}
use Rattle.cfi_plan.specs.declared.journal.Who.TheVariants.{Script, Guest}
use Rattle.cfi_plan.specs.declared.journal.JournalLine.{JournalLine}
use Rattle.cfi_plan.specs.declared.journal.JournalLine.TheVariants.{LoadOk, LoadAgain, LoadFull, LoadPlace, LoadVerify, LoadVersions, LoadEpochs, LoadRetired, RefreshOk, RefreshVersions, RefreshEpochs, RetireOk, RetireNotLive, RetireInUse, RetireVersions, RetireEpochs}
use Rattle.cfi_unit.specs.declared.log.Log.TheVariants.{Pick, Open, Cause}
use Rattle.cfi_unit.specs.declared.log.Stop.TheVariants.{Exit, Halt, Align, Fuel}
use Rattle.cfi_report.specs.declared.line.Line.{Line}
use Rattle.cfi_report.specs.declared.line.Line.TheVariants as line
use Rattle.cfi_report.specs.Line.{field_text, who_field, what_fields, line_words}
use Rattle.cfi_report.specs.Report.{IsField, IsLine}
use Rattle.cfi_report.specs.inner.Form.{bytes_in, who_in, what_two, loaded_three, retired_three, called_three, what_three, loaded_four, called_four, what_four, loaded_five, retired_five, called_five, what_five, entry_form, journal_form, lone_form, pair_form, stop_form, force_form, guest_form, pick_form, three_form, opened_form, four_form, module_form, seven_form, line_form}
use Rattle.cfi_report.proofs.WordLemmas.{bytes_in-says}
use Rattle.cfi_report.proofs.FormLemmas.{Says, nothing, keyed, twice, as_value, number, address, last_number, last_address, named, told}

-- a line with these words
abbrev pub IsSaid : List (List ℕ) → Line → Type 0
IsSaid words one = IsLine one × (line_words one ≡ words)

-- what came of a call, in these words
abbrev IsWhat : List (List ℕ) → JournalLine → Type 0
IsWhat words what = AllByRecursion IsField (what_fields what) × (map field_text (what_fields what) ≡ words)

-- who asked, in this word
abbrev IsWho : List ℕ → Who → Type 0
IsWho word who = IsField (who_field who) × (field_text (who_field who) ≡ word)

-- who asked

who-says : (word : List ℕ) → Says (IsWho word) (who_in word)
unfolding who_in
who-says word =
    keyed IsWho word (codes "script") _ _ (told _ Script (tt, refl))
    (last_number (IsWho word) word Guest (λ n fits e. (fits, sym e)))

-- what came of a call

two-says : (verb end : List ℕ) → Says (IsWhat (verb ∷ end ∷ [])) (what_two verb end)
unfolding what_two
two-says verb end = twice (λ v e. IsWhat (v ∷ e ∷ [])) verb end _ _ _ _ (told _ RefreshEpochs ((tt, (tt, tt)), refl))
    (nothing _)

-- a call for a module, in three words

module _ (word : List ℕ) (n : ℕ) (fits : n < 2 ^ 32) (e : word ≡ dec_text n) where
  loaded_three-says : (end : List ℕ) → Says (IsWhat (codes "load" ∷ word ∷ end ∷ [])) (loaded_three end n)
  unfolding loaded_three
  loaded_three-says end =
      let P = λ (w : List ℕ). IsWhat (codes "load" ∷ word ∷ w ∷ []) in
      keyed P end (codes "full") _ _ (told _ (LoadFull n) ((tt, (fits, (tt, tt))), rw e refl))
      (keyed P end (codes "epochs") _ _ (told _ (LoadEpochs n) ((tt, (fits, (tt, tt))), rw e refl))
      (keyed P end (codes "retired") _ _ (told _ (LoadRetired n) ((tt, (fits, (tt, tt))), rw e refl)) (nothing _)))

  retired_three-says : (end : List ℕ) → Says (IsWhat (codes "retire" ∷ word ∷ end ∷ [])) (retired_three end n)
  unfolding retired_three
  retired_three-says end =
      let P = λ (w : List ℕ). IsWhat (codes "retire" ∷ word ∷ w ∷ []) in
      keyed P end (codes "notlive") _ _ (told _ (RetireNotLive n) ((tt, (fits, (tt, tt))), rw e refl))
      (keyed P end (codes "epochs") _ _ (told _ (RetireEpochs n) ((tt, (fits, (tt, tt))), rw e refl)) (nothing _))

  called_three-says : (verb end : List ℕ) → Says (IsWhat (verb ∷ word ∷ end ∷ [])) (called_three verb end n)
  unfolding called_three
  called_three-says verb end =
      let P = λ (v : List ℕ). IsWhat (v ∷ word ∷ end ∷ []) in
      keyed P verb (codes "load") _ _ (loaded_three-says end)
      (keyed P verb (codes "retire") _ _ (retired_three-says end) (nothing _))

three-says : (verb word end : List ℕ) → Says (IsWhat (verb ∷ word ∷ end ∷ [])) (what_three verb word end)
unfolding what_three
three-says verb word end =
    twice (λ v w. IsWhat (v ∷ w ∷ end ∷ [])) verb word _ _ _ _
    (last_number _ end RefreshOk (λ n fits e. ((tt, (tt, (fits, tt))), rw e refl)))
    (number _ word _ (λ n fits e. called_three-says word n fits e verb end))

-- in four

module _ (word end : List ℕ) (n m : ℕ) (fits : n < 2 ^ 32) (e : word ≡ dec_text n) (fits' : m < 2 ^ 32)
    (e' : end ≡ dec_text m) where
  loaded_four-says : (other : List ℕ) → Says (IsWhat (codes "load" ∷ word ∷ other ∷ end ∷ [])) (loaded_four other n m)
  unfolding loaded_four
  loaded_four-says other =
      let P = λ (w : List ℕ). IsWhat (codes "load" ∷ word ∷ w ∷ end ∷ []) in
      keyed P other (codes "again") _ _ (told _ (LoadAgain n m) ((tt, (fits, (tt, (fits', tt)))), rw (e, e') refl))
      (keyed P other (codes "place") _ _ (told _ (LoadPlace n m) ((tt, (fits, (tt, (fits', tt)))), rw (e, e') refl))
      (nothing _))

  called_four-says : (verb other : List ℕ) → Says (IsWhat (verb ∷ word ∷ other ∷ end ∷ []))
      (called_four verb other n m)
  unfolding called_four
  called_four-says verb other =
      keyed (λ v. IsWhat (v ∷ word ∷ other ∷ end ∷ [])) verb (codes "load") _ _ (loaded_four-says other)
      (twice (λ v w. IsWhat (v ∷ word ∷ w ∷ end ∷ [])) verb other _ _ _ _
      (told _ (RetireInUse n m) ((tt, (fits, (tt, (fits', tt)))), rw (e, e') refl)) (nothing _))

four-says : (verb word other end : List ℕ) → Says (IsWhat (verb ∷ word ∷ other ∷ end ∷ []))
    (what_four verb word other end)
unfolding what_four
four-says verb word other end =
    twice (λ v w. IsWhat (v ∷ w ∷ other ∷ end ∷ [])) verb word _ _ _ _
    (number _ other _ (λ n fits e. number _ end _ (λ m fits' e'.
    told _ (RefreshVersions n m) ((tt, (tt, (fits, (fits', tt)))), rw (e, e') refl))))
    (number _ word _ (λ n fits e. number _ end _ (λ m fits' e'.
    called_four-says word end n m fits e fits' e' verb other)))

-- in five

module _ (word first end : List ℕ) (n m k : ℕ) (fits : n < 2 ^ 32) (e : word ≡ dec_text n) (fits' : m < 2 ^ 32)
    (e' : first ≡ dec_text m) (fits'' : k < 2 ^ 32) (e'' : end ≡ dec_text k) where
  loaded_five-says : (other : List ℕ)
      → Says (IsWhat (codes "load" ∷ word ∷ other ∷ first ∷ end ∷ [])) (loaded_five other n m k)
  unfolding loaded_five
  loaded_five-says other =
      let P = λ (w : List ℕ). IsWhat (codes "load" ∷ word ∷ w ∷ first ∷ end ∷ []) in
      keyed P other (codes "ok") _ _ (told _ (LoadOk n m k)
      ((tt, (fits, (tt, (fits', (fits'', tt))))), rw (e, e', e'') refl))
      (keyed P other (codes "verify") _ _ (told _ (LoadVerify n m k)
      ((tt, (fits, (tt, (fits', (fits'', tt))))), rw (e, e', e'') refl))
      (keyed P other (codes "versions") _ _ (told _ (LoadVersions n m k)
      ((tt, (fits, (tt, (fits', (fits'', tt))))), rw (e, e', e'') refl))
      (nothing _)))

  retired_five-says : (other : List ℕ)
      → Says (IsWhat (codes "retire" ∷ word ∷ other ∷ first ∷ end ∷ [])) (retired_five other n m k)
  unfolding retired_five
  retired_five-says other =
      let P = λ (w : List ℕ). IsWhat (codes "retire" ∷ word ∷ w ∷ first ∷ end ∷ []) in
      keyed P other (codes "ok") _ _ (told _ (RetireOk n m k)
      ((tt, (fits, (tt, (fits', (fits'', tt))))), rw (e, e', e'') refl))
      (keyed P other (codes "versions") _ _ (told _ (RetireVersions n m k)
      ((tt, (fits, (tt, (fits', (fits'', tt))))), rw (e, e', e'') refl))
      (nothing _))

  called_five-says : (verb other : List ℕ)
      → Says (IsWhat (verb ∷ word ∷ other ∷ first ∷ end ∷ [])) (called_five verb other n m k)
  unfolding called_five
  called_five-says verb other =
      let P = λ (v : List ℕ). IsWhat (v ∷ word ∷ other ∷ first ∷ end ∷ []) in
      keyed P verb (codes "load") _ _ (loaded_five-says other)
      (keyed P verb (codes "retire") _ _ (retired_five-says other) (nothing _))

five-says : (verb word other first end : List ℕ)
    → Says (IsWhat (verb ∷ word ∷ other ∷ first ∷ end ∷ [])) (what_five verb word other first end)
unfolding what_five
five-says verb word other first end =
    number _ word _ (λ n fits e. number _ first _ (λ m fits' e'. number _ end _ (λ k fits'' e''.
    called_five-says word first end n m k fits e fits' e' fits'' e'' verb other)))

-- a line of the journal

entry-says : (word : List ℕ) (words : List (List ℕ)) (who : Option Who) (what : Option JournalLine)
    → Says (IsWho word) who → Says (IsWhat words) what
    → Says (IsSaid (codes "journal" ∷ word ∷ words)) (entry_form who what)
entry-says word words None what h g = nothing _
entry-says word words (Some who) None h g = nothing _
entry-says word words (Some who) (Some what) h g =
    told _ (line.Journal (record { who = who; what = what }))
    (((tt, (h.says.0, g.says.0)), tt), cc (h.says.1, g.says.1))

journal-says : (keyword word : List ℕ) (words : List (List ℕ)) (what : Option JournalLine) → Says (IsWhat words) what
    → Says (IsSaid (keyword ∷ word ∷ words)) (journal_form keyword word what)
unfolding journal_form
journal-says keyword word words what h =
    keyed (λ k. IsSaid (k ∷ word ∷ words)) keyword (codes "journal") _ _
    (entry-says word words _ what (who-says word) h) (nothing _)

-- lines

lone-says : (keyword : List ℕ) → Says (IsSaid (keyword ∷ [])) (lone_form keyword)
unfolding lone_form
lone-says keyword = keyed (λ k. IsSaid (k ∷ [])) keyword (codes "end") _ _ (told _ line.End (((tt, tt), tt), refl))
    (nothing _)

pair-says : (keyword word : List ℕ) → Says (IsSaid (keyword ∷ word ∷ [])) (pair_form keyword word)
unfolding pair_form
pair-says keyword word =
    let P = λ (k : List ℕ). IsSaid (k ∷ word ∷ []) in
    keyed P keyword (codes "report") _ _
    (keyed (λ w. IsSaid (codes "report" ∷ w ∷ [])) word (codes "1") _ _
    (told _ line.Title (((tt, (tt, tt)), tt), refl)) (nothing _))
    (keyed P keyword (codes "out") _ _
    (as_value (IsSaid (codes "out" ∷ word ∷ [])) word (bytes_in word) line.Out (bytes_in-says word)
    (λ bytes fits e. (((tt, (fits, tt)), tt), rw e refl)))
    (keyed P keyword (codes "stop") _ _
    (keyed (λ w. IsSaid (codes "stop" ∷ w ∷ [])) word (codes "fuel") _ _
    (told _ (line.Stop (Some Fuel)) (((tt, (tt, tt)), tt), refl)) (nothing _))
    (keyed P keyword (codes "units") _ _ (last_number _ word line.Units
    (λ n fits e. (((tt, (fits, tt)), tt), rw e refl)))
    (keyed P keyword (codes "steps") _ _ (last_number _ word line.Steps
    (λ n fits e. (((tt, (fits, tt)), tt), rw e refl))) (nothing _)))))

stop-says : (word end : List ℕ) → Says (IsSaid (codes "stop" ∷ word ∷ end ∷ [])) (stop_form word end)
unfolding stop_form
stop-says word end =
    let P = λ (w : List ℕ). IsSaid (codes "stop" ∷ w ∷ end ∷ []) in
    keyed P word (codes "exit") _ _ (last_number _ end (λ code. line.Stop (Some (Exit code)))
    (λ n fits e. (((tt, (tt, (fits, tt))), tt), rw e refl)))
    (keyed P word (codes "halt") _ _ (last_address _ end (λ place. line.Stop (Some (Halt place)))
    (λ n fits e. (((tt, (tt, (fits, tt))), tt), rw e refl)))
    (keyed P word (codes "align") _ _ (last_address _ end (λ place. line.Stop (Some (Align place)))
    (λ n fits e. (((tt, (tt, (fits, tt))), tt), rw e refl)))
    (nothing _)))

force-says : (epoch policy : List ℕ) → Says (IsSaid (codes "force" ∷ epoch ∷ policy ∷ [])) (force_form epoch policy)
unfolding force_form
force-says epoch policy = number _ epoch _ (λ n fits e. number _ policy _ (λ m fits' e'.
    told _ (line.Force n m) (((tt, (fits, (fits', tt))), tt), rw (e, e') refl)))

guest-says : (word entry : List ℕ) → Says (IsSaid (codes "guest" ∷ word ∷ entry ∷ [])) (guest_form word entry)
unfolding guest_form
guest-says word entry = number _ word _ (λ n fits e. named _ entry _ (λ is.
    told _ (line.Guest n entry) (((tt, (fits, (is, tt))), tt), rw e refl)))

positive : (n : ℕ) → nat_eq n 0 ≡ false → 0 < n
positive n h = grind (arith, nat_tests)

pick-says : (policy count : List ℕ) → Says (IsSaid (codes "pick" ∷ policy ∷ count ∷ [])) (pick_form policy count)
unfolding pick_form
pick-says policy count = number _ policy _ (λ n fits e. number _ count _ (λ m fits' e'.
    cond_both (nat_eq m 0) None (Some (line.Log (Pick n m))) (Says (IsSaid (codes "pick" ∷ policy ∷ count ∷ [])))
    (λ _. nothing _)
    (λ some. told _ (line.Log (Pick n m)) (((tt, (fits, (fits', tt))), positive m some), rw (e, e') refl))))

line_three-says : (keyword word end : List ℕ) → Says (IsSaid (keyword ∷ word ∷ end ∷ [])) (three_form keyword word end)
unfolding three_form
line_three-says keyword word end =
    let P = λ (k : List ℕ). IsSaid (k ∷ word ∷ end ∷ []) in
    keyed P keyword (codes "force") _ _ (force-says word end)
    (keyed P keyword (codes "guest") _ _ (guest-says word end)
    (keyed P keyword (codes "pick") _ _ (pick-says word end)
    (keyed P keyword (codes "stop") _ _ (stop-says word end) (nothing _))))

opened-says : (number_word word end : List ℕ) (n : ℕ) → n < 2 ^ 32 → number_word ≡ dec_text n
    → Says (IsSaid (codes "open" ∷ number_word ∷ word ∷ end ∷ [])) (opened_form word end n)
unfolding opened_form
opened-says number_word word end n fits e =
    keyed (λ w. IsSaid (codes "open" ∷ number_word ∷ w ∷ end ∷ [])) word (codes "cause") _ _
    (last_number _ end (λ cause. line.Log (Cause n cause))
    (λ m fits' e'. (((tt, (fits, (tt, (fits', tt)))), tt), rw (e, e') refl)))
    (address _ word _ (λ m fits' e'. number _ end _ (λ k fits'' e''.
    told _ (line.Log (Open n m k)) (((tt, (fits, (fits', (fits'', tt)))), tt), rw (e, e', e'') refl))))

line_four-says : (keyword word other end : List ℕ)
    → Says (IsSaid (keyword ∷ word ∷ other ∷ end ∷ [])) (four_form keyword word other end)
unfolding four_form
line_four-says keyword word other end =
    keyed (λ k. IsSaid (k ∷ word ∷ other ∷ end ∷ [])) keyword (codes "open") _ _
    (number _ word _ (λ n fits e. opened-says word other end n fits e))
    (journal-says keyword word (other ∷ end ∷ []) _ (two-says other end))

module-says : (a b c d e f : List ℕ) → Says (IsSaid (codes "module" ∷ a ∷ b ∷ c ∷ d ∷ e ∷ f ∷ []))
    (module_form a b c d e f)
unfolding module_form
module-says a b c d e f =
    number _ a _ (λ n hn en. named _ b _ (λ is. number _ c _ (λ base hb eb.
    number _ d _ (λ slot hs es. address _ e _ (λ place hp ep. number _ f _ (λ policy hq eq.
    told _ (line.Module (record { number = n; name = b; base = base; slot = slot; data_base = place; policy = policy }))
    (((tt, (hn, (is, (hb, (hs, (hp, (hq, tt))))))), tt), rw (en, eb, es, ep, eq) refl)))))))

seven-says : (keyword a b c d e f : List ℕ) → Says (IsSaid (keyword ∷ a ∷ b ∷ c ∷ d ∷ e ∷ f ∷ []))
    (seven_form keyword a b c d e f)
unfolding seven_form
seven-says keyword a b c d e f =
    keyed (λ k. IsSaid (k ∷ a ∷ b ∷ c ∷ d ∷ e ∷ f ∷ [])) keyword (codes "module") _ _ (module-says a b c d e f)
    (journal-says keyword a (b ∷ c ∷ d ∷ e ∷ f ∷ []) _ (five-says b c d e f))

-- the line that words say is written with these words
pub form-says : (words : List (List ℕ)) → Says (IsSaid words) (line_form words)
form-says [] = nothing _
form-says (k ∷ []) = lone-says k
form-says (k ∷ a ∷ []) = pair-says k a
form-says (k ∷ a ∷ b ∷ []) = line_three-says k a b
form-says (k ∷ a ∷ b ∷ c ∷ []) = line_four-says k a b c
form-says (k ∷ a ∷ b ∷ c ∷ d ∷ []) = journal-says k a (b ∷ c ∷ d ∷ []) _ (three-says b c d)
form-says (k ∷ a ∷ b ∷ c ∷ d ∷ e ∷ []) = journal-says k a (b ∷ c ∷ d ∷ e ∷ []) _ (four-says b c d e)
form-says (k ∷ a ∷ b ∷ c ∷ d ∷ e ∷ f ∷ []) = seven-says k a b c d e f
form-says (k ∷ a ∷ b ∷ c ∷ d ∷ e ∷ f ∷ g ∷ words) = nothing _
