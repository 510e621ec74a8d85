-- That a series can take the modules of files, one after the other, and their first fault.
use Rattle.std.proofs.Common.{◌≡◌, ℕ, ◌<◌, ◌≤◌, ◌++◌, List, [], ◌∷◌, length, Option, Some, None, All, refl, ap, sym, subst, ◌∙◌, ⊎_elim, arith}
use Rattle.std.specs.Prelude.{slice_get, IsSomeAnd}
use Rattle.std.proofs.lemmas.Bool.{cases_lt}
use Rattle.std.proofs.lemmas.List.Elements.{All-nil, All-cons, All-head, All-tail}
use Rattle.std.proofs.lemmas.Option.{slice_get_within, slice_get_past}
use Rattle.elf_read.specs.Header.{section_count}
use Rattle.elf_read.specs.declared.object.Object.{Object}
use Rattle.cfi_aux.specs.declared.modules.Module.{Module}
use Rattle.cfi_aux.specs.Sound.{IsSoundModule}
use Rattle.cfi_aux.proofs.JoinedLists.{data_length}
use Rattle.cfi_commands.specs.Reading.{IsModuleFile, IsFileFault}
use Rattle.cfi_commands.specs.Modules.{AreModuleFiles, IsFirstBadFile, IsModulesFault}
use Rattle.cfi_commands.proofs.ModulesLemmas.{at_seam, before_seam, same_count}
use Rattle.cfi_commands.proofs.ListingLemmas.{short_text}
use Rattle.cfi_commands.proofs.InstrumentingLemmas.{few_relocs}
use Rattle.cfi_aux.specs.declared.placed.Placed.{Placed}
use Rattle.cfi_modules.specs.declared.fault.JoinFault.{JoinFault}
use Rattle.cfi_modules.specs.declared.fault.JoinFault.TheVariants as joins
use Rattle.cfi_modules.specs.Order.{Joins, AreInOrder, IsJoinFault, IsFirstRefused}
use Rattle.cfi_modules.specs.Series.{Series, AreAllLive, HasJoined, IsRefusedBy, CanBeTaken, live_in}
use Rattle.cfi_modules.proofs.LiveLemmas.{all_live_in, all_live_more}
use Rattle.cfi_modules.proofs.OrderLemmas.{order_more as in_order_more}
use Rattle.cfi_commands.specs.declared.fault.CommandFault.{CommandFault}
use Rattle.cfi_commands.specs.declared.fault.CommandFault.TheVariants.{File, Together, Memory}
use Rattle.cfi_commands.specs.declared.refusal.Refusal.{Refusal}
use Rattle.cfi_commands.specs.declared.refusal.Refusal.TheVariants.{Place, Verify}
use Rattle.cfi_commands.specs.Files.{IsFilesFault, IsFirstBadModule}
use Rattle.cfi_commands.specs.inner.Order.{IsSeriesFault, fault_at}

-- what no item has does not hold of one that is there
pub some_stands : {X : Type 0} (P : X → Type 0) (found : Option X) → ((x : X) → P x → ⊥) → IsSomeAnd found P → ⊥
some_stands P None never some = some
some_stands P (Some x) never some = never x some

-- an item that is there is within
pub some_within : {X : Type 0} (xs : List X) (k : ℕ) (P : X → Type 0) → IsSomeAnd (slice_get xs k) P → k < length xs
some_within {X} xs k P some = ⊎_elim (λ (within : k < length xs). within)
    (λ (past : length xs ≤ k).
    absurd (subst (λ (found : Option X). IsSomeAnd found P) (slice_get_past xs k past) some))
    (cases_lt k (length xs))

-- what was read of a file is small
pub taken : (bytes : List ℕ) (m : Module) → IsModuleFile bytes m → IsSoundModule m → CanBeTaken m
taken bytes m file sound =
    let object = file.object in
    let same = file.whole.object_kept in
    let end : length object.static_data ≡ _ =
    ap (λ (xs : List ℕ). length xs) file.is.kept.static_data
    ∙ data_length bytes (section_count bytes) file.is.sound (omega arith) in
    record {
      sound = sound;
      text = omega (arith, short_text bytes object file.is, ap (λ (o : Object). length o.text) same);
      static_data = omega (arith, end, file.is.sound.data_size, ap (λ (o : Object). length o.static_data) same);
      relocs = few_relocs bytes m file;
      functions = omega (arith, file.whole.parts.good.function_count);
    }

-- what was read of files is small
pub all_taken : (files : List (List ℕ)) (modules : List Module) → AreModuleFiles files modules
    → All IsSoundModule modules → All CanBeTaken modules
all_taken [] [] read sound = All-nil CanBeTaken
all_taken [] (m ∷ modules) read sound = absurd read
all_taken (file ∷ files) [] read sound = absurd read
all_taken (file ∷ files) (m ∷ modules) read sound =
    All-cons CanBeTaken m modules (taken file m read.0 (All-head IsSoundModule m modules sound))
    (all_taken files modules read.1 (All-tail IsSoundModule m modules sound))

module _ (code_words : ℕ) (done : List Module) (m : Module) (series : Series)
    (same : series.code_words ≡ code_words) (live : AreAllLive series) (order : AreInOrder code_words done series.placed)
  where
    abbrev placed : List Placed
    placed = series.placed

    -- the module joins those before it
    pub order_more : (new : Series) → HasJoined series new m
        → AreInOrder code_words (done ++ m ∷ []) new.placed × (new.code_words ≡ code_words) × AreAllLive new
    order_more new joined =
        let p = joined.0 in
        let joins : Joins code_words placed placed m p =
        subst (λ (xs : List Placed). Joins code_words placed xs m p) (all_live_in series live)
        (subst (λ (n : ℕ). Joins n placed (live_in series) m p) same joined.1) in (
          subst (λ (xs : List Placed). AreInOrder code_words (done ++ m ∷ []) xs)
              (sym (ap (λ (s : Series). s.placed) joined.2)) (in_order_more code_words done placed m p order joins),
          ap (λ (s : Series). s.code_words) joined.2 ∙ same,
          subst AreAllLive (sym joined.2) (all_live_more series p live),
        )

    -- or is the first that does not
    first_refused : (rest : List Module) (fault : JoinFault) → IsRefusedBy series m fault
        → IsFirstRefused code_words (done ++ m ∷ rest) (length series.placed) fault
    first_refused rest fault why = record {
      refused = m;
      is = at_seam done m rest (length series.placed) order.count;
      before = series.placed;
      order = subst (λ (ms : List Module). AreInOrder code_words ms series.placed)
          (sym (before_seam done m rest (length series.placed) order.count)) order;
      why = subst (λ (xs : List Placed). IsJoinFault code_words placed xs m fault) (all_live_in series live)
          (subst (λ (n : ℕ). IsJoinFault n placed (live_in series) m fault) same why);
    }

    pub series_fault : (rest : List Module) (fault : JoinFault) → IsRefusedBy series m fault
        → IsSeriesFault code_words (done ++ m ∷ rest) (fault_at (length series.placed) fault)
    series_fault rest fault why = record {
      number = length series.placed;
      why = fault;
      is = refl;
      first = first_refused rest fault why;
    }

module _ (code_words : ℕ) (files : List (List ℕ)) where
  -- a file that is no module is at fault
  not_file : (number : ℕ) (refusal : Refusal) → IsFirstBadFile files number refusal
      → IsFilesFault code_words files (File number refusal)
  not_file number (Place fault) bad = absurd (some_stands _ (slice_get files number) (λ bytes is. is) bad.here)
  not_file number (Verify fault) bad = absurd (some_stands _ (slice_get files number) (λ bytes is. is) bad.here)
  not_file number refusal bad = bad

  joined_within : (number : ℕ) (fault : JoinFault) → IsFirstBadModule code_words files number fault
      → number < length files
  joined_within number fault bad =
      omega (
        arith,
        slice_get_within bad.modules number bad.refused.refused bad.refused.is,
        same_count files bad.modules bad.read,
      )

  -- what is at fault is one of the files
  pub fault_within : (number : ℕ) (refusal : Refusal) → IsFilesFault code_words files (File number refusal)
      → number < length files
  fault_within number (Place fault) bad = joined_within number (joins.Place fault) bad
  fault_within number (Verify fault) bad = joined_within number (joins.Verify fault) bad
  fault_within number refusal bad = some_within files number (λ bytes. IsFileFault bytes refusal) bad.here

  pub modules_as_files : (fault : CommandFault) → IsModulesFault files fault → IsFilesFault code_words files fault
  modules_as_files (File number refusal) bad = not_file number refusal bad
  modules_as_files (Together fault) bad = absurd bad
  modules_as_files Memory bad = tt

  -- the first fault of the files is one of their modules
  module _ (modules : List Module) (read : AreModuleFiles files modules) where
    refused_as : (number : ℕ) (why : JoinFault) → IsFirstRefused code_words modules number why
        → IsFilesFault code_words files (fault_at number why)
    refused_as number (joins.Place fault) first = record { modules = modules; read = read; refused = first }
    refused_as number (joins.Verify fault) first = record { modules = modules; read = read; refused = first }
    refused_as number joins.Memory first = tt

    pub series_as_files : (fault : CommandFault) → IsSeriesFault code_words modules fault
        → IsFilesFault code_words files fault
    series_as_files fault bad =
        subst (IsFilesFault code_words files) (sym bad.is) (refused_as bad.number bad.why bad.first)
