-- Entries as they are kept, with one more.
use Rattle.std.proofs.Common.{◌≡◌, ℕ, suc, ◌+◌, ◌-◌, ◌<◌, inl, inr, List, [], ◌∷◌, ◌++◌, length, slice_index, slice_index_or, Some, None, refl, sym, ap, ◌∙◌, arith}
use Rattle.std.proofs.lemmas.Bool.{cases_lt}
use Rattle.std.proofs.lemmas.List.{map-append, length-append, get_or-append-add}
use Rattle.std.proofs.lemmas.List.{get_or_append_left}
use Rattle.cfi_word.specs.declared.lists.Image.{Image}
use Rattle.cfi_model.specs.declared.history.Entry.{Entry}
use Rattle.cfi_model.specs.Words.{no_entry}
use Rattle.cfi_world.specs.inner.Entries.{HaveImages, entry_by, entries_by, last_policy_of, update_by}

-- an entry by its parts
abbrev entry_with : (policy : ℕ) → Image → Entry
entry_with policy image = record { policy = policy; image = image; mark = 0 }

module _ {A : Type 0} where
  -- an item at the end
  pub at_end : (xs : List A) (x d : A) (n : ℕ) → n ≡ length xs → slice_index_or (xs ++ x ∷ []) n d ≡ x
  at_end xs x d n e =
      ap (λ k. slice_index_or (xs ++ x ∷ []) k d) (omega (arith, e)) ∙ get_or-append-add xs (x ∷ []) 0 d

  pub one_longer : (xs : List A) (x : A) → length (xs ++ x ∷ []) ≡ length xs + 1
  one_longer xs x = length-append xs (x ∷ [])

-- the policy of the last entry
pub last_is : (policies : List ℕ) (policy : ℕ) → last_policy_of (policies ++ policy ∷ []) ≡ policy
last_is policies policy =
    at_end policies policy 0 (length (policies ++ policy ∷ []) - 1) (omega (arith, one_longer policies policy))

each_push : (policies : List ℕ) (policy most : ℕ)
    → ((number : ℕ) → number < length policies → slice_index policies number < most) → policy < most
    → (number : ℕ) → number < length (policies ++ policy ∷ []) → slice_index (policies ++ policy ∷ []) number < most
each_push policies policy most each below number within = elim (cases_lt number (length policies)) [
  | inl inside ↦
      (let e : slice_index (policies ++ policy ∷ []) number ≡ slice_index policies number =
      get_or_append_left policies (policy ∷ []) 0 number inside in
      omega (arith, e, each number inside))
  | inr past ↦
      (let e = at_end policies policy 0 number (omega (arith, past, within, one_longer policies policy)) in
      omega (arith, e, below))
]

last_below : (images : List Image) (policies : List ℕ) → HaveImages images policies
    → last_policy_of policies < length images
last_below images policies kept = omega (arith, kept.last)

pub kept_refresh : (images : List Image) (policies : List ℕ) → HaveImages images policies
    → HaveImages images (policies ++ last_policy_of policies ∷ [])
kept_refresh images policies kept =
    let last = last_is policies (last_policy_of policies) in
    record {
      some = omega (arith, one_longer policies (last_policy_of policies));
      last = kept.last ∙ ap (λ n. n + 1) (sym last);
      each = each_push policies (last_policy_of policies) (length images) kept.each (last_below images policies kept);
    }

pub kept_load : (images : List Image) (policies : List ℕ) (image : Image) → HaveImages images policies
    → HaveImages (images ++ image ∷ []) (policies ++ ((last_policy_of policies + 1) ∷ []))
kept_load images policies image kept =
    let last = last_is policies (last_policy_of policies + 1) in
    let long = one_longer images image in
    record {
      some = omega (arith, one_longer policies (last_policy_of policies + 1));
      last = omega (arith, last, long, kept.last);
      each = each_push policies (last_policy_of policies + 1) (length (images ++ image ∷ []))
          (λ number within. omega (arith, kept.each number within, long)) (omega (arith, long, kept.last));
    }

-- the entries before an image stay
entry_same : (images : List Image) (image : Image) (policy : ℕ) → policy < length images
    → entry_by (images ++ image ∷ []) policy ≡ entry_by images policy
entry_same images image policy within =
    ap (entry_with policy)
    (get_or_append_left images (image ∷ []) no_entry.image policy within)

entries_same : (images : List Image) (image : Image) (policies : List ℕ)
    → ((number : ℕ) → number < length policies → slice_index policies number < length images)
    → entries_by (images ++ image ∷ []) policies ≡ entries_by images policies
entries_same images image [] each = refl
entries_same images image (policy ∷ policies) each =
    ap (λ e. e ∷ entries_by (images ++ image ∷ []) policies) (entry_same images image policy (each 0 (omega arith)))
    ∙ ap (λ es. entry_by images policy ∷ es)
    (entries_same images image policies (λ number within. each (suc number) (omega (arith, within))))

pub entries_refresh : (images : List Image) (policies : List ℕ)
    → entries_by images (policies ++ last_policy_of policies ∷ [])
    ≡ entries_by images policies ++ update_by images policies None ∷ []
entries_refresh images policies = map-append (entry_by images) policies (last_policy_of policies ∷ [])

pub entries_load : (images : List Image) (policies : List ℕ) (image : Image) → HaveImages images policies
    → entries_by (images ++ image ∷ []) (policies ++ ((last_policy_of policies + 1) ∷ []))
    ≡ entries_by images policies ++ update_by images policies (Some image) ∷ []
entries_load images policies image kept =
    map-append (entry_by (images ++ image ∷ [])) policies ((last_policy_of policies + 1) ∷ [])
    ∙ ap (λ es. es ++ (entry_by (images ++ image ∷ []) (last_policy_of policies + 1) ∷ []))
    (entries_same images image policies kept.each)
    ∙ ap (λ i. entries_by images policies ++ entry_with (last_policy_of policies + 1) i ∷ [])
    (at_end images image no_entry.image (last_policy_of policies + 1) (sym kept.last))
