-- The words of a text, read one after the other.
use Rattle.std.proofs.Common.{◌≡◌, ℕ, List, [], ◌∷◌, ◌++◌, Option, Some, None, refl, ap, sym, ◌∙◌, append_assoc, append-nil}
use Rattle.std.specs.Option.{option_map}
use Rattle.cfi_text.specs.Words.{words_in}
use Rattle.rv_line.specs.Statement.{onto, all_in}

-- what was read stands before what the rest says
pub record AllRead {X : Type 0} (read : List ℕ → Option X) (text rest : List ℕ) (xs : List X) : Type 0 where
  pub same : all_in read (words_in text) ≡ option_map (λ ys. xs ++ ys) (all_in read (words_in rest))

none_before : {X : Type 0} (all : Option (List X)) → all ≡ option_map (λ ys. [] ++ ys) all
none_before None = refl
none_before (Some ys) = refl

one_more : {X : Type 0} (xs : List X) (x : X) (all : Option (List X)) →
    option_map (λ ys. xs ++ ys) (onto (Some x) all) ≡ option_map (λ ys. (xs ++ x ∷ []) ++ ys) all
one_more xs x None = refl
one_more xs x (Some ys) = ap (λ zs. Some zs) (sym (append_assoc xs (x ∷ []) ys))

pub AllRead-start : {X : Type 0} (read : List ℕ → Option X) (text : List ℕ) → AllRead read text text []
AllRead-start read text = record { same = none_before (all_in read (words_in text)) }

module _ {X : Type 0} (read : List ℕ → Option X) (text rest : List ℕ) (xs : List X) (so_far : AllRead read text rest xs)
  where
    -- where the next word says something, it stands after it
    pub AllRead-next : (word after : List ℕ) (x : X) → words_in rest ≡ word ∷ words_in after → read word ≡ Some x →
        AllRead read text after (xs ++ x ∷ [])
    AllRead-next word after x first says = record {
      same = so_far.same ∙ ap (λ words. option_map (λ ys. xs ++ ys) (all_in read words)) first
          ∙ ap (λ o. option_map (λ ys. xs ++ ys) (onto o (all_in read (words_in after)))) says
          ∙ one_more xs x (all_in read (words_in after));
    }

    -- where it says nothing, the text does not
    pub AllRead-none : (word after : List ℕ) → words_in rest ≡ word ∷ words_in after → read word ≡ None →
        None ≡ all_in read (words_in text)
    AllRead-none word after first says =
        sym (so_far.same ∙ ap (λ words. option_map (λ ys. xs ++ ys) (all_in read words)) first
        ∙ ap (λ o. option_map (λ ys. xs ++ ys) (onto o (all_in read (words_in after)))) says)

    -- where no word is left, all were read
    pub AllRead-all : words_in rest ≡ [] → Some xs ≡ all_in read (words_in text)
    AllRead-all all =
        sym (so_far.same ∙ ap (λ words. option_map (λ ys. xs ++ ys) (all_in read words)) all
        ∙ ap (λ zs. Some zs) (append-nil xs))
