-- Which words the matches have.
use Rattle.std.proofs.Common.{◌≡◌, List, [], ◌∷◌, Option, Some, None, refl, ap, ◌∙◌, codes, unwrap_or, drop}
use Rattle.std.specs.Prelude.{All, slice_get}
use Rattle.std.proofs.lemmas.List.Elements.{All-head}
use Rattle.clap.specs.Matches.{found_of}
use Rattle.clap.specs.Simple.{HasMatchesOf, matches_of}
use Rattle.clap.specs.Walk.{Row, Text, Walk, all_of, finished, first_of, reading_by, rows_of}
use Rattle.clap.specs.declared.parser.matches.ArgMatches.{ArgMatches}
use Rattle.clap.specs.declared.parser.matches.ValueSource.TheVariants.{CommandLine}
use Rattle.clap.proofs.WalkLemmas.{first_value-rows, raw_values-rows}
use Rattle.cfi_request.specs.Words.{IsOperand}
use Rattle.cfi_request.specs.Parse.{HasWords, others_rule, reader}
use Rattle.cfi_request.proofs.WalkLemmas.{first_row, rules}
use Rattle.cfi_request.proofs.TakesLemmas.{walk_of_one, walk_of_more}

-- what the second argument has
abbrev others_row : List Text → Row
others_row values = record {
  id = codes "words";
  values = values;
  count = None;
  source = Some CommandLine;
  reading = reading_by others_rule;
}

-- what the arguments have of these words
abbrev rows_for : List Text → List Row
rows_for [] = []
rows_for (first ∷ []) = first_row first ∷ []
rows_for (first ∷ word ∷ rest) = first_row first ∷ others_row (word ∷ rest) ∷ []

rows_are : (words : List Text) → All IsOperand words → matches_of reader words ≡ rows_for words
rows_are [] all = refl
rows_are (first ∷ []) all =
    ap (λ (w : Walk). finished rules w.held) (walk_of_one first (All-head IsOperand first [] all))
rows_are (first ∷ word ∷ rest) all = ap (λ (w : Walk). finished rules w.held) (walk_of_more first word rest all)

command_is : (words : List Text) → first_of (codes "command") (rows_for words) ≡ slice_get words 0
command_is [] = refl
command_is (first ∷ []) = refl
command_is (first ∷ word ∷ rest) = refl

operands_are : (words : List Text) → unwrap_or (all_of (codes "words") (rows_for words)) [] ≡ drop 1 words
operands_are [] = refl
operands_are (first ∷ []) = refl
operands_are (first ∷ word ∷ rest) = refl

pub has_words : (words : List Text) (m : ArgMatches) → All IsOperand words → HasMatchesOf reader words m
    → HasWords words m
has_words words m all matches =
    let rows : rows_of (found_of m) ≡ rows_for words = (matches refl).0 ∙ rows_are words all in
    record {
      command = first_value-rows (found_of m) (codes "command") ∙ ap (first_of (codes "command")) rows
          ∙ command_is words;
      operands = ap (λ (found : Option (List Text)). unwrap_or found [])
          (raw_values-rows (found_of m) (codes "words") ∙ ap (all_of (codes "words")) rows) ∙ operands_are words;
    }
