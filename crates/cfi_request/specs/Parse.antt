-- The parser of the words, and what its matches say.
use Rattle.std.specs.Prelude.{◌≡◌, ℕ, List, [], true, drop, slice_get, codes, option_map, unwrap_or, Some}
use Rattle.clap.specs.declared.parser.matches.ArgMatches.{ArgMatches}
use Rattle.clap.specs.Words.{App, Rule, new_app, new_rule, with_rule, found_of, first_value, matched_of, raw_values}
use Rattle.clap.specs.Simple.{on_top}
use Rattle.clap.specs.Lexer.{usize_max}

-- the first word, which must be there
abbrev pub first_rule : Rule
first_rule = record (new_rule (codes "command")) { required = true }

-- all words after it
abbrev pub others_rule : Rule
others_rule = record (new_rule (codes "words")) {
  range = Some (record { start_inclusive = 0; end_inclusive = usize_max });
}

-- a parser of positional words alone: no program's name before them, and neither help nor a version
abbrev pub bare_reader : App
bare_reader = on_top (λ s. record s {
  no_binary_name = true;
  disable_help_flag = true;
  disable_version_flag = true;
}) (new_app (codes "cfi"))

-- it has two arguments
abbrev pub reader : App
reader = with_rule (with_rule bare_reader first_rule) others_rule

-- the values of the second argument, none where it was not used
abbrev pub operands_in : ArgMatches → List (List ℕ)
operands_in matches = unwrap_or (option_map raw_values (matched_of (found_of matches) (codes "words"))) []

-- the matches have the words: the first, where there is one, and those after it
pub record HasWords (words : List (List ℕ)) (matches : ArgMatches) : Type 0 where
  pub command : first_value (found_of matches) (codes "command") ≡ slice_get words 0
  pub operands : operands_in matches ≡ drop 1 words
