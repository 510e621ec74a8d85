-- What the parser's walk makes of words that are no options.
use Rattle.std.proofs.Common.{◌≡◌, ℕ, List, [], ◌∷◌, ◌++◌, Option, Some, None, sym, ap, ◌∙◌, append_assoc, false, Bool, codes, if◌then◌else◌}
use Rattle.std.specs.Prelude.{◌&&◌, fold, All, option_and_then}
use Rattle.std.specs.Str.{bytes_eq}
use Rattle.std.proofs.lemmas.Bool.{ne_eqb}
use Rattle.std.proofs.lemmas.List.{append-nil}
use Rattle.std.proofs.lemmas.List.Elements.{All-head, All-tail}
use Rattle.clap.specs.Lexer.{long_of, short_of, strip_byte, long_of_rest, short_of_rest}
use Rattle.clap.specs.Walk.{Held, Row, Rule, Step, Text, Waiting, Walk, after_step, idle, positional, long_or_other, nothing_held, plain_word, reading_by, short_or_plain, subcommand_or_other, trailing, walk_from, walked}
use Rattle.clap.specs.Simple.{built}
use Rattle.clap.specs.declared.parser.matches.ValueSource.TheVariants.{CommandLine}
use Rattle.cfi_request.specs.Words.{IsOperand, dash}
use Rattle.cfi_request.specs.Parse.{first_rule, reader}

-- ---- a word that is no option

no_strip : (word : Text) → IsOperand word → strip_byte dash word ≡ None
no_strip [] operand = absurd operand
no_strip (x ∷ xs) operand = ap (λ (b : Bool). if b then Some xs else None) (ne_eqb x dash operand)

pub no_dashes : (word : Text) → IsOperand word → bytes_eq word (45 ∷ 45 ∷ []) ≡ false
no_dashes [] operand = absurd operand
no_dashes (x ∷ xs) operand = ap (λ (b : Bool). b && bytes_eq xs (45 ∷ [])) (ne_eqb x dash operand)

pub no_long : (word : Text) → IsOperand word → long_of word ≡ None
no_long word operand =
    ap (λ (rest : Option Text). option_and_then long_of_rest (option_and_then (strip_byte 45) rest))
    (no_strip word operand)

pub no_short : (word : Text) → IsOperand word → short_of word ≡ None
no_short word operand = ap (λ (rest : Option Text). option_and_then short_of_rest rest) (no_strip word operand)

-- it is no flag and names no subcommand
pub plain_met : (c : List Rule) (waiting : Waiting) (position : ℕ) (word : Text) (h : Held) → IsOperand word
    → subcommand_or_other c None waiting position word h ≡ plain_word c waiting word h
plain_met c waiting position word h operand =
    ap (λ (b : Bool). if b then (h, trailing position) else long_or_other c waiting word (long_of word) h)
    (no_dashes word operand)
    ∙ ap (λ o. long_or_other c waiting word o h) (no_long word operand)
    ∙ ap (λ o. short_or_plain c waiting word o h) (no_short word operand)

-- ---- the walk

-- the two arguments as they are built
abbrev pub rules : List Rule
rules = (built reader).top.rules

-- what the first argument has after the first word
abbrev pub first_row : Text → Row
first_row first = record {
  id = codes "command";
  values = first ∷ [];
  count = None;
  source = Some CommandLine;
  reading = reading_by first_rule;
}

-- after the first word
abbrev pub at_first : Text → Walk
at_first first = record {
  held = record { rows = []; pending = Some (codes "command", first ∷ []); skip = 0 };
  waiting = idle;
  position = 2;
  is_trailing = false;
  stopped = None;
}

-- after the first word and these
abbrev pub at_others : (first : Text) → (others : List Text) → Walk
at_others first others = record {
  held = record { rows = first_row first ∷ []; pending = Some (codes "words", others); skip = 0 };
  waiting = positional;
  position = 2;
  is_trailing = false;
  stopped = None;
}

pub first_walked : (first : Text) → IsOperand first → walked rules [] (walk_from nothing_held) first ≡ at_first first
unfolding walked
first_walked first operand =
    ap (λ (met : Held × Step). after_step rules first (walk_from nothing_held) met.0 met.1)
    (plain_met rules idle 1 first nothing_held operand)

pub second_walked : (first word : Text) → IsOperand word
    → walked rules [] (at_first first) word ≡ at_others first (word ∷ [])
unfolding walked
second_walked first word operand =
    ap (λ (met : Held × Step). after_step rules word (at_first first) met.0 met.1)
    (plain_met rules idle 2 word (at_first first).held operand)

pub next_walked : (first word : Text) (others : List Text) → IsOperand word
    → walked rules [] (at_others first others) word ≡ at_others first (others ++ word ∷ [])
unfolding walked
next_walked first word others operand =
    ap (λ (met : Held × Step). after_step rules word (at_others first others) met.0 met.1)
    (plain_met rules positional 2 word (at_others first others).held operand)

pub others_walked : (first : Text) (others more : List Text) → All IsOperand more
    → fold (walked rules []) (at_others first others) more ≡ at_others first (others ++ more)
others_walked first others [] all = ap (at_others first) (sym (append-nil others))
others_walked first others (word ∷ more) all =
    ap (λ (w : Walk). fold (walked rules []) w more) (next_walked first word others (All-head IsOperand word more all))
    ∙ others_walked first (others ++ word ∷ []) more (All-tail IsOperand word more all)
    ∙ ap (at_others first) (append_assoc others (word ∷ []) more)
