use Rattle.std.proofs.Common.{rules, ap, ap₂, ◌≡◌, ◌∙◌, true, Option, Some, None}
use Rattle.std.specs.Prelude.{IsSomeAnd}
use Rattle.std.proofs.lemmas.Result.{IfOk-weaker}
use Rattle.clap.specs.Simple.{Shape, app_of_fields, on_top}
use Rattle.clap.specs.Words.{Rule, app_of, rule_of, with_rule}
use Rattle.clap.specs.declared.builder.range.ValueRange.{ValueRange}
use Rattle.cfi_request.specs.Parse.{first_rule, others_rule, bare_reader}
use Rattle.cfi_request.proofs.parse.reader.Goals as goal

abbrev nameless : Shape → Shape
nameless s = record s { no_binary_name = true }

abbrev helpless : Shape → Shape
helpless s = record s { disable_help_flag = true }

abbrev versionless : Shape → Shape
versionless s = record s { disable_version_flag = true }

abbrev ranged : Rule → Option ValueRange → Rule
ranged rule range = record rule { range = range }

some_is : (found : Option ValueRange) (range : ValueRange) → IsSomeAnd found (λ r. r ≡ range) → found ≡ Some range
some_is None range is = absurd is
some_is (Some r) range is = ap (λ (x : ValueRange). Some x) is

-- the settings, and then the two arguments
pub returns : goal.returns
returns c =
    let first_is : rule_of c.required-first.result ≡ first_rule = search rules in
    let others_is : rule_of c.num_args-others.result ≡ others_rule = ap rule_of c.num_args-others.ensures.0
    ∙ ap₂ ranged c.new-2.ensures.rule (some_is _ _ c.num_args-others.ensures.1) in
    let bare_is : app_of c.disable_version_flag.result ≡ bare_reader = ap app_of_fields c.disable_version_flag.ensures
    ∙ ap (on_top versionless) (ap app_of_fields c.disable_help_flag.ensures
    ∙ ap (on_top helpless) (ap app_of_fields c.no_binary_name.ensures
    ∙ ap (on_top nameless) c.new-3.ensures.app)) in
    IfOk-weaker c.arg-2.result _ _
    (λ command added. added.shape (search rules)
    ∙ ap₂ with_rule (c.in_ok-arg.ensures.shape (search rules) ∙ ap₂ with_rule bare_is first_is) others_is)
    c.arg-2.ensures
