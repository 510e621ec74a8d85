-- How the words of a line are read.
use Rattle.std.specs.Prelude.{◌≡◌, ℕ, All, ◌^◌, Bool, false, ◌&&◌, ◌==◌, nat_lt, List, [], ◌∷◌, codes, if◌then◌else◌, Option, Some, None, option_and_then}
use Rattle.std.specs.Option.{option_map}
use Rattle.std.specs.List.{slice_split, list_all}
use Rattle.std.specs.Str.{bytes_eq}
use Rattle.std.specs.Str.Parse.{digits_value}
use Rattle.cfi_text.specs.Decimal.{small_number_in}
use Rattle.cfi_text.specs.Hex.{hex8_text, hex_text}
use Rattle.cfi_values.specs.Some.{◌>>=◌}
use Rattle.cfi_text.specs.Names.{name_in}
use Rattle.cfi_plan.specs.declared.journal.Who.{Who}
use Rattle.cfi_plan.specs.declared.journal.Who.TheVariants.{Script, Guest}
use Rattle.cfi_plan.specs.declared.journal.JournalLine.{JournalLine}
use Rattle.cfi_plan.specs.declared.journal.JournalLine.TheVariants.{LoadOk, LoadAgain, LoadFull, LoadPlace, LoadVerify, LoadVersions, LoadEpochs, LoadRetired, RefreshOk, RefreshVersions, RefreshEpochs, RetireOk, RetireNotLive, RetireInUse, RetireVersions, RetireEpochs}
use Rattle.cfi_unit.specs.declared.log.Log.TheVariants.{Pick, Open, Cause}
use Rattle.cfi_unit.specs.declared.log.Stop.TheVariants.{Exit, Halt, Align, Fuel}
use Rattle.cfi_report.specs.declared.line.Line.{Line}
use Rattle.cfi_report.specs.declared.line.Line.TheVariants as line

-- the byte stands nowhere in the text
abbrev pub Lacks : (byte : ℕ) → (text : List ℕ) → Type 0
Lacks byte text = All (λ other. (other == byte) ≡ false) text

-- the words of a line, which single spaces part
unfoldable pub spaced_words : (text : List ℕ) → List (List ℕ)
spaced_words text = slice_split (λ byte. byte == 32) text

-- the number of 32 bits of which the word is the spelling in eight hexadecimal digits
unfoldable pub hex_address : (word : List ℕ) → Option ℕ
hex_address word =
    if nat_lt (digits_value 16 word) (2 ^ 32) && bytes_eq word (hex8_text (digits_value 16 word))
    then Some (digits_value 16 word) else None

-- the values of two digits each
abbrev pub pair_values : (word : List ℕ) → List ℕ
pair_values [] = []
pair_values (digit ∷ []) = []
pair_values (digit ∷ other ∷ digits) = digits_value 16 (digit ∷ other ∷ []) ∷ pair_values digits

-- the word spells the bytes in two digits each
abbrev pub is_hex : (word bytes : List ℕ) → Bool
is_hex word bytes = list_all (λ byte. nat_lt byte 256) bytes && bytes_eq word (hex_text bytes)

-- the bytes that the word spells in hexadecimal digits
unfoldable pub pairs_in : (word : List ℕ) → Option (List ℕ)
pairs_in word = if is_hex word (pair_values word) then Some (pair_values word) else None

-- the bytes that the word spells, of which a dash is for none
unfoldable pub bytes_in : (word : List ℕ) → Option (List ℕ)
bytes_in word =
    if bytes_eq word (codes "-") then Some []
    else (if bytes_eq word [] then None else pairs_in word)

-- whose line of the journal it is
unfoldable pub who_in : (word : List ℕ) → Option Who
who_in word = if bytes_eq word (codes "script") then Some Script else option_map Guest (small_number_in word)

-- what came of a call, in two words to five

-- what a line of the journal of two words says
unfoldable pub what_two : (verb end : List ℕ) → Option JournalLine
what_two verb end =
    if bytes_eq verb (codes "refresh") && bytes_eq end (codes "epochs") then Some RefreshEpochs else None

-- what one of three says of a load
unfoldable pub loaded_three : (end : List ℕ) → (number : ℕ) → Option JournalLine
loaded_three end number =
    if bytes_eq end (codes "full") then Some (LoadFull number)
    else (if bytes_eq end (codes "epochs") then Some (LoadEpochs number)
    else (if bytes_eq end (codes "retired") then Some (LoadRetired number) else None))

-- what one of three says of a retiring
unfoldable pub retired_three : (end : List ℕ) → (number : ℕ) → Option JournalLine
retired_three end number =
    if bytes_eq end (codes "notlive") then Some (RetireNotLive number)
    else (if bytes_eq end (codes "epochs") then Some (RetireEpochs number) else None)

-- what one of three says of a call for a module
unfoldable pub called_three : (verb end : List ℕ) → (number : ℕ) → Option JournalLine
called_three verb end number =
    if bytes_eq verb (codes "load") then loaded_three end number
    else (if bytes_eq verb (codes "retire") then retired_three end number else None)

-- what one of three says
unfoldable pub what_three : (verb word end : List ℕ) → Option JournalLine
what_three verb word end =
    if bytes_eq verb (codes "refresh") && bytes_eq word (codes "ok") then option_map RefreshOk (small_number_in end)
    else option_and_then (called_three verb end) (small_number_in word)

-- what one of four says of a load
unfoldable pub loaded_four : (word : List ℕ) → (number last : ℕ) → Option JournalLine
loaded_four word number last =
    if bytes_eq word (codes "again") then Some (LoadAgain number last)
    else (if bytes_eq word (codes "place") then Some (LoadPlace number last) else None)

-- what one of four says of a call for a module
unfoldable pub called_four : (verb word : List ℕ) → (number last : ℕ) → Option JournalLine
called_four verb word number last =
    if bytes_eq verb (codes "load") then loaded_four word number last
    else (if bytes_eq verb (codes "retire") && bytes_eq word (codes "inuse") then Some (RetireInUse number last)
    else None)

-- what one of four says
unfoldable pub what_four : (verb word other end : List ℕ) → Option JournalLine
what_four verb word other end =
    if bytes_eq verb (codes "refresh") && bytes_eq word (codes "versions") then (do
      guest ← small_number_in other
      quiet ← small_number_in end
      Some (RefreshVersions guest quiet))
    else (do
      number ← small_number_in word
      last ← small_number_in end
      called_four verb other number last)

-- what one of five says of a load
unfoldable pub loaded_five : (word : List ℕ) → (number first last : ℕ) → Option JournalLine
loaded_five word number first last =
    if bytes_eq word (codes "ok") then Some (LoadOk number first last)
    else (if bytes_eq word (codes "verify") then Some (LoadVerify number first last)
    else (if bytes_eq word (codes "versions") then Some (LoadVersions number first last) else None))

-- what one of five says of a retiring
unfoldable pub retired_five : (word : List ℕ) → (number first last : ℕ) → Option JournalLine
retired_five word number first last =
    if bytes_eq word (codes "ok") then Some (RetireOk number first last)
    else (if bytes_eq word (codes "versions") then Some (RetireVersions number first last) else None)

-- what one of five says of a call for a module
unfoldable pub called_five : (verb word : List ℕ) → (number first last : ℕ) → Option JournalLine
called_five verb word number first last =
    if bytes_eq verb (codes "load") then loaded_five word number first last
    else (if bytes_eq verb (codes "retire") then retired_five word number first last else None)

-- what one of five says
unfoldable pub what_five : (verb word other first last : List ℕ) → Option JournalLine
what_five verb word other first last = do
  number ← small_number_in word
  one ← small_number_in first
  two ← small_number_in last
  called_five verb other number one two

-- a line of the journal
abbrev pub entry_form : Option Who → Option JournalLine → Option Line
entry_form who what = do
  w ← who
  l ← what
  Some (line.Journal (record { who = w; what = l }))

-- a line of the journal, by its keyword and what it says
unfoldable pub journal_form : (keyword who : List ℕ) → Option JournalLine → Option Line
journal_form keyword who what = if bytes_eq keyword (codes "journal") then entry_form (who_in who) what else None

-- lines of one word to seven

-- a line of one word
unfoldable pub lone_form : (keyword : List ℕ) → Option Line
lone_form keyword = if bytes_eq keyword (codes "end") then Some line.End else None

-- a line of two
unfoldable pub pair_form : (keyword word : List ℕ) → Option Line
pair_form keyword word =
    if bytes_eq keyword (codes "report") then (if bytes_eq word (codes "1") then Some line.Title else None)
    else (if bytes_eq keyword (codes "out") then option_map line.Out (bytes_in word)
    else (if bytes_eq keyword (codes "stop")
    then (if bytes_eq word (codes "fuel") then Some (line.Stop (Some Fuel)) else None)
    else (if bytes_eq keyword (codes "units") then option_map line.Units (small_number_in word)
    else (if bytes_eq keyword (codes "steps") then option_map line.Steps (small_number_in word)
    else None))))

-- what a guest has stopped with, in two words
unfoldable pub stop_form : (word end : List ℕ) → Option Line
stop_form word end =
    if bytes_eq word (codes "exit") then option_map (λ code. line.Stop (Some (Exit code))) (small_number_in end)
    else (if bytes_eq word (codes "halt") then option_map (λ address. line.Stop (Some (Halt address))) (hex_address end)
    else (if bytes_eq word (codes "align")
    then option_map (λ address. line.Stop (Some (Align address))) (hex_address end)
    else None))

-- the epoch and the policy in force
unfoldable pub force_form : (epoch policy : List ℕ) → Option Line
force_form epoch policy = do
  e ← small_number_in epoch
  p ← small_number_in policy
  Some (line.Force e p)

-- a guest, by its number and entry
unfoldable pub guest_form : (number entry : List ℕ) → Option Line
guest_form number entry = do
  n ← small_number_in number
  e ← name_in entry
  Some (line.Guest n e)

-- some picks of a policy
unfoldable pub pick_form : (policy count : List ℕ) → Option Line
pick_form policy count = do
  p ← small_number_in policy
  c ← small_number_in count
  if c == 0 then None else Some (line.Log (Pick p c))

-- a line of three words
unfoldable pub three_form : (keyword word end : List ℕ) → Option Line
three_form keyword word end =
    if bytes_eq keyword (codes "force") then force_form word end
    else (if bytes_eq keyword (codes "guest") then guest_form word end
    else (if bytes_eq keyword (codes "pick") then pick_form word end
    else (if bytes_eq keyword (codes "stop") then stop_form word end
    else None)))

-- an open that was answered, by its address and policy or by its cause
unfoldable pub opened_form : (word end : List ℕ) → (number : ℕ) → Option Line
opened_form word end number =
    if bytes_eq word (codes "cause") then option_map (λ cause. line.Log (Cause number cause)) (small_number_in end)
    else (do
      address ← hex_address word
      policy ← small_number_in end
      Some (line.Log (Open number address policy)))

-- a line of four words
unfoldable pub four_form : (keyword word other end : List ℕ) → Option Line
four_form keyword word other end =
    if bytes_eq keyword (codes "open") then option_and_then (opened_form other end) (small_number_in word)
    else journal_form keyword word (what_two other end)

-- the line of a module
unfoldable pub module_form : (number name base slot data_base policy : List ℕ) → Option Line
module_form number name base slot data_base policy = do
  n ← small_number_in number
  called ← name_in name
  b ← small_number_in base
  s ← small_number_in slot
  d ← hex_address data_base
  p ← small_number_in policy
  Some (line.Module (record { number = n; name = called; base = b; slot = s; data_base = d; policy = p }))

-- a line of seven words
unfoldable pub seven_form : (keyword a b c d e f : List ℕ) → Option Line
seven_form keyword a b c d e f =
    if bytes_eq keyword (codes "module") then module_form a b c d e f
    else journal_form keyword a (what_five b c d e f)

-- the line that the words say
abbrev pub line_form : (words : List (List ℕ)) → Option Line
line_form [] = None
line_form (keyword ∷ []) = lone_form keyword
line_form (keyword ∷ a ∷ []) = pair_form keyword a
line_form (keyword ∷ a ∷ b ∷ []) = three_form keyword a b
line_form (keyword ∷ a ∷ b ∷ c ∷ []) = four_form keyword a b c
line_form (keyword ∷ a ∷ b ∷ c ∷ d ∷ []) = journal_form keyword a (what_three b c d)
line_form (keyword ∷ a ∷ b ∷ c ∷ d ∷ e ∷ []) = journal_form keyword a (what_four b c d e)
line_form (keyword ∷ a ∷ b ∷ c ∷ d ∷ e ∷ f ∷ []) = seven_form keyword a b c d e f
line_form (keyword ∷ a ∷ b ∷ c ∷ d ∷ e ∷ f ∷ g ∷ words) = None
