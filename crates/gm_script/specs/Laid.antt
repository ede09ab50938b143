-- Lines that are laid end to end from their words, with blanks between them.
use Rattle.std.specs.Prelude.{◌≡◌, ◌⊎◌, ℕ, ◌<◌, ◌≤◌, nat_eq, true, false, List, [], ◌∷◌, ◌++◌}
use Rattle.std.specs.Prelude.{length, codes, slice_get, Option, Some, None}
use Rattle.std.specs.List.{ends_with}
use Rattle.std.specs.Str.{is_utf8}
use Rattle.gm_script.specs.Line.{line_limit}
use Rattle.gm_base.specs.Ascii.{carriage_return}
use Rattle.gm_types.specs.Specification.{Specification}
use Rattle.gm_types.specs.TypeList.{number_of_name}
use Rattle.gm_types.specs.Words.{is_name}
use Rattle.gm_script.specs.Ask.{has_option, target_of}
use Rattle.gm_script.specs.Order.{Asked, Order}
use Rattle.gm_script.specs.Order as order
use Rattle.gm_script.specs.Words.{AreBlanks, are_no_blanks, is_word, begins_without_blank}
use Rattle.gm_script.specs.Words.{is_nothing}

-- blanks, one at least
pub record IsGap (gap : List ℕ) : Type 0 where
  pub some : 0 < length gap
  pub blanks : AreBlanks gap

-- blanks or none, a word, a gap, a name, and what stands behind it: nothing, or blanks and the rest
pub record IsLaid (word name rest text : List ℕ) : Type 0 where
  pub before : List ℕ
  pub gap : List ℕ
  pub behind : List ℕ
  pub before_blanks : AreBlanks before
  pub gap_blanks : IsGap gap
  pub behind_blanks : AreBlanks behind
  pub apart : (rest ≡ []) ⊎ (0 < length behind)
  pub name_word : is_word name ≡ true
  pub rest_begins : begins_without_blank rest ≡ true
  pub laid : text ≡ before ++ (word ++ (gap ++ (name ++ (behind ++ rest))))

-- the text without an end, or with a 0x0D, on a line that is not too long
pub record IsOnLine (text line : List ℕ) : Type 0 where
  pub ended : ((line ≡ text) × (ends_with nat_eq text (carriage_return ∷ []) ≡ false))
      ⊎ (line ≡ text ++ carriage_return ∷ [])
  pub short : length line ≤ line_limit

-- a line of a command: its word, the name, and what stands behind it
pub record IsLineOf (word name rest line : List ℕ) : Type 0 where
  pub text : List ℕ
  pub laid : IsLaid word name rest text
  pub on_line : IsOnLine text line
  pub utf8 : is_utf8 text ≡ true

-- before the rest stand the key, the value and a gap
pub record IsBehindValue (key value rest text : List ℕ) : Type 0 where
  pub gap : List ℕ
  pub gap_blanks : IsGap gap
  pub value_blanks : are_no_blanks value ≡ true
  pub rest_begins : begins_without_blank rest ≡ true
  pub laid : text ≡ key ++ (value ++ (gap ++ rest))

-- so it is, or there is no value, and the rest does not begin with the key
abbrev pub IsBehind : List ℕ → Option (List ℕ) → List ℕ → List ℕ → Type 0
IsBehind key None rest text = (text ≡ rest) × (has_option key rest ≡ false)
IsBehind key (Some value) rest text = IsBehindValue key value rest text

-- a hint, a target and a filter, the first two where they are given
pub record AreAskWords (hint target : Option (List ℕ)) (filter rest : List ℕ) : Type 0 where
  pub middle : List ℕ
  pub hint_behind : IsBehind (codes "index=") hint middle rest
  pub target_behind : IsBehind (codes "target=") target filter middle

-- besides, the line has its form: a name, and something behind it
pub record IsFormed (word name rest line : List ℕ) : Type 0 where
  pub of : IsLineOf word name rest line
  pub named : is_name name ≡ true
  pub some : is_nothing rest ≡ false

-- or it lacks one of them
pub record IsUnformed (word name rest line : List ℕ) : Type 0 where
  pub of : IsLineOf word name rest line
  pub lacks : (is_name name ≡ false) ⊎ (rest ≡ [])

-- the type with that name, and its number
pub record IsTypeNamed (types : List Specification) (name : List ℕ) (n : ℕ) (t : Specification)
    : Type 0 where
  pub named : number_of_name types name ≡ Some n
  pub there : slice_get types n ≡ Some t

-- the three questions, the word of each, and what is asked
pub data Question : Type 0 where
  for_features : Question
  for_their_number : Question
  for_ranges : Question

abbrev pub question_word : Question → List ℕ
question_word for_features = codes "query"
question_word for_their_number = codes "count"
question_word for_ranges = codes "explain"

abbrev pub question : Question → (Asked → Order)
question for_features = order.query
question for_their_number = order.count
question for_ranges = order.explain

-- a line of a question
pub record IsAskLine (q : Question) (name : List ℕ) (hint target : Option (List ℕ))
    (filter line : List ℕ) : Type 0 where
  pub rest : List ℕ
  pub of : IsLineOf (question_word q) name rest line
  pub words : AreAskWords hint target filter rest

-- besides, it has its form: a name, a target that is a number if there is one, and a filter
pub record IsFormedAsk (q : Question) (name : List ℕ) (hint digits : Option (List ℕ)) (target : ℕ)
    (filter line : List ℕ) : Type 0 where
  pub of : IsAskLine q name hint digits filter line
  pub named : is_name name ≡ true
  pub counted : target_of digits ≡ Some target
  pub some : is_nothing filter ≡ false

-- or it lacks one of them
pub record IsUnformedAsk (q : Question) (name : List ℕ) (hint digits : Option (List ℕ))
    (filter line : List ℕ) : Type 0 where
  pub of : IsAskLine q name hint digits filter line
  pub lacks : (is_name name ≡ false) ⊎ ((target_of digits ≡ None) ⊎ (filter ≡ []))

-- the words of commands
abbrev pub command_words : List (List ℕ)
command_words =
    codes "create" ∷ codes "put" ∷ codes "delete" ∷ codes "remove" ∷ codes "modify"
    ∷ codes "query" ∷ codes "count" ∷ codes "explain" ∷ codes "describe" ∷ []
