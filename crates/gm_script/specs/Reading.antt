-- Which order a line is, for the types that there are, or why it is refused.
use Rattle.std.specs.Prelude.{◌≡◌, ℕ, ◌+◌, ◌||◌, ◌&&◌, nat_lt, not, if◌then◌else◌, List, length}
use Rattle.std.specs.Prelude.{codes, slice_get, Option, Some, None, is_some}
use Rattle.std.specs.Prelude.{option_map, option_and_then}
use Rattle.std.specs.Prelude.{Result, Ok, Err}
use Rattle.std.specs.Str.{is_utf8}
use Rattle.gm_script.specs.Suits.{most_types}
use Rattle.gm_script.specs.Line.{line_limit}
use Rattle.gm_base.specs.declared.code.Code.{Code}
use Rattle.gm_base.specs.declared.code.Code.TheVariants.{E01, E02, E03, E04, E05, E06, E07, E11}
use Rattle.gm_base.specs.declared.code.Code.TheVariants.{E12, E17, E19}
use Rattle.gm_base.specs.Identifier.{is_identifier}
use Rattle.gm_types.specs.declared.index.IndexKind.{IndexKind}
use Rattle.gm_types.specs.Reader.{specification_of}
use Rattle.gm_types.specs.Specification.{Specification, most_attributes}
use Rattle.gm_types.specs.TypeList.{number_of_name}
use Rattle.gm_types.specs.Words.{same_text, is_name}
use Rattle.gm_feature.specs.declared.feature.Feature.{Feature}
use Rattle.gm_filter.specs.Tree.{Tree}
use Rattle.gm_rows.specs.declared.fault.RowFault.{RowFault}
use Rattle.gm_rows.specs.Reader.{row_of}
use Rattle.gm_ecql.specs.declared.fault.FilterFault.{FilterFault}
use Rattle.gm_ecql.specs.Outcome.{Meant, filter_outcome, change_outcome}
use Rattle.gm_script.specs.declared.command.Ask.{Ask}
use Rattle.gm_script.specs.declared.command.Command.{Command}
use Rattle.gm_script.specs.declared.fault.LineFault.{LineFault}
use Rattle.gm_script.specs.declared.fault.LineFault.TheVariants as fault
use Rattle.gm_script.specs.Ask.{hint_in, target_in, past_words, target_of, hinted}
use Rattle.gm_script.specs.Bins.{keeps_bins}
use Rattle.gm_script.specs.Fault.{row_fault, filter_fault}
use Rattle.gm_script.specs.Line.{without_return, says_nothing}
use Rattle.gm_script.specs.Order.{Asked, Order, asked, asked_by, order_of}
use Rattle.gm_script.specs.Order as order
use Rattle.gm_script.specs.Words.{past_blanks, word_of, behind_word, is_nothing}

-- what a line gives: an order, or why it is refused
abbrev pub Given : Type 0
Given = Result Order LineFault

-- a line that is refused with this code, and takes no further line
abbrev pub refused : {A : Type 0} → Code → Result A LineFault
refused code = Err (fault.Refused code 0)

-- ---- a command on a type
-- the type with that name, and its number
abbrev pub type_named : List Specification → List ℕ → Option (ℕ × Specification)
type_named types name =
    option_and_then (λ n. option_map (λ t. (n, t)) (slice_get types n)) (number_of_name types name)

abbrev pub on_type : {A : Type 0} → (ℕ → Specification → Result A LineFault)
    → Option (ℕ × Specification) → Result A LineFault
on_type on None = refused E06
on_type on (Some found) = on found.0 found.1

-- `.. NAME` and something behind it, on the type with that name
abbrev pub with_rest : {A : Type 0} → List Specification → List ℕ → List ℕ
    → (ℕ → Specification → Result A LineFault) → Result A LineFault
with_rest types name rest on =
    if not (is_name name) || is_nothing rest then refused E04
    else on_type on (type_named types name)

-- the type itself, and its number
abbrev pub type_for : List Specification → List ℕ → List ℕ
    → Result (ℕ × Specification) LineFault
type_for types name rest = with_rest types name rest (λ n t. Ok (n, t))

-- ---- create
-- so many attributes are more than a type may have
abbrev pub attributes_too_many : ℕ
attributes_too_many = most_attributes + 1

-- a further type, where there is room for one among 100
abbrev pub create_type : List Specification → Specification → Given
create_type types t =
    if nat_lt (length types) most_types && nat_lt (length t.attributes) attributes_too_many
    then Ok (order.create t)
    else refused E19

abbrev pub create_from : List Specification → Option Specification → Given
create_from types None = refused E07
create_from types (Some t) = create_type types t

-- `create NAME SPEC`
unfoldable pub create_of : List Specification → List ℕ → List ℕ → Given
create_of types name spec =
    if not (is_name name) || is_nothing spec then refused E04
    else if is_some (number_of_name types name) then refused E05
    else create_from types (specification_of name (length types) spec)

-- ---- put
abbrev pub put_read : ℕ → Result Feature RowFault → Given
put_read n (Ok feature) = Ok (order.put n feature)
put_read n (Err why) = Err (row_fault why)

-- `put NAME ROW`
unfoldable pub put_of : List Specification → List ℕ → List ℕ → Given
put_of types name text = with_rest types name text (λ n t. put_read n (row_of t text))

-- ---- delete
abbrev pub delete_at : ℕ → List ℕ → Given
delete_at n id = if is_identifier id then Ok (order.delete n id) else refused E12

-- `delete NAME ID`
unfoldable pub delete_of : List Specification → List ℕ → List ℕ → Given
delete_of types name id = with_rest types name id (λ n t. delete_at n id)

-- ---- remove and modify
abbrev pub remove_read : ℕ → Result Tree FilterFault → Given
remove_read n (Ok wanted) = Ok (order.remove n wanted)
remove_read n (Err why) = Err (filter_fault why)

-- `remove NAME FILTER`
unfoldable pub remove_of : List Specification → List ℕ → List ℕ → Given
remove_of types name text = with_rest types name text (λ n t. remove_read n (filter_outcome t text))

-- a value that an attribute may not take where an index over time is enabled
abbrev pub modify_with : Specification → ℕ → Meant → Given
modify_with t n c =
    if keeps_bins t c.place c.holds
    then Ok (order.modify n c.place c.holds c.wanted)
    else refused E11

abbrev pub modify_read : Specification → ℕ → Result Meant FilterFault → Given
modify_read t n (Ok c) = modify_with t n c
modify_read t n (Err why) = Err (filter_fault why)

-- `modify NAME ATTR LITERAL WHERE FILTER`
unfoldable pub modify_of : List Specification → List ℕ → List ℕ → Given
modify_of types name text =
    with_rest types name text (λ n t. modify_read t n (change_outcome t text))

-- ---- query, count and explain
abbrev pub ask_with : ℕ → ℕ → Tree → Option (Option IndexKind) → Result Asked LineFault
ask_with n target wanted None = refused E17
ask_with n target wanted (Some hint) = Ok (asked n hint target wanted)

-- the filter comes before the hint
abbrev pub ask_read : ℕ → ℕ → Option (Option IndexKind) → Result Tree FilterFault
    → Result Asked LineFault
ask_read n target hint (Ok wanted) = ask_with n target wanted hint
ask_read n target hint (Err why) = Err (filter_fault why)

abbrev pub ask_named : List Specification → List ℕ → Option (List ℕ) → ℕ → List ℕ
    → Result Asked LineFault
ask_named types name hint target text =
    with_rest types name text (λ n t. ask_read n target (hinted t hint) (filter_outcome t text))

abbrev pub ask_from : List Specification → List ℕ → Option (List ℕ) → Option ℕ → List ℕ
    → Result Asked LineFault
ask_from types name hint None text = refused E04
ask_from types name hint (Some target) text = ask_named types name hint target text

-- `.. NAME [index=I] [target=T] FILTER`
unfoldable pub ask_of : List Specification → List ℕ → List ℕ → Result Asked LineFault
ask_of types name rest =
    ask_from types name (hint_in rest) (target_of (target_in rest)) (past_words rest)

abbrev pub asks : (Asked → Order) → Result Asked LineFault → Given
asks make (Ok a) = Ok (make a)
asks make (Err why) = Err why

-- ---- describe
-- `describe NAME`
unfoldable pub describe_of : List Specification → List ℕ → List ℕ → Given
describe_of types name more =
    if not (is_name name) || not (is_nothing more) then refused E04
    else on_type (λ n t. Ok (order.describe n)) (type_named types name)

-- ---- a line
-- questions, and else no command
abbrev pub question_of : List Specification → List ℕ → List ℕ → List ℕ → Given
question_of types verb name rest =
    if same_text verb (codes "query") then asks order.query (ask_of types name rest)
    else if same_text verb (codes "count") then asks order.count (ask_of types name rest)
    else if same_text verb (codes "explain") then asks order.explain (ask_of types name rest)
    else refused E03

-- by its first word, the word behind it, and what stands behind both
abbrev pub command_of : List Specification → List ℕ → List ℕ → List ℕ → Given
command_of types verb name rest =
    if same_text verb (codes "create") then create_of types name rest
    else if same_text verb (codes "put") then put_of types name rest
    else if same_text verb (codes "delete") then delete_of types name rest
    else if same_text verb (codes "remove") then remove_of types name rest
    else if same_text verb (codes "modify") then modify_of types name rest
    else if same_text verb (codes "describe") then describe_of types name rest
    else question_of types verb name rest

abbrev pub command_in : List Specification → List ℕ → Given
command_in types text =
    command_of types (word_of text) (word_of (behind_word text)) (behind_word (behind_word text))

abbrev pub reading_of : List Specification → List ℕ → Given
reading_of types text =
    if says_nothing (past_blanks text) then Ok order.nothing
    else if is_utf8 text then command_in types text
    else refused E02

-- a line without its 0x0A: over 1,048,576 bytes are too long, and one 0x0D at its end is dropped
unfoldable pub reading : List Specification → List ℕ → Given
reading types line =
    if nat_lt line_limit (length line) then refused E01 else reading_of types (without_return line)

-- a reader's answer; want of memory is free
abbrev pub Reads : Given → Result Command LineFault → Type 0
Reads said (Ok c) = said ≡ Ok (order_of c)
Reads said (Err (fault.Refused code lines)) = said ≡ Err (fault.Refused code lines)
Reads said (Err fault.NoMemory) = Unit {0}

abbrev pub ReadsAsk : Result Asked LineFault → Result Ask LineFault → Type 0
ReadsAsk said (Ok a) = said ≡ Ok (asked_by a)
ReadsAsk said (Err (fault.Refused code lines)) = said ≡ Err (fault.Refused code lines)
ReadsAsk said (Err fault.NoMemory) = Unit {0}
