-- The bytes of a reply.
use Rattle.std.specs.Prelude.{ℕ, Bool, true, false, List, [], ◌∷◌, ◌++◌, length, Option, Some, None}
use Rattle.std.specs.Prelude.{codes}
use Rattle.std.specs.Fmt.{decimal}
use Rattle.std.specs.List.{flat_map}
use Rattle.gm_base.specs.Ascii.{line_feed, space}
use Rattle.gm_base.specs.declared.code.Code.{Code}
use Rattle.gm_base.specs.Code.{code_name, code_phrase}
use Rattle.gm_feature.specs.declared.feature.Feature.{Feature}
use Rattle.gm_rows.specs.Printer.{row_text}
use Rattle.gm_script.specs.declared.reply.Reply.{Reply}
use Rattle.gm_script.specs.declared.reply.Reply.TheVariants.{Created, Stored, Deleted, Removed}
use Rattle.gm_script.specs.declared.reply.Reply.TheVariants.{Modified, Found, Counted, Explained}
use Rattle.gm_script.specs.declared.reply.Reply.TheVariants.{Described, Refusal}

-- a line of its own
abbrev pub line_of : List ℕ → List ℕ
line_of text = text ++ line_feed ∷ []

abbrev pub stored_word : Bool → List ℕ
stored_word true = codes " replaced"
stored_word false = codes " new"

-- a number behind a word
abbrev pub counted_bytes : List ℕ → ℕ → List ℕ
counted_bytes word count = line_of (word ++ decimal count)

-- how many features, of how many rows that were examined
abbrev pub matched_bytes : List ℕ → ℕ → ℕ → List ℕ
matched_bytes word matched examined =
    line_of (word ++ (decimal matched ++ (codes " of " ++ decimal examined)))

-- so many lines, and these
abbrev pub listed_bytes : List ℕ → List (List ℕ) → List ℕ
listed_bytes word lines = counted_bytes word (length lines) ++ flat_map line_of lines

-- the row of a feature, as a line
abbrev pub row_line : Feature → List ℕ
row_line feature = line_of (row_text feature)

-- so many features, and the lines of their rows
abbrev pub found_bytes : List ℕ → ℕ → ℕ → List ℕ
found_bytes rows matched examined = matched_bytes (codes "ok query ") matched examined ++ rows

-- where a row was at fault, its number
abbrev pub row_number : Option ℕ → List ℕ
row_number None = []
row_number (Some row) = codes " row " ++ decimal row

abbrev pub refusal_bytes : Code → Option ℕ → List ℕ
refusal_bytes code row =
    line_of (codes "error "
    ++ (code_name code ++ (space ∷ (code_phrase code ++ row_number row))))

unfoldable pub reply_bytes : Reply → List ℕ
reply_bytes (Created name) = line_of (codes "ok create " ++ name)
reply_bytes (Stored id replaced) = line_of (codes "ok put " ++ (id ++ stored_word replaced))
reply_bytes (Deleted id) = line_of (codes "ok delete " ++ id)
reply_bytes (Removed count) = counted_bytes (codes "ok remove ") count
reply_bytes (Modified count) = counted_bytes (codes "ok modify ") count
reply_bytes (Found rows matched examined) = found_bytes rows matched examined
reply_bytes (Counted matched examined) = matched_bytes (codes "ok count ") matched examined
reply_bytes (Explained lines) = listed_bytes (codes "ok explain ") lines
reply_bytes (Described lines) = listed_bytes (codes "ok describe ") lines
reply_bytes (Refusal code row) = refusal_bytes code row
