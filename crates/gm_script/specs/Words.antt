-- The words of a line: runs of bytes that are no blanks, with runs of blanks between them.
use Rattle.std.specs.Prelude.{◌≡◌, ℕ, Bool, true, false, not, ◌&&◌, List, [], ◌∷◌, take, drop}
use Rattle.std.specs.List.{list_all, prefix_len}
use Rattle.gm_base.specs.Ascii.{is_blank}

abbrev pub is_no_blank : ℕ → Bool
is_no_blank byte = not (is_blank byte)

-- the text past the blanks at its head
abbrev pub past_blanks : List ℕ → List ℕ
past_blanks text = drop (prefix_len is_blank text) text

-- the first word of a text, empty where there is none
abbrev pub word_of : List ℕ → List ℕ
word_of text = take (prefix_len is_no_blank (past_blanks text)) (past_blanks text)

-- what stands behind the first word, past the blanks before it
abbrev pub behind_word : List ℕ → List ℕ
behind_word text = past_blanks (drop (prefix_len is_no_blank (past_blanks text)) (past_blanks text))

-- blanks alone
abbrev pub AreBlanks : List ℕ → Type 0
AreBlanks text = list_all is_blank text ≡ true

abbrev pub are_no_blanks : List ℕ → Bool
are_no_blanks bytes = list_all is_no_blank bytes

-- a word: at least one byte, and none of them a blank
abbrev pub is_word : List ℕ → Bool
is_word [] = false
is_word (byte ∷ bytes) = is_no_blank byte && are_no_blanks bytes

-- a text that is empty, or whose first byte is no blank
abbrev pub begins_without_blank : List ℕ → Bool
begins_without_blank [] = true
begins_without_blank (byte ∷ bytes) = is_no_blank byte

abbrev pub is_nothing : List ℕ → Bool
is_nothing [] = true
is_nothing (byte ∷ bytes) = false
