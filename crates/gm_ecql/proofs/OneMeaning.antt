-- A text spells at most one filter, and one change.
use Rattle.std.proofs.Common.{◌≡◌, ℕ, List, sym, ◌∙◌, ap, subst}
use Rattle.gm_base.proofs.Options.{same_some}
use Rattle.gm_types.specs.Specification.{Specification}
use Rattle.gm_feature.specs.declared.value.Value.{Value}
use Rattle.gm_filter.specs.Suitability.{Suits}
use Rattle.gm_filter.specs.Tree.{Tree}
use Rattle.gm_ecql.specs.Change.{change_document}
use Rattle.gm_ecql.specs.Fault.{SpellsFilter, SpellsChange}
use Rattle.gm_ecql.specs.Parser.{document}
use Rattle.gm_ecql.specs.Token.{unspaced}
use Rattle.gm_ecql.proofs.ChangesRead.{change_complete}
use Rattle.gm_ecql.proofs.Documents.{document_suits, spelled_utf8}
use Rattle.gm_ecql.proofs.GrammarFound.{document_complete}
use Rattle.gm_ecql.proofs.Lists.{one_list}

pub one_tree : (s : Specification) (text : List ℕ) (t u : Tree) → SpellsFilter s text t
    → SpellsFilter s text u → t ≡ u
one_tree s text t u a b =
    let e : a.tokens ≡ b.tokens = one_list text a.tokens b.tokens a.lexed.spelled b.lexed.spelled in
    let d = document_complete s (unspaced a.tokens) a.judged a.parsed.spelled in
    let f = document_complete s (unspaced b.tokens) b.judged b.parsed.spelled in
    let same : a.judged ≡ b.judged =
    same_some a.judged b.judged (sym d ∙ ap (λ z. document s (unspaced z)) e ∙ f) in
    a.means ∙ ap (λ j. j.meaning) same ∙ sym b.means

pub spelled_tree_suits : (s : Specification) (text : List ℕ) (t : Tree)
    → SpellsFilter s text t → Suits s t
spelled_tree_suits s text t a =
    subst (λ z. Suits s z) (sym a.means)
    (document_suits s (unspaced a.tokens) a.judged (spelled_utf8 text a.tokens a.lexed)
    (document_complete s (unspaced a.tokens) a.judged a.parsed.spelled) a.sound)

pub one_change : (s : Specification) (text : List ℕ) (a b : ℕ) (v w : Value) (t u : Tree)
    → (x : SpellsChange s text a v t) → (y : SpellsChange s text b w u) → x.judged ≡ y.judged
one_change s text a b v w t u x y =
    let e : x.tokens ≡ y.tokens = one_list text x.tokens y.tokens x.lexed.spelled y.lexed.spelled in
    let d = change_complete s (unspaced x.tokens) x.judged x.parsed.spelled in
    let f = change_complete s (unspaced y.tokens) y.judged y.parsed.spelled in
    same_some x.judged y.judged (sym d ∙ ap (λ z. change_document s (unspaced z)) e ∙ f)
