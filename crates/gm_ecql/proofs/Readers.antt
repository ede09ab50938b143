-- What stands first where a reader of one token finds it, and that it is found.
use Rattle.std.proofs.Common.{◌≡◌, ℕ, ◌==◌, cond, eq-eqb, List, [], ◌∷◌}
use Rattle.std.proofs.Common.{Some, None, refl, ◌∙◌, ap, inl, inr}
use Rattle.std.specs.Prelude.{ℤ}
use Rattle.gm_base.proofs.Options.{same_some, no_some, same_pair}
use Rattle.gm_ecql.specs.declared.keyword.Keyword.{Keyword}
use Rattle.gm_ecql.specs.declared.token.Symbol.{Symbol}
use Rattle.gm_ecql.specs.Places.{keyword_place, symbol_place}
use Rattle.gm_ecql.specs.Reader.{after_keyword, after_symbol, name_at, text_at}
use Rattle.gm_ecql.specs.Reader.{number_at, instant_at}
use Rattle.gm_ecql.specs.Token.{Seen, a_keyword, a_name, a_text, an_instant, a_number, a_symbol}
use Rattle.gm_ecql.proofs.Places.{same_keyword, same_symbol}
use Rattle.gm_ecql.proofs.Sound.{chosen}

pub keyword_first : (k : Keyword) (ts rest : List Seen) → after_keyword k ts ≡ Some rest
    → ts ≡ a_keyword k ∷ rest
keyword_first k [] rest h = no_some rest h
keyword_first k (a_keyword j ∷ ts) rest h =
    elim (chosen (keyword_place j == keyword_place k) _ _ _ h) [
      | inl p ↦ ap (λ z. a_keyword z ∷ ts) (same_keyword j k p.0)
          ∙ ap (λ z. a_keyword k ∷ z) (same_some ts rest p.1)
      | inr p ↦ no_some rest p.1
    ]
keyword_first k (a_name bytes ∷ ts) rest h = no_some rest h
keyword_first k (a_text bytes ∷ ts) rest h = no_some rest h
keyword_first k (an_instant at ∷ ts) rest h = no_some rest h
keyword_first k (a_number bytes ∷ ts) rest h = no_some rest h
keyword_first k (a_symbol s ∷ ts) rest h = no_some rest h

pub keyword_found : (k : Keyword) (rest : List Seen)
    → after_keyword k (a_keyword k ∷ rest) ≡ Some rest
keyword_found k rest =
    ap (λ t. cond t (Some rest) None) (eq-eqb (keyword_place k) (keyword_place k) refl)

pub symbol_first : (s : Symbol) (ts rest : List Seen) → after_symbol s ts ≡ Some rest
    → ts ≡ a_symbol s ∷ rest
symbol_first s [] rest h = no_some rest h
symbol_first s (a_keyword j ∷ ts) rest h = no_some rest h
symbol_first s (a_name bytes ∷ ts) rest h = no_some rest h
symbol_first s (a_text bytes ∷ ts) rest h = no_some rest h
symbol_first s (an_instant at ∷ ts) rest h = no_some rest h
symbol_first s (a_number bytes ∷ ts) rest h = no_some rest h
symbol_first s (a_symbol r ∷ ts) rest h = elim (chosen (symbol_place r == symbol_place s) _ _ _ h) [
  | inl p ↦ ap (λ z. a_symbol z ∷ ts) (same_symbol r s p.0)
      ∙ ap (λ z. a_symbol s ∷ z) (same_some ts rest p.1)
  | inr p ↦ no_some rest p.1
]

pub name_first : (ts rest : List Seen) (name : List ℕ) → name_at ts ≡ Some (name, rest)
    → ts ≡ a_name name ∷ rest
name_first [] rest name h = no_some (name, rest) h
name_first (a_keyword j ∷ ts) rest name h = no_some (name, rest) h
name_first (a_name bytes ∷ ts) rest name h =
    let p = same_pair bytes name ts rest h in
    ap (λ z. a_name z ∷ ts) p.0 ∙ ap (λ z. a_name name ∷ z) p.1
name_first (a_text bytes ∷ ts) rest name h = no_some (name, rest) h
name_first (an_instant at ∷ ts) rest name h = no_some (name, rest) h
name_first (a_number bytes ∷ ts) rest name h = no_some (name, rest) h
name_first (a_symbol s ∷ ts) rest name h = no_some (name, rest) h

pub text_first : (ts rest : List Seen) (text : List ℕ) → text_at ts ≡ Some (text, rest)
    → ts ≡ a_text text ∷ rest
text_first [] rest text h = no_some (text, rest) h
text_first (a_keyword j ∷ ts) rest text h = no_some (text, rest) h
text_first (a_name bytes ∷ ts) rest text h = no_some (text, rest) h
text_first (a_text bytes ∷ ts) rest text h =
    let p = same_pair bytes text ts rest h in
    ap (λ z. a_text z ∷ ts) p.0 ∙ ap (λ z. a_text text ∷ z) p.1
text_first (an_instant at ∷ ts) rest text h = no_some (text, rest) h
text_first (a_number bytes ∷ ts) rest text h = no_some (text, rest) h
text_first (a_symbol s ∷ ts) rest text h = no_some (text, rest) h

pub number_first : (ts rest : List Seen) (number : List ℕ) → number_at ts ≡ Some (number, rest)
    → ts ≡ a_number number ∷ rest
number_first [] rest number h = no_some (number, rest) h
number_first (a_keyword j ∷ ts) rest number h = no_some (number, rest) h
number_first (a_name bytes ∷ ts) rest number h = no_some (number, rest) h
number_first (a_text bytes ∷ ts) rest number h = no_some (number, rest) h
number_first (an_instant at ∷ ts) rest number h = no_some (number, rest) h
number_first (a_number bytes ∷ ts) rest number h =
    let p = same_pair bytes number ts rest h in
    ap (λ z. a_number z ∷ ts) p.0 ∙ ap (λ z. a_number number ∷ z) p.1
number_first (a_symbol s ∷ ts) rest number h = no_some (number, rest) h

pub instant_first : (ts rest : List Seen) (ms : ℤ) → instant_at ts ≡ Some (ms, rest)
    → ts ≡ an_instant ms ∷ rest
instant_first [] rest ms h = no_some (ms, rest) h
instant_first (a_keyword j ∷ ts) rest ms h = no_some (ms, rest) h
instant_first (a_name bytes ∷ ts) rest ms h = no_some (ms, rest) h
instant_first (a_text bytes ∷ ts) rest ms h = no_some (ms, rest) h
instant_first (an_instant at ∷ ts) rest ms h =
    let p = same_pair at ms ts rest h in
    ap (λ z. an_instant z ∷ ts) p.0 ∙ ap (λ z. an_instant ms ∷ z) p.1
instant_first (a_number bytes ∷ ts) rest ms h = no_some (ms, rest) h
instant_first (a_symbol s ∷ ts) rest ms h = no_some (ms, rest) h
