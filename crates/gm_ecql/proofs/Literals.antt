-- One more literal of a list.
use Rattle.std.proofs.Common.{◌≡◌, ℕ, ◌+◌, ◌<◌, Bool, List, [], ◌∷◌, ◌++◌, length, map, drop}
use Rattle.std.proofs.Common.{get_or, Option, Some, None, option_map, refl, sym, ◌∙◌, ap}
use Rattle.std.proofs.Common.{append_assoc}
use Rattle.std.proofs.lemmas.List.{drop_more}
use Rattle.gm_filter.specs.declared.filter.Literal.{Literal}
use Rattle.gm_ecql.specs.declared.test.Constant.{Constant}
use Rattle.gm_ecql.specs.Judging.{add_first, literal_of, literals_of}
use Rattle.gm_ecql.specs.Test.{constant_seen}

joined : (front : List Literal) (l : Literal) (o : Option (List Literal))
    → option_map (λ ls. (front ++ l ∷ []) ++ ls) o
    ≡ option_map (λ ls. front ++ ls) (add_first (Some l) o)
joined front l None = refl
joined front l (Some ls) = ap (λ z. Some z) (append_assoc front (l ∷ []) ls)

pub literals_more : (date : Bool) (cs : List Constant) (i : ℕ) (x : Constant)
    (front now : List Literal) (l : Literal) (whole : Option (List Literal))
    → i < length cs → get_or cs i x ≡ x → Some l ≡ literal_of date (constant_seen x)
    → now ≡ front ++ l ∷ []
    → option_map (λ ls. front ++ ls) (literals_of date (map constant_seen (drop i cs))) ≡ whole
    → option_map (λ ls. now ++ ls) (literals_of date (map constant_seen (drop (i + 1) cs))) ≡ whole
literals_more date cs i x front now l whole short is h pushed same =
    let rest = literals_of date (map constant_seen (drop (i + 1) cs)) in
    let cut : drop i cs ≡ x ∷ drop (i + 1) cs =
    drop_more cs i x short ∙ ap (λ z. z ∷ drop (i + 1) cs) is in
    ap (λ z. option_map (λ ls. z ++ ls) rest) pushed ∙ joined front l rest
    ∙ ap (λ o. option_map (λ ls. front ++ ls) (add_first o rest)) h
    ∙ ap (λ z. option_map (λ ls. front ++ ls) (literals_of date (map constant_seen z))) (sym cut)
    ∙ same
